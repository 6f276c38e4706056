use Rattle.std.proofs.Common.{slice_index, ap, ◌*◌, ◌∙◌}
use Rattle.std.proofs.lemmas.Result.{on_ok_weaker}
use Rattle.heap_model.specs.Reach.{words_in}
use Rattle.root_reach.proofs.ReachStepLemmas.{all_still}
use Rattle.root_reach.proofs.TraceLemmas.{roots_kept}
use Rattle.root_reach.proofs.worklist.ByOriginsWalk.follow.Goals as goal

pub follow_links-requires-clause-tells : goal.follow_links-requires-clause-tells
follow_links-requires-clause-tells g c = (c.requires.sound.findings.so_far.sound c.args.entry c.requires.here).1

pub returns-clause-most : goal.returns-clause-most
returns-clause-most g c = on_ok_weaker c.follow_links.result (λ follows. ap (λ n. 2 * n) follows.grown.long) c.follow_links.ensures.ok

pub returns-clause-sound : goal.returns-clause-sound
returns-clause-sound g c =
    let links = g.F.Filter.links_of c.args.self.now.filter.now in
    let words = c.args.self.now.scan.now.words.now in
    let old = c.args.found.now in
    let new = c.follow_links.new.found in
    let entry = c.args.entry in
    on_ok_weaker c.follow_links.result (λ follows. record {
      formed = c.requires.sound.formed;
      described = c.requires.sound.described;
      same = c.follow_links.ensures.kinds ∙ c.requires.sound.same;
      findings = roots_kept (slice_index words) (slice_index c.args.self.now.kinds.now) links g.F.Filter.KINDS entry.block entry.origin
          (links entry.kind (words_in (slice_index words) entry.block)) old.list.items new.list.items
          old.origins.labels.items new.origins.labels.items c.requires.sound.findings follows;
    }) c.follow_links.ensures.ok

pub returns-clause-grown : goal.returns-clause-grown
returns-clause-grown g c = on_ok_weaker c.follow_links.result (λ follows. follows.grown.more) c.follow_links.ensures.ok

pub returns-clause-still : goal.returns-clause-still
returns-clause-still g c =
    let links = g.F.Filter.links_of c.args.self.now.filter.now in
    let words = c.args.self.now.scan.now.words.now in
    let old = c.args.found.now in
    let new = c.follow_links.new.found in
    on_ok_weaker c.follow_links.result (λ follows other. all_still (slice_index words) (slice_index c.args.self.now.kinds.now) links g.F.Filter.KINDS
    old.list.items new.list.items old.origins.labels.items new.origins.labels.items other.block other.origin
    (links other.kind (words_in (slice_index words) other.block)) follows.grown) c.follow_links.ensures.ok

pub returns-clause-followed : goal.returns-clause-followed
returns-clause-followed g c = on_ok_weaker c.follow_links.result (λ follows. follows.followed) c.follow_links.ensures.ok
