use Rattle.std.proofs.Common.{slice_index, ◌∙◌}
use Rattle.std.proofs.lemmas.Result.{on_ok_weaker}
use Rattle.heap_model.specs.Reach.{words_in}
use Rattle.filter_trace.proofs.TraceLemmas.{roots_kept, block_kept}
use Rattle.filter_trace.proofs.worklist.ByLinksWalk.follow.Goals as goal

pub follow_links-requires-clause-reached : goal.follow_links-requires-clause-reached
follow_links-requires-clause-reached g c = c.requires.sound.pairs.found.reached.each c.args.entry.0 c.args.entry.1 c.requires.here

pub returns-clause-most : goal.returns-clause-most
returns-clause-most g c = on_ok_weaker c.follow_links.result (λ follows. follows.long) c.follow_links.ensures.ok

pub returns-clause-sound : goal.returns-clause-sound
returns-clause-sound g c =
    let links = g.F.Filter.links_of c.args.self.now.filter.now in
    let words = c.args.self.now.scan.words.now in
    let old = c.args.found.now in
    let new = c.follow_links.new.found in
    on_ok_weaker c.follow_links.result (λ follows. record {
      formed = c.requires.sound.formed;
      described = c.requires.sound.described;
      same = c.follow_links.ensures.kinds ∙ c.requires.sound.same;
      pairs = roots_kept (slice_index words) (slice_index c.args.self.now.kinds.now) links g.F.Filter.KINDS c.args.entry.0
          (links c.args.entry.1 (words_in (slice_index words) c.args.entry.0)) old.pairs.items new.pairs.items old.marks new.marks
          c.requires.sound.pairs follows;
    }) c.follow_links.ensures.ok

pub returns-clause-grown : goal.returns-clause-grown
returns-clause-grown g c = on_ok_weaker c.follow_links.result (λ follows. follows.grown) c.follow_links.ensures.ok

pub returns-clause-still : goal.returns-clause-still
returns-clause-still g c =
    on_ok_weaker c.follow_links.result (λ follows pair. block_kept (slice_index c.args.self.now.scan.words.now)
    (g.F.Filter.links_of c.args.self.now.filter.now) c.args.found.now.pairs.items c.follow_links.new.found.pairs.items pair.0 pair.1 follows.grown)
    c.follow_links.ensures.ok

pub returns-clause-followed : goal.returns-clause-followed
returns-clause-followed g c = on_ok_weaker c.follow_links.result (λ follows. record { each = follows.followed }) c.follow_links.ensures.ok
