use Rattle.std.proofs.Common.{◌≡◌, slice_index, subst, ◌∙◌}
use Rattle.std.proofs.lemmas.Result.{on_ok_weaker}
use Rattle.mixed_trace.specs.declared.mode.Mode.{Mode}
use Rattle.mixed_trace.specs.Reach.{modes_of, FitsBelow}
use Rattle.mixed_trace.specs.Codes.{code}
use Rattle.mixed_trace.specs.Steps.{IsCounted}
use Rattle.mixed_trace.proofs.WorkLemmas.{mode_found, pair_kept, pair_followed, roots_kept}
use Rattle.mixed_trace.proofs.worklist.ByModesWalk.follow.Goals as goal

pub follow_block-requires-clause-reached : goal.follow_block-requires-clause-reached
follow_block-requires-clause-reached g c =
    let set = c.args.found.now in
    (mode_found (slice_index c.args.self.now.scan.words.now) (modes_of c.args.self.now.modes.now)
    (g.F.Filter.links_of c.args.self.now.filter.now) g.F.Filter.KINDS c.args.entry.0 c.args.entry.1
    c.from_code-mode.result set.pairs.items set.marks c.requires.sound.pairs.found c.requires.here
    (subst (λ n. (m : Mode) → FitsBelow n m → c.args.entry.1 ≡ code n m
    → c.from_code-mode.result ≡ m) c.KINDS.ensures c.from_code-mode.ensures)).2

pub returns-clause-most : goal.returns-clause-most
returns-clause-most g c = on_ok_weaker c.follow_block.result (λ follows. follows.long) c.follow_block.ensures.ok

pub returns-clause-sound : goal.returns-clause-sound
returns-clause-sound g c =
    let links = g.F.Filter.links_of c.args.self.now.filter.now in
    let words = c.args.self.now.scan.words.now in
    let old = c.args.found.now in
    let new = c.follow_block.new.found in
    on_ok_weaker c.follow_block.result (λ follows. record {
      formed = c.requires.sound.formed;
      described = c.requires.sound.described;
      same = c.follow_block.ensures.kinds ∙ c.requires.sound.same;
      pairs = roots_kept (slice_index words) (modes_of c.args.self.now.modes.now) links g.F.Filter.KINDS
          (IsCounted (slice_index words) links c.args.entry.0 c.from_code-mode.result)
          old.pairs.items new.pairs.items old.marks new.marks c.requires.sound.pairs follows;
    }) c.follow_block.ensures.ok

pub returns-clause-grown : goal.returns-clause-grown
returns-clause-grown g c = on_ok_weaker c.follow_block.result (λ follows. follows.grown) c.follow_block.ensures.ok

pub returns-clause-still : goal.returns-clause-still
returns-clause-still g c =
    on_ok_weaker c.follow_block.result (λ follows pair. pair_kept (slice_index c.args.self.now.scan.words.now)
    (modes_of c.args.self.now.modes.now) (g.F.Filter.links_of c.args.self.now.filter.now) g.F.Filter.KINDS
    c.args.found.now.pairs.items c.follow_block.new.found.pairs.items pair.0 pair.1 follows.grown)
    c.follow_block.ensures.ok

pub returns-clause-followed : goal.returns-clause-followed
returns-clause-followed g c =
    let links = g.F.Filter.links_of c.args.self.now.filter.now in
    let words = c.args.self.now.scan.words.now in
    let old = c.args.found.now in
    let new = c.follow_block.new.found in
    let found = mode_found (slice_index words) (modes_of c.args.self.now.modes.now)
    links g.F.Filter.KINDS c.args.entry.0 c.args.entry.1
    c.from_code-mode.result old.pairs.items old.marks c.requires.sound.pairs.found c.requires.here
    (subst (λ n. (m : Mode) → FitsBelow n m → c.args.entry.1 ≡ code n m
    → c.from_code-mode.result ≡ m) c.KINDS.ensures c.from_code-mode.ensures) in
    on_ok_weaker c.follow_block.result (λ follows. pair_followed (slice_index words) (modes_of c.args.self.now.modes.now)
    links g.F.Filter.KINDS c.args.entry.0 c.args.entry.1 c.from_code-mode.result old.pairs.items new.pairs.items old.marks new.marks
    found.0 found.1 follows) c.follow_block.ensures.ok
