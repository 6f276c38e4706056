use Rattle.std.proofs.Common.{slice_index, subst, List, ℕ}
use Rattle.mixed_trace.specs.Reach.{modes_of}
use Rattle.mixed_trace.specs.Codes.{AreReachedMixed}
use Rattle.mixed_trace.proofs.RecoveryLemmas.{mixed_blocks, made_of_mixed}
use Rattle.mixed_trace.proofs.recovery.recover_current.Goals as goal

pub keep_marked-requires-clause-keeps : goal.keep_marked-requires-clause-keeps
keep_marked-requires-clause-keeps g c =
    mixed_blocks (slice_index c.args.words.items) (modes_of c.args.modes.now)
    (g.F.Filter.links_of c.args.filter.now) g.F.Filter.KINDS c.in_ok-marks.marks.marks.pairs
    (subst (λ (l : List ℕ). AreReachedMixed (slice_index l) (modes_of c.args.modes.now)
    (g.F.Filter.links_of c.args.filter.now) g.F.Filter.KINDS c.in_ok-marks.marks.marks.pairs)
    c.deref.ensures.value c.in_ok-marks.ensures.ok)

pub returns-clause-ok : goal.returns-clause-ok
returns-clause-ok g c =
    made_of_mixed c.args.words.items (modes_of c.args.modes.now) (g.F.Filter.links_of c.args.filter.now)
    g.F.Filter.KINDS c.in_ok-marks.marks.marks.pairs c.in_ok-recovered.recovered
    (subst (λ (l : List ℕ). AreReachedMixed (slice_index l) (modes_of c.args.modes.now)
    (g.F.Filter.links_of c.args.filter.now) g.F.Filter.KINDS c.in_ok-marks.marks.marks.pairs)
    c.deref.ensures.value c.in_ok-marks.ensures.ok)
    c.in_ok-recovered.ensures.ok
