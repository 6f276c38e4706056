use Rattle.std.proofs.Common.{◌*◌, ℕ, Some, length, slice_index, List, subst, sym, arith}
use Rattle.std.proofs.lemmas.Grind.{common_steps}
use Rattle.heap_model.specs.Header.{IsWellFormed, HasGoodHeader, HasKindsBelow}
use Rattle.region_header.proofs.MigrationLemmas.{current_formed, current_below}
use Rattle.par_recover.proofs.recovery.recover_par.Goals as goal

pub recover_current_par-requires-clause-formed : goal.recover_current_par-requires-clause-formed
recover_current_par-requires-clause-formed g c κs within = subst (λ (l : List ℕ). IsWellFormed (8 * length l) (slice_index l))
    (sym c.in_ok-current.ensures.ok)
    (current_formed (Some g.F.Filter.KINDS) c.args.words.now c.args.kinds.now c.requires.roots
    (subst (λ k. HasGoodHeader (Some k) (8 * length c.args.words.now) (slice_index c.args.words.now)) c.KINDS.ensures c.in_ok-header.ensures.good))

pub recover_current_par-requires-clause-below : goal.recover_current_par-requires-clause-below
recover_current_par-requires-clause-below g c κs within = subst (λ (l : List ℕ). HasKindsBelow (Some g.F.Filter.KINDS) (slice_index l))
    (sym c.in_ok-current.ensures.ok)
    (current_below (Some g.F.Filter.KINDS) c.args.words.now c.args.kinds.now c.requires.roots
    (subst (λ k. HasGoodHeader (Some k) (8 * length c.args.words.now) (slice_index c.args.words.now))
    c.KINDS.ensures c.in_ok-header.ensures.good) c.requires.kinds)

pub returns-clause-formed : goal.returns-clause-formed
returns-clause-formed g c =
    let formed = current_formed (Some g.F.Filter.KINDS) c.args.words.now c.args.kinds.now c.requires.roots
    (subst (λ k. HasGoodHeader (Some k) (8 * length c.args.words.now) (slice_index c.args.words.now)) c.KINDS.ensures c.in_ok-header.ensures.good) in
    grind (arith, common_steps, formed)
