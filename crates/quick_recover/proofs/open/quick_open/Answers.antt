use Rattle.std.proofs.Common.{◌*◌, ℕ, ap, ◌∙◌, Some, length, slice_index, List, subst, sym, arith}
use Rattle.std.proofs.lemmas.Grind.{common_steps}
use Rattle.heap_model.specs.Header.{IsWellFormed, HasGoodHeader, HasKindsBelow}
use Rattle.region_header.proofs.MigrationLemmas.{current_formed, current_below}
use Rattle.heap_model.specs.Header.{header_fault}
use Rattle.quick_recover.proofs.OpenLemmas.{not_refused}
use Rattle.quick_recover.proofs.open.quick_open.Goals as goal

pub quick_open_current-requires-clause-formed : goal.quick_open_current-requires-clause-formed
quick_open_current-requires-clause-formed g c = subst (λ (l : List ℕ). IsWellFormed (8 * length l) (slice_index l)) (sym c.in_ok-current.ensures.ok)
    (current_formed (Some g.F.Filter.KINDS) c.args.words.now c.args.kinds.now c.requires.roots
    (subst (λ k. HasGoodHeader (Some k) (8 * length c.args.words.now) (slice_index c.args.words.now)) c.KINDS.ensures c.in_ok-header.ensures.good))

pub quick_open_current-requires-clause-below : goal.quick_open_current-requires-clause-below
quick_open_current-requires-clause-below g c = subst (λ (l : List ℕ). HasKindsBelow (Some g.F.Filter.KINDS) (slice_index l)) (sym c.in_ok-current.ensures.ok)
    (current_below (Some g.F.Filter.KINDS) c.args.words.now c.args.kinds.now c.requires.roots
    (subst (λ k. HasGoodHeader (Some k) (8 * length c.args.words.now) (slice_index c.args.words.now))
    c.KINDS.ensures c.in_ok-header.ensures.good) c.requires.kinds)

pub returns-clause-formed : goal.returns-clause-formed
returns-clause-formed g c =
    let formed = current_formed (Some g.F.Filter.KINDS) c.args.words.now c.args.kinds.now c.requires.roots
    (subst (λ k. HasGoodHeader (Some k) (8 * length c.args.words.now) (slice_index c.args.words.now)) c.KINDS.ensures c.in_ok-header.ensures.good) in
    grind (arith, common_steps, formed)

pub returns-in_err-header-clause-sure : goal.returns-in_err-header-clause-sure
returns-in_err-header-clause-sure g c = λ good orderly. absurd (not_refused c.in_err-header.field-0.0 (Some g.F.Filter.KINDS)
    (8 * length c.args.words.now) (slice_index c.args.words.now) good
    (c.in_err-header.ensures.cause ∙ ap (λ k. header_fault (Some k) (8 * length c.args.words.now) (slice_index c.args.words.now)) c.KINDS.ensures))
