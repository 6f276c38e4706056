use Rattle.std.proofs.Common.{◌≡◌, ◌*◌, Some, Err, length, slice_index, subst, sym, ap, ◌∙◌, arith}
use Rattle.std.proofs.lemmas.Result.{err_from_is_err_and}
use Rattle.heap_model.specs.Header.{header_fault, HasGoodHeader}
use Rattle.heap_recover.specs.declared.fault.RecoverFault.TheVariants.{Header}
use Rattle.heap_recover.specs.Fault.{is_bad, is_old}
use Rattle.heap_recover.proofs.RefusedLemmas.{good_old, good_new, refused_bad, not_refused}
use Rattle.heap_recover.proofs.recovery.recover_with_stored_kinds.Goals as goal

pub returns-in_err-header-clause-cause : goal.returns-in_err-header-clause-cause
returns-in_err-header-clause-cause g c =
    let words = c.args.words.now in
    let cause = c.in_err-header.field-0.0 in
    let fault = subst (λ k. Some cause ≡ header_fault (Some k) (8 * length words) (slice_index words)) c.KINDS.ensures
    c.in_err-header.ensures.cause in
    let p = err_from_is_err_and c.from_residual.result c.from_residual.ensures.1 in
    rw (p.1, p.2) (is_bad cause (sym fault))

pub returns-in_err-header-clause-header : goal.returns-in_err-header-clause-header
returns-in_err-header-clause-header g c other refused =
    let words = c.args.words.now in
    let cause = c.in_err-header.field-0.0 in
    let fault = subst (λ k. Some cause ≡ header_fault (Some k) (8 * length words) (slice_index words)) c.KINDS.ensures
    c.in_err-header.ensures.cause in
    let same = refused_bad (Some g.F.Filter.KINDS) (8 * length words) (slice_index words) cause other (sym fault) refused in
    let p = err_from_is_err_and c.from_residual.result c.from_residual.ensures.1 in
    p.1 ∙ ap Err (p.2 ∙ ap Header (sym same))

pub returns-then-header-eq-OLD_VERSION-clause-cause : goal.returns-then-header-eq-OLD_VERSION-clause-cause
returns-then-header-eq-OLD_VERSION-clause-cause g c =
    let words = c.args.words.now in
    let good = subst (λ k. HasGoodHeader (Some k) (8 * length words) (slice_index words)) c.KINDS.ensures c.in_ok-header.ensures.good in
    let same = c.in_ok-header.ensures.ok.version_is in
    let old = c.if-header-eq-OLD_VERSION.true in
    is_old (good_old (Some g.F.Filter.KINDS) (8 * length words) (slice_index words) good (omega arith))

pub returns-clause-header : goal.returns-clause-header
returns-clause-header g c cause refused =
    let words = c.args.words.now in
    let good = subst (λ k. HasGoodHeader (Some k) (8 * length words) (slice_index words)) c.KINDS.ensures c.in_ok-header.ensures.good in
    let same = c.in_ok-header.ensures.ok.version_is in
    let new = good_new (Some g.F.Filter.KINDS) (8 * length words) (slice_index words) good
    (λ one. let other = c.if-header-eq-OLD_VERSION.false in omega arith) in
    absurd (not_refused (Some g.F.Filter.KINDS) (8 * length words) (slice_index words) cause new.0 new.1 refused)
