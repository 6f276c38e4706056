use Rattle.std.proofs.Common.{◌≡◌, ◌-◌, ◌++◌, replicate, ◌∙◌, ap, ℕ, arith}
use Rattle.std.proofs.lemmas.Result.{IfOk-weaker}
use Rattle.heap_model.specs.Header.{first_kinds}
use Rattle.region_header.specs.Empty.{empty_words_with, with_first_kinds}
use Rattle.region_header.proofs.empty.format.Goals as goal

pub returns-clause-ok : goal.returns-clause-ok
unfolding first_kinds
returns-clause-ok c =
    let eight : c.loop-i.i ≡ 8 = omega arith in
    let are : c.loop-i.kinds ≡ first_kinds = c.loop-i.invariant ∙ ap (λ (i : ℕ). replicate i 1 ++ replicate (1024 - i) 0) eight in
    IfOk-weaker c.format_with_kinds.result _ _
    (λ words is. is ∙ ap (empty_words_with c.args.capacity) are ∙ with_first_kinds c.args.capacity) c.format_with_kinds.ensures.ok
