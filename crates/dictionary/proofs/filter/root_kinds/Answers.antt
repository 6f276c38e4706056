use Rattle.std.proofs.Common.{◌≡◌, ◌-◌, ◌++◌, replicate, ◌∙◌, ap, ℕ, arith}
use Rattle.heap_model.specs.Header.{first_kinds}
use Rattle.dictionary.proofs.KindLemmas.{small_kinds, kinds_are}
use Rattle.dictionary.proofs.filter.root_kinds.Goals as goal

pub returns : goal.returns
unfolding first_kinds
returns c =
    let eight : c.loop-i.i ≡ 8 = omega arith in
    let are : c.loop-i.kinds ≡ first_kinds = c.loop-i.invariant ∙ ap (λ (i : ℕ). replicate i 1 ++ replicate (1024 - i) 0) eight in
    record { list = are; kinds = kinds_are c.loop-i.kinds are; few = small_kinds c.loop-i.kinds are }
