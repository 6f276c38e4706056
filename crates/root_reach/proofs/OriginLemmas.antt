-- Facts on origins and their labels.
use Rattle.std.proofs.Common.{◌≡◌, ℕ, zero, suc, ◌+◌, ◌≤◌, Option, Some, None, refl, sym, ◌∙◌, ap, arith}
use Rattle.root_reach.specs.declared.origin.Origin.{Origin}
use Rattle.root_reach.specs.declared.origin.Origin.TheVariants.{One, Several}
use Rattle.root_reach.specs.Origins.{origin_in, label_of, rank, Covers, same, several, Joins, first, both}

-- an origin of one root is that root's
abbrev root_or_zero : Origin → ℕ
root_or_zero (One root) = root
root_or_zero Several = 0

pub one_root : (a b : ℕ) → One a ≡ One b → a ≡ b
one_root a b e = ap root_or_zero e

-- a label stands for the origin that it was made of
pub origin_in-label_of : (o : Origin) → origin_in (label_of o) ≡ Some o
origin_in-label_of (One root) = refl
origin_in-label_of Several = refl

-- what is told where it joins covers what came
pub joins_covers : (told : Option Origin) (o joined : Origin) → Joins told o joined → Covers (Some joined) o
joins_covers told o joined (first none is) = same (ap (λ (x : Origin). Some x) is)
joins_covers told o joined (both root one other is) = several (ap (λ (x : Origin). Some x) is)

-- and what was covered before
pub joins_still : (told : Option Origin) (o joined p : Origin) → Joins told o joined → Covers told p → Covers (Some joined) p
joins_still told o joined p (first none is) (same was) = let e : None ≡ Some p = sym none ∙ was in absurd (cc)
joins_still told o joined p (first none is) (several was) = let e : None ≡ Some Several = sym none ∙ was in absurd (cc)
joins_still told o joined p (both root one other is) was = several (ap (λ (x : Origin). Some x) is)

-- the label goes up
some_rank : (o : Origin) → 1 ≤ rank (label_of o)
some_rank (One root) = omega arith
some_rank Several = omega arith

no_rank : (label : ℕ) → origin_in label ≡ None → rank label ≡ 0
no_rank zero none = refl
no_rank (suc zero) none = absurd (cc)
no_rank (suc (suc root)) none = absurd (cc)

one_rank : (label root : ℕ) → origin_in label ≡ Some (One root) → rank label ≡ 1
one_rank zero root is = absurd (cc)
one_rank (suc zero) root is = absurd (cc)
one_rank (suc (suc root)) other is = refl

pub rank_up : (label : ℕ) (o joined : Origin) → Joins (origin_in label) o joined → rank label + 1 ≤ rank (label_of joined)
rank_up label o joined (first none is) = let was = no_rank label none in let now = some_rank joined in omega arith
rank_up label o joined (both root one other is) =
    let was = one_rank label root one in
    let now : rank (label_of joined) ≡ 2 = ap (λ (x : Origin). rank (label_of x)) is in
    omega arith
