-- Blocks along a chain that get another owner, and whose each block is then.
use Rattle.std.proofs.Common.{◌≡◌, ◌≢◌, ℕ, zero, suc, ◌<◌, ◌⊎◌, inl, inr, List, [], ◌∷◌, get_or, set, length, refl, ap, sym, subst, ◌∙◌, length-set, arith}
use Rattle.std.proofs.lemmas.Bool.{cases_eq, cases_lt}
use Rattle.std.proofs.lemmas.List.{get_or-set_same, get_or-set_other}
use Rattle.heap_model.specs.Chains.{Walks}
use Rattle.heap_model.specs.Counting.{times}
use Rattle.crash_core.specs.declared.owners.BlockPlace.{BlockPlace}
use Rattle.crash_core.specs.declared.owners.BlockPlace.TheVariants as place
use Rattle.crash_core.specs.declared.owners.BlockOwner.{BlockOwner}
use Rattle.core_model.specs.Effects.{chain}
use Rattle.crash_core.specs.Standing.{place_for, no_block, HasNewOwner}
use Rattle.core_model.proofs.TotalLemmas.{eq-eqb-one, ne-eqb-none}
use Rattle.crash_core.proofs.BlockPlaces.{place_own, place_theirs}

pub some_left : (next : ℕ → ℕ) (at left : ℕ) → 0 < left → 0 < times at (chain next at left)
some_left next at zero some = absurd (omega arith)
some_left next at (suc n) some = let one = eq-eqb-one at at refl in omega arith

-- all blocks of the chain but the last ones, from a block on, have their owner
pub record IsPartGiven (next : ℕ → ℕ) (old new : List BlockOwner) (first count block left : ℕ) (owner : BlockOwner) : Type 0 where
  pub long : length new ≡ length old
  pub inside : (b : ℕ) → 0 < times b (chain next first count) → (get_or new b no_block ≡ owner) ⊎ (0 < times b (chain next block left))
  pub outside : (b : ℕ) → times b (chain next first count) ≡ 0 → get_or new b no_block ≡ get_or old b no_block
  pub members : (b : ℕ) → 0 < times b (chain next block left) → 0 < times b (chain next first count)

part_step : (next : ℕ → ℕ) (old new : List BlockOwner) (first count block left : ℕ) (owner : BlockOwner)
    → IsPartGiven next old new first count block (suc left) owner
    → block < length new → IsPartGiven next old (set new block owner) first count (next block) left owner
part_step next old new first count block left owner p less = record {
  long = length-set new block owner ∙ p.long;
  inside = λ b some. elim (cases_eq b block) as (λ _. (get_or (set new block owner) b no_block ≡ owner) ⊎
      (0 < times b (chain next (next block) left))) [
        | inl here ↦ inl (ap (λ n. get_or (set new block owner) n no_block) here ∙ get_or-set_same new block owner no_block less)
        | inr other ↦ elim (p.inside b some) as (λ _. (get_or (set new block owner) b no_block ≡ owner) ⊎ (0 < times b (chain next (next block) left))) [
          | inl done ↦ inl (get_or-set_other new block b owner no_block other ∙ done)
          | inr more ↦ inr (let none = ne-eqb-none block b (λ h. other (sym h)) in omega arith)
        ]
      ];
  outside = λ b none. get_or-set_other new block b owner no_block
      (λ here. let m = p.members block (let one = eq-eqb-one block block refl in omega arith) in
      let z = ap (λ n. times n (chain next first count)) here in omega arith) ∙ p.outside b none;
  members = λ b some. p.members b (omega arith);
}

pub part_next : (next : ℕ → ℕ) (old new : List BlockOwner) (first count block left left' to : ℕ) (owner : BlockOwner)
    → IsPartGiven next old new first count block left owner
    → left ≡ suc left' → block < length new → to ≡ next block → IsPartGiven next old (set new block owner) first count to left' owner
part_next next old new first count block left left' to owner p is less to_is =
    subst (λ n. IsPartGiven next old (set new block owner) first count n left' owner) (sym to_is)
    (part_step next old new first count block left' owner (subst (λ n. IsPartGiven next old new first count block n owner) is p) less)

-- whose a block is then, for the new owner and for another
pub given_mine : (old new : List BlockOwner) (i : ℕ) (bs : List ℕ) (x : BlockPlace) (P : ℕ → BlockPlace → Type 0)
    → HasNewOwner old new bs (record { seat = i; place = x })
    → ((b : ℕ) → 0 < times b bs → P b x) → ((b : ℕ) → times b bs ≡ 0 → P b (place_for i (get_or old b no_block)))
    → (b : ℕ) → P b (place_for i (get_or new b no_block))
given_mine old new i bs x P given inside outside b = elim (cases_lt 0 (times b bs)) [
  | inl here ↦ subst (P b) (sym (ap (place_for i) (given.inside b here) ∙ place_own i x)) (inside b here)
  | inr none ↦ let z : times b bs ≡ 0 = omega arith in subst (P b) (sym (ap (place_for i) (given.outside b z))) (outside b z)
]

pub given_theirs : (old new : List BlockOwner) (i j : ℕ) (bs : List ℕ) (x : BlockPlace) (P : ℕ → BlockPlace → Type 0) → j ≢ i
    → HasNewOwner old new bs (record { seat = i; place = x })
    → ((b : ℕ) → 0 < times b bs → place_for j (get_or old b no_block) ≡ place.Nowhere)
    → ((b : ℕ) → P b (place_for j (get_or old b no_block)))
    → (b : ℕ) → P b (place_for j (get_or new b no_block))
given_theirs old new i j bs x P apart given none before b = elim (cases_lt 0 (times b bs)) [
  | inl here ↦ subst (P b) (none b here ∙ sym (ap (place_for j) (given.inside b here) ∙ place_theirs i j x apart)) (before b)
  | inr out ↦ let z : times b bs ≡ 0 = omega arith in subst (P b) (sym (ap (place_for j) (given.outside b z))) (before b)
]

-- a walk by another function that leads alike
pub walks_other : (f g : ℕ → ℕ) (from : ℕ) (bs : List ℕ) → ((b : ℕ) → 0 < times b bs → f b ≡ g b) → Walks f from bs → Walks g from bs
walks_other f g from [] same w = tt
walks_other f g from (b ∷ bs) same w = (
  w.0,
  subst (λ n. Walks g n bs) (same b (let one = eq-eqb-one b b refl in omega arith))
      (walks_other f g (f b) bs (λ x some. same x (omega arith)) w.1),
)
