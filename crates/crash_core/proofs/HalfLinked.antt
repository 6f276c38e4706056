-- A walk over the blocks of a cut superblock, as far as it came.
use Rattle.std.proofs.Common.{◌≡◌, ◌≢◌, ℕ, zero, suc, ◌+◌, ◌*◌, ◌<◌, ◌≤◌, ◌↔◌, refl, sym, subst, arith}
use Rattle.heap_model.specs.Chains.{Walks}
use Rattle.core_model.specs.Effects.{steps}

-- blocks of which the first ones are linked, from one on
pub record IsHalfLinked (f : ℕ → ℕ) (start words n block left : ℕ) : Type 0 where
  pub linked : Walks f start (steps start words n) ↔ Walks f block (steps block words left)
  pub low : start ≤ block
  pub room : block + left * words ≤ start + n * words
  pub some : 1 ≤ left

pub half_start : (f : ℕ → ℕ) (start words n left : ℕ) → 1 ≤ n → left ≡ n → IsHalfLinked f start words n start left
half_start f start words n left some is = subst (IsHalfLinked f start words n start) (sym is)
    (record { linked = (λ w. w, λ w. w); low = omega arith; room = omega arith; some = some })

more_left : (r words : ℕ) → suc r * words ≡ words + r * words
more_left r words = grind arith

pub half_room : (f : ℕ → ℕ) (start words n block left : ℕ) → IsHalfLinked f start words n block left → 0 < left → block + words ≤ start + n * words
half_room f start words n block zero half some = absurd (omega arith)
half_room f start words n block (suc r) half some = let m = more_left r words in let h = half.room in omega arith

pub half_step : (f : ℕ → ℕ) (start words n block left left' to : ℕ) → IsHalfLinked f start words n block left → left ≡ suc left' → 0 < left'
    → f block ≡ block + words → to ≡ block + words → IsHalfLinked f start words n to left'
half_step f start words n block left zero to half is some leads to_is = absurd (omega arith)
half_step f start words n block left (suc r) to half is some leads to_is = subst (λ x. IsHalfLinked f start words n x (suc r)) (sym to_is) (record {
  linked = (λ w. on (h.linked.0 w), λ u. h.linked.1 (back u));
  low = (let l = h.low in omega arith);
  room = (let m = more_left (suc r) words in let e = h.room in omega arith);
  some = omega arith;
}) where
  h : IsHalfLinked f start words n block (suc (suc r))
  h = subst (IsHalfLinked f start words n block) is half

  on : Walks f block (steps block words (suc (suc r))) → Walks f (block + words) (steps (block + words) words (suc r))
  on w = (refl, w.1.1)

  back : Walks f (block + words) (steps (block + words) words (suc r)) → Walks f block (steps block words (suc (suc r)))
  back u = (refl, (leads, u.1))

pub half_apart : (f : ℕ → ℕ) (start words n block left left' : ℕ) → IsHalfLinked f start words n block left → left ≡ suc left' → 0 < left'
    → f block ≢ block + words → Walks f start (steps start words n) → ⊥
half_apart f start words n block left zero half is some apart w = absurd (omega arith)
half_apart f start words n block left (suc r) half is some apart w = apart ((subst (IsHalfLinked f start words n block) is half).linked.0 w).1.0

pub half_whole : (f : ℕ → ℕ) (start words n block left : ℕ) → IsHalfLinked f start words n block left → left ≡ 1 → Walks f start (steps start words n)
half_whole f start words n block left half is = (subst (IsHalfLinked f start words n block) is half).linked.1 (refl, tt)
