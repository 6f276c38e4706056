-- Answers that are collected, in order.
use Rattle.std.proofs.Common.{◌≡◌, ◌↔◌, ℕ, zero, suc, ◌+◌, ◌<◌, inl, inr, Bool, false, IsTrue, List, [], ◌∷◌, ◌++◌, length, slice_index_or, map, refl, ap, sym, subst, ◌∙◌, arith, length-append}
use Rattle.std.specs.Prelude.{Vec, Ok, Err, IfOk, MatchResult, Contains}
use Rattle.std.specs.List.{AllZip, range_with_len}
use Rattle.std.specs.declared.result.Result.{Result}
use Rattle.std.specs.declared.alloc.Global.{Global}
use Rattle.std.specs.declared.alloc.AllocError.{AllocError}
use Rattle.std.proofs.Math.ListN.{get_or-append}
use Rattle.std.proofs.Math.Seq.{get_or-append_seam}
use Rattle.std.proofs.lemmas.Bool.{cases_lt}
use Rattle.heap_model.specs.declared.block.Block.{Block}
use Rattle.heap_model.specs.Blocks.{Layout}
use Rattle.filter_trace.specs.Reached.{IsReachedAt}
use Rattle.par_recover.specs.Marked.{TellsMarked, TellsAll}

-- one more block of a superblock
pub answers_push : (l : Layout) (pairs : List (Block × ℕ)) (d index : ℕ) (marked : List Bool) (answer : Bool) → length marked ≡ index
    → ((i : ℕ) → i < length marked → IsTrue (slice_index_or marked i false) ↔ IsReachedAt l pairs d i) → IsTrue answer ↔ IsReachedAt l pairs d index
    → (length (marked ++ answer ∷ []) ≡ index + 1)
    × ((i : ℕ) → i < length (marked ++ answer ∷ []) → IsTrue (slice_index_or (marked ++ answer ∷ []) i false) ↔ IsReachedAt l pairs d i)
answers_push l pairs d index marked answer long before here = (length-append marked (answer ∷ []) ∙ ap (λ n. n + 1) long, each) where
  each : (i : ℕ) → i < length (marked ++ answer ∷ []) → IsTrue (slice_index_or (marked ++ answer ∷ []) i false) ↔ IsReachedAt l pairs d i
  each i below = elim (cases_lt i (length marked)) as (λ _. IsTrue (slice_index_or (marked ++ answer ∷ []) i false) ↔ IsReachedAt l pairs d i) [
    | inl inside ↦ subst (λ (b : Bool). IsTrue b ↔ IsReachedAt l pairs d i) (sym (get_or-append marked (answer ∷ []) false i inside)) (before i inside)
    | inr past ↦ let same : length marked ≡ i = omega (arith, length-append marked (answer ∷ [])) in
        let seam = subst (λ k. slice_index_or (marked ++ answer ∷ []) k false ≡ answer) same (get_or-append_seam marked answer [] false) in
        subst (λ (b : Bool). IsTrue b ↔ IsReachedAt l pairs d i) (sym seam)
        (subst (λ k. IsTrue answer ↔ IsReachedAt l pairs d k) (sym long ∙ same) here)
  ]

-- what calls gave one after the other, each of which was Ok
record AreGiven (P : ℕ → List Bool → Type 0) (from n : ℕ) (all : List (Vec Bool Global)) : Type 0 where
  long : length all ≡ n
  each : (d : ℕ) (other : Vec Bool Global) → d < length all → P (from + d) (slice_index_or all d other).items

-- one more in front
more : (P : ℕ → List Bool → Type 0) (from n : ℕ) (v : Vec Bool Global) (vs : List (Vec Bool Global)) → P from v.items
    → AreGiven P (from + 1) n vs → AreGiven P from (suc n) (v ∷ vs)
more P from n v vs first rest = record { long = (let long = rest.long in omega arith); each = each } where
  each : (d : ℕ) (other : Vec Bool Global) → d < length (v ∷ vs) → P (from + d) (slice_index_or (v ∷ vs) d other).items
  each zero other below = let same : from ≡ from + 0 = omega arith in subst (λ k. P k v.items) same first
  each (suc d) other below = let same : from + 1 + d ≡ from + suc d = omega arith in
      subst (λ k. P k (slice_index_or vs d other).items) same (rest.each d other (omega arith))

given : (P : ℕ → List Bool → Type 0) (from n : ℕ) (all : List (Vec Bool Global))
    → AllZip (λ d (r : Result (Vec Bool Global) AllocError). IfOk r (λ marked. P d marked.items)) (range_with_len from n) (map Ok all)
    → AreGiven P from n all
given P from zero [] each = record { long = refl; each = λ d other below. absurd (omega arith) }
given P from zero (v ∷ vs) each = absurd each
given P from (suc n) [] each = absurd each
given P from (suc n) (v ∷ vs) each = more P from n v vs each.0 (given P (from + 1) n vs each.1)

-- the answers that were collected
pub all_given : (l : Layout) (pairs : List (Block × ℕ)) (n : ℕ) (places : List ℕ) → places ≡ range_with_len 0 n
    → (calls : List (Result (Vec Bool Global) AllocError))
    → AllZip (λ d r. IfOk r (λ marked. TellsMarked l pairs d marked.items)) places calls
    → (collected : Result (Vec (Vec Bool Global) Global) AllocError)
    → MatchResult collected (λ c. (ys : List (Vec Bool Global)) × (calls ≡ map Ok ys) × (c.items ≡ ys)) (λ e. Contains calls (Err e))
    → IfOk collected (λ all. TellsAll l pairs n all.items)
all_given l pairs n places are calls each (Err e) has = tt
all_given l pairs n places are calls each (Ok c) is =
    let P = λ (d : ℕ) (marked : List Bool). TellsMarked l pairs d marked in
    let tells = λ (d : ℕ) (r : Result (Vec Bool Global) AllocError). IfOk r (λ marked. P d marked.items) in
    let found = given P 0 n is.0 (subst (λ rs. AllZip tells (range_with_len 0 n) rs) is.1 (subst (λ ds. AllZip tells ds calls) are each)) in
    subst (TellsAll l pairs n) (sym is.2) (record {
      long = found.long;
      each = λ d other below. let same : 0 + d ≡ d = omega arith in subst (λ k. P k (slice_index_or is.0 d other).items) same
          (found.each d other (omega (arith, found.long)));
    })
