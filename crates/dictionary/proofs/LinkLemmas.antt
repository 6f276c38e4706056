-- The link number i of a table or a node.
use Rattle.std.proofs.Common.{◌≡◌, ℕ, zero, suc, ◌+◌, ◌<◌, ◌≤◌, List, [], ◌∷◌, length, Some, None, slice_get, set, replicate, ◌++◌, refl, ap, ◌∙◌, arith}
use Rattle.dict_model.specs.Links.{all_to_nodes}

-- word i of a table
pub get-all_to_nodes : (from : ℕ) (words : List ℕ) (i : ℕ) → i < length words → slice_get (all_to_nodes from words) i ≡ Some (from + i, 2)
get-all_to_nodes from [] i below = absurd (omega arith)
get-all_to_nodes from (w ∷ words) zero below = let same : from ≡ from + 0 = omega arith in ap (λ x. Some (x, 2)) same
get-all_to_nodes from (w ∷ words) (suc i) below =
    let same : from + 1 + i ≡ from + suc i = omega arith in get-all_to_nodes (from + 1) words i (omega arith) ∙ ap (λ x. Some (x, 2)) same

pub get-all_past : (from : ℕ) (words : List ℕ) (i : ℕ) → length words ≤ i → slice_get (all_to_nodes from words) i ≡ None
get-all_past from [] i past = refl
get-all_past from (w ∷ words) zero past = absurd (omega arith)
get-all_past from (w ∷ words) (suc i) past = get-all_past (from + 1) words i (omega arith)

-- one more of the first element in a list of two runs
pub set-runs : (a b i n : ℕ) → set (replicate i a ++ replicate (suc n) b) i a ≡ replicate (suc i) a ++ replicate n b
set-runs a b zero n = refl
set-runs a b (suc i) n = ap (λ (xs : List ℕ). a ∷ xs) (set-runs a b i n)
