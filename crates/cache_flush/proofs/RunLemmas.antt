-- How many runs a cache is, once its first one is given back.
use Rattle.std.proofs.Common.{◌≡◌, ◌≢◌, ◌≤◌, ℕ, ◌+◌, cond, nat_eq, Bool, true, false, List, [], ◌∷◌, ◌++◌, length, All, refl, ap, ◌∙◌, eq-eqb, ne_eqb, sym, arith}
use Rattle.std.proofs.lemmas.List.Elements.{All-head, All-tail}
use Rattle.heap_model.specs.Geometry.{superblock_of}
use Rattle.core_model.specs.Effects.{first_of}
use Rattle.cache_flush.specs.Runs.{runs_of}

abbrev begins : Bool → ℕ
begins same = cond same 0 1

begins_few : (same : Bool) → begins same ≤ 1
begins_few true = omega arith
begins_few false = omega arith

pub runs_few : (c : ℕ) (bs : List ℕ) → runs_of c bs ≤ length bs
runs_few c [] = omega arith
runs_few c (b ∷ []) = omega arith
runs_few c (b ∷ a ∷ bs) = let rest = runs_few c (a ∷ bs) in let one = begins_few (nat_eq (superblock_of c b) (superblock_of c a)) in omega arith

-- blocks of superblock d, with one of another behind them, if any
pub first_run : (c d : ℕ) (bs rest : List ℕ) → 1 ≤ length bs → All (λ b. superblock_of c b ≡ d) bs
    → (1 ≤ length rest → superblock_of c (first_of rest) ≢ d) → runs_of c (bs ++ rest) ≡ 1 + runs_of c rest
first_run c d [] rest some in_d longest = absurd (omega arith)
first_run c d (b ∷ []) [] some in_d longest = refl
first_run c d (b ∷ []) (a ∷ rest) some in_d longest =
    ap (λ same. begins same + runs_of c (a ∷ rest)) (ne_eqb (superblock_of c b) (superblock_of c a)
    (λ same. longest (omega arith) (sym same ∙ All-head (λ x. superblock_of c x ≡ d) b [] in_d)))
first_run c d (b ∷ a ∷ bs) rest some in_d longest =
    let behind = All-tail (λ x. superblock_of c x ≡ d) b (a ∷ bs) in_d in
    ap (λ same. begins same + runs_of c ((a ∷ bs) ++ rest)) (eq-eqb (superblock_of c b) (superblock_of c a)
    (All-head (λ x. superblock_of c x ≡ d) b (a ∷ bs) in_d ∙ sym (All-head (λ x. superblock_of c x ≡ d) a bs behind)))
    ∙ (let again = first_run c d (a ∷ bs) rest (omega arith) behind longest in omega arith)
