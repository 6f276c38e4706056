-- One more parcel is put with a pass of a row, or kept.
use Rattle.std.proofs.Common.{◌≡◌, ℕ, zero, suc, ◌+◌, ◌<◌, List, [], ◌∷◌, ◌++◌, length, refl, ap, sym, ◌∙◌, arith, append_assoc}
use Rattle.std.specs.List.Sorted.{IsPermutation}
use Rattle.std.proofs.lemmas.List.Elements.{All-cons, All-head, All-push, All-tail}
use Rattle.std.proofs.lemmas.List.Sorted.{IsPermutation-append_left, IsPermutation-append_right, IsPermutation-middle, IsPermutation-sym, IsPermutation-to_front}
use Rattle.parcel_queue.specs.Account.{PassView}
use Rattle.parcel_queue.specs.Row.{changed_at, having_put}
use Rattle.parcel_queue.proofs.OrderLemmas.{follow, upto}
use Rattle.seat_parcels.specs.declared.parcel.Parcel.{Parcel}
use Rattle.seat_parcels.specs.Boxes.{ArePutRightly, HasParts, HaveParts, all_put, goes_to}

-- as many passes as before
pub as_many : (x : Parcel) (n : ℕ) (ps : List (PassView Parcel)) → length (changed_at (having_put x) n ps) ≡ length ps
as_many x n [] = refl
as_many x zero (p ∷ ps) = refl
as_many x (suc n) (p ∷ ps) = ap suc (as_many x n ps)

-- with as many parts
pub still_parts : {parts : ℕ} (x : Parcel) (n : ℕ) (ps : List (PassView Parcel)) → HaveParts parts ps → HaveParts parts (changed_at (having_put x) n ps)
still_parts {parts} x n [] have = have
still_parts {parts} x zero (p ∷ ps) have = let first = All-head (HasParts parts) p ps have in
    All-cons (HasParts parts) (having_put x p) ps (record { parts_are = first.parts_are; none_taken = first.none_taken })
    (All-tail (HasParts parts) p ps have)
still_parts {parts} x (suc n) (p ∷ ps) have = All-cons (HasParts parts) p (changed_at (having_put x) n ps) (All-head (HasParts parts) p ps have)
    (still_parts x n ps (All-tail (HasParts parts) p ps have))

-- in front of a list, or behind its first part
in_between : (x : Parcel) (xs ys : List Parcel) → IsPermutation (x ∷ (xs ++ ys)) (xs ++ x ∷ ys)
in_between x xs ys = IsPermutation-sym (xs ++ x ∷ ys) (x ∷ (xs ++ ys)) (IsPermutation-middle xs x ys)

-- all that was put is that, and the parcel
pub put_one_more : (x : Parcel) (n : ℕ) (ps : List (PassView Parcel)) → n < length ps
    → IsPermutation (x ∷ all_put ps) (all_put (changed_at (having_put x) n ps))
put_one_more x n [] inside = absurd (omega (arith, inside))
put_one_more x zero (p ∷ ps) inside =
    upto (in_between x p.account.put (all_put ps)) (sym (append_assoc p.account.put (x ∷ []) (all_put ps)))
put_one_more x (suc n) (p ∷ ps) inside = follow (in_between x p.account.put (all_put ps))
    (IsPermutation-append_right p.account.put (x ∷ all_put ps) (all_put (changed_at (having_put x) n ps)) (put_one_more x n ps (omega (arith, inside))))

-- where it was put for its worker, all are
pub put_rightly : (workers : ℕ) (x : Parcel) (n at : ℕ) (ps : List (PassView Parcel)) → ArePutRightly workers at ps → goes_to workers x ≡ at + n
    → ArePutRightly workers at (changed_at (having_put x) n ps)
put_rightly workers x n at [] rightly is = tt
put_rightly workers x zero at (p ∷ ps) rightly is =
    let e : at + 0 ≡ at = omega arith in
    (All-push (λ y. goes_to workers y ≡ at) p.account.put x rightly.0 (is ∙ e), rightly.1)
put_rightly workers x (suc n) at (p ∷ ps) rightly is =
    let e : at + suc n ≡ suc at + n = omega arith in
    (rightly.0, put_rightly workers x n (suc at) ps rightly.1 (is ∙ e))

-- the same of all that a box has: it is put, or kept
pub has_put : (x : Parcel) (n : ℕ) (ps : List (PassView Parcel)) (kept : List Parcel) → n < length ps
    → IsPermutation (x ∷ (all_put ps ++ kept)) (all_put (changed_at (having_put x) n ps) ++ kept)
has_put x n ps kept inside = IsPermutation-append_left kept (x ∷ all_put ps) (all_put (changed_at (having_put x) n ps)) (put_one_more x n ps inside)

pub has_kept : (x back : Parcel) (ps now : List (PassView Parcel)) (kept more : List Parcel) → now ≡ ps → back ≡ x → more ≡ kept ++ back ∷ []
    → IsPermutation (x ∷ (all_put ps ++ kept)) (all_put now ++ more)
has_kept x back ps now kept more same is laid = upto (IsPermutation-sym ((all_put ps ++ kept) ++ x ∷ []) (x ∷ (all_put ps ++ kept))
    (IsPermutation-to_front (all_put ps ++ kept) x))
    (append_assoc (all_put ps) kept (x ∷ []) ∙ ap (λ (l : List Parcel). all_put ps ++ l) (ap (λ (y : Parcel). kept ++ y ∷ []) (sym is) ∙ sym laid)
    ∙ ap (λ (l : List (PassView Parcel)). all_put l ++ more) (sym same))
