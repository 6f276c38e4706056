-- Lists that are the same up to order, beside equal ones.
use Rattle.std.proofs.Common.{◌≡◌, List, ◌++◌, sym, subst, append_assoc}
use Rattle.std.specs.List.Sorted.{IsPermutation}
use Rattle.std.proofs.lemmas.List.Sorted.{IsPermutation-trans, IsPermutation-append_left, IsPermutation-append_comm}

module _ {T : Type 0} where
  -- an equal list in front, an equal list behind, and one order after another
  pub from : {xs ys zs : List T} → xs ≡ ys → IsPermutation ys zs → IsPermutation xs zs
  from {xs} {ys} {zs} same order = subst (λ (l : List T). IsPermutation l zs) (sym same) order

  pub upto : {xs ys zs : List T} → IsPermutation xs ys → ys ≡ zs → IsPermutation xs zs
  upto {xs} order same = subst (IsPermutation xs) same order

  pub follow : {xs ys zs : List T} → IsPermutation xs ys → IsPermutation ys zs → IsPermutation xs zs
  follow {xs} {ys} {zs} a b = IsPermutation-trans xs ys zs a b

  -- two pieces in front change places
  pub swapped : (xs ys rest : List T) → IsPermutation (xs ++ (ys ++ rest)) (ys ++ (xs ++ rest))
  swapped xs ys rest = from (sym (append_assoc xs ys rest))
      (upto (IsPermutation-append_left rest (xs ++ ys) (ys ++ xs) (IsPermutation-append_comm xs ys)) (append_assoc ys xs rest))
