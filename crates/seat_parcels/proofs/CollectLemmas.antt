-- All that was put and all that was kept is what came.
use Rattle.std.proofs.Common.{◌≡◌, List, [], ◌++◌, ap, subst, sym}
use Rattle.std.specs.List.Sorted.{IsPermutation}
use Rattle.std.proofs.lemmas.List.Sorted.{IsPermutation-append_comm, IsPermutation-append_right}
use Rattle.parcel_queue.specs.Account.{Account, with_all_taken}
use Rattle.parcel_queue.specs.Delivery.{HasTaken, IsDelivered}
use Rattle.parcel_queue.proofs.OrderLemmas.{follow, upto}

module _ {T : Type 0} where
  -- all that was put was taken, where nothing had been taken before
  all_taken : (before after : Account T) (parcels : List T) → before.taken ≡ [] → after ≡ with_all_taken before parcels → IsDelivered after
      → IsPermutation before.put parcels
  all_taken before after parcels none is all =
      let said : IsPermutation before.put (before.taken ++ parcels) = (subst (λ (a : Account T). IsDelivered a) is all).same in
      upto said (ap (λ (taken : List T). taken ++ parcels) none)

  pub all_came : (fact : T → Type 0) (before after : Account T) (kept came sorted : List T) → before.taken ≡ [] → HasTaken fact before after kept came
      → IsDelivered after → IsPermutation came sorted → IsPermutation (before.put ++ kept) sorted
  all_came fact before after kept came sorted none taken all order = follow (IsPermutation-append_comm before.put kept)
      (follow (upto (IsPermutation-append_right kept before.put taken.parcels (all_taken before after taken.parcels none taken.account all))
      (sym taken.list))
      order)
