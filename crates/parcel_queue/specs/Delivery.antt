-- That what was taken is exactly what was put: nothing is lost, and nothing comes twice.
use Rattle.std.specs.Prelude.{◌≡◌, List, ◌++◌, All, flat_map}
use Rattle.std.specs.List.Sorted.{IsPermutation}
use Rattle.parcel_queue.specs.Account.{Account, with_all_taken}

-- the parcels taken are all that the senders put, each as often, in some order
pub record AreDelivered {T : Type 0} (sent : List (List T)) (taken : List T) : Type 0 where
  pub same : IsPermutation (flat_map (λ parcels. parcels) sent) taken

-- what was taken with a pass is all that was put with it, in some order
pub record IsDelivered {T : Type 0} (a : Account T) : Type 0 where
  pub same : IsPermutation a.put a.taken

-- some parcels were taken, of each of which the fact holds: they stand behind those that the list had
pub record HasTaken {T : Type 0} (fact : T → Type 0) (before after : Account T) (old new : List T) : Type 0 where
  pub parcels : List T
  pub each : All fact parcels
  pub account : after ≡ with_all_taken before parcels
  pub list : new ≡ old ++ parcels
