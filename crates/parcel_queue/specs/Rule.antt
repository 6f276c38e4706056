-- What is so of a queue and its passes between any two steps of any threads.
use Rattle.std.specs.Prelude.{◌≡◌, List, [], ◌++◌, All, flat_map, sum_by}
use Rattle.std.specs.List.Sorted.{IsPermutation}
use Rattle.parcel_queue.specs.Account.{Account, all_parts}

module _ {T : Type 0} where
  -- all that was put with these passes
  abbrev pub all_put : List (Account T) → List T
  all_put passes = flat_map (λ (a : Account T). a.put) passes

  -- all that was taken with them
  abbrev pub all_taken : List (Account T) → List T
  all_taken passes = flat_map (λ (a : Account T). a.taken) passes

  -- with a pass that has no part nothing was put or taken
  pub record IsIdle (a : Account T) : Type 0 where
    pub put : a.parts ≡ 0 → a.put ≡ []
    pub taken : a.parts ≡ 0 → a.taken ≡ []

  -- what was put is what was taken and what is in the queue, and the fact holds of each parcel there
  pub record IsFair (fact : T → Type 0) (items : List T) (passes : List (Account T)) : Type 0 where
    pub parts : sum_by (λ (a : Account T). a.parts) passes ≡ all_parts
    pub same : IsPermutation (all_put passes) (all_taken passes ++ items)
    pub idle : All IsIdle passes
    pub each : All fact items
