-- How long the values may be that a trace reads.
use Rattle.std.specs.Prelude.{◌≡◌, ℕ, ◌≤◌, ◌⊎◌, List, length, Option, None, Some, Contains, cond, nat_eq, max}
use Rattle.std.specs.Option.{unwrap_or}
use Rattle.std.specs.BTreeMap.{BTreeMap, get}
use Rattle.std.specs.Ordering.{nat_cmp}
use Rattle.dict_model.specs.Nodes.{largest_value}
use Rattle.dict_model.specs.Requests.{Request, put}

-- the length at a key; 0 where there is none
abbrev pub length_at : BTreeMap ℕ ℕ → ℕ → ℕ
length_at longest key = unwrap_or (get nat_cmp longest key) 0

-- the length of a value; 0 where there is none
abbrev pub length_of : Option (List ℕ) → ℕ
length_of None = 0
length_of (Some value) = length value

-- the length of a key's value in a map
abbrev pub length_in : BTreeMap ℕ (List ℕ) → ℕ → ℕ
length_in map key = length_of (get nat_cmp map key)

-- the length of a value that the requests put under the key, or 0
abbrev pub IsPutLength : List Request → ℕ → ℕ → Type 0
IsPutLength requests key n = (n ≡ 0) ⊎ ((value : List ℕ) × Contains requests (put key value) × (n ≡ length value))

-- the length at a key is that of the longest value that the requests put under it, and no more than the longest that
-- there may be; 0 where they put none
pub record AreLongest (requests : List Request) (longest : BTreeMap ℕ ℕ) : Type 0 where
  pub holds : (key : ℕ) (value : List ℕ) → Contains requests (put key value) → length value ≤ length_at longest key
  pub short : (key : ℕ) → length_at longest key ≤ largest_value
  pub needed : (key : ℕ) → IsPutLength requests key (length_at longest key)

-- the length at the key is this one or the longer one from before, and at other keys it stays
pub record Raises (key length : ℕ) (old new : BTreeMap ℕ ℕ) : Type 0 where
  pub has : (q : ℕ) → get nat_cmp new q ≡ cond (nat_eq key q) (Some (max length (length_at old key))) (get nat_cmp old q)
