-- A list of a dictionary's keys in order.
use Rattle.std.specs.Prelude.{◌≡◌, ◌≢◌, ℕ, ◌<◌, ◌≤◌, ◌||◌, List, true, IsTrue, None, Some, is_some, slice_get, length}
use Rattle.std.specs.BTreeMap.{BTreeMap, get}
use Rattle.std.specs.BTreeSet.{BTreeSet, contains}
use Rattle.std.specs.Ordering.{nat_cmp}
use Rattle.dict_model.specs.Shards.{Map}

-- the keys are exactly those of the map
pub record Lists (keys : BTreeSet ℕ) (map : Map) : Type 0 where
  pub each : (key : ℕ) → contains nat_cmp keys key ≡ is_some (map key)

-- the map has this key, and none from there on below it
pub record IsLeastFrom (from : ℕ) (map : Map) (least : ℕ) : Type 0 where
  pub there : map least ≢ None
  pub high : from ≤ least
  pub least_is : (key : ℕ) → from ≤ key → key < least → map key ≡ None

-- the map has no key from there on
abbrev pub HasNoneFrom : ℕ → Map → Type 0
HasNoneFrom from map = (key : ℕ) → from ≤ key → map key ≡ None

-- the keys of a map were added
pub record HasMore (old : BTreeSet ℕ) (map : BTreeMap ℕ (List ℕ)) (new : BTreeSet ℕ) : Type 0 where
  pub each : (key : ℕ) → contains nat_cmp new key ≡ (contains nat_cmp old key || is_some (get nat_cmp map key))

-- one of the first maps has the key
pub record HasKey (maps : List (BTreeMap ℕ (List ℕ))) (count key : ℕ) : Type 0 where
  pub i : ℕ
  pub below : i < count
  pub map : BTreeMap ℕ (List ℕ)
  pub is : slice_get maps i ≡ Some map
  pub has : is_some (get nat_cmp map key) ≡ true

-- the keys are those of the first maps
pub record ListsFirst (maps : List (BTreeMap ℕ (List ℕ))) (count : ℕ) (keys : BTreeSet ℕ) : Type 0 where
  pub sound : (key : ℕ) → IsTrue (contains nat_cmp keys key) → HasKey maps count key
  pub complete : (key : ℕ) → HasKey maps count key → IsTrue (contains nat_cmp keys key)

-- the keys are those of all maps
abbrev pub ListsAll : List (BTreeMap ℕ (List ℕ)) → BTreeSet ℕ → Type 0
ListsAll maps keys = ListsFirst maps (length maps) keys
