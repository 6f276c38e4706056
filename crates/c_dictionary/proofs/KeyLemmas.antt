-- Keys that are listed.
use Rattle.std.proofs.Common.{◌≡◌, ◌≢◌, ℕ, ◌+◌, ◌⊎◌, inl, inr, List, [], Bool, true, false, cond, nat_eq, Option, None, Some, refl}
use Rattle.std.proofs.Common.{sym, ap, ◌∙◌, arith}
use Rattle.std.specs.Prelude.{◌||◌, is_some, slice_get}
use Rattle.std.specs.List.{list_any}
use Rattle.std.specs.BTreeMap.{BTreeMap, get, is_at}
use Rattle.std.specs.BTreeSet.{BTreeSet, contains, Updates, IsUnchanged}
use Rattle.std.specs.Ordering.{nat_cmp, eq_by_cmp}
use Rattle.std.proofs.lemmas.Bool.{cases_order, cases_eq, lt-ltb, le-ltb, eq-eqb, ne_eqb, eqb-true, false≢true, or_cases, or_left, or_right}
use Rattle.dict_model.specs.Requests.{with_key, without_key}
use Rattle.dict_model.specs.Shards.{Map}
use Rattle.c_dictionary.specs.Keys.{Lists, HasMore, HasKey, ListsFirst}

pub eq_is : (x y : ℕ) → eq_by_cmp nat_cmp x y ≡ nat_eq x y
eq_is x y = elim (cases_order x y) as (λ _. eq_by_cmp nat_cmp x y ≡ nat_eq x y) [
  | inl same ↦ rw (le-ltb x y (omega arith)) (rw (eq-eqb x y same) refl)
  | inr (inl below) ↦ rw (lt-ltb x y below) (rw (ne_eqb x y (λ e. omega arith)) refl)
  | inr (inr above) ↦ rw (le-ltb x y (omega arith)) (rw (ne_eqb x y (λ e. omega arith)) refl)
]

set_some : (b : Bool) (value : List ℕ) (o : Option (List ℕ)) → cond b true (is_some o) ≡ is_some (cond b (Some value) o)
set_some true value o = refl
set_some false value o = refl

abbrev missing : Option (List ℕ)
missing = None

set_none : (b : Bool) (o : Option (List ℕ)) → cond b false (is_some o) ≡ is_some (cond b missing o)
set_none true o = refl
set_none false o = refl

module _ (old new : BTreeSet ℕ) (key : ℕ) (map : Map) (lists : Lists old map) where
  pub lists_with : (value : List ℕ) → Updates nat_cmp old new key true → Lists new (with_key map key value)
  lists_with value updates = record {
    each = λ q. updates.0 q
        ∙ ap (λ (b : Bool). cond b true (contains nat_cmp old q)) (eq_is key q)
        ∙ ap (λ (b : Bool). cond (nat_eq key q) true b) (lists.each q)
        ∙ set_some (nat_eq key q) value (map q);
  }

  pub lists_without : Updates nat_cmp old new key false → Lists new (without_key map key)
  lists_without updates = record {
    each = λ q. updates.0 q
        ∙ ap (λ (b : Bool). cond b false (contains nat_cmp old q)) (eq_is key q)
        ∙ ap (λ (b : Bool). cond (nat_eq key q) false b) (lists.each q)
        ∙ set_none (nat_eq key q) (map q);
  }

  pub lists_still : IsUnchanged old new → Lists new map
  lists_still same = record { each = λ q. ap (list_any (is_at (nat_cmp q))) same ∙ lists.each q }

-- a key that was added and is taken out again
pub taken_again : (keys : BTreeSet ℕ) (map : Map) (key : ℕ) (value : List ℕ) → is_some (map key) ≡ false
    → Lists keys (without_key (with_key map key value) key) → Lists keys map
taken_again keys map key value none lists = record { each = λ q. lists.each q ∙ same q } where
  at : (b : Bool) (q : ℕ) → nat_eq key q ≡ b → is_some (cond b missing (cond b (Some value) (map q))) ≡ is_some (map q)
  at false q is = refl
  at true q is = sym (ap (λ k. is_some (map k)) (sym (eqb-true key q is)) ∙ none)

  same : (q : ℕ) → is_some (without_key (with_key map key value) key q) ≡ is_some (map q)
  same q = at (nat_eq key q) q refl

-- a key that is missing, taken out
pub lists_absent : (keys : BTreeSet ℕ) (map : Map) (key : ℕ) → map key ≡ None → Lists keys map → Lists keys (without_key map key)
lists_absent keys map key none lists = record { each = λ q. lists.each q ∙ same (nat_eq key q) q refl } where
  same : (b : Bool) (q : ℕ) → nat_eq key q ≡ b → is_some (map q) ≡ is_some (cond b missing (map q))
  same false q is = refl
  same true q is = ap (λ k. is_some (map k)) (sym (eqb-true key q is)) ∙ ap is_some none

-- the keys of the first maps, one map after the other
pub some_same : (a b : BTreeMap ℕ (List ℕ)) → ◌≡◌ {A = Option (BTreeMap ℕ (List ℕ))} (Some a) (Some b) → a ≡ b
some_same a b e = cc

pub none_first : (maps : List (BTreeMap ℕ (List ℕ))) (keys : BTreeSet ℕ) → keys.keys ≡ [] → ListsFirst maps 0 keys
none_first maps keys empty = record {
  sound = λ key has. absurd (false≢true (sym (ap (list_any (is_at (nat_cmp key))) empty) ∙ has));
  complete = λ key has. absurd (let low = has.below in omega arith);
}

module _ (maps : List (BTreeMap ℕ (List ℕ))) (i : ℕ) (map : BTreeMap ℕ (List ℕ)) (is : slice_get maps i ≡ Some map) (old new : BTreeSet ℕ)
    (more : HasMore old map new) (first : ListsFirst maps i old) where
  from_true : (key : ℕ) → (contains nat_cmp old key ≡ true) ⊎ (is_some (get nat_cmp map key) ≡ true) → HasKey maps (i + 1) key
  from_true key (inl was) = let k = first.sound key was in record {
    i = k.i;
    below = (let low = k.below in omega arith);
    map = k.map;
    is = k.is;
    has = k.has;
  }
  from_true key (inr has) = record { i = i; below = omega arith; map = map; is = is; has = has }

  now_true : (key : ℕ) → (k : HasKey maps (i + 1) key) → (k.i ≡ i) ⊎ (k.i ≢ i) → (contains nat_cmp old key || is_some (get nat_cmp map key)) ≡ true
  now_true key k (inl same) =
      let same_map : k.map ≡ map = some_same k.map map (sym k.is ∙ ap (slice_get maps) same ∙ is) in
      or_right (contains nat_cmp old key) (is_some (get nat_cmp map key))
      (ap (λ (m : BTreeMap ℕ (List ℕ)). is_some (get nat_cmp m key)) (sym same_map) ∙ k.has)
  now_true key k (inr differs) =
      or_left (contains nat_cmp old key) (is_some (get nat_cmp map key))
      (first.complete key (record { i = k.i; below = (let low = k.below in omega arith); map = k.map; is = k.is; has = k.has }))

  pub one_more : ListsFirst maps (i + 1) new
  one_more = record {
    sound = λ key has. from_true key (or_cases (contains nat_cmp old key) (is_some (get nat_cmp map key)) (sym (more.each key) ∙ has));
    complete = λ key k. more.each key ∙ now_true key k (cases_eq k.i i);
  }
