-- The entries of the maps of eight shards, sorted by key, are the keys of the image with their values, each once.
use Rattle.std.proofs.Common.{◌≡◌, ◌≢◌, ℕ, zero, suc, ◌<◌, ◌≤◌, List, [], ◌∷◌, length, get_or, map, slice_get, None, Some, nat_eq, sym, ap, ◌∙◌, subst, inl, inr, arith}
use Rattle.std.specs.Prelude.{Contains, AllPairs}
use Rattle.std.specs.List.{flat_map}
use Rattle.std.specs.List.Sorted.{IsPermutation, IsNonDecreasingBy}
use Rattle.std.specs.BTreeMap.{BTreeMap, get, keys, IsOrdered}
use Rattle.std.specs.Ordering.{nat_cmp}
use Rattle.std.proofs.lemmas.Bool.Decides.{Decides-eqb}
use Rattle.std.proofs.lemmas.Bool.{cases_eq, cond-false, ne_eqb}
use Rattle.std.proofs.lemmas.Cmp.{nat_cmp_total, nat_eq_equiv}
use Rattle.std.proofs.lemmas.List.{get_or-map, length-map}
use Rattle.std.proofs.lemmas.List.Elements.{Contains-append_left, Contains-append_right, Contains-append_cases}
use Rattle.std.proofs.lemmas.List.Sorted.{Contains-permutation, IsPermutation-sym, IsPermutation-map}
use Rattle.std.proofs.lemmas.Map.Keys.{below_from_sorted, IsDistinct-IsPermutation}
use Rattle.std.proofs.lemmas.Map.Made.{AllPairs-from_IsDistinct, IsDistinct-from_AllPairs}
use Rattle.std.proofs.lemmas.Map.Lookups.{exact_unsigned}
use Rattle.std.proofs.lemmas.Map.Views.{btree_map_get_iff}
use Rattle.heap_model.specs.Image.{Image}
use Rattle.heap_model.specs.Recovered.{AreAscending}
use Rattle.heap_recover.proofs.AscendingLemmas.{all_pairs_append}
use Rattle.dict_model.specs.Links.{shards}
use Rattle.dict_model.specs.Nodes.{shard_of, bucket_of, find}
use Rattle.dict_model.specs.Shards.{Map, IsMap, MapOf, LeadsAlone, is_empty, has_table}
use Rattle.dict_model.proofs.ShardLemmas.{one_map_of}
use Rattle.dictionary.specs.Reading.{AreMaps}
use Rattle.trace_text.specs.Keys.{Entries, AreEntries}
use Rattle.image_run.specs.Reporting.{IsEntryOf}

-- numbers that differ do so in any order
pub still_once : (xs ys : List ℕ) → IsPermutation xs ys → AllPairs (λ x y. x ≢ y) xs → AllPairs (λ x y. x ≢ y) ys
still_once xs ys moved once =
    AllPairs-from_IsDistinct Decides-eqb ys (IsDistinct-IsPermutation nat_eq nat_eq_equiv.symm xs ys moved (IsDistinct-from_AllPairs Decides-eqb xs once))

abbrev KeyMap : Type 0
KeyMap = BTreeMap ℕ (List ℕ)

abbrev Entry : Type 0
Entry = ℕ × List ℕ

-- the entries of maps, one map after the other
abbrev entries_of : List KeyMap → Entries
entries_of maps = flat_map (λ (m : KeyMap). m.entries) maps

-- no two of the entries have the same key
abbrev AreApart : Entries → Type 0
AreApart entries = AllPairs (λ (x y : Entry). x.0 ≢ y.0) entries

-- each of the maps is as is said of its place
abbrev Each : (ℕ → KeyMap → Type 0) → List KeyMap → Type 0
Each P maps = (i : ℕ) → i < length maps → (m : KeyMap) × (slice_get maps i ≡ Some m) × P i m

-- an entry is in one of the maps
record IsIn (P : ℕ → KeyMap → Type 0) (entry : Entry) : Type 0 where
  place : ℕ
  from : KeyMap
  is : P place from
  has : Contains from.entries entry

first_is : (P : ℕ → KeyMap → Type 0) (m : KeyMap) (maps : List KeyMap) → Each P (m ∷ maps) → P 0 m
first_is P m maps each =
    let first = each 0 (omega arith) in
    let found : Some m ≡ Some first.0 = first.1 in
    let same : m ≡ first.0 = cc in
    subst (λ (n : KeyMap). P 0 n) (sym same) first.2

others_are : (P : ℕ → KeyMap → Type 0) (m : KeyMap) (maps : List KeyMap) → Each P (m ∷ maps) → Each (λ i. P (suc i)) maps
others_are P m maps each i below = each (suc i) (omega arith)

is_in : (P : ℕ → KeyMap → Type 0) (maps : List KeyMap) (entry : Entry) → Each P maps → Contains (entries_of maps) entry → IsIn P entry
is_in P [] entry each has = absurd (let below = has.1 in omega arith)
is_in P (m ∷ maps) entry each has = elim (Contains-append_cases m.entries (entries_of maps) entry has) as (λ _. IsIn P entry) [
  | inl first ↦ record { place = 0; from = m; is = first_is P m maps each; has = first }
  | inr later ↦
      let there = is_in (λ i. P (suc i)) maps entry (others_are P m maps each) later in
      record { place = suc there.place; from = there.from; is = there.is; has = there.has }
]

is_among : (maps : List KeyMap) (i : ℕ) (m : KeyMap) (entry : Entry) → slice_get maps i ≡ Some m → Contains m.entries entry
    → Contains (entries_of maps) entry
is_among [] i m entry at has = let none : None ≡ Some m = at in absurd (cc)
is_among (n ∷ maps) zero m entry at has =
    let found : Some n ≡ Some m = at in
    let same : n ≡ m = cc in
    Contains-append_left n.entries (entries_of maps) entry (subst (λ (x : KeyMap). Contains x.entries entry) (sym same) has)
is_among (n ∷ maps) (suc i) m entry at has = Contains-append_right n.entries (entries_of maps) entry (is_among maps i m entry at has)

-- the keys of a map in order are apart
apart_in : (m : KeyMap) → IsOrdered nat_cmp m → AreApart m.entries
apart_in m ordered i j d before within = λ same.
    let long = length-map m.entries (λ (e : Entry). e.0) in
    let low = get_or-map (λ (e : Entry). e.0) m.entries i d d.0 (omega arith) in
    let high = get_or-map (λ (e : Entry). e.0) m.entries j d d.0 within in
    let less : get_or (keys m) i d.0 < get_or (keys m) j d.0 = below_from_sorted (keys m) i j d.0 ordered before (omega arith) in
    omega arith

-- and so are those of maps that have no key in common
apart : (P : ℕ → KeyMap → Type 0) → ((i : ℕ) (m : KeyMap) → P i m → IsOrdered nat_cmp m)
    → ((i j : ℕ) (m n : KeyMap) (x y : Entry) → i < j → P i m → P j n → Contains m.entries x → Contains n.entries y → x.0 ≢ y.0)
    → (maps : List KeyMap) → Each P maps → AreApart (entries_of maps)
apart P ordered across [] each = λ i j d before within. absurd (omega arith)
apart P ordered across (m ∷ maps) each =
    let here = first_is P m maps each in
    let rest = others_are P m maps each in
    all_pairs_append (λ (x y : Entry). x.0 ≢ y.0) m.entries (entries_of maps) (apart_in m (ordered 0 m here))
    (apart (λ i. P (suc i)) (λ i. ordered (suc i)) (λ i j n o x y less. across (suc i) (suc j) n o x y (omega arith)) maps rest)
    (λ x y in_m later. let there = is_in (λ i. P (suc i)) maps y rest later in
    across 0 (suc there.place) m there.from x y (omega arith) here there.is in_m there.has)

-- keys that are apart ascend strictly once they are sorted
rising : (xs ys : Entries) → IsPermutation xs ys → IsNonDecreasingBy (λ (e : Entry). e.0) ys → AreApart xs → AllPairs (λ (x y : Entry). x.0 < y.0) ys
rising xs ys moved sorted once i j d before within =
    let key : Entry → ℕ = λ (e : Entry). e.0 in
    let keys_apart : AllPairs (λ x y. x ≢ y) (map (λ (e : Entry). e.0) xs) = λ s t k less below. λ same.
    let long = length-map xs (λ (e : Entry). e.0) in
    once s t (k, []) less (omega arith) (sym (get_or-map (λ (e : Entry). e.0) xs s (k, []) k (omega arith)) ∙ same
    ∙ get_or-map (λ (e : Entry). e.0) xs t (k, []) k (omega arith)) in
    let still : AllPairs (λ x y. x ≢ y) (map (λ (e : Entry). e.0) ys) =
    still_once (map (λ (e : Entry). e.0) xs) (map (λ (e : Entry). e.0) ys) (IsPermutation-map (λ (e : Entry). e.0) xs ys moved) keys_apart in
    let long = length-map ys (λ (e : Entry). e.0) in
    let low : (get_or ys i d).0 ≤ (get_or ys j d).0 = sorted i j d (omega arith) within in
    elim (cases_eq (get_or ys i d).0 (get_or ys j d).0) as (λ _. (get_or ys i d).0 < (get_or ys j d).0) [
      | inl same ↦ absurd (still i j d.0 before (omega arith)
          (get_or-map (λ (e : Entry). e.0) ys i d d.0 (omega arith) ∙ same ∙ sym (get_or-map (λ (e : Entry). e.0) ys j d d.0 within)))
      | inr differ ↦ omega (arith, differ)
    ]

module _ (image : Image) where
  -- a map of a shard has keys of that shard alone
  own_key : (shard : ℕ) (map : Map) (key : ℕ) (value : List ℕ) → MapOf image shard map → map key ≡ Some value → shard_of key ≡ shard
  own_key shard map key value is has = own_in is.is_map where
    own_in : IsMap (LeadsAlone image shard) image shard map → shard_of key ≡ shard
    own_in (is_empty null none) = let never : None ≡ Some value = sym (none key) ∙ has in absurd (cc)
    own_in (has_table table nodes there chains means) = elim (cases_eq (shard_of key) shard) as (λ _. shard_of key ≡ shard) [
      | inl same ↦ same
      | inr other ↦
          let never : None ≡ Some value =
          sym (cond-false (nat_eq (shard_of key) shard) (find image key (nodes (bucket_of key))) None (ne_eqb (shard_of key) shard other))
          ∙ sym (means key) ∙ has in
          absurd (cc)
    ]

  -- the map read of a shard
  record IsRead (shard : ℕ) (m : KeyMap) : Type 0 where
    below : shard < shards
    means : MapOf image shard (get nat_cmp m)
    ordered : IsOrdered nat_cmp m

  found : (shard : ℕ) (m : KeyMap) (entry : Entry) → IsRead shard m → Contains m.entries entry → get nat_cmp m entry.0 ≡ Some entry.1
  found shard m entry read has = (btree_map_get_iff nat_cmp_total exact_unsigned m read.ordered entry.0 entry.1).1 has

  across : (i j : ℕ) (m n : KeyMap) (x y : Entry) → i < j → IsRead i m → IsRead j n → Contains m.entries x → Contains n.entries y → x.0 ≢ y.0
  across i j m n x y less p q in_m in_n = λ same.
      let first = own_key i (get nat_cmp m) x.0 x.1 p.means (found i m x p in_m) in
      let second = own_key j (get nat_cmp n) y.0 y.1 q.means (found j n y q in_n) in
      let one : i ≡ j = sym first ∙ ap shard_of same ∙ second in
      omega arith

  module _ (maps : List KeyMap) (are : AreMaps image shards maps) where
    each : Each IsRead maps
    each i below =
        let low : i < shards = subst (λ n. i < n) are.long below in
        let read = are.each i low in
        (read.0, read.1, record { below = low; means = read.2; ordered = read.3 })

    is_entry : (entry : Entry) → Contains (entries_of maps) entry → IsEntryOf image entry
    is_entry entry has =
        let there = is_in IsRead maps entry each has in
        record {
          shard = there.place;
          below = there.is.below;
          keys = get nat_cmp there.from;
          keys_are = there.is.means;
          has = found there.place there.from entry there.is there.has;
        }

    is_told : (entry : Entry) → IsEntryOf image entry → Contains (entries_of maps) entry
    is_told entry is =
        let read = are.each is.shard is.below in
        let same : get nat_cmp read.0 entry.0 ≡ is.keys entry.0 =
        one_map_of image is.shard (get nat_cmp read.0) is.keys read.2 is.keys_are entry.0 in
        is_among maps is.shard read.0 entry read.1 ((btree_map_get_iff nat_cmp_total exact_unsigned read.0 read.3 entry.0 entry.1).0 (same ∙ is.has))

    pub entries_ascend : (entries : Entries) → AreEntries maps entries → AreAscending (λ (e : Entry). e.0) (IsEntryOf image) entries
    entries_ascend entries sorted = record {
      sound = λ entry has. is_entry entry (Contains-permutation entries (entries_of maps) entry
          (IsPermutation-sym (entries_of maps) entries sorted.all) has);
      complete = λ entry is. Contains-permutation (entries_of maps) entries entry sorted.all (is_told entry is);
      ascending = rising (entries_of maps) entries sorted.all sorted.ascending (apart IsRead (λ i m read. read.ordered) across maps each);
    }
