-- Worked examples: keys that are listed and the least of them, the statuses of faults, a closed handle, and a mixture.
use Rattle.std.specs.Prelude.{◌≡◌, ◌≢◌, ◌⊎◌, ◌||◌, ℕ, zero, suc, false, List, [], ◌∷◌, Option, None, Some, is_some, slice_index, refl}
use Rattle.std.specs.BTreeMap.{is_at}
use Rattle.std.specs.BTreeSet.{BTreeSet, contains}
use Rattle.std.specs.Ordering.{nat_cmp}
use Rattle.std.proofs.Common.{nat_eq, inl, inr, ap, sym, subst, arith, ◌∙◌}
use Rattle.std.proofs.lemmas.Bool.{cases_eq, cases_order, cond-false, lt-ltb, le-ltb, ne_eqb}
use Rattle.heap_model.specs.declared.header.BadHeader.TheVariants.{Version, Kind}
use Rattle.dict_model.specs.Requests.{with_key}
use Rattle.dict_model.specs.Shards.{Map, no_keys}
use Rattle.dictionary_heap.specs.declared.fault.OpenFault.TheVariants.{Header, Outside, BadShard, Memory}
use Rattle.c_dictionary.specs.declared.fault.Fault.{Fault}
use Rattle.c_dictionary.specs.declared.store.Store.{Store}
use Rattle.c_dictionary.specs.Faults.{place_of, status_of, told}
use Rattle.c_dictionary.specs.Images.{length_of, IsMixing}
use Rattle.c_dictionary.specs.Keys.{IsLeastFrom, HasNoneFrom, Lists}
use Rattle.c_dictionary.specs.Ready.{IsStateOf}

-- a map with the keys 3 and 7
abbrev two_keys : Map
two_keys = with_key (with_key no_keys 3 (1 ∷ [])) 7 []

-- another key is missing
missing : (key : ℕ) → 7 ≢ key → 3 ≢ key → two_keys key ≡ None
missing key seven three =
    cond-false (nat_eq 7 key) (Some []) (with_key no_keys 3 (1 ∷ []) key) (ne_eqb 7 key seven)
    ∙ cond-false (nat_eq 3 key) (Some (1 ∷ [])) None (ne_eqb 3 key three)

-- from 0 on 3 is the least, from 4 on 7, and from 8 on there is none
least_of_all : IsLeastFrom 0 two_keys 3
least_of_all = record {
  there = λ e. absurd (cc);
  high = omega arith;
  least_is = λ key from below. missing key (λ e. omega arith) (λ e. omega arith);
}

least_from_four : IsLeastFrom 4 two_keys 7
least_from_four = record {
  there = λ e. absurd (cc);
  high = omega arith;
  least_is = λ key from below. missing key (λ e. omega arith) (λ e. omega arith);
}

none_from_eight : HasNoneFrom 8 two_keys
none_from_eight = λ key from. missing key (λ e. omega arith) (λ e. omega arith)

-- 7 is not the least from 3 on
not_the_least : IsLeastFrom 3 two_keys 7 → ⊥
not_the_least least = let none : ◌≡◌ {A = Option (List ℕ)} (Some (1 ∷ [])) None = least.least_is 3 (omega arith) (omega arith) in absurd (cc)

-- what C is told of a bad header, of a pointer to no block, of a shard without a map, and of want of memory
abbrev blank : Fault
blank = record { cause = 0; shard = 0; at = 0; value = 0 }

bad_version : (status_of (Header Version) ≡ 7) × (told (Header Version) blank ≡ record blank { cause = 3 })
bad_version = (refl, refl)

last_cause : place_of Kind ≡ 8
last_cause = refl

root_outside : (status_of (Outside 40 90) ≡ 8) × (told (Outside 40 90) blank ≡ record blank { at = 40; value = 90 })
root_outside = (refl, refl)

shard_three : (status_of (BadShard 3 43) ≡ 9) × (told (BadShard 3 43) blank ≡ record blank { shard = 3; at = 43 })
shard_three = (refl, refl)

no_memory : (status_of Memory ≡ 3) × (told Memory blank ≡ blank)
no_memory = (refl, refl)

-- a handle without a dictionary
abbrev nothing : Option Store
nothing = None

no_length : length_of nothing ≡ 0
no_length = refl

closed_at_zero : IsStateOf 0 nothing
closed_at_zero = refl

closed_at_no_other : IsStateOf 1 nothing → ⊥
closed_at_no_other is = omega arith

-- the keys 3 and 7 are listed, and no others
abbrev both_listed : BTreeSet ℕ
both_listed = record { keys = 3 ∷ 7 ∷ [] }

not_at : (key k : ℕ) → k ≢ key → is_at (nat_cmp key) k ≡ false
not_at key k other = elim (cases_order key k) as (λ _. is_at (nat_cmp key) k ≡ false) [
  | inl same ↦ absurd (other (sym same))
  | inr (inl below) ↦ rw (lt-ltb key k below) refl
  | inr (inr above) ↦ rw (le-ltb key k (omega arith)) (rw (ne_eqb key k (λ e. other (sym e))) refl)
]

listed : (key : ℕ) → (7 ≡ key) ⊎ (7 ≢ key) → (3 ≡ key) ⊎ (3 ≢ key) → contains nat_cmp both_listed key ≡ is_some (two_keys key)
listed key (inl seven) three = subst (λ k. contains nat_cmp both_listed k ≡ is_some (two_keys k)) seven refl
listed key (inr seven) (inl three) = subst (λ k. contains nat_cmp both_listed k ≡ is_some (two_keys k)) three refl
listed key (inr seven) (inr three) =
    ap (λ b. b || (is_at (nat_cmp key) 7 || false)) (not_at key 3 three) ∙ ap (λ b. b || false) (not_at key 7 seven)
    ∙ sym (ap is_some (missing key seven three))

lists_both : Lists both_listed two_keys
lists_both = record { each = λ key. listed key (cases_eq 7 key) (cases_eq 3 key) }

-- of the two words loads saw the first, and the second is as it was
mixes_two : IsMixing (1 ∷ 2 ∷ []) (3 ∷ 4 ∷ []) (1 ∷ 4 ∷ [])
mixes_two = record { long = refl; mixes = record { each = each } } where
  each : (word : ℕ) → (slice_index (1 ∷ 4 ∷ []) word ≡ slice_index (1 ∷ 2 ∷ []) word)
      ⊎ (slice_index (1 ∷ 4 ∷ []) word ≡ slice_index (3 ∷ 4 ∷ []) word)
  each zero = inl refl
  each (suc zero) = inr refl
  each (suc (suc n)) = inl refl
