-- The image of an empty heap is opened as a dictionary without keys.
use Rattle.std.proofs.Common.{◌≡◌, ℕ, ◌*◌, ◌<◌, ◌≤◌, inr, List, length, Option, Some, refl, sym, ap, subst, ◌∙◌, arith}
use Rattle.std.specs.Prelude.{slice_index, cond, nat_lt}
use Rattle.std.proofs.Math.Path.{fun_ext}
use Rattle.std.proofs.lemmas.Bool.{lt-ltb, cond-true, cond_both}
use Rattle.heap_model.specs.Geometry.{largest_capacity, root_word, kind_word, image_words}
use Rattle.heap_model.specs.Header.{empty_words, first_kinds, HasKindsBelow, IsWellFormed, capacity_of, kinds_of}
use Rattle.heap_model.specs.Image.{Image}
use Rattle.heap_model.specs.Reach.{IsOutsideIn}
use Rattle.heap_model.proofs.EmptyLemmas.{first_kind, empty_word, empty_kind, empty_formed, empty_capacity}
use Rattle.heap_model.proofs.HeaderLemmas.{no_fault}
use Rattle.region_header.specs.Migration.{current_words}
use Rattle.region_header.proofs.EmptyKinds.{null_roots}
use Rattle.dict_model.specs.Links.{shards, dict_links, kind_count}
use Rattle.dict_model.specs.Nodes.{shard_of}
use Rattle.dict_model.specs.Shards.{Map, MapOf, is_empty, no_keys}
use Rattle.dict_model.proofs.ShardLemmas.{no_bad_shard, one_map_of}
use Rattle.run_model.specs.Arrivals.{IsWholeMap}
use Rattle.dictionary_heap.specs.Faults.{TellsFault}
use Rattle.dictionary_heap.specs.Images.{current_image, CanBeRecovered}
use Rattle.dictionary_heap.specs.declared.fault.OpenFault.{OpenFault}
use Rattle.dictionary_heap.specs.declared.fault.OpenFault.TheVariants.{Header, Outside, BadShard, Memory}
use Rattle.c_dictionary.specs.declared.fault.Fault.{Fault}
use Rattle.c_dictionary.specs.declared.store.Store.{Store}
use Rattle.c_dictionary.specs.Dictionary.{Holds}
use Rattle.c_dictionary.specs.Faults.{IsRefused, status_of, told}
use Rattle.c_dictionary.specs.Images.{OpensWords, OpensEmpty}
use Rattle.c_dictionary.proofs.ImageLemmas.{current_is}
use Rattle.dict_requests.proofs.DeleteLemmas.{shard_below}

-- a fault of an image that can be recovered, and whose shards are maps, is want of memory
pub only_memory : (words : List ℕ) → CanBeRecovered words → ((shard : ℕ) → shard < shards → (map : Map) × MapOf (current_image words) shard map)
    → (status : ℕ) (old new : Fault) → IsRefused (TellsFault words) status old new → (status ≡ 3) × (new ≡ old)
only_memory words good maps status old new refused = by_fault refused.fault refused.is_so refused.status_is refused.told_is where
  by_fault : (fault : OpenFault) → TellsFault words fault → status ≡ status_of fault → new ≡ told fault old → (status ≡ 3) × (new ≡ old)
  by_fault (Header cause) tells at is = absurd (let none = good.header in cc)
  by_fault (Outside place value) tells at is = absurd (good.inside place tells.1)
  by_fault (BadShard shard place) tells at is =
      let lowest = tells.1 in
      let map = maps shard lowest.0 in
      absurd (no_bad_shard (current_image words) shard place map.0 map.1 lowest.1)
  by_fault Memory tells at is = (at, is)

module _ (capacity : ℕ) (some : 1 ≤ capacity) (small : capacity ≤ largest_capacity) where
  abbrev image : Image
  image = slice_index (empty_words capacity)

  formed : IsWellFormed (8 * length (empty_words capacity)) image
  formed = empty_formed capacity some small

  null_root : (shard : ℕ) → shard < shards → image (root_word shard) ≡ 0
  null_root shard below = empty_word capacity (root_word shard) (omega arith) (omega arith)

  kind_is : (i : ℕ) → kinds_of image i ≡ cond (nat_lt i 8) 1 0
  kind_is i = ap (λ c. image (kind_word c i)) (empty_capacity capacity) ∙ empty_kind capacity i ∙ first_kind i

  kinds_below : HasKindsBelow (Some kind_count) image
  kinds_below = λ i below. subst (λ n. n < kind_count) (sym (kind_is i))
      (cond_both (nat_lt i 8) 1 0 (λ n. n < kind_count) (λ _. omega arith) (λ _. omega arith))

  same : current_words (empty_words capacity) first_kinds ≡ empty_words capacity
  same = current_is (empty_words capacity) formed.version_is

  pub empty_good : CanBeRecovered (empty_words capacity)
  empty_good = record {
    header = no_fault (Some kind_count) (8 * length (empty_words capacity)) image (inr (formed, kinds_below));
    inside = subst (λ (ws : List ℕ). (at : ℕ) → IsOutsideIn (slice_index ws) dict_links at → ⊥) (sym same)
        ((null_roots image (λ root below. empty_word capacity (root_word root) (omega arith) (omega arith))).none_outside dict_links);
  }

  -- each shard is the map without keys, and no other
  empty_shard : (shard : ℕ) → shard < shards → MapOf image shard no_keys
  empty_shard shard below = record {
    kind_is = kind_is shard ∙ cond-true (nat_lt shard 8) 1 0 (lt-ltb shard 8 below);
    is_map = is_empty (null_root shard below) (λ key. refl);
  }

  current_shard : (shard : ℕ) → shard < shards → MapOf (current_image (empty_words capacity)) shard no_keys
  current_shard shard below = subst (λ (ws : List ℕ). MapOf (slice_index ws) shard no_keys) (sym same) (empty_shard shard below)

  pub empty_maps : (shard : ℕ) → shard < shards → (map : Map) × MapOf (current_image (empty_words capacity)) shard map
  empty_maps shard below = (no_keys, current_shard shard below)

  only_empty : (map : Map) → IsWholeMap (current_image (empty_words capacity)) map → map ≡ no_keys
  only_empty map whole = fun_ext (λ key.
      let p = whole.each key in
      sym p.2 ∙ one_map_of (current_image (empty_words capacity)) (shard_of key) p.0 no_keys p.1
      (current_shard (shard_of key) (shard_below key)) key)

  -- so what is opened over it has no keys
  pub opens_empty : (new : Option Store) → OpensWords (empty_words capacity) new → OpensEmpty capacity new
  opens_empty new opens =
      let is = opens.opened in
      record {
        store = opens.store;
        has = opens.has;
        empty = subst (λ (m : Map). Holds m opens.store) (only_empty is.map is.whole) is.holds;
        long = is.long ∙ ap (λ (ws : List ℕ). 8 * image_words (capacity_of (slice_index ws))) same
            ∙ ap (λ n. 8 * image_words n) (empty_capacity capacity);
      }

pub fits : (n : ℕ) → n ≤ 4096 → n ≤ largest_capacity
unfolding largest_capacity
fits n below = below
