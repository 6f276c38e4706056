-- A dictionary that was opened is the map of the image.
use Rattle.std.proofs.Common.{◌≡◌, ◌≢◌, ℕ, ◌*◌, inl, inr, List, length, Bool, true, false, nat_eq, Option, None, Some, refl, sym}
use Rattle.std.proofs.Common.{ap, subst, ◌∙◌, arith}
use Rattle.std.specs.Prelude.{is_some}
use Rattle.std.specs.BTreeMap.{BTreeMap, get}
use Rattle.std.specs.BTreeSet.{BTreeSet, contains}
use Rattle.std.specs.Ordering.{nat_cmp}
use Rattle.std.proofs.lemmas.Bool.{cases_eq, cond-false, ne_eqb}
use Rattle.heap_model.specs.Geometry.{capacity_word, image_words}
use Rattle.heap_model.specs.Header.{capacity_of}
use Rattle.heap_model.specs.Image.{Image}
use Rattle.heap_model.specs.Recovery.{in_header}
use Rattle.line_memory.specs.View.{View}
use Rattle.block_heap.specs.Closing.{IsOpened}
use Rattle.block_heap.specs.Laws.{keeps_none_law}
use Rattle.block_heap.specs.SeqState.{SeqState, seat_of}
use Rattle.dict_model.specs.Links.{shards}
use Rattle.dict_model.specs.Nodes.{shard_of}
use Rattle.dict_model.specs.Shards.{Map, MapOf, IsMap, is_empty, has_table, Leading}
use Rattle.dict_model.proofs.ShardLemmas.{one_map_of}
use Rattle.dictionary.specs.Reading.{AreMaps}
use Rattle.run_model.specs.Arrivals.{IsWholeMap}
use Rattle.dictionary_heap.specs.Images.{current_image}
use Rattle.dictionary_heap.specs.Opened.{GivesMapsOf, IsDictionaryOf}
use Rattle.dictionary_heap.specs.declared.recovering.RecoveredDictionary.{RecoveredDictionary}
use Rattle.dictionary_heap.proofs.OpenedLemmas.{opened_shards, opened_maps, all_reached}
use Rattle.c_dictionary.specs.Dictionary.{GivesWhole, Holds}
use Rattle.c_dictionary.specs.Keys.{Lists, ListsAll}
use Rattle.c_dictionary.specs.Images.{IsMapOf}
use Rattle.c_dictionary.specs.Ready.{HasAllSteps, IsReady, IsSound}
use Rattle.c_dictionary.specs.declared.store.Store.{Store}
use Rattle.c_dictionary.proofs.KeyLemmas.{some_same}
use Rattle.dict_requests.proofs.DeleteLemmas.{shard_below}

-- a key of a shard's map belongs to the shard
own_key : (leads : Leading) (image : Image) (shard : ℕ) (map : Map) → IsMap leads image shard map → (key : ℕ) → map key ≢ None → shard_of
    key ≡ shard
own_key leads image shard map (is_empty null none) key some = absurd (some (none key))
own_key leads image shard map (has_table table nodes there chains means) key some =
    elim (cases_eq (shard_of key) shard) as (λ _. shard_of key ≡ shard) [
      | inl same ↦ same
      | inr other ↦ absurd (some (means key ∙ cond-false (nat_eq (shard_of key) shard) _ None (ne_eqb (shard_of key) shard other)))
    ]

none_or : (o : Option (List ℕ)) → is_some o ≡ true → o ≢ None
none_or None some = λ e. absurd (cc)
none_or (Some value) some = λ e. absurd (cc)

same_option : (a b : Bool) → (a ≡ true → b ≡ true) → (b ≡ true → a ≡ true) → a ≡ b
same_option true b there back = sym (there refl)
same_option false true there back = back refl
same_option false false there back = refl

module _ (image : Image) (s : SeqState) (maps : GivesMapsOf image (seat_of s)) where
  -- the map of all keys
  abbrev pub whole : Map
  whole key = (maps.each (shard_of key) (shard_below key)).0 key

  pub whole_is : IsWholeMap image whole
  whole_is = record { each = λ key. let p = maps.each (shard_of key) (shard_below key) in (p.0, p.1, refl) }

  -- a map of a shard has of its keys what the whole map has
  pub part_is : (shard : ℕ) (part : Map) → MapOf image shard part → (key : ℕ) → shard_of key ≡ shard → part key ≡ whole key
  part_is shard part is key same =
      let p = maps.each (shard_of key) (shard_below key) in
      one_map_of image (shard_of key) part p.0 (subst (λ n. MapOf image n part) (sym same) is) p.1 key

  pub gives : GivesWhole (seat_of s) whole
  gives = record {
    each = λ shard small. let p = maps.each shard small in record { part = p.0; gives = p.2; same = part_is shard p.0 p.1 };
  }

  -- the keys of all maps are its keys
  pub listed : (found : List (BTreeMap ℕ (List ℕ))) (keys : BTreeSet ℕ) → AreMaps image shards found → ListsAll found keys → Lists keys whole
  listed found keys are all = record { each = λ key. same_option (contains nat_cmp keys key) (is_some (whole key)) (there key) (back key) } where
    there : (key : ℕ) → contains nat_cmp keys key ≡ true → is_some (whole key) ≡ true
    there key has =
        let from = all.sound key has in
        let m = are.each from.i (let few = from.below in let long = are.long in omega arith) in
        let same_map : m.0 ≡ from.map = some_same m.0 from.map (sym m.1 ∙ from.is) in
        let is : MapOf image from.i (get nat_cmp from.map) = subst (λ (b : BTreeMap ℕ (List ℕ)). MapOf image from.i (get nat_cmp b)) same_map m.2 in
        let own = own_key _ image from.i (get nat_cmp from.map) is.is_map key (none_or (get nat_cmp from.map key) from.has) in
        ap is_some (sym (part_is from.i (get nat_cmp from.map) is key own)) ∙ from.has

    back : (key : ℕ) → is_some (whole key) ≡ true → contains nat_cmp keys key ≡ true
    back key some =
        let m = are.each (shard_of key) (shard_below key) in
        all.complete key (record {
          i = shard_of key;
          below = let few = shard_below key in let long = are.long in omega arith;
          map = m.0;
          is = m.1;
          has = ap is_some (part_is (shard_of key) (get nat_cmp m.0) m.2 key refl) ∙ some;
        })

-- what was recovered, opened
module _ (words : List ℕ) (found : RecoveredDictionary) (is : IsDictionaryOf (current_image words) found) (s : Store) (budget : ℕ)
    (opened : IsOpened found.heap.words found.heap.held budget s.heap)
    (all : ListsAll found.maps.items s.keys) (length_is : s.length ≡ 8 * length found.heap.words) where
  maps : GivesMapsOf (current_image words) (seat_of s.heap)
  maps = opened_maps found.heap.words found.heap.held budget s.heap opened is.dictionary (current_image words) is.recovers

  holds : Holds (whole (current_image words) s.heap maps) s
  holds = record {
    gives = gives (current_image words) s.heap maps;
    listed = listed (current_image words) s.heap maps found.maps.items s.keys is.maps_are all;
  }

  -- recovery leaves the capacity
  long : s.length ≡ 8 * image_words (capacity_of (current_image words))
  long =
      length_is ∙ is.ready.formed.length_is
      ∙ ap (λ n. 8 * image_words n) (is.recovers.recovered.same capacity_word (in_header capacity_word (inr (inr (inl refl)))))

  pub opened_words : IsMapOf words s
  opened_words = record {
    maps = maps;
    map = whole (current_image words) s.heap maps;
    whole = whole_is (current_image words) s.heap maps;
    holds = holds;
    long = long;
  }

  pub opened_ready : IsReady s
  opened_ready = record {
    running = opened.stopped;
    shards = opened_shards found.heap.words found.heap.held budget s.heap opened is.dictionary;
    map = whole (current_image words) s.heap maps;
    holds = holds;
  }

  pub opened_sound : IsSound s
  opened_sound = record {
    words = found.heap.words;
    held = found.heap.held;
    budget = budget;
    begun = s.heap;
    at_rest = is.ready;
    dictionary = is.dictionary;
    opened = opened;
    keeps = keeps_none_law s.heap;
    length_is = length_is;
    only = (all_reached found.heap.words found.heap.held budget s.heap opened is.dictionary).only;
    maps = λ shard small.
        let p = maps.each shard small in
        record { one = p.0; other = p.0; either = record { each = λ image mixes. inl (p.2.each image mixes) } };
  }

  pub opened_steps : HasAllSteps budget s
  opened_steps = record {
    budget_is = ap (λ (m : View). m.budget) opened.opens.words_are;
    none = ap (λ (m : View). m.drawn) opened.opens.words_are;
  }
