-- What an image is that was left of what a handle had, and why none was left.
use Rattle.std.proofs.Common.{◌≡◌, ◌⊎◌, ℕ, ◌<◌, List, [], ◌∷◌, Option, None, Some, Contains, inl, inr, sym, ap, subst, ◌∙◌, arith}
use Rattle.std.specs.Prelude.{◌↔◌, slice_index}
use Rattle.std.proofs.Math.Path.{fun_ext}
use Rattle.heap_model.specs.Geometry.{clean}
use Rattle.heap_model.specs.Header.{state_of}
use Rattle.heap_model.specs.Image.{Image, image_of_bytes}
use Rattle.heap_model.proofs.MemberLemmas.{in_head, in_rest}
use Rattle.region_header.specs.Words.{AreWordsOf}
use Rattle.dict_model.specs.Links.{shards}
use Rattle.dict_model.specs.Nodes.{shard_of}
use Rattle.dict_model.specs.Shards.{Map, MapOf}
use Rattle.dict_model.proofs.ShardLemmas.{one_map_of}
use Rattle.run_model.specs.Arrivals.{IsWholeMap}
use Rattle.dictionary_heap.specs.Faults.{TellsFault}
use Rattle.dictionary_heap.specs.Images.{current_image}
use Rattle.c_dictionary.specs.declared.fault.Fault.{Fault}
use Rattle.c_dictionary.specs.declared.images.Taken.{Taken}
use Rattle.c_dictionary.specs.declared.store.Store.{Store}
use Rattle.c_dictionary.specs.Dictionary.{Holds}
use Rattle.c_dictionary.specs.Faults.{IsRefused}
use Rattle.c_dictionary.specs.Images.{HasOtherLength, IsImageOf, IsScrambledBy, LeavesImage, OpensBytes, OpensWords}
use Rattle.c_dictionary.specs.Passing.{Becomes, HasHalted}
use Rattle.c_dictionary.specs.Ready.{HasStopped, IsSound}
use Rattle.c_dictionary.specs.Taking.{IsTaken, IsNotTaken}
use Rattle.c_dictionary.proofs.EmptyLemmas.{only_memory}
use Rattle.region_header.proofs.WordBytes.{image_of_words}

-- a shard of a sound dictionary is a map in each of its images
shard_map : (s : Store) (words : List ℕ) → IsSound s → IsImageOf s words → (shard : ℕ) → shard < shards
    → (map : Map) × MapOf (current_image words) shard map
shard_map s words sound image shard small =
    let has = sound.maps shard small in
    elim (image.either shard has.one has.other small has.either) as (λ _. (map : Map) × MapOf (current_image words) shard map) [
      | inl is ↦ (has.one, is)
      | inr is ↦ (has.other, is)
    ]

-- there is one whole map
one_whole : (image : Image) (a b : Map) → IsWholeMap image a → IsWholeMap image b → a ≡ b
one_whole image a b is_a is_b = fun_ext (λ key.
    let p = is_a.each key in let q = is_b.each key in
    sym p.2 ∙ one_map_of image (shard_of key) p.0 q.0 p.1 q.1 key ∙ q.2)

module _ (old : Option Store) (size : ℕ) where
  -- it was taken, and these words were left of it
  module _ (taken : Taken) (is : IsTaken old size taken) where
    pub not_none : old ≡ None → ⊥
    not_none none = let some = is.had in absurd (cc)

    pub not_other : HasOtherLength old size → ⊥
    not_other other = other.other (ap length_in (sym other.has ∙ is.had) ∙ is.long) where
      length_in : Option Store → ℕ
      length_in None = 0
      length_in (Some s) = s.length

    module _ (words bytes : List ℕ) (are : AreWordsOf words bytes) (image : IsImageOf taken.store words) where
      pub leaves : LeavesImage old bytes
      leaves = record { store = taken.store; had = is.had; words = words; are = are; image = image }

      pub state_in : (state : ℕ) → state_of (slice_index words) ≡ state → state_of (image_of_bytes bytes) ≡ state
      state_in state at = ap state_of (sym (image_of_words words bytes are)) ∙ at

      pub clean_in : HasStopped taken.store ⊎ (state_of (slice_index words) ≡ clean)
          → HasHalted old ⊎ (state_of (image_of_bytes bytes) ≡ clean)
      clean_in (inl stopped) = inl (record { store = taken.store; has = is.had; stopped = stopped })
      clean_in (inr at) = inr (state_in clean at)

      pub scrambled_in : (seed : ℕ) → IsScrambledBy seed (slice_index words) → IsScrambledBy seed (image_of_bytes bytes)
      scrambled_in seed by = subst (IsScrambledBy seed) (image_of_words words bytes are) by

      -- and it was opened over them again
      pub again_bytes : (new : Option Store) → OpensWords words new → OpensBytes bytes new
      again_bytes new opens = record { words = words; are = are; opens = opens }

      pub again_same : (new : Option Store) → OpensWords words new → Becomes (λ map. map) old new
      again_same new opens = record {
        before = taken.store;
        after = opens.store;
        had = is.had;
        has = opens.has;
        turns = λ map holds. subst (λ (m : Map). Holds m opens.store)
            (one_whole (current_image words) opens.opened.map map opens.opened.whole (image.whole map holds)) opens.opened.holds;
      }

      pub again_memory : (status : ℕ) (from to : Fault) → IsRefused (TellsFault words) status from to → (status ≡ 3) × (to ≡ from)
      again_memory = only_memory words image.good (shard_map taken.store words is.held.sound image)

  -- it was not
  module _ (status : ℕ) where
    pub not_zero : IsNotTaken old size status → status ≡ 0 → ⊥
    not_zero (inl p) e = let two = p.0 in omega arith
    not_zero (inr p) e = let room = p.0 in omega arith

    pub not_three : IsNotTaken old size status → status ≡ 3 → ⊥
    not_three (inl p) e = let two = p.0 in omega arith
    not_three (inr p) e = let room = p.0 in omega arith

    pub is_usage : IsNotTaken old size status → (status ≡ 2) ↔ (old ≡ None)
    is_usage (inl p) = ((λ _. p.1), (λ _. p.0))
    is_usage (inr p) = ((λ e. absurd (let room = p.0 in omega arith)), (λ none. absurd (let some = p.1.has in cc)))

    pub is_room : IsNotTaken old size status → (status ≡ 13) ↔ HasOtherLength old size
    is_room (inl p) = ((λ e. absurd (let two = p.0 in omega arith)), (λ other. absurd (let none = p.1 in let some = other.has in cc)))
    is_room (inr p) = ((λ _. p.1), (λ _. p.0))

    pub is_answer : IsNotTaken old size status → Contains (0 ∷ 2 ∷ 13 ∷ []) status
    is_answer (inl p) = subst (Contains (0 ∷ 2 ∷ 13 ∷ [])) (sym p.0) (in_rest 0 2 (2 ∷ 13 ∷ []) (in_head 2 (13 ∷ [])))
    is_answer (inr p) = subst (Contains (0 ∷ 2 ∷ 13 ∷ [])) (sym p.0)
        (in_rest 0 13 (2 ∷ 13 ∷ []) (in_rest 2 13 (13 ∷ []) (in_head 13 [])))

    pub is_answer_too : IsNotTaken old size status → Contains (0 ∷ 2 ∷ 3 ∷ 13 ∷ []) status
    is_answer_too (inl p) = subst (Contains (0 ∷ 2 ∷ 3 ∷ 13 ∷ [])) (sym p.0) (in_rest 0 2 (2 ∷ 3 ∷ 13 ∷ []) (in_head 2 (3 ∷ 13 ∷ [])))
    is_answer_too (inr p) = subst (Contains (0 ∷ 2 ∷ 3 ∷ 13 ∷ [])) (sym p.0)
        (in_rest 0 13 (2 ∷ 3 ∷ 13 ∷ []) (in_rest 2 13 (3 ∷ 13 ∷ []) (in_rest 3 13 (13 ∷ []) (in_head 13 []))))

-- a status that is 0 or 3 is an answer
pub two_answers : (status : ℕ) → (status ≡ 0) ⊎ (status ≡ 3) → Contains (0 ∷ 2 ∷ 3 ∷ 13 ∷ []) status
two_answers status (inl e) = subst (Contains (0 ∷ 2 ∷ 3 ∷ 13 ∷ [])) (sym e) (in_head 0 (2 ∷ 3 ∷ 13 ∷ []))
two_answers status (inr e) =
    subst (Contains (0 ∷ 2 ∷ 3 ∷ 13 ∷ [])) (sym e) (in_rest 0 3 (2 ∷ 3 ∷ 13 ∷ []) (in_rest 2 3 (3 ∷ 13 ∷ []) (in_head 3 (13 ∷ []))))

pub format_answers : (status : ℕ) → (status ≡ 0) ⊎ (status ≡ 3) → Contains (0 ∷ 2 ∷ 3 ∷ []) status
format_answers status (inl e) = subst (Contains (0 ∷ 2 ∷ 3 ∷ [])) (sym e) (in_head 0 (2 ∷ 3 ∷ []))
format_answers status (inr e) = subst (Contains (0 ∷ 2 ∷ 3 ∷ [])) (sym e) (in_rest 0 3 (2 ∷ 3 ∷ []) (in_rest 2 3 (3 ∷ []) (in_head 3 [])))

pub format_usage : Contains {X = ℕ} (0 ∷ 2 ∷ 3 ∷ []) 2
format_usage = in_rest 0 2 (2 ∷ 3 ∷ []) (in_head 2 (3 ∷ []))
