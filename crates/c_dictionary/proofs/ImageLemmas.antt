-- The words that are left of a dictionary are an image of it.
use Rattle.std.proofs.Common.{◌≡◌, ℕ, ◌*◌, ◌<◌, ◌≤◌, ◌⊎◌, inl, inr, List, length, Some, refl, sym, ap, subst}
use Rattle.std.proofs.Common.{◌∙◌, arith}
use Rattle.std.specs.Prelude.{slice_index, cond, false}
use Rattle.std.proofs.lemmas.Bool.{ne_eqb}
use Rattle.heap_model.specs.Durability.{Mixes, IsTransient, is_head, is_anchor, is_link, IsCrashImage, IsClosedImage}
use Rattle.heap_model.specs.Geometry.{largest_capacity, version, old_version, clean, dirty, magic_word, version_word, capacity_word}
use Rattle.heap_model.specs.Geometry.{used_word, kind_word, image_words, IsFixed}
use Rattle.heap_model.specs.Header.{IsWellFormed, HasKindsBelow, capacity_of, state_of, used_of, is_old, first_kinds}
use Rattle.heap_model.specs.Image.{Image}
use Rattle.heap_model.proofs.HeaderLemmas.{no_fault}
use Rattle.heap_model.specs.Reach.{IsOutsideIn}
use Rattle.heap_seat.specs.View.{kind_of}
use Rattle.line_memory.specs.Crash.{IsValueOf}
use Rattle.line_memory.specs.View.{word_count, volatile_at, durable_at}
use Rattle.block_heap.specs.Laws.{seat_law, mixed_law, named_law, stored_law}
use Rattle.block_heap.specs.SeqState.{seat_of, MayLeave}
use Rattle.block_heap.proofs.ImageLemmas.{closed_left}
use Rattle.block_heap.proofs.FixedLemmas.{fixed_opened, long_opened, kinds_opened, kinds_left}
use Rattle.region_header.specs.Migration.{current_words, migrated}
use Rattle.dict_model.specs.Links.{shards, dict_links, kind_count, table_kind}
use Rattle.dict_model.specs.Nodes.{shard_of}
use Rattle.dict_model.specs.Shards.{Map, MapOf}
use Rattle.dict_requests.specs.Maps.{GivesEither, IsMapIn}
use Rattle.run_model.specs.Arrivals.{IsWholeMap}
use Rattle.worker_run.specs.Left.{AreWholeImage}
use Rattle.worker_run.proofs.ImageLeftLemmas.{nothing_outside, map_left}
use Rattle.dictionary_heap.proofs.OpenedLemmas.{has_all}
use Rattle.c_dictionary.specs.declared.store.Store.{Store}
use Rattle.c_dictionary.specs.Dictionary.{Holds}
use Rattle.c_dictionary.specs.Images.{IsImageOf}
use Rattle.c_dictionary.specs.Ready.{IsSound}
use Rattle.dict_requests.proofs.DeleteLemmas.{shard_below}

-- words of this version are those of their image
pub current_is : (words : List ℕ) → slice_index words version_word ≡ version → current_words words first_kinds ≡ words
current_is words is =
    let not_old : is_old (slice_index words) ≡ false = ne_eqb (slice_index words 1) old_version (λ one. omega arith) in
    ap (λ test. cond test (migrated words first_kinds) words) not_old

module _ (s : Store) (sound : IsSound s) where
  abbrev first : Image
  first = slice_index sound.words

  pub capacity_is : s.heap.parts.capacity ≡ capacity_of first
  capacity_is = sound.keeps.capacity ∙ sound.opened.opens.capacity

  pub long_is : word_count s.heap.parts.words ≡ length sound.words
  long_is = long_opened sound.words sound.held sound.budget sound.begun s.heap sound.opened sound.keeps

  fixed_is : (word : ℕ) → IsFixed (capacity_of first) word
      → (volatile_at s.heap.parts.words word ≡ first word) × (durable_at s.heap.parts.words word ≡ first word)
  fixed_is = fixed_opened sound.words sound.held sound.budget sound.begun s.heap sound.opened sound.keeps

  pub length_words : (words : List ℕ) → length words ≡ word_count s.heap.parts.words → 8 * length words ≡ s.length
  length_words words long = let n = sound.length_is in omega (arith, long, long_is, n)

  -- a table has its kind
  table_is : (shard : ℕ) → shard < shards → kind_of (seat_of s.heap) shard ≡ table_kind
  table_is shard small =
      kinds_opened sound.words sound.held sound.budget sound.begun s.heap sound.opened sound.keeps shard (omega arith)
      ∙ (sound.dictionary.maps.each shard small).1.kind_is

  -- a mixture of the two values of each word is a whole image
  module _ (words : List ℕ) (long : length words ≡ word_count s.heap.parts.words)
      (mixes : Mixes (slice_index s.heap.parts.words.volatile) (slice_index s.heap.parts.words.durable) (slice_index words)) where
    pub mixed_word : (word : ℕ) → word < 4 → slice_index words word ≡ first word
    mixed_word word few = elim (mixes.each word) as (λ _. slice_index words word ≡ first word) [
      | inl seen ↦ seen ∙ (fixed_is word (inl few)).0
      | inr left ↦ left ∙ (fixed_is word (inl few)).1
    ]

    pub mixed_whole : AreWholeImage words
    mixed_whole =
        let same = mixed_word capacity_word (omega arith) in
        let formed = sound.at_rest.formed in
        record {
          some = subst (λ n. 1 ≤ n) (sym same) formed.some;
          small = subst (λ n. n ≤ largest_capacity) (sym same) formed.small;
          long = let whole = formed.length_is in let n = ap image_words same in omega (arith, long, long_is, whole, n);
        }

  -- an image that may be left, whose state and mark of taken superblocks are good
  module _ (words : List ℕ) (may : MayLeave s.heap (slice_index words)) (long : length words ≡ word_count s.heap.parts.words)
      (used : used_of (slice_index words) ≤ s.heap.parts.capacity)
      (state : (state_of (slice_index words) ≡ clean) ⊎ (state_of (slice_index words) ≡ dirty)) where
    not_transient : (word : ℕ) → word < 3 → IsTransient s.heap.parts.capacity word → ⊥
    not_transient _ few (is_head list word below e) = omega arith
    not_transient _ few (is_anchor d word below e) = omega arith
    not_transient _ few (is_link d word below e) = omega arith

    header_word : (word : ℕ) → word < 3 → slice_index words word ≡ first word
    header_word word few = elim (may.others word (λ e. omega arith) (not_transient word few)) as (λ _. slice_index words word ≡ first word) [
      | inl left ↦ left ∙ (fixed_is word (inl (omega arith))).1
      | inr seen ↦ seen ∙ (fixed_is word (inl (omega arith))).0
    ]

    same_capacity : capacity_of (slice_index words) ≡ capacity_of first
    same_capacity = header_word capacity_word (omega arith)

    pub left_formed : IsWellFormed (8 * length words) (slice_index words)
    left_formed =
        let formed = sound.at_rest.formed in
        record {
          magic_is = header_word magic_word (omega arith) ∙ formed.magic_is;
          version_is = header_word version_word (omega arith) ∙ formed.version_is;
          some = subst (λ n. 1 ≤ n) (sym same_capacity) formed.some;
          small = subst (λ n. n ≤ largest_capacity) (sym same_capacity) formed.small;
          length_is = let whole = formed.length_is in let n = ap image_words same_capacity in omega (arith, long, long_is, whole, n);
          state = state;
          used = subst (λ n. used_of (slice_index words) ≤ n) (capacity_is ∙ sym same_capacity) used;
        }

    left_kinds : HasKindsBelow (Some kind_count) (slice_index words)
    left_kinds = λ i below.
        subst (λ n. n < kind_count)
        (sym (ap (λ n. slice_index words (kind_word n i)) same_capacity
        ∙ kinds_left sound.words sound.held sound.budget sound.begun s.heap sound.opened sound.keeps (slice_index words) may i below))
        (sound.dictionary.maps.kinds i below)

    same_words : current_words words first_kinds ≡ words
    same_words = current_is words left_formed.version_is

    left_map : (shard : ℕ) (map : Map) → shard < shards → IsMapIn (seat_of s.heap) (slice_index words) shard map
        → MapOf (slice_index words) shard map
    left_map shard map small is =
        map_left (seat_of s.heap) (slice_index words) (seat_law s.heap) sound.only (mixed_law s.heap (slice_index words) may)
        (named_law s.heap (slice_index words) may) (stored_law s.heap (slice_index words) may) (has_all s.heap) shard map small
        (table_is shard small) is

    -- an image of it, seen as its words
    record IsImage (image : Image) : Type 0 where
      either : (shard : ℕ) (one other : Map) → shard < shards → GivesEither (seat_of s.heap) shard one other
          → MapOf image shard one ⊎ MapOf image shard other
      whole : (map : Map) → Holds map s → IsWholeMap image map

    is_image : IsImage (slice_index words)
    is_image = record {
      either = λ shard one other small gives.
          elim (gives.each (slice_index words) (mixed_law s.heap (slice_index words) may)) as
          (λ _. MapOf (slice_index words) shard one ⊎ MapOf (slice_index words) shard other) [
            | inl is ↦ inl (left_map shard one small is)
            | inr is ↦ inr (left_map shard other small is)
          ];
      whole = λ map holds. record {
        each = λ key.
            let p = holds.gives.each (shard_of key) (shard_below key) in (
              p.part,
              left_map (shard_of key) p.part (shard_below key) (p.gives.each (slice_index words) (mixed_law s.heap (slice_index words) may)),
              p.same key refl,
            );
      };
    }

    pub left_image : IsImageOf s words
    left_image =
        let is = subst (λ (ws : List ℕ). IsImage (slice_index ws)) (sym same_words) is_image in
        record {
          good = record {
            header = no_fault (Some kind_count) (8 * length words) (slice_index words) (inr (left_formed, left_kinds));
            inside = subst (λ (ws : List ℕ). (at : ℕ) → IsOutsideIn (slice_index ws) dict_links at → ⊥) (sym same_words)
                (nothing_outside (seat_of s.heap) (slice_index words) (seat_law s.heap) sound.only (mixed_law s.heap (slice_index words) may)
                (named_law s.heap (slice_index words) may) (stored_law s.heap (slice_index words) may) (has_all s.heap));
          };
          either = is.either;
          whole = is.whole;
        }

  -- what a close finds, and leaves
  pub now_whole : (now : List ℕ) → now ≡ s.heap.parts.words.volatile → AreWholeImage now
  now_whole now seen = mixed_whole now (ap (λ (ws : List ℕ). length ws) seen)
      (record { each = λ word. inl (ap (λ (ws : List ℕ). slice_index ws word) seen) })

  module _ (now out : List ℕ) (seen : now ≡ s.heap.parts.words.volatile) (closed : IsClosedImage (slice_index now) (slice_index out))
      (long : length out ≡ length now) where
    close_long : length out ≡ word_count s.heap.parts.words
    close_long = long ∙ ap (λ (ws : List ℕ). length ws) seen

    pub close_length : 8 * length out ≡ s.length
    close_length = length_words out close_long

    pub close_image : volatile_at s.heap.parts.words used_word ≤ s.heap.parts.capacity → IsImageOf s out
    close_image used = left_image out
        (closed_left s.heap (slice_index out) (subst (λ (ws : List ℕ). IsClosedImage (slice_index ws) (slice_index out)) seen closed)) close_long
        (subst (λ n. n ≤ s.heap.parts.capacity)
        (sym (closed.others used_word (λ e. omega arith) ∙ ap (λ (ws : List ℕ). slice_index ws used_word) seen)) used)
        (inl closed.state)

  -- what a crash leaves of a mixture
  module _ (mixed out : List ℕ) (long : length mixed ≡ word_count s.heap.parts.words)
      (mixes : Mixes (slice_index s.heap.parts.words.volatile) (slice_index s.heap.parts.words.durable) (slice_index mixed))
      (crash : IsCrashImage (slice_index mixed) (slice_index out)) (same : length out ≡ length mixed) where
    mixed_capacity : capacity_of (slice_index mixed) ≡ s.heap.parts.capacity
    mixed_capacity = mixed_word mixed long mixes capacity_word (omega arith) ∙ sym capacity_is

    lasts : (word : ℕ) → (IsTransient s.heap.parts.capacity word → ⊥) → IsTransient (capacity_of (slice_index mixed)) word → ⊥
    lasts word kept lost = kept (subst (λ n. IsTransient n word) mixed_capacity lost)

    crash_may : MayLeave s.heap (slice_index out)
    crash_may = record {
      others = λ word not_state kept.
          let is = crash.others word not_state (lasts word kept) in
          elim (mixes.each word) as (λ _. IsValueOf s.heap.parts.words word (slice_index out word)) [
            | inl seen ↦ inr (is ∙ seen)
            | inr left ↦ inl (is ∙ left)
          ];
    }

    used_kept : IsTransient s.heap.parts.capacity used_word → ⊥
    used_kept = by_kind used_word refl where
      by_kind : (word : ℕ) → word ≡ used_word → IsTransient s.heap.parts.capacity word → ⊥
      by_kind _ at (is_head list word below e) = omega arith
      by_kind _ at (is_anchor d word below e) = omega arith
      by_kind _ at (is_link d word below e) = omega arith

    pub crash_length : 8 * length out ≡ s.length
    crash_length = length_words out (same ∙ long)

    pub crash_image : volatile_at s.heap.parts.words used_word ≤ s.heap.parts.capacity
        → durable_at s.heap.parts.words used_word ≤ s.heap.parts.capacity → IsImageOf s out
    crash_image used used_durable =
        let is = crash.others used_word (λ e. omega arith) (lasts used_word used_kept) in
        left_image out crash_may (same ∙ long)
        (elim (mixes.each used_word) as (λ _. used_of (slice_index out) ≤ s.heap.parts.capacity) [
          | inl seen ↦ subst (λ n. n ≤ s.heap.parts.capacity) (sym (is ∙ seen)) used
          | inr left ↦ subst (λ n. n ≤ s.heap.parts.capacity) (sym (is ∙ left)) used_durable
        ]) (inr crash.state)

    -- it keeps the capacity
    pub crash_capacity : capacity_of (slice_index out) ≡ capacity_of (slice_index mixed)
    crash_capacity = crash.others capacity_word (λ e. omega arith) (by_kind capacity_word refl) where
      by_kind : (word : ℕ) → word ≡ capacity_word → IsTransient (capacity_of (slice_index mixed)) word → ⊥
      by_kind _ at (is_head list word below e) = omega arith
      by_kind _ at (is_anchor d word below e) = omega arith
      by_kind _ at (is_link d word below e) = omega arith

-- words that were closed as these
pub mixed_by : (s : Store) (volatile durable mixed : List ℕ) → volatile ≡ s.heap.parts.words.volatile → durable ≡ s.heap.parts.words.durable
    → Mixes (slice_index volatile) (slice_index durable) (slice_index mixed)
    → Mixes (slice_index s.heap.parts.words.volatile) (slice_index s.heap.parts.words.durable) (slice_index mixed)
mixed_by s volatile durable mixed seen left mixes =
    subst (λ (ws : List ℕ). Mixes (slice_index s.heap.parts.words.volatile) (slice_index ws) (slice_index mixed)) left
    (subst (λ (ws : List ℕ). Mixes (slice_index ws) (slice_index durable) (slice_index mixed)) seen mixes)
