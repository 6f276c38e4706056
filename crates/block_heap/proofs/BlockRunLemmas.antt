-- The prefix of a cache is a run: what giving it back to its superblock makes of the words.
use Rattle.std.proofs.Common.{◌≡◌, ◌≢◌, ℕ, ◌+◌, ◌*◌, ◌<◌, ◌≤◌, inl, inr, Bool, true, false, cond, nat_eq, eq-eqb, ne_eqb, List, [], ◌∷◌, ◌++◌, length, get_or, set, Contains, ap, sym, subst, ◌∙◌, arith, get_or-set_same, length-append, append-nil}
use Rattle.std.proofs.lemmas.Bool.{cond-true, cond-false}
use Rattle.heap_model.specs.Geometry.{lists, head_word, anchor_word, link_word, start_word}
use Rattle.heap_model.specs.Sizes.{IsClass, words_of_class, blocks_of}
use Rattle.heap_model.specs.Words.{head_first, anchor_state, anchor_first, anchor_count, empty_state, partial_state}
use Rattle.heap_model.specs.Chains.{Follows, Walks}
use Rattle.heap_model.proofs.WordLemmas.{anchor_parts}
use Rattle.heap_model.proofs.SizeLemmas.{few_blocks}
use Rattle.heap_shape.specs.Shape.{Shape, with_at}
use Rattle.heap_shape.specs.Standing.{first_of, HasFreeBlocks}
use Rattle.heap_shape.specs.Whole.{IsShape}
use Rattle.heap_shape.specs.Moves.{after_give, after_give_full, after_give_all}
use Rattle.heap_shape.proofs.BasicLemmas.{with_at_same, first_inside, in_class_list}
use Rattle.line_memory.specs.View.{View, volatile_at}
use Rattle.anchor_word.specs.declared.anchor.Anchor.{Anchor}
use Rattle.anchor_word.specs.declared.anchor.State.TheVariants.{Full}
use Rattle.block_heap.specs.declared.cache.Cache.{Cache}
use Rattle.block_heap.specs.declared.small.CachePrefix.{CachePrefix}
use Rattle.block_heap.specs.Batches.{IsGiven, IsGiveWord, linked_words, given_to}
use Rattle.block_heap.specs.BlockRuns.{BlockRun, IsRunOf, HasFree, state_with, list_with, IsListedFirst, IsFullAt, at_anchor, at_last, at_link, at_head, GivesRun}
use Rattle.block_heap.specs.Flush.{IsCachePrefix}
use Rattle.block_heap.specs.Links.{IsPushed, IsPushWord}
use Rattle.block_heap.specs.Medium.{StoresOnly}
use Rattle.block_heap.specs.Parts.{Parts, image_of, held_in, cache_at}
use Rattle.block_heap.specs.Returns.{CachesAlong, GivesPrefix}
use Rattle.block_heap.specs.Running.{IsRunning}
use Rattle.block_heap.proofs.PrefixPlaceLemmas.{full_number, split, rest_long, prefix_class, prefix_first}
use Rattle.block_heap.proofs.FlushLemmas.{linked_long, new_other, gave_listed, gave_full, gave_shape}
use Rattle.block_heap.proofs.ListedPrefixLemmas.{pops_now, all_shape, some_shape}
use Rattle.block_heap.proofs.SmallLemmas.{changed}
use Rattle.heap_at_rest.proofs.ListLemmas.{walks_same}

-- the cache of a running heap leads along that of its shape
pub cached_along : (p : Parts) (class : ℕ) → IsClass class → (run : IsRunning p) → CachesAlong class p (run.shape.cached class)
cached_along p class is run = record {
  walks = subst (λ x. Walks (image_of p) x (run.shape.cached class)) (sym (run.caches class is).first) (run.is.walks class is);
  count = (run.caches class is).count;
}

few_states : (all : Bool) → cond all empty_state partial_state < 4
few_states true = omega arith
few_states false = omega arith

-- The prefix of a cache is a run.
module _ (p : Parts) (class : ℕ) (is : IsClass class) (run : IsRunning p) (prefix : CachePrefix) (is_prefix : IsCachePrefix class prefix p)
    (w : View) (anchor : Anchor) (given : IsGiven p.capacity class prefix.d prefix.batch anchor p.words w)
    (stores : StoresOnly (IsGiveWord prefix.d prefix.batch) p.words w) where
  abbrev blocks : List ℕ
  blocks = is_prefix.before ++ prefix.batch.last ∷ []

  abbrev prefix_run : BlockRun
  prefix_run = record { superblock = prefix.d; blocks = blocks }

  abbrev free : List ℕ
  free = run.shape.chain prefix.d

  abbrev rest : List ℕ
  rest = (split p class is run prefix is_prefix).0

  abbrev parts_with : View → Parts
  parts_with v = changed p v (set p.caches class prefix.rest) p.blocks

  is_run : IsRunOf p.capacity class prefix_run
  is_run = record {
    within = is_prefix.within;
    some = let both = length-append is_prefix.before (prefix.batch.last ∷ []) in omega arith;
    firsts = is_prefix.firsts;
  }

  were : HasFree p.capacity class (image_of p) prefix.d free
  were = let of = prefix_class p class is run prefix is_prefix in record { walks = of.walks; count = of.count }

  cache_now : cache_at (set p.caches class prefix.rest) class ≡ prefix.rest
  cache_now = let last = is.last in let long = run.caches_long in
      get_or-set_same p.caches class prefix.rest (record { first = 0; count = 0 }) (omega arith)

  -- the cache leads along the rest then
  given_prefix : (x : View) (t : Shape) → IsShape p.capacity (λ word. volatile_at x word) (held_in p) t → t.cached class ≡ rest
      → t.start class ≡ image_of p prefix.batch.last → GivesRun p.capacity class prefix_run (image_of p) (λ word. volatile_at x word)
      → GivesPrefix class prefix p (parts_with x)
  given_prefix x t shape cached start gives = record {
    blocks = blocks;
    rest = rest;
    cached = subst (λ ws. CachesAlong class p ws) (split p class is run prefix is_prefix).1 (cached_along p class is run);
    now = record {
      walks = subst (λ from. Walks (λ word. volatile_at x word) from rest) (sym begins)
          (subst (λ ws. Walks (λ word. volatile_at x word) (t.start class) ws) cached (shape.walks class is));
      count = ap (λ (c : Cache). c.count) cache_now ∙ sym (rest_long p class is run prefix is_prefix);
    };
    is_run = is_run;
    gives = gives;
  } where
    begins : (cache_at (set p.caches class prefix.rest) class).first ≡ t.start class
    begins = ap (λ (c : Cache). c.first) cache_now ∙ is_prefix.next ∙ sym start

  -- where the superblock had free blocks, it stays in its list
  module _ (other : anchor.state ≢ Full) where
    abbrev after : Shape
    after = after_give run.shape class prefix.d blocks rest (image_of p prefix.batch.last)

    after_is : IsShape p.capacity (λ word. volatile_at w word) (held_in p) after
    after_is = gave_shape p class is run prefix is_prefix w anchor given stores other

    has_free : HasFreeBlocks p.capacity (λ word. volatile_at w word) after (held_in p) class prefix.d
    has_free = in_class_list p.capacity (λ word. volatile_at w word) (held_in p) after after_is class prefix.d is is_prefix.within
        (gave_listed p class is run prefix is_prefix w anchor given stores other)

    chain_is : with_at run.shape.chain prefix.d (blocks ++ free) prefix.d ≡ blocks ++ free
    chain_is = with_at_same run.shape.chain prefix.d (blocks ++ free)

    not_full : IsFullAt (image_of p) prefix.d → ⊥
    not_full full = other (full_number anchor.state (given.parts.state ∙ full))

    state_now : anchor_state (volatile_at w (anchor_word prefix.d)) ≡ state_with class (length (blocks ++ free))
    state_now =
        let long : length (with_at run.shape.chain prefix.d (blocks ++ free) prefix.d) ≡ length (blocks ++ free) = ap length chain_is in
        elim has_free.state as (λ _. anchor_state (volatile_at w (anchor_word prefix.d)) ≡ state_with class (length (blocks ++ free))) [
          | inl all ↦ all.0 ∙ sym (cond-true (nat_eq (length (blocks ++ free)) (blocks_of class)) empty_state partial_state
              (eq-eqb (length (blocks ++ free)) (blocks_of class) (sym long ∙ all.1)))
          | inr some ↦ let fewer = some.1 in some.0 ∙ sym (cond-false (nat_eq (length (blocks ++ free)) (blocks_of class)) empty_state partial_state
              (ne_eqb (length (blocks ++ free)) (blocks_of class) (λ e. omega arith)))
        ]

    gave_run : GivesRun p.capacity class prefix_run (image_of p) (λ word. volatile_at w word)
    gave_run = record {
      free = free;
      were = were;
      are = record {
        walks = subst (λ ws. Walks (λ word. volatile_at w word) (first_of p.capacity class prefix.d
            (anchor_first (volatile_at w (anchor_word prefix.d)))) ws)
            chain_is has_free.of_class.walks;
        count = has_free.of_class.count ∙ ap length chain_is;
      };
      state = state_now;
      listed = λ full. absurd (not_full full);
      others = λ word none. stores.volatile word (λ at. elim at as (λ _. ⊥) [
        | inl anchor_is ↦ none (at_anchor anchor_is)
        | inr last_is ↦ none (at_last is_prefix.before (ap (λ x. is_prefix.before ++ x ∷ []) (sym last_is)) not_full)
      ]);
    }

    pub gave_prefix : GivesPrefix class prefix p (parts_with w)
    gave_prefix = given_prefix w after after_is (with_at_same run.shape.cached class rest)
        (with_at_same run.shape.start class (image_of p prefix.batch.last)) gave_run

  -- where it was full, it came to the front of a list
  module _ (full : anchor.state ≡ Full) (list : ℕ) (x : View) (pushed : IsPushed list prefix.d w x)
      (push_stores : StoresOnly (IsPushWord list prefix.d) w x) where
    was_full : IsFullAt (image_of p) prefix.d
    was_full = (gave_full p class is run prefix is_prefix w anchor given stores full).2

    none_free : free ≡ []
    none_free = (gave_full p class is run prefix is_prefix w anchor given stores full).3

    no_count : anchor.count ≡ 0
    no_count = given.parts.count ∙ were.count ∙ ap length none_free

    counted : prefix.batch.count + anchor.count ≡ length (blocks ++ [])
    counted = let long = is_prefix.count in let none = no_count in let both = length-append blocks [] in omega arith

    -- no block is linked to another chain
    gave_same : (word : ℕ) → word ≢ anchor_word prefix.d → volatile_at w word ≡ image_of p word
    gave_same word other = new_other p class is run prefix is_prefix w anchor given stores word other
        ∙ ap (λ (xs : List ℕ). get_or xs word 0) (cond-true (nat_eq anchor.count 0) p.words.volatile
        (set p.words.volatile prefix.batch.last (start_word p.capacity prefix.d + anchor.first * words_of_class class))
        (eq-eqb anchor.count 0 no_count))

    inside : (word : ℕ) → Contains blocks word → start_word p.capacity 0 ≤ word
    inside word has = let from = (first_inside p.capacity class prefix.d word is (is_prefix.firsts word has)).from in omega arith

    same_block : list < lists → (word : ℕ) → Contains blocks word → volatile_at x word ≡ image_of p word
    same_block below word has =
        let within = is_prefix.within in
        let high = inside word has in
        push_stores.volatile word (λ at. elim at as (λ _. ⊥) [ inl head ↦ omega arith | inr link ↦ omega arith ]) ∙ gave_same word (omega arith)

    anchor_now : list < lists → volatile_at x (anchor_word prefix.d) ≡ given_to anchor prefix.batch (blocks_of class)
    anchor_now below =
        let within = is_prefix.within in
        let long = linked_long p class is run prefix is_prefix w anchor given stores in
        let words = run.words_open.long in
        push_stores.volatile (anchor_word prefix.d) (λ at. elim at as (λ _. ⊥) [ inl head ↦ omega arith | inr link ↦ omega arith ])
        ∙ ap (λ (xs : List ℕ). get_or xs (anchor_word prefix.d) 0) given.words
        ∙ get_or-set_same (linked_words p.capacity class prefix.d prefix.batch anchor p.words.volatile) (anchor_word prefix.d)
        (given_to anchor prefix.batch (blocks_of class)) 0 (omega arith)

    abbrev all_now : Bool
    all_now = nat_eq (prefix.batch.count + anchor.count) (blocks_of class)

    parts_now : list < lists → (anchor_state (volatile_at x (anchor_word prefix.d)) ≡ cond all_now empty_state partial_state)
        × (anchor_first (volatile_at x (anchor_word prefix.d)) ≡ prefix.batch.first)
        × (anchor_count (volatile_at x (anchor_word prefix.d)) ≡ prefix.batch.count + anchor.count)
    parts_now below =
        let short = prefix_first p class is run prefix is_prefix in
        let few = few_blocks class is in
        let all = anchor_parts (cond all_now empty_state partial_state) prefix.batch.first (prefix.batch.count + anchor.count)
        (few_states all_now) (omega arith) in
        let now = anchor_now below in
        (ap anchor_state now ∙ all.0, ap anchor_first now ∙ all.1, ap anchor_count now ∙ all.2)

    module _ (below : list < lists) (t : Shape) (shape : IsShape p.capacity (λ word. volatile_at x word) (held_in p) t)
        (listed : t.listed list ≡ prefix.d ∷ run.shape.listed list) (cached : t.cached class ≡ rest)
        (start : t.start class ≡ image_of p prefix.batch.last) (list_is : list ≡ list_with class (length blocks)) where
      are : HasFree p.capacity class (λ word. volatile_at x word) prefix.d (blocks ++ [])
      are =
          let from : (cache_at p.caches class).first ≡ first_of p.capacity class prefix.d (anchor_first (volatile_at x (anchor_word prefix.d))) =
          is_prefix.first ∙ ap (first_of p.capacity class prefix.d) (sym (parts_now below).1) in record {
            walks = subst (λ ws. Walks (λ word. volatile_at x word) (first_of p.capacity class prefix.d
                (anchor_first (volatile_at x (anchor_word prefix.d)))) ws)
                (sym (append-nil blocks))
                (subst (λ word. Walks (λ k. volatile_at x k) word blocks) from
                (walks_same (image_of p) (λ word. volatile_at x word) (cache_at p.caches class).first blocks (same_block below) is_prefix.walks));
            count = (parts_now below).2 ∙ counted;
          }

      first_listed : IsListedFirst p.capacity list prefix.d (image_of p) (λ word. volatile_at x word)
      first_listed = record {
        behind = run.shape.listed list;
        was = run.is.follows list below;
        now = subst (λ ds. Follows (λ e. volatile_at x (link_word e)) p.capacity (head_first (volatile_at x (head_word list))) ds) listed
            (shape.follows list below);
        pops = pops_now p class is run prefix is_prefix w anchor given stores full list x pushed push_stores below list below;
      }

      listed_prefix : GivesPrefix class prefix p (parts_with x)
      listed_prefix = given_prefix x t shape cached start (record {
        free = [];
        were = subst (λ ws. HasFree p.capacity class (image_of p) prefix.d ws) none_free were;
        are = are;
        state = (parts_now below).0 ∙ ap (λ n. cond (nat_eq n (blocks_of class)) empty_state partial_state) counted;
        listed = λ _. subst (λ l. IsListedFirst p.capacity l prefix.d (image_of p) (λ word. volatile_at x word)) list_is first_listed;
        others = λ word none. push_stores.volatile word (λ at. elim at as (λ _. ⊥) [
          | inl head ↦ none (at_head was_full (head ∙ ap (λ l. head_word l) list_is))
          | inr link ↦ none (at_link was_full link)
        ]) ∙ gave_same word (λ at. none (at_anchor at));
      })

    pub all_prefix : prefix.batch.count ≡ blocks_of class → list ≡ 0 → GivesPrefix class prefix p (parts_with x)
    all_prefix all same = listed_prefix (omega arith) (after_give_all run.shape class prefix.d blocks rest (image_of p prefix.batch.last))
        (all_shape p class is run prefix is_prefix w anchor given stores full list x pushed push_stores all same)
        (ap (λ k. with_at run.shape.listed k (prefix.d ∷ run.shape.listed k) list) (sym same)
        ∙ with_at_same run.shape.listed list (prefix.d ∷ run.shape.listed list))
        (with_at_same run.shape.cached class rest) (with_at_same run.shape.start class (image_of p prefix.batch.last))
        (same ∙ sym (cond-true (nat_eq (length blocks) (blocks_of class)) 0 class
        (eq-eqb (length blocks) (blocks_of class) (sym is_prefix.count ∙ all))))

    pub some_prefix : prefix.batch.count ≢ blocks_of class → list ≡ class → GivesPrefix class prefix p (parts_with x)
    some_prefix some same = listed_prefix (let last = is.last in omega arith)
        (after_give_full run.shape class prefix.d blocks rest (image_of p prefix.batch.last))
        (some_shape p class is run prefix is_prefix w anchor given stores full list x pushed push_stores some same)
        (ap (λ k. with_at run.shape.listed k (prefix.d ∷ run.shape.listed k) list) (sym same)
        ∙ with_at_same run.shape.listed list (prefix.d ∷ run.shape.listed list))
        (with_at_same run.shape.cached class rest) (with_at_same run.shape.start class (image_of p prefix.batch.last))
        (same ∙ sym (cond-false (nat_eq (length blocks) (blocks_of class)) 0 class
        (ne_eqb (length blocks) (blocks_of class) (λ e. some (is_prefix.count ∙ e)))))
