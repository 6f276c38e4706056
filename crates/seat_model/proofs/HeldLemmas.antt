-- The held blocks of a seat of the core, as a list.
use Rattle.std.proofs.Common.{◌≡◌, ◌<◌, ◌≤◌, ◌⊎◌, ℕ, suc, ◌+◌, ◌*◌, inl, inr, Bool, true, false, cond, nat_lt, nat_le, List, ◌++◌, Option, None, Some, slice_index, refl, ap, sym, subst, ◌∙◌, lt-ltb, le-leb, arith}
use Rattle.std.specs.Prelude.{Contains}
use Rattle.std.proofs.Math.Logic.{∥∥₁_elim}
use Rattle.std.proofs.lemmas.Bool.{cases_eq}
use Rattle.std.proofs.lemmas.List.Elements.{Contains-append_cases}
use Rattle.heap_model.specs.declared.block.Block.{Block}
use Rattle.heap_model.specs.Blocks.{IsIn, AreOneOrApart}
use Rattle.heap_model.specs.Geometry.{roots, start_word, superblock_words, superblocks_end, kind_word, capacity_word, largest_capacity, superblock_of}
use Rattle.heap_model.specs.Image.{Image}
use Rattle.heap_model.specs.Sizes.{words_of_class}
use Rattle.heap_model.proofs.DecisionLemmas.{at_most, both, decided, one_or_apart}
use Rattle.heap_model.proofs.ImageLemmas.{get_or-words_from}
use Rattle.heap_model.proofs.PartLemmas.{same_fields}
use Rattle.heap_seat.specs.View.{View as HeapView}
use Rattle.heap_seat.specs.Sound.{IsSeat, IsPlaced}
use Rattle.heap_seat.proofs.PlacedLemmas.{is_placed}
use Rattle.heap_seat.specs.Words.{IsOwn as IsOwnWord, in_block, in_root, HasPicked, KeepsOwn, KeepsPending, KeepsWord, MayBe, MayRead, MixesOwn, NamesAll, StoresKinds}
use Rattle.heap_model.specs.Header.{capacity_of}
use Rattle.core_model.specs.Cells.{Cell, cell_at, data_cell, root_cell}
use Rattle.core_model.specs.Effects.{span_count}
use Rattle.core_model.specs.Held.{IsHeld, a_small, a_large}
use Rattle.core_model.specs.View.{View, Setup, known}
use Rattle.core_model.proofs.PlaceLemmas.{and_is, cell_at_index}
use Rattle.seat_state.proofs.BlockRanges.{in_classes_word}
use Rattle.heap_rule.specs.Images.{HasPickedRecords}
use Rattle.heap_rule.specs.Left.{Lasts, MayBeLeft, mixed, crashed, closed}
use Rattle.heap_rule.proofs.CrashLemmas.{left_fixed, left_mixes, left_named}
use Rattle.heap_rule.proofs.HeldLemmas.{block_words_own, held_apart, held_placed, one_large, root_own}
use Rattle.core_model.proofs.LinkFrameLemmas.{span_covers}
use Rattle.heap_table.specs.Plays.{HasSoundState}
use Rattle.heap_rule.proofs.SeatImageLemmas.{picked_image}
use Rattle.line_memory.specs.Marks.{mark_at, marked_words}
use Rattle.line_memory.specs.Marked.{marked_words-has, marked_words-only}
use Rattle.heap_rule.specs.Seated.{SeatView}
use Rattle.seat_costs.specs.Costs.{Costs}
use Rattle.seat_costs.specs.Rows.{Passes, Row, ViewRow, after_ticket, next_of}
use Rattle.seat_costs.specs.Words.{IsHeldWord, KeepsWord as KeepsRowWord, MayBe as MayBeOf, left_at, seen_at, times_held}
use Rattle.seat_costs.proofs.WordLemmas.{at_cell, owns_held}
use Rattle.seat_model.specs.CacheState.{CacheState, CallCounts, heap_view_of, small_blocks, large_blocks, held_blocks, heap_view, opened_kinds, IsStateOf}
use Rattle.seat_model.proofs.ViewBlocks.{small_there, large_there, contains_times}

may_of : (o : Option ℕ) (x : ℕ) → ((value : ℕ) → o ≡ Some value → x ≡ value) → MayBe o x
may_of None x is = tt
may_of (Some y) x is = is y refl

-- the words of held blocks are so for the core
pub word_of_block : (v : View) (b : Block) → IsHeld v b → (word : ℕ) → IsIn b word → 0 < times_held v (data_cell word)
word_of_block v b (a_small class first there) word within = let from = within.from in let until = within.until in
    let own = in_classes_word word first 0 class v.small from (let e = ap words_of_class (let p : class ≡ 0 + class = omega arith in p) in
    omega arith) there in omega arith
word_of_block v b (a_large d n some count) word within = let from = within.from in let until = within.until in
    let own = span_covers d (superblock_of v.setup.capacity word) v.large (omega arith) (omega arith) (omega arith) in omega arith

module _ (v : View) (s : HasSoundState v) where
  pub held_is : (b : Block) → Contains (held_blocks v) b → IsHeld v b
  held_is b c = elim (Contains-append_cases (small_blocks 0 v.small) (large_blocks v.setup.capacity v.large) b c) [
    | inl small ↦ let h = small_there 0 v.small b small in
        subst (IsHeld v) (same_fields (record { first_word = b.first_word; words = words_of_class h.n }) b refl
        (ap words_of_class (let e : h.n ≡ 0 + h.n = omega arith in e) ∙ sym h.words)) (a_small h.n b.first_word h.there)
    | inr large ↦ let h = large_there v.setup.capacity v.large b (one_large v s) ((s.sound.good.claims s.seat v s.below s.at).some) large in
        subst (IsHeld v) (same_fields (record {
          first_word = start_word v.setup.capacity h.d;
          words = superblock_words * span_count h.d v.large;
        }) b (sym h.first) (sym h.words)) (a_large h.d (span_count h.d v.large) h.count refl)
  ]

  pub placed_block : (b : Block) → Contains (held_blocks v) b → IsPlaced b
  unfolding largest_capacity
  placed_block b c = let placed = held_placed v s b (held_is b c) in let from = placed.from in let until = placed.until in
      let low = placed.low in let some = placed.some in
      let small = s.sound.good.small in record { behind = omega arith; some = omega arith; short = omega arith }

  pub apart_blocks : (a b : Block) → Contains (held_blocks v) a → Contains (held_blocks v) b → AreOneOrApart a b
  apart_blocks a b in_a in_b = held_apart v s a b (held_is a in_a) (held_is b in_b)

  pub root_below : (i : ℕ) → Contains v.roots i → i < roots
  root_below i c = (s.sound.good.set_up s.seat v s.below s.at).roots i (contains_times v.roots i c)

  pub block_word : (b : Block) → IsHeld v b → (word : ℕ) → IsIn b word → 0 < times_held v (data_cell word)
  block_word b held word within = word_of_block v b held word within

  -- they lie in the superblocks
  pub block_cell : (b : Block) → IsHeld v b → (word : ℕ) → IsIn b word → cell_at v.setup.capacity word ≡ data_cell word
  block_cell b held word within = let placed = held_placed v s b held in let low = placed.from in let high = placed.until in
      let most = placed.low in let from = within.from in let until = within.until in
      cell_at_index v.setup.capacity (data_cell word)
      (and_is (nat_le (start_word v.setup.capacity 0) word) (nat_lt word (superblocks_end v.setup.capacity))
      (le-leb (start_word v.setup.capacity 0) word (omega arith)) (lt-ltb word (superblocks_end v.setup.capacity) (omega arith)))

  pub word_held : (word : ℕ) → IsOwnWord (held_blocks v) v.roots word → IsHeldWord v word
  word_held word (in_block b w c within) = subst (λ (cell : Cell). 0 < times_held v cell) (sym (block_cell b (held_is b c) word within))
      (block_word b (held_is b c) word within)
  word_held word (in_root i w c is) = subst (λ n. IsHeldWord v n) (sym is)
      (subst (λ (cell : Cell). 0 < times_held v cell) (sym (cell_at_index v.setup.capacity (root_cell i) (lt-ltb i roots (root_below i c))))
      (contains_times v.roots i c))

  -- a crash leaves it as it is durable
  pub word_lasts : (word : ℕ) → IsOwnWord (held_blocks v) v.roots word → Lasts (cell_at v.setup.capacity word)
  word_lasts word (in_block b w c within) = (block_words_own v s b (held_is b c) word within).1
  word_lasts word (in_root i w c is) = subst (λ n. Lasts (cell_at v.setup.capacity n)) (sym is)
      (root_own v i (root_below i c) (contains_times v.roots i c)).1

  pub stop_told : (ticket : ℕ) → v.stopped ≡ Some ticket → (v.setup.budget ≤ ticket) × (next_of v ≡ ticket + 1)
  stop_told ticket at = let told = (s.sound.good.tickets s.seat v s.below s.at).state.stopping ticket at in (told.0, ap after_ticket told.1)

pub seat_law : (s : CacheState) → IsSeat (heap_view s)
seat_law s = record {
  placed = λ b c. decided (is_placed b) (λ (has : HasSoundState s.view). placed_block s.view has b c) s.sound;
  apart = λ a b in_a in_b. decided (one_or_apart a b) (λ (has : HasSoundState s.view). apart_blocks s.view has a b in_a in_b) s.sound;
  roots_are = λ i c. decided (at_most (suc i) roots) (λ (has : HasSoundState s.view). root_below s.view has i c) s.sound;
  stopping = λ ticket at. decided (both (at_most s.view.setup.budget ticket) (cases_eq (next_of s.view) (ticket + 1)))
      (λ (has : HasSoundState s.view). stop_told s.view has ticket at) s.sound;
}

-- an own word is a held one
pub own_held : (s : CacheState) (word : ℕ) → IsOwnWord (held_blocks s.view) s.view.roots word → IsHeldWord s.view word
own_held s word own = decided (at_most 1 (times_held s.view (cell_at s.view.setup.capacity word)))
    (λ (has : HasSoundState s.view). word_held s.view has word own) s.sound

-- some sound state has the view of what is left
left_state : (v : View) (image : Image) → MayBeLeft v image → HasSoundState v
left_state v image (mixed is) = is.has
left_state v image (crashed is) = is.has
left_state v image (closed is) = is.has

pub named_law : (s : CacheState) (image : Image) → MayBeLeft s.view image → NamesAll image (heap_view s).held
named_law s image is b c = left_named s.view image is b (held_is s.view (left_state s.view image is) b c)

pub mixed_law : (s : CacheState) (image : Image) → MayBeLeft s.view image → MixesOwn (heap_view s) image
mixed_law s image is = record {
  each = λ word own. let has = owns_held s.view word (own_held s word own) in
      elim ((left_mixes s.view image is).each word has (word_lasts s.view (left_state s.view image is) word own)) as
      (λ _. MayRead (heap_view s) word (image word)) [
        | inl volatile ↦ inl (may_of (seen_at s.view word) (image word) (λ value e. volatile value (at_cell s.view word has s.view.volatile ∙ e)))
        | inr durable ↦ inr (may_of (left_at s.view word) (image word) (λ value e. durable value (at_cell s.view word has s.view.durable ∙ e)))
      ];
}

pub stored_law : (s : CacheState) (image : Image) → MayBeLeft s.view image → StoresKinds (heap_view s) image
stored_law s image is = record {
  each = λ i below.
      let c = s.view.setup.capacity in
      let capacity_is : capacity_of image ≡ c =
      (left_fixed s.view image is).each capacity_word (inl (omega arith)) (λ e. omega (arith, e)) ∙ (left_state s.view image is).sound.capacity in
      ap (λ n. image (kind_word n i)) capacity_is
      ∙ (left_fixed s.view image is).each (kind_word c i) (inr (inr (record { from = omega arith; until = omega arith }))) (λ e. omega (arith, e))
      ∙ sym (get_or-words_from (slice_index s.view.setup.opened) (kind_word c 0) roots i 0 below ∙ ap (slice_index s.view.setup.opened) (omega arith));
}

-- no step changes the setup, which has the kinds
pub kinds_law : (a : Costs) (s t : CacheState) (v w : SeatView) → IsStateOf s v → IsStateOf t w → Passes a v.view w.view
    → (heap_view t).kinds ≡ (heap_view s).kinds
kinds_law a s t v w of_s of_t passes = ap opened_kinds (ap (λ (u : View). u.setup) (sym of_t.view) ∙ passes.setup
    ∙ ap (λ (u : View). u.setup) of_s.view)

pub may_be_law : (s : CacheState) (choice : ℕ → Bool) → ∥ ((image : Image) × MayBeLeft s.view image × HasPicked (heap_view s) choice image) ∥₁
may_be_law s choice = ∥∥₁_elim s.sound (λ a b. squash₁ a b) (λ (has : HasSoundState s.view). let p = picked_image s.view has choice in
    ∣ (p.0, mixed p.1, record { each = λ word value own e. by_choice word value own p.0 p.2 (choice word) refl e }) ∣₁) where
      by_choice : (word value : ℕ) → IsOwnWord (held_blocks s.view) s.view.roots word → (pic : Image) → HasPickedRecords s.view choice pic
          → (test : Bool) → choice word ≡ test
          → cond (choice word) (seen_at s.view word) (left_at s.view word) ≡ Some value → pic word ≡ value
      by_choice word value own pic records true is e = let has = owns_held s.view word (own_held s word own) in
          records.each word has value (ap (λ t. known (cond t s.view.volatile s.view.durable) (cell_at s.view.setup.capacity word)) is
          ∙ at_cell s.view word has s.view.volatile
          ∙ sym (ap (λ t. cond t (seen_at s.view word) (left_at s.view word)) is) ∙ e)
      by_choice word value own pic records false is e = let has = owns_held s.view word (own_held s word own) in
          records.each word has value (ap (λ t. known (cond t s.view.volatile s.view.durable) (cell_at s.view.setup.capacity word)) is
          ∙ at_cell s.view word has s.view.durable
          ∙ sym (ap (λ t. cond t (seen_at s.view word) (left_at s.view word)) is) ∙ e)

-- what is known of a word, for the core and for the heap
to_mine : (o : Option ℕ) (value : ℕ) → MayBe o value → MayBeOf o value
to_mine None value may = tt
to_mine (Some x) value may = may

from_mine : (o : Option ℕ) (value : ℕ) → MayBeOf o value → MayBe o value
from_mine None value may = tt
from_mine (Some x) value may = may

pub read_to : (v : View) (word value : ℕ) → MayBe (seen_at v word) value ⊎ MayBe (left_at v word) value
    → MayBeOf (seen_at v word) value ⊎ MayBeOf (left_at v word) value
read_to v word value (inl seen) = inl (to_mine (seen_at v word) value seen)
read_to v word value (inr left) = inr (to_mine (left_at v word) value left)

pub read_from : (v : View) (word value : ℕ) → MayBeOf (seen_at v word) value ⊎ MayBeOf (left_at v word) value
    → MayBe (seen_at v word) value ⊎ MayBe (left_at v word) value
read_from v word value (inl seen) = inl (from_mine (seen_at v word) value seen)
read_from v word value (inr left) = inr (from_mine (left_at v word) value left)

-- a word that is not stored to
pub word_law : (v x : View) (marks marks' : List Bool) (n n' : CallCounts) (word : ℕ) → KeepsRowWord v x word
    → KeepsWord (heap_view_of v marks n) (heap_view_of x marks' n') word
word_law v x marks marks' n n' word p = record {
  volatile = p.volatile;
  durable = λ value may. read_from v word value (p.durable value (to_mine (left_at x word) value may));
}

pub kept_at : {a : Costs} (s : CacheState) (x : View) (w : HeapView) → w.held ≡ held_blocks x → w.roots ≡ x.roots → w.volatile ≡ seen_at x
    → w.durable ≡ left_at x → ViewRow a s.view x → KeepsOwn (heap_view s) w
kept_at s x w held_are roots_are volatile_is durable_is row = record {
  held = held_are ∙ ap (λ l. small_blocks 0 l ++ large_blocks x.setup.capacity x.large) row.small
      ∙ ap (λ l. small_blocks 0 s.view.small ++ large_blocks x.setup.capacity l) row.large
      ∙ ap (λ (k : Setup). small_blocks 0 s.view.small ++ large_blocks k.capacity s.view.large) row.passes.setup;
  roots = roots_are ∙ row.passes.roots;
  words = λ word own. let p = row.words word (own_held s word own) in record {
    volatile = λ value is. ap (λ (f : ℕ → Option ℕ). f word) volatile_is ∙ p.volatile value is;
    durable = λ value may. read_from s.view word value (p.durable value
        (to_mine (left_at x word) value (subst (λ (f : ℕ → Option ℕ). MayBe (f word) value) durable_is may)));
  };
}

pub row_from : {a : Costs} (u v w : View) → u ≡ v → ViewRow a u w → ViewRow a v w
row_from {a} u v w same = subst (λ x. ViewRow a x w) same

-- pending write-backs
pub pending_at : {a : Costs} (s : CacheState) (v x : SeatView) (w : HeapView) → IsStateOf s v → w.volatile ≡ seen_at x.view
    → w.durable ≡ left_at x.view → w.pending ≡ marked_words x.marks → Row a v x
    → (word : ℕ) → IsOwnWord (held_blocks s.view) s.view.roots word → KeepsPending (heap_view s) w word
pending_at s v x w of_s volatile_is durable_is pending_is row word own pending =
    elim (row.marks word (subst (λ (u : View). IsHeldWord u word) (sym of_s.view) (own_held s word own))
    (ap (λ marks. mark_at marks word) of_s.marks ∙ marked_words-only s.marks word pending)) [
      | inl marked ↦ inl (subst (λ words. Contains words word) (sym pending_is) (marked_words-has x.marks word marked))
      | inr durable ↦ inr (record {
        value = durable.value;
        seen = ap (λ (f : ℕ → Option ℕ). f word) volatile_is ∙ durable.seen;
        left = ap (λ (f : ℕ → Option ℕ). f word) durable_is ∙ durable.left;
      })
    ]

pub pending_law : (a : Costs) (s t : CacheState) (v w : SeatView) → IsStateOf s v → IsStateOf t w → Row a v w → (word : ℕ)
    → IsOwnWord (held_blocks s.view) s.view.roots word → KeepsPending (heap_view s) (heap_view t) word
pending_law a s t v w of_s of_t row = pending_at s v w (heap_view t) of_s (ap seen_at (sym of_t.view)) (ap left_at (sym of_t.view))
    (ap marked_words (sym of_t.marks)) row

pub row_law : (a : Costs) (s t : CacheState) (v w : SeatView) → IsStateOf s v → IsStateOf t w → Row a v w → KeepsOwn (heap_view s) (heap_view t)
row_law a s t v w of_s of_t row = kept_at s t.view (heap_view t) refl refl refl refl
    (subst (λ (u : View). ViewRow a s.view u) of_t.view (row_from v.view s.view w.view of_s.view row.view))
