-- An empty heap is at rest.
use Rattle.std.proofs.Common.{◌≡◌, ℕ, zero, suc, ◌+◌, ◌-◌, ◌*◌, ◌<◌, ◌≤◌, inl, inr, [], length, slice_index, replicate, cond, nat_lt, refl, ap, ◌∙◌, sym, arith}
use Rattle.std.proofs.lemmas.Bool.{cases_lt, ltb-true, lt-ltb, le-ltb}
use Rattle.std.proofs.lemmas.List.{length-replicate, length-append, get_or_past, get_or-replicate, get_or_append_left, get_or-append_right}
use Rattle.heap_model.specs.Geometry.{largest_capacity, roots, image_words, old_image_words, kind_word, info_word, anchor_word, link_word}
use Rattle.heap_model.specs.Header.{empty_words, first_kinds, IsWellFormed, capacity_of, used_of}
use Rattle.heap_model.specs.Rest.{IsShaped, IsReady}
use Rattle.heap_model.proofs.MemberLemmas.{in_none}
use Rattle.heap_model.proofs.CountingLemmas.{one_if_false}

-- among zeros, and behind them, every number is 0
zero_in_zeros : (n i : ℕ) → slice_index (replicate n 0) i ≡ 0
zero_in_zeros n i = elim (cases_lt i n) as (λ _. slice_index (replicate n 0) i ≡ 0) [
  | inl inside ↦ get_or-replicate {A = ℕ} n i 0 0 inside
  | inr past ↦ get_or_past (replicate n 0) i 0 (let long = length-replicate {A = ℕ} n 0 in omega arith)
]

pub length-first_kinds : length first_kinds ≡ roots
unfolding first_kinds
length-first_kinds = refl

-- the kind of root i
pub first_kind : (i : ℕ) → slice_index first_kinds i ≡ cond (nat_lt i 8) 1 0
unfolding first_kinds
first_kind i = elim (cases_lt i 8) as (λ _. slice_index first_kinds i ≡ cond (nat_lt i 8) 1 0) [
  | inl low ↦ rw (lt-ltb i 8 low) (get_or_append_left (replicate 8 1) (replicate 1016 0) 0 i (omega arith) ∙ get_or-replicate {A = ℕ} 8 i 1 0 low)
  | inr high ↦ rw (le-ltb i 8 high) (get_or-append_right (replicate 8 1) (replicate 1016 0) 8 i 0 refl high ∙ zero_in_zeros 1016 (i - 8))
]

-- the words but the first four, up to the kinds, are 0
pub empty_word : (capacity word : ℕ) → 4 ≤ word → word < old_image_words capacity → slice_index (empty_words capacity) word ≡ 0
unfolding empty_words
empty_word capacity zero behind below = absurd (omega arith)
empty_word capacity (suc zero) behind below = absurd (omega arith)
empty_word capacity (suc (suc zero)) behind below = absurd (omega arith)
empty_word capacity (suc (suc (suc zero))) behind below = absurd (omega arith)
empty_word capacity (suc (suc (suc (suc i)))) behind below =
    let long = length-replicate {A = ℕ} (old_image_words capacity - 4) 0 in
    get_or_append_left (replicate (old_image_words capacity - 4) 0) first_kinds 0 i (omega arith)
    ∙ get_or-replicate {A = ℕ} (old_image_words capacity - 4) i 0 0 (omega arith)

-- and behind them stand the kinds
pub empty_kind : (capacity i : ℕ) → slice_index (empty_words capacity) (kind_word capacity i) ≡ slice_index first_kinds i
unfolding empty_words
empty_kind capacity i =
    let long = length-replicate {A = ℕ} (old_image_words capacity - 4) 0 in
    let behind : kind_word capacity i ≡ suc (suc (suc (suc (old_image_words capacity - 4 + i)))) = omega arith in
    rw (behind) (get_or-append_right (replicate (old_image_words capacity - 4) 0) first_kinds (old_image_words capacity - 4)
    (old_image_words capacity - 4 + i) 0 long (omega arith)
    ∙ ap (λ k. slice_index first_kinds k) (omega arith))

pub length-empty : (capacity : ℕ) → length (empty_words capacity) ≡ image_words capacity
unfolding empty_words
length-empty capacity =
    let zeros = length-replicate {A = ℕ} (old_image_words capacity - 4) 0 in
    let kinds = length-first_kinds in
    let both = length-append (replicate (old_image_words capacity - 4) 0) first_kinds in omega arith

-- an empty image is well formed
pub empty_formed : (capacity : ℕ) → 1 ≤ capacity → capacity ≤ largest_capacity
    → IsWellFormed (8 * length (empty_words capacity)) (slice_index (empty_words capacity))
unfolding empty_words
empty_formed capacity some small =
    let long = length-empty capacity in
    let used = empty_word capacity 8 (omega arith) (omega arith) in
    record { magic_is = refl; version_is = refl; some = some; small = small; length_is = omega arith; state = inl refl; used = omega arith }

pub empty_capacity : (capacity : ℕ) → capacity_of (slice_index (empty_words capacity)) ≡ capacity
unfolding empty_words
empty_capacity capacity = refl

-- with nothing taken and nothing held, every list empty
pub empty_shaped : (capacity : ℕ) → IsShaped (slice_index (empty_words capacity)) []
empty_shaped capacity = record {
  descriptors = λ list. [];
  full = λ d. 0;
  chains = λ d. [];
  follows = λ list less. empty_word capacity (16 + list) (omega arith) (omega arith);
  one_place = λ d. let used = empty_word capacity 8 (omega arith) (omega arith) in
      sym (one_if_false _ (λ test. let less = ltb-true d (used_of (slice_index (empty_words capacity))) test in omega arith));
  free = λ d some. absurd (omega arith);
  in_class = λ class d is some. absurd (omega arith);
  is_full = λ d some. absurd (omega arith);
  in_large = λ d some. absurd (omega arith);
  one_owner = λ class d index b is some info of. absurd (omega arith);
  untaken = λ d past less. let capacity_is = empty_capacity capacity in (
    empty_word capacity (info_word d) (omega arith) (omega arith),
    empty_word capacity (anchor_word d) (omega arith) (omega arith),
    empty_word capacity (link_word d) (omega arith) (omega arith),
  );
}

pub empty_ready : (capacity : ℕ) → 1 ≤ capacity → capacity ≤ largest_capacity → IsReady (empty_words capacity) []
empty_ready capacity some small = record {
  formed = empty_formed capacity some small;
  blocks = λ b p. absurd (in_none b p);
  ascending = λ i j d less within. absurd (omega arith);
  shaped = empty_shaped capacity;
}
