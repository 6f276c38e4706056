-- The laws of a seat, of a heap for one thread: each is a fact that can be decided, so that it follows from what lasts.
use Rattle.std.proofs.Common.{◌≡◌, ℕ, ◌<◌, ◌+◌, ◌⊎◌, inl, inr, refl, ap, sym, subst, ◌∙◌, arith}
use Rattle.std.proofs.lemmas.Bool.{cases_eq}
use Rattle.std.proofs.Math.Logic.{∥∥₁_elim}
use Rattle.heap_model.specs.Geometry.{roots, capacity_word, state_word, kind_word}
use Rattle.heap_model.specs.Header.{capacity_of}
use Rattle.heap_model.proofs.HeaderLemmas.{header_lasts, kinds_last}
use Rattle.heap_model.proofs.ImageLemmas.{get_or-words_from}
use Rattle.heap_seat.specs.View.{kind_of}
use Rattle.heap_model.specs.Durability.{IsTransient}
use Rattle.heap_model.specs.Image.{Image}
use Rattle.heap_model.specs.Blocks.{layout_of}
use Rattle.heap_model.proofs.DecisionLemmas.{at_most, both, decided, either, is_block, one_or_apart}
use Rattle.line_memory.specs.View.{volatile_at, durable_at}
use Rattle.heap_seat.specs.Sound.{IsSeat}
use Rattle.heap_seat.proofs.PlacedLemmas.{is_placed}
use Rattle.heap_seat.specs.Words.{IsOwn, MixesOwn, NamesAll, MayRead, HasPicked, StoresKinds}
use Rattle.std.specs.Prelude.{Bool, true, false, cond, Some}
use Rattle.block_heap.specs.Closing.{KeepsFixed}
use Rattle.heap_model.specs.Geometry.{IsFixed}
use Rattle.block_heap.specs.AllocatorWords.{IsLasting}
use Rattle.block_heap.specs.Parts.{held_in}
use Rattle.block_heap.specs.SeqState.{SeqState, all_roots, kinds_seen, seat_of, MayLeave}
use Rattle.block_heap.specs.Stable.{root_below, stable_placed, stable_apart, stable_names, own_lasts, own_value}

-- what lasts over a stop, of a heap
abbrev Lasts : SeqState → Type 0
Lasts s = IsLasting s.parts.capacity s.parts.words (held_in s.parts) s.stopped

pub seat_law : (s : SeqState) → IsSeat (seat_of s)
seat_law s = record {
  placed = λ b holds. decided (is_placed b)
      (λ (lasts : Lasts s). stable_placed s.parts.capacity (held_in s.parts) s.parts.words b lasts.some lasts.small lasts.stable holds)
      s.lasts;
  apart = λ a b in_a in_b. decided (one_or_apart a b)
      (λ (lasts : Lasts s). stable_apart s.parts.capacity (held_in s.parts) s.parts.words a b lasts.stable in_a in_b) s.lasts;
  roots_are = root_below;
  stopping = λ ticket at. decided (both (at_most s.parts.words.budget ticket) (cases_eq s.parts.words.drawn (ticket + 1)))
      (λ (lasts : Lasts s). lasts.stopping ticket at) s.lasts;
}

pub mixed_law : (s : SeqState) (image : Image) → MayLeave s image → MixesOwn (seat_of s) image
mixed_law s image left = record {
  each = λ word own.
      elim (decided (either (cases_eq (image word) (durable_at s.parts.words word))
      (cases_eq (image word) (volatile_at s.parts.words word)))
      (λ (lasts : Lasts s). own_value s.parts.capacity (held_in s.parts) s.parts.words image word lasts.small lasts.stable left.others own)
      s.lasts) as (λ _. MayRead (seat_of s) word (image word)) [
        | inl durable ↦ inr durable
        | inr volatile ↦ inl volatile
      ];
}

-- each image that may be left has the capacity and the kinds of the roots
left_capacity : (s : SeqState) (image : Image) → MayLeave s image → capacity_of image ≡ s.parts.capacity
left_capacity s image left = decided (cases_eq (capacity_of image) s.parts.capacity)
    (λ (lasts : Lasts s). elim (left.others capacity_word (λ e. omega (arith, e)) (header_lasts s.parts.capacity capacity_word (omega arith)))
    as (λ _. capacity_of image ≡ s.parts.capacity) [
      | inl e ↦ e ∙ lasts.stable.capacity_durable
      | inr e ↦ e ∙ lasts.stable.capacity_is
    ]) s.lasts

left_kind : (s : SeqState) (image : Image) → MayLeave s image → (root : ℕ) → root < roots
    → image (kind_word s.parts.capacity root) ≡ volatile_at s.parts.words (kind_word s.parts.capacity root)
left_kind s image left root below =
    let word = kind_word s.parts.capacity root in
    decided (cases_eq (image word) (volatile_at s.parts.words word))
    (λ (lasts : Lasts s). elim (left.others word (λ e. omega (arith, e)) (kinds_last s.parts.capacity root)) as
    (λ _. image word ≡ volatile_at s.parts.words word) [
      | inl e ↦ e ∙ lasts.stable.kinds_durable root below
      | inr e ↦ e
    ]) s.lasts

pub stored_law : (s : SeqState) (image : Image) → MayLeave s image → StoresKinds (seat_of s) image
unfolding kinds_seen
stored_law s image left = record {
  each = λ root below.
      subst (λ n. image (kind_word n root) ≡ kind_of (seat_of s) root) (sym (left_capacity s image left))
      (left_kind s image left root below
      ∙ sym (get_or-words_from (volatile_at s.parts.words) (kind_word s.parts.capacity 0) roots root 0 below
      ∙ ap (volatile_at s.parts.words) (omega arith)));
}

pub named_law : (s : SeqState) (image : Image) → MayLeave s image → NamesAll image (seat_of s).held
named_law s image left = λ b holds. record {
  begins_at = refl;
  block = decided (is_block (layout_of image) b)
      (λ (lasts : Lasts s). (stable_names s.parts.capacity (held_in s.parts) s.parts.words image lasts.stable left.others b holds).block)
      s.lasts;
}

-- what is kept goes on
pub keeps_none_law : (s : SeqState) → KeepsFixed s s
keeps_none_law s = record {
  capacity = refl;
  long = refl;
  volatile = λ word is. refl;
  durable = λ word is same. same;
  looks = refl;
  draws = omega arith;
}

pub keeps_row_law : (s t u : SeqState) → KeepsFixed s t → KeepsFixed t u → KeepsFixed s u
keeps_row_law s t u a b = record {
  capacity = b.capacity ∙ a.capacity;
  long = b.long ∙ a.long;
  volatile = λ word is. b.volatile word (then word is) ∙ a.volatile word is;
  durable = λ word is same. b.durable word (then word is) (a.durable word is same);
  looks = let p = a.looks in let q = b.looks in omega arith;
  draws = let p = a.draws in let q = b.draws in omega arith;
} where
  then : (word : ℕ) → IsFixed s.parts.capacity word → IsFixed t.parts.capacity word
  then word is = subst (λ n. IsFixed n word) (sym a.capacity) is

-- one of the two values of each word
abbrev picked : SeqState → (ℕ → Bool) → ℕ → ℕ
picked s pick word = cond (pick word) (volatile_at s.parts.words word) (durable_at s.parts.words word)

is_value : (b : Bool) (x y : ℕ) → (cond b x y ≡ y) ⊎ (cond b x y ≡ x)
is_value true x y = inr refl
is_value false x y = inl refl

is_picked : (b : Bool) (x y value : ℕ) → cond b (Some x) (Some y) ≡ Some value → cond b x y ≡ value
is_picked true x y value e = cc
is_picked false x y value e = cc

pub may_be_law : (s : SeqState) (pick : ℕ → Bool) → ∥ ((image : Image) × MayLeave s image × HasPicked (seat_of s) pick image) ∥₁
may_be_law s pick = ∣ (
  picked s pick,
  record { others = λ word not_state kept. is_value (pick word) (volatile_at s.parts.words word) (durable_at s.parts.words word) },
  record { each = λ word value own e. is_picked (pick word) (volatile_at s.parts.words word) (durable_at s.parts.words word) value e },
) ∣₁

-- the capacity is durable
pub durable_capacity : (s : SeqState) → durable_at s.parts.words capacity_word ≡ s.parts.capacity
durable_capacity s = decided (cases_eq (durable_at s.parts.words capacity_word) s.parts.capacity)
    (λ (lasts : Lasts s). lasts.stable.capacity_durable) s.lasts

-- a crash keeps an own word
pub own_law : (s : SeqState) (word : ℕ) → IsOwn (held_in s.parts) all_roots word
    → (word ≡ state_word → ⊥) × (IsTransient s.parts.capacity word → ⊥)
own_law s word own = (λ e. truly (λ kept. kept.0 e), λ lost. truly (λ kept. kept.1 lost)) where
  truly : ((word ≡ state_word → ⊥) × (IsTransient s.parts.capacity word → ⊥) → ⊥) → ⊥
  truly not = ∥∥₁_elim s.lasts (λ a b. absurd a)
      (λ (lasts : Lasts s). not (own_lasts s.parts.capacity (held_in s.parts) s.parts.words word lasts.small lasts.stable own))
