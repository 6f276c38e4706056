-- Worked examples by computation: what a request gets, looks, spots, lines, counts, rows, a refusal, and what an image may have.
use Rattle.std.specs.Prelude.{◌≡◌, ◌+◌, ◌*◌, ◌/◌, ◌<◌, ◌≤◌, ◌⊎◌, nat_le, ℕ, [], ◌∷◌, None, Some, true, refl}
use Rattle.std.proofs.Common.{arith, inl, inr, ap, ◌∙◌}
use Rattle.std.proofs.lemmas.Bool.{leb-true}
use Rattle.heap_model.specs.declared.block.Block.{Block}
use Rattle.heap_model.specs.Sizes.{IsLeastClassFor, size_of, class_sizes, largest_small, span_of}
use Rattle.heap_model.proofs.SizeLemmas.{at_class, size_of-words, few_words}
use Rattle.heap_seat.specs.declared.fault.Looks.{Looks}
use Rattle.heap_seat.specs.declared.look.Look.{Look}
use Rattle.heap_seat.specs.declared.spot.Spot.TheVariants.{InBlock, Root}
use Rattle.heap_seat.specs.Alloc.{IsSizeFor, of_class, of_superblocks}
use Rattle.heap_seat.specs.Calls.{counted, IsWrittenWith}
use Rattle.heap_seat.specs.Looks.{FoundEmpty, FoundNoRoom, KnowsNoLess, IsMade, KeepsLooks}
use Rattle.heap_seat.specs.Rows.{IsRow}
use Rattle.heap_seat.specs.View.{View, word_of}
use Rattle.heap_seat.specs.Words.{IsOwn, in_root, MixesOwn, HasPicked, IsDurable}

-- the least class for no byte is 1, and that for the most bytes that a class holds is 20
least_of_none : IsLeastClassFor 0 1
least_of_none = record {
  is_class = record { some = omega arith; last = omega arith };
  holds = omega arith;
  least = λ other is holds. is.some;
}

least_of_most : IsLeastClassFor 14336 20
unfolding size_of class_sizes
least_of_most = record {
  is_class = record { some = omega arith; last = omega arith };
  holds = omega arith;
  least = λ other is holds.
      let most : size_of other ≤ 12288 + 2048 * (other / 20) = leb-true (size_of other) (12288 + 2048 * (other / 20))
      (at_class (λ c. nat_le (size_of c) (12288 + 2048 * (c / 20))) refl other is) in
      omega arith;
}

-- a request of no bytes gets 16, and one of 14,336 gets as many
sizes_of_class : IsSizeFor 0 16 × IsSizeFor 14336 14336
unfolding size_of class_sizes
sizes_of_class = (of_class 1 least_of_none, of_class 20 least_of_most)

-- one byte more takes a superblock, and one byte more than a superblock takes two
sizes_of_superblocks : IsSizeFor 14337 65536 × IsSizeFor 65537 131072
sizes_of_superblocks = (of_superblocks (omega arith), of_superblocks (omega arith))

-- a request of no bytes never gets a block of the second class, nor does one that no class holds get one of a class
size_is : (bytes size : ℕ) → IsSizeFor bytes size
    → ((c : ℕ) × IsLeastClassFor bytes c × (size ≡ size_of c)) ⊎ ((largest_small < bytes) × (size ≡ 65536 * span_of bytes))
size_is bytes _ (of_class c least) = inl (c, least, refl)
size_is bytes _ (of_superblocks large) = inr (large, refl)

not_second_class : IsSizeFor 0 32 → ⊥
unfolding size_of class_sizes
not_second_class is = elim (size_is 0 32 is) as (λ _. ⊥) [
  | inl small ↦
      let least = small.1 in
      let some = least.is_class.some in
      let first = least.least 1 (record { some = omega arith; last = omega arith }) (omega arith) in
      let one : small.0 ≡ 1 = omega arith in
      let size : 32 ≡ size_of 1 = small.2 ∙ ap size_of one in
      omega arith
  | inr large ↦ omega (arith, large.0)
]

not_of_class : IsSizeFor 14337 14336 → ⊥
not_of_class is = elim (size_is 14337 14336 is) as (λ _. ⊥) [
  | inl small ↦
      let least = small.1 in
      let words = few_words small.0 least.is_class in
      let size = size_of-words small.0 least.is_class in
      let holds = least.holds in
      omega arith
  | inr large ↦ omega (arith, large.1)
]

-- a seat of a heap of two superblocks with this look at `used`, which draws this ticket next
abbrev pub seat_with : Look → ℕ → View
seat_with look next = record {
  held = [];
  roots = [];
  volatile = λ word. None;
  durable = λ word. None;
  pending = [];
  capacity = 2;
  kinds = [];
  budget = 100;
  next = next;
  stopped = None;
  small_calls = 0;
  large_calls = 0;
  taken = 1;
  refusals = 0;
  refused_bytes = 0;
  refused_looks = record { class_head = 0; free_head = 0; used = 0 };
  used_look = look;
  head_look = λ list. record { seen = 0; ticket = None; taken = 0 };
}

-- a look by ticket 7
abbrev pub look_with : ℕ → ℕ → Look
look_with seen taken = record { seen = seen; ticket = Some 7; taken = taken }

-- one superblock more of which the seat took one is no less; one that only the seat took is
knows_no_less : KnowsNoLess (seat_with (look_with 3 1) 0) (seat_with (look_with 5 2) 0)
    × (KnowsNoLess (seat_with (look_with 3 1) 0) (seat_with (look_with 3 2) 0) → ⊥)
knows_no_less = (omega arith, λ less. omega arith)

-- two superblocks were asked for, and of two one had been taken, as this call saw
abbrev one_used : Looks
one_used = record { class_head = 0; free_head = 0; used = 1 }

two_asked : FoundNoRoom 65537 one_used (seat_with (look_with 0 0) 7) (seat_with (look_with 1 1) 8)
two_asked = record {
  used = record { is = refl; ticket = 7; by = refl; drawn = record { from = omega arith; until = omega arith }; taken = refl };
  past = omega arith;
  class = λ c least.
      let words = few_words c least.is_class in
      let size = size_of-words c least.is_class in
      let holds = least.holds in
      absurd (omega arith);
  free = λ small. absurd (omega arith);
  large = λ large. (refl, refl);
}

-- for one superblock there was room; and a look of an earlier call, or from before the seat took one, shows nothing
one_asked : (v w : View) → w.capacity ≡ 2 → FoundNoRoom 14337 one_used v w → ⊥
one_asked v w two found = let past = found.past in omega arith

seen_earlier : FoundNoRoom 65537 one_used (seat_with (look_with 1 1) 8) (seat_with (look_with 1 1) 9) → ⊥
seen_earlier found =
    let last = found.used in
    let by : Some 7 ≡ Some last.ticket = last.by in
    let from : 8 ≤ last.ticket = last.drawn.from in
    let same : 7 ≡ last.ticket = cc in
    omega arith

taken_since : FoundNoRoom 65537 one_used (seat_with (look_with 1 0) 7) (seat_with (look_with 1 0) 8) → ⊥
taken_since found = absurd (let taken : 0 ≡ 1 = found.used.taken in omega arith)

-- block 1 of class 3, of 6 words, in superblock 0 of a heap of one: the border of a line is behind its second word
abbrev small_block : Block
small_block = record { first_word = 1078; words = 6 }

words_of_spots : word_of (InBlock small_block 1) ∷ word_of (Root 2) ∷ [] ≡ 1079 ∷ 42 ∷ []
words_of_spots = refl

-- a write-back takes the block's words of the line, and neither those behind the border nor those of its neighbour
written_with : IsWrittenWith (InBlock small_block 1) 1078 × IsWrittenWith (InBlock small_block 2) 1083 × IsWrittenWith (Root 2) 42
written_with =
    ((record { from = omega arith; until = omega arith }, refl), (record { from = omega arith; until = omega arith }, refl), refl)

not_written_with : (IsWrittenWith (InBlock small_block 1) 1080 → ⊥) × (IsWrittenWith (InBlock small_block 1) 1077 → ⊥)
    × (IsWrittenWith (Root 2) 43 → ⊥)
not_written_with = (λ behind. omega (arith, behind.1), λ neighbour. let from = neighbour.0.from in omega arith, λ other. omega arith)

-- a call counts until the seat stops
counts : counted None 4 ∷ counted (Some 9) 4 ∷ [] ≡ 5 ∷ 4 ∷ []
counts = refl

-- a look may be made by a ticket of the calls between, with what was taken by then; an earlier ticket's is none of theirs, nor is one that
-- knows of more taken
made_between : KeepsLooks (seat_with (look_with 0 0) 7) (seat_with (look_with 1 1) 8)
    × (IsMade 8 9 1 1 (look_with 1 1) → ⊥) × (IsMade 7 8 1 1 (look_with 1 2) → ⊥)
made_between = (
  record {
    used = inr (record { ticket = 7; by = refl; since = omega arith; below = omega arith; least = omega arith; most = omega arith });
    heads = λ list. inl refl;
  },
  λ made.
      let by : Some 7 ≡ Some made.ticket = made.by in
      let since = made.since in
      let same : 7 ≡ made.ticket = cc in
      omega arith,
  λ made. let most = made.most in omega arith,
)

-- a request of a class is refused by looks of this call at both heads, and never where that of the free superblocks was not read
abbrev seat_looked : View
seat_looked = record (seat_with (look_with 2 1) 8) { head_look = λ list. look_with 0 1 }

seen_empty : (list : ℕ) → FoundEmpty (seat_with (look_with 1 1) 7) seat_looked list 0
seen_empty list = record {
  last = record { is = refl; ticket = 7; by = refl; drawn = record { from = omega arith; until = omega arith }; taken = refl };
  empty = refl;
}

small_asked : FoundNoRoom 14336 (record { class_head = 0; free_head = 0; used = 2 }) (seat_with (look_with 1 1) 7) seat_looked
small_asked = record {
  used = record { is = refl; ticket = 7; by = refl; drawn = record { from = omega arith; until = omega arith }; taken = refl };
  past = omega arith;
  class = λ c least. seen_empty c;
  free = λ small. seen_empty 0;
  large = λ large. (refl, refl);
}

free_unread : (bytes : ℕ) (looks : Looks) (v w : View) → bytes ≤ largest_small → (w.head_look 0).ticket ≡ None → FoundNoRoom bytes looks v w → ⊥
free_unread bytes looks v w small unread found = let by = (found.free small).last.by in absurd (cc)

-- two small calls are a row of two, and no row of one
abbrev seat_called : ℕ → View
seat_called calls = record (seat_with (look_with 0 0) 7) { small_calls = calls }

row_of_two : IsRow 2 0 0 (seat_called 3) (seat_called 5) × (IsRow 1 0 0 (seat_called 3) (seat_called 5) → ⊥)
row_of_two = (
  record {
    goes_on = record { capacity = refl; kinds = refl; budget = refl; tickets = omega arith; used = omega arith };
    small_from = omega arith;
    small_few = omega arith;
    large_from = omega arith;
    large_few = omega arith;
    taken = omega arith;
    few = omega arith;
    looks = record { used = inl refl; heads = λ list. inl refl };
  },
  λ row. let few = row.small_few in omega arith,
)

-- a seat with root 2, which loads see as 9, and which is durable as 5
abbrev seat_of_root : View
seat_of_root = record (seat_with (look_with 0 0) 7) { roots = 2 ∷ []; volatile = λ word. Some 9; durable = λ word. Some 5 }

own_root : IsOwn [] (2 ∷ []) 42
own_root = in_root 2 42 (0, omega arith, refl) refl

-- an image may have either of the two, and no third; true picks what loads see
mixes_two : MixesOwn seat_of_root (λ word. 9) × MixesOwn seat_of_root (λ word. 5) × (MixesOwn seat_of_root (λ word. 7) → ⊥)
mixes_two = (
  record { each = λ word own. inl refl },
  record { each = λ word own. inr refl },
  λ mixes. elim (mixes.each 42 own_root) as (λ _. ⊥) [ inl seen ↦ omega (arith, seen) | inr left ↦ omega (arith, left) ],
)

picks_seen : HasPicked seat_of_root (λ word. true) (λ word. 9) × (HasPicked seat_of_root (λ word. true) (λ word. 5) → ⊥)
picks_seen = (
  record { each = λ word value own known. let same : Some 9 ≡ Some value = known in cc },
  λ picked. let same : 5 ≡ 9 = picked.each 42 9 own_root refl in omega arith,
)

-- a word of which nothing is known is not durable, nor is one whose values differ
not_durable : (IsDurable (seat_with (look_with 0 0) 7) 42 → ⊥) × (IsDurable seat_of_root 42 → ⊥)
not_durable = (
  λ durable. let seen : None ≡ Some durable.value = durable.seen in absurd (cc),
  λ durable.
      let seen : Some 9 ≡ Some durable.value = durable.seen in
      let left : Some 5 ≡ Some durable.value = durable.left in
      let one : 9 ≡ durable.value = cc in
      let other : 5 ≡ durable.value = cc in
      omega arith,
)
