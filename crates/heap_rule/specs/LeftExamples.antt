-- Worked examples by computation: what of a seat's view must be in an image that is left, and what of it steps keep.
use Rattle.std.specs.Prelude.{◌≡◌, ◌<◌, ℕ, true, false, [], ◌∷◌, None, refl, length}
use Rattle.std.proofs.Common.{inl, inr, true≢false, ap, sym, arith}
use Rattle.heap_model.specs.Durability.{is_head}
use Rattle.heap_model.specs.Image.{Image}
use Rattle.core_model.specs.declared.event.Event.TheVariants.{Tick, Load, Store, Settle, LookUsed, Push}
use Rattle.core_model.specs.View.{Setup, View, one_if_some}
use Rattle.heap_rule.specs.Examples.{only, seat}
use Rattle.heap_rule.specs.Held.{IsPlacedBelow}
use Rattle.heap_rule.specs.Images.{HasFixedWords, HasPickedRecords, HasRecorded, MixesRecorded}
use Rattle.heap_rule.specs.Left.{HasDurableRecords, HasFixedWordsButState, HasTransients, HasVolatileRecords, MixesLasting, a_root}
use Rattle.heap_rule.specs.Records.{IsOn, KeepsRecord}
use Rattle.heap_rule.specs.Seated.{SeatView}
use Rattle.heap_rule.specs.Seats.{HasNoStores}

-- a seat that owns root 3, at word 43: loads see 7 there, and a crash leaves 6
abbrev pub has_root : View
has_root = record seat { roots = 3 ∷ []; volatile = only 43 7; durable = only 43 6 }

-- an image with this value everywhere
abbrev pub all_are : ℕ → Image
all_are value word = value

pub differ : (a b : ℕ) → a ≡ b → a < b → ⊥
differ a b same less = omega (arith, same)

pub close_needs_the_volatile : HasVolatileRecords has_root (all_are 6) → ⊥
close_needs_the_volatile has = differ 6 7 (has.each 43 (omega arith) 7 refl) (omega arith)

pub crash_needs_the_durable : HasDurableRecords has_root (all_are 0) → ⊥
crash_needs_the_durable has = differ 0 6 (has.each 43 (omega arith) (a_root 3) 6 refl) (omega arith)

pub recorded_needs_the_volatile : HasRecorded (all_are 6) (all_are 6) has_root → ⊥
recorded_needs_the_volatile has = differ 6 7 (has.volatile 43 (omega arith) 7 refl) (omega arith)

pub recorded_needs_the_durable : HasRecorded (all_are 7) (all_are 0) has_root → ⊥
recorded_needs_the_durable has = differ 0 6 (has.durable 43 (omega arith) 6 refl) (omega arith)

-- a third value is none of the two
pub mixture_has_one_of_both : MixesRecorded has_root (all_are 0) → ⊥
mixture_has_one_of_both mixes = elim (mixes.each 43 (omega arith)) as
    (λ _. ⊥) [ inl now ↦ differ 0 7 (now 7 refl) (omega arith) | inr kept ↦ differ 0 6 (kept 6 refl) (omega arith) ]

pub left_has_one_of_both : MixesLasting has_root (all_are 0) → ⊥
left_has_one_of_both mixes = elim (mixes.each 43 (omega arith) (a_root 3)) as
    (λ _. ⊥) [ inl now ↦ differ 0 7 (now 7 refl) (omega arith) | inr kept ↦ differ 0 6 (kept 6 refl) (omega arith) ]

pub picked_is_picked : HasPickedRecords has_root (λ word. true) (all_are 6) → ⊥
picked_is_picked has = differ 6 7 (has.each 43 (omega arith) 7 refl) (omega arith)

pub picked_for_false_is_durable : HasPickedRecords has_root (λ word. false) (all_are 7) → ⊥
picked_for_false_is_durable has = differ 6 7 (sym (has.each 43 (omega arith) 6 refl)) (omega arith)

-- the first word was opened as 5
abbrev pub opened_with : Setup
opened_with = record seat.setup { opened = 5 ∷ [] }

pub fixed_words_stay : HasFixedWords opened_with (all_are 0) → ⊥
fixed_words_stay has = differ 0 5 (has.each 0 (inl (omega arith))) (omega arith)

pub fixed_words_but_the_state_stay : HasFixedWordsButState opened_with (all_are 0) → ⊥
fixed_words_but_the_state_stay has = differ 0 5 (has.each 0 (inl (omega arith)) (λ e. omega (arith, e))) (omega arith)

-- the head of the free list is what a crash gives it
pub head_is_as_given : HasTransients 2 (λ word. 5) (all_are 0) → ⊥
head_is_as_given has = differ 0 5 (has.each 16 (is_head 0 16 (omega arith) refl)) (omega arith)

-- what was recorded of a word must be recorded still: what loads see, and what a crash leaves
pub forgets_what_loads_see : KeepsRecord 1074 (record seat { volatile = only 1074 1 }) seat → ⊥
forgets_what_loads_see keeps = differ 0 1 (ap one_if_some keeps.volatile) (omega arith)

pub forgets_what_a_crash_leaves : KeepsRecord 1074 (record seat { durable = only 1074 1 }) seat → ⊥
forgets_what_a_crash_leaves keeps = differ 0 1 (ap one_if_some keeps.durable) (omega arith)

-- a store is on its word alone; a draw, a look and an exchange are on none
pub store_is_on_its_word : IsOn (Store 9 1) 9
store_is_on_its_word = refl

pub store_is_on_no_other : IsOn (Store 8 1) 9 → ⊥
store_is_on_no_other on = differ 8 9 on (omega arith)

pub load_is_on_no_other : IsOn (Load 8) 9 → ⊥
load_is_on_no_other on = differ 8 9 on (omega arith)

pub settle_is_on_no_other : IsOn (Settle 8) 9 → ⊥
settle_is_on_no_other on = differ 8 9 on (omega arith)

pub draw_is_on_none : IsOn (Tick None) 8 → ⊥
draw_is_on_none on = on

pub look_is_on_none : IsOn LookUsed 8 → ⊥
look_is_on_none on = on

pub push_is_on_none : IsOn (Push 1) 1074 → ⊥
push_is_on_none on = on

-- an opened seat has stored nothing and marked nothing
pub has_stored : (v : SeatView) → HasNoStores (record v { stores = 9 ∷ [] }) → ⊥
has_stored v none = differ 0 1 (ap length (sym none.stores)) (omega arith)

pub has_marked : (v : SeatView) → HasNoStores (record v { marks = true ∷ [] }) → ⊥
has_marked v none = true≢false (none.marks 0)

-- of two superblocks the first is below the mark 1; a block has words, and lies below the mark
pub fills_the_first : IsPlacedBelow 2 1 (record { first_word = 1080; words = 8192 })
fills_the_first = record { some = omega arith; from = omega arith; until = omega arith; low = omega arith }

pub has_words : IsPlacedBelow 2 1 (record { first_word = 1080; words = 0 }) → ⊥
has_words placed = let some = placed.some in omega arith

pub not_past_the_mark : IsPlacedBelow 2 1 (record { first_word = 1080; words = 8193 }) → ⊥
not_past_the_mark placed = let until = placed.until in omega arith

pub not_before_the_first : IsPlacedBelow 2 1 (record { first_word = 1079; words = 8 }) → ⊥
not_before_the_first placed = let from = placed.from in omega arith

pub not_past_the_capacity : IsPlacedBelow 2 3 (record { first_word = 1080; words = 8 }) → ⊥
not_past_the_capacity placed = let low = placed.low in omega arith
