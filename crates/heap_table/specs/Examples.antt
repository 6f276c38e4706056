-- Worked examples, by computation.
use Rattle.std.specs.Prelude.{◌≡◌, ◌<◌, ℕ, List, [], ◌∷◌, None, Some, refl, length}
use Rattle.std.proofs.Common.{ap, sym, arith}
use Rattle.heap_model.specs.Geometry.{image_words}
use Rattle.core_model.specs.declared.event.Event.TheVariants.{LookUsed, KeepUsed, Store}
use Rattle.core_model.specs.Examples.{memory}
use Rattle.core_model.specs.View.{Setup, View}
use Rattle.heap_table.specs.AtTable.{IsLook, IsDraw, IsRaise, IsClosedReached, IsClosedSound}
use Rattle.heap_table.specs.Reached.{learned}
use Rattle.heap_table.specs.Rule.{Opening, setup_for, state_of}
use Rattle.heap_table.specs.SeatViews.{IsSingle, all_views, nobody, first_view, other_views, joined_views, view_in}

-- a seat that knows two superblocks to be durably taken
abbrev pub other : View
other = record nobody { floor = 2 }

-- a seat of the table gives the first of its views to a new seat, and takes them in again
pub gives_first : first_view (nobody ∷ other ∷ []) ≡ nobody ∷ []
gives_first = refl

pub keeps_others : other_views (nobody ∷ other ∷ []) ≡ other ∷ []
keeps_others = refl

pub takes_in : joined_views (other ∷ []) (nobody ∷ []) ≡ nobody ∷ other ∷ []
takes_in = refl

differ : (a b : ℕ) → a ≡ b → a < b → ⊥
differ a b same less = omega (arith, same)

-- all views stand in the order of the seats; a seat with two of them is no single one
pub all_in_order : all_views ((nobody ∷ []) ∷ (other ∷ nobody ∷ []) ∷ []) ≡ nobody ∷ other ∷ nobody ∷ []
all_in_order = refl

pub view_of_a_single : view_in (other ∷ []) ≡ other
view_of_a_single = refl

pub two_are_no_single : IsSingle (nobody ∷ other ∷ []) nobody → ⊥
two_are_no_single single = differ 1 2 (sym (ap length single)) (omega arith)

-- a word that was read is recorded as what loads see, and nothing else is
pub records_one_word : learned (record nobody { volatile = None ∷ None ∷ []; durable = None ∷ None ∷ [] }) 1 7 ≡ record nobody {
  volatile = None ∷ Some 7 ∷ [];
  durable = None ∷ None ∷ [];
}
records_one_word = refl

-- a heap of one word is opened for two seats: both values of the word are the same, no ticket is drawn, and each seat has a view
abbrev pub one_word : Opening
one_word = record { words = 5 ∷ []; held = []; block_owners = []; root_owners = []; seats = 2; budget = 10 }

pub opens_with_its_words : (state_of one_word).words ≡ 5 ∷ 5 ∷ 0 ∷ []
opens_with_its_words = refl

pub opens_a_view_for_each_seat : length (state_of one_word).views ≡ 2
opens_a_view_for_each_seat = refl

pub opens_within_the_budget : (setup_for one_word).budget ≡ 10
opens_within_the_budget = refl

-- a look leaves the word as it is, a draw adds one, and a raise leaves the greater
pub store_is_no_look : IsLook (Store 9 1) → ⊥
store_is_no_look is = differ 0 1 (sym (is memory nobody 0)) (omega arith)

pub look_is_no_draw : IsDraw LookUsed → ⊥
look_is_no_draw is = let draw = is nobody in differ 0 1 (draw.1 memory 0) (omega arith)

pub raise_to_less : IsRaise KeepUsed (record nobody { seen_used = Some 5 }) 4 → ⊥
raise_to_less is = differ 4 5 (sym (is memory 0)) (omega arith)

-- a closed table leaves each word of the image, and a view for each seat
pub leaves_each_volatile_word : (kept : List ℕ) (views : List View) → IsClosedReached one_word [] kept views → ⊥
leaves_each_volatile_word kept views closed = differ 0 (image_words 0) closed.now_long (omega arith)

pub leaves_each_durable_word : (now : List ℕ) (views : List View) → IsClosedReached one_word now [] views → ⊥
leaves_each_durable_word now views closed = differ 0 (image_words 0) closed.kept_long (omega arith)

pub leaves_each_view : (k : Setup) (now kept : List ℕ) → IsClosedSound (record k { seats = 1 }) now kept [] → ⊥
leaves_each_view k now kept closed = differ 0 1 closed.counted.seats (omega arith)
