-- What is so of the words of the table and of the seats' views between any two atomic steps.
use Rattle.std.specs.Prelude.{ℕ, ◌<◌, ◌≤◌, List, [], ◌∷◌}
use Rattle.heap_model.specs.declared.block.Block.{Block}
use Rattle.atomic_table.specs.Table.{State}
use Rattle.core_model.specs.View.{Setup, View}
use Rattle.core_model.specs.Carriers.{AreSeatsAndCarriers}
use Rattle.core_model.specs.Sound.{Sound}
use Rattle.core_model.specs.Steps.{TableState}
use Rattle.core_model.specs.Opening.{setup_of, opened_view, opened_state}
use Rattle.seat_state.specs.OwnerLists.{OwnerLists}
use Rattle.super_block.specs.Contents.{Contents}
use Rattle.heap_table.specs.Reached.{IsReached}
use Rattle.heap_table.specs.SeatViews.{SeatViews, all_views}

-- a heap at rest that is opened for some seats, each held block and each root belonging to one, within a budget of tickets
pub record Opening : Type 0 where
  pub words : List ℕ
  pub held : List Block
  pub block_owners : List ℕ
  pub root_owners : List ℕ
  pub seats : ℕ
  pub budget : ℕ

-- the heap, opened for these owners
abbrev pub opening_of : Contents → OwnerLists → ℕ → ℕ → Opening
opening_of heap owners seats budget = record {
  words = heap.words;
  held = heap.held;
  block_owners = owners.held;
  root_owners = owners.roots;
  seats = seats;
  budget = budget;
}

-- the setup that its seats have
abbrev pub setup_for : Opening → Setup
setup_for o = setup_of o.words o.budget o.seats

-- the words and the views at the opening: the heap's words, volatile and durable the same, no ticket drawn, and each seat has what it owns
abbrev pub state_of : Opening → TableState
state_of o = opened_state (setup_for o) o.held o.block_owners o.root_owners o.seats

-- the most seats
abbrev pub most_seats : ℕ
most_seats = 8

-- the words and the views are what the opened heap came to; they are sound, and all the seats are there, and the carriers
pub record HasAllSeats (o : Opening) (words : List ℕ) (groups : List SeatViews) : Type 0 where
  pub reached : IsReached (setup_for o) (state_of o) words (all_views groups)
  pub sound : Sound (setup_for o) words (all_views groups)
  pub counted : AreSeatsAndCarriers (setup_for o) (all_views groups)
  pub few : o.seats ≤ most_seats
  pub low : o.budget < 1099511627776

-- the rule of the table, which has no slots
abbrev pub Holds : Opening → State ℕ SeatViews → Type 0
Holds o s = HasAllSeats o s.words s.views

-- the first seat of the table stands for all seats; the others are split off it
abbrev pub opened_views : Opening → SeatViews
opened_views o = (state_of o).views

-- the view of a seat at the opening
abbrev pub opened_view_of : Opening → ℕ → View
opened_view_of o = opened_view (setup_for o) o.held o.block_owners o.root_owners

-- the table is opened: its words and its first seat keep the rule
abbrev pub IsOpened : Opening → Type 0
IsOpened o = HasAllSeats o (state_of o).words (opened_views o ∷ [])
