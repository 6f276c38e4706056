-- What a row of steps may cost a seat.
use Rattle.std.specs.Prelude.{ℕ, ◌+◌, ◌*◌, ◌≤◌}
use Rattle.core_model.specs.declared.event.Shift.{Shift}
use Rattle.core_model.specs.declared.event.Shift.TheVariants.{Cut}
use Rattle.core_model.specs.View.{View}

-- how many tickets it draws, exchanges it wins, batches it gives, and superblocks it cuts, takes and moves to the list
-- of the free ones, at most; the credit is paid by lost exchanges, and it and the refund by moves
pub record Costs : Type 0 where
  pub draws : ℕ
  pub credit : ℕ
  pub wins : ℕ
  pub refund : ℕ
  pub gives : ℕ
  pub cuts : ℕ
  pub taken : ℕ
  pub moves : ℕ

-- nothing
abbrev pub no_costs : Costs
no_costs = record { draws = 0; credit = 0; wins = 0; refund = 0; gives = 0; cuts = 0; taken = 0; moves = 0 }

-- a ticket
abbrev pub one_draw : Costs
one_draw = record no_costs { draws = 1 }

-- an exchange that is lost
abbrev pub one_loss : Costs
one_loss = record no_costs { credit = 4 }

-- one that is won
abbrev pub one_win : Costs
one_win = record no_costs { wins = 1 }

-- one that may put a superblock on a list
abbrev pub one_push : Costs
one_push = record one_win { moves = 1 }

-- one that gives a batch
abbrev pub one_give : Costs
one_give = record no_costs { wins = 1; gives = 1 }

-- one that moves a superblock of a class to the list of the free ones
abbrev pub one_move : Costs
one_move = record no_costs { credit = 16; wins = 1; refund = 2; moves = 1 }

-- those of one row and of another
abbrev pub sum_of : Costs → Costs → Costs
sum_of a b = record {
  draws = a.draws + b.draws;
  credit = a.credit + b.credit;
  wins = a.wins + b.wins;
  refund = a.refund + b.refund;
  gives = a.gives + b.gives;
  cuts = a.cuts + b.cuts;
  taken = a.taken + b.taken;
  moves = a.moves + b.moves;
}

-- what costs so much costs no more than that
pub record IsWithin (a b : Costs) : Type 0 where
  pub draws : a.draws + b.credit ≤ b.draws + a.credit
  pub wins : a.wins + b.refund ≤ b.wins + a.refund
  pub gives : a.gives ≤ b.gives
  pub cuts : a.cuts ≤ b.cuts
  pub taken : a.taken ≤ b.taken
  pub moves : a.moves ≤ b.moves

-- no count falls
pub record NoneFalls (v w : View) : Type 0 where
  pub draws : v.draws ≤ w.draws
  pub wins : v.wins ≤ w.wins
  pub losses : v.losses ≤ w.losses
  pub gives : v.gives ≤ w.gives
  pub moves : v.moves ≤ w.moves
  pub cuts : v.cuts ≤ w.cuts
  pub taken : v.taken ≤ w.taken

-- the counts rise by no more than the costs: less the credit, with 4 draws for each lost exchange, and with 16 draws and 2 wins for each move
pub record RisesBy (costs : Costs) (v w : View) : Type 0 where
  pub draws : w.draws + costs.credit + 4 * v.losses + 16 * v.moves ≤ v.draws + costs.draws + 4 * w.losses + 16 * w.moves
  pub wins : w.wins + costs.refund + 2 * v.moves ≤ v.wins + costs.wins + 2 * w.moves
  pub gives : w.gives ≤ v.gives + costs.gives
  pub cuts : w.cuts ≤ v.cuts + costs.cuts
  pub taken : w.taken ≤ v.taken + costs.taken
  pub moves : w.moves ≤ v.moves + costs.moves

-- of a draw with a change of the seat's parts
abbrev pub shift_costs : Shift → Costs
shift_costs (Cut d) = record one_draw { cuts = 1 }
shift_costs shift = one_draw
