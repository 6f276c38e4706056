-- The seats of an opened heap are idle.
use Rattle.std.proofs.Common.{◌≡◌, ◌<◌, ℕ, zero, suc, get_or, replicate, length, List, [], refl, ap, sym, subst, arith}
use Rattle.heap_model.specs.declared.block.Block.{Block}
use Rattle.heap_model.specs.Geometry.{lists}
use Rattle.heap_model.proofs.SizeLemmas.{four_blocks}
use Rattle.core_model.specs.Opening.{opened_view}
use Rattle.core_model.specs.View.{Setup, View, of_class}
use Rattle.heap_rule.specs.Seated.{SeatView}
use Rattle.heap_table.specs.AtTable.{SharedView}
use Rattle.heap_rule.specs.Seats.{AreOpenedSeats}
use Rattle.seat_costs.specs.Idle.{HasShortCaches, IsIdle}

-- no cache has a block
pub none_cached : (n class : ℕ) → of_class (replicate n []) class ≡ []
none_cached zero class = refl
none_cached (suc n) zero = refl
none_cached (suc n) (suc class) = none_cached n class

opened_idle : (k : Setup) (held : List Block) (block_owners root_owners : List ℕ) (i : ℕ) → IsIdle (opened_view k held block_owners root_owners i)
opened_idle k held block_owners root_owners i = record { batch = refl; raw = refl; split = refl; cutting = refl; classed = refl }

opened_short : (k : Setup) (held : List Block) (block_owners root_owners : List ℕ) (i : ℕ)
    → HasShortCaches (opened_view k held block_owners root_owners i)
opened_short k held block_owners root_owners i = record {
  each = λ class is. let none = ap length (none_cached lists class) in
      let four = four_blocks class is in omega arith;
}

pub opened_seats : (k : Setup) (held : List Block) (block_owners root_owners : List ℕ) (shared : SharedView) (seats : List SeatView)
    → AreOpenedSeats shared (opened_view k held block_owners root_owners) seats
    → (i : ℕ) (seat : SeatView) → i < length seats → get_or seats i seat ≡ seat → IsIdle seat.view × HasShortCaches seat.view
opened_seats k held block_owners root_owners shared seats are i seat less at =
    subst (λ (v : View). IsIdle v × HasShortCaches v) (sym (are.each i seat less at).1)
    (opened_idle k held block_owners root_owners i, opened_short k held block_owners root_owners i)
