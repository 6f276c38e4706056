use Rattle.std.proofs.Common.{◌≡◌, ℕ, length, arith, subst, sym}
use Rattle.core_model.specs.View.{View}
use Rattle.heap_rule.specs.Seated.{SeatView}
use Rattle.thread_cache_tests.specs.Holding.{HasBlocksOf}
use Rattle.thread_cache_tests.proofs.HoldLemmas.{of_last, of_rest}
use Rattle.thread_cache_tests.proofs.pairs.last_holder.Goals as goal

pub new-seat-requires-clause-short : goal.new-seat-requires-clause-short
new-seat-requires-clause-short c = c.in-Some.ensures.seat.1.short

pub own_blocks-requires : goal.own_blocks-requires
own_blocks-requires c =
    let held = c.args.held.now in let rest = c.last_seat.new.seats.items in let seat = c.in-Some.seat in
    let last = of_last (λ i (s : SeatView). HasBlocksOf i 2 held s.view) c.args.seats.now.items rest seat c.in-Some.ensures.items c.requires.blocks in
    let number : length rest ≡ c.len-number.result = omega arith in
    subst (λ (v : View). HasBlocksOf c.len-number.result 2 held v) (sym c.new-seat.ensures.state.view)
    (subst (λ (n : ℕ). HasBlocksOf n 2 held seat.view) number last)

pub returns-clause-blocks : goal.returns-clause-blocks
returns-clause-blocks c = of_rest (λ i (s : SeatView). HasBlocksOf i 2 c.args.held.now s.view)
    c.args.seats.now.items c.last_seat.new.seats.items c.in-Some.seat c.in-Some.ensures.items c.requires.blocks
