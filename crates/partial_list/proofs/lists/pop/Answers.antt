use Rattle.std.proofs.Common.{arith}
use Rattle.superblock_lists.proofs.HandLemmas.{alone}
use Rattle.seat_costs.proofs.ResultLemmas.{if_ok_then}
use Rattle.partial_list.proofs.lists.pop.Goals as goal

pub returns-clause-alone : goal.returns-clause-alone
returns-clause-alone g c =
    if_ok_then c.pop_from.result (λ pop is. alone c.a_claimed_superblock_is_in_one_hand.ensures c.args.class.number c.args.seat.now.view
    c.pop_from.new.seat.view pop is) c.pop_from.ensures.done

pub returns-clause-draws : goal.returns-clause-draws
returns-clause-draws g c = let most = c.a_row_bounds_its_draws.ensures.exact _ c.args.seat.now c.pop_from.new.seat c.pop_from.ensures.row in omega arith
