use Rattle.std.proofs.Common.{subst, arith}
use Rattle.std.proofs.lemmas.Result.{err_from_is_err_and}
use Rattle.superblock_lists.specs.Pops.{HasPopped, Pops}
use Rattle.superblock_lists.specs.Pushes.{HasPushed}
use Rattle.seat_costs.specs.Costs.{no_costs, one_move}
use Rattle.seat_costs.specs.Rows.{Row}
use Rattle.seat_costs.proofs.AskedLemmas.{asked_then}
use Rattle.seat_costs.proofs.RowLemmas.{row_moves, row_then, row_within, stops_later}
use Rattle.cache_fill.specs.Takes.{HasTakenFree, IsAllFree, TakesFree}
use Rattle.cache_fill.proofs.ClassFillLemmas.{empty_list_row, free_lists, free_moves, moved_on, none_of_class, popped_claim, taken_fills}
use Rattle.cache_fill.proofs.refills.try_fill_from_class.Goals as goal

pub returns-in_err-take_free_blocks-in-Got-clause-row : goal.returns-in_err-take_free_blocks-in-Got-clause-row
returns-in_err-take_free_blocks-in-Got-clause-row g c = let v = c.args.seat.now in let w = c.take_free_blocks.new.seat in
    row_moves v w (row_within (record no_costs { draws = 7; wins = 2 }) v w
    (record { draws = omega arith; wins = omega arith; gives = omega arith; cuts = omega arith; taken = omega arith; moves = omega arith })
    (row_then v c.pop.new.seat w c.pop.ensures.row c.take_free_blocks.ensures.row))

pub returns-then-branch-clause-row : goal.returns-then-branch-clause-row
returns-then-branch-clause-row g c = let v = c.args.seat.now in let w = c.take_free_blocks.new.seat in
    row_moves v w (row_within (record no_costs { draws = 7; wins = 2 }) v w
    (record { draws = omega arith; wins = omega arith; gives = omega arith; cuts = omega arith; taken = omega arith; moves = omega arith })
    (row_then v c.pop.new.seat w c.pop.ensures.row c.take_free_blocks.ensures.row))

pub returns-then-branch-clause-done : goal.returns-then-branch-clause-done
returns-then-branch-clause-done g c = let v = c.args.seat.now in let t = c.pop.new.seat in let w = c.take_free_blocks.new.seat in
    let popped : HasPopped c.args.class.number c.in-Got.d v.view t.view =
    subst (λ pop. Pops c.args.class.number pop v.view t.view) c.in-Got.is c.in_ok-pop.ensures.done in
    let taken : HasTakenFree c.in-Got.d c.args.class.number t.view w.view =
    subst (λ some. TakesFree c.in-Got.d c.args.class.number some t.view w.view) c.if-branch.true c.in_ok-take_free_blocks-in-Got.ensures.taken in
    let row = (row_moves v w (row_then v t w c.pop.ensures.row c.take_free_blocks.ensures.row)).view in
    record {
      filled = taken_fills v.view t.view c.args.class.number c.in-Got.d c.args.class.is popped w.view
          (let most = row.passes.most.cuts in omega (arith, most)) taken;
      row = row;
    }

pub take_free_blocks-requires-clause-claim : goal.take_free_blocks-requires-clause-claim
take_free_blocks-requires-clause-claim g c =
    popped_claim c.args.seat.now.view c.pop.new.seat.view c.args.class.number c.in-Got.d c.args.class.is
    (subst (λ pop. Pops c.args.class.number pop c.args.seat.now.view c.pop.new.seat.view) c.in-Got.is c.in_ok-pop.ensures.done)

pub push-requires-clause-can : goal.push-requires-clause-can
push-requires-clause-can g c = let v = c.args.seat.now.view in let t = c.pop.new.seat.view in let x = c.take_free_blocks.new.seat.view in
    let popped : HasPopped c.args.class.number c.in-Got.d v t = subst (λ pop. Pops c.args.class.number pop v t) c.in-Got.is c.in_ok-pop.ensures.done in
    let free : IsAllFree c.in-Got.d t x = subst (λ some. TakesFree c.in-Got.d c.args.class.number some t x)
    c.if-branch.false c.in_ok-take_free_blocks-in-Got.ensures.taken in
    free_lists v t c.args.class.number c.in-Got.d c.args.class.is popped x c.recall_soundness-in-Got.ensures free

pub returns-in_err-push-in-Got-clause-stopped : goal.returns-in_err-push-in-Got-clause-stopped
returns-in_err-push-in-Got-clause-stopped g c = let v = c.args.seat.now in let t = c.pop.new.seat in let x = c.take_free_blocks.new.seat in
    let popped : HasPopped c.args.class.number c.in-Got.d v.view t.view =
    subst (λ pop. Pops c.args.class.number pop v.view t.view) c.in-Got.is c.in_ok-pop.ensures.done in
    let free : IsAllFree c.in-Got.d t.view x.view = subst (λ some. TakesFree c.in-Got.d c.args.class.number some t.view x.view)
    c.if-branch.false c.in_ok-take_free_blocks-in-Got.ensures.taken in
    let p = err_from_is_err_and c.from_residual-in_err-push-in-Got.result c.from_residual-in_err-push-in-Got.ensures.1 in
    rw (p.1, p.2) (stops_later v.view x.view c.push.new.seat.view c.in_err-push-in-Got.field-0.0.step popped.ran free.going
    (row_then v t x c.pop.ensures.row c.take_free_blocks.ensures.row).view c.in_err-push-in-Got.ensures.stopped)

pub returns-in_err-push-in-Got-clause-row : goal.returns-in_err-push-in-Got-clause-row
returns-in_err-push-in-Got-clause-row g c = let v = c.args.seat.now in let t = c.pop.new.seat in let x = c.take_free_blocks.new.seat in
    let w = c.push.new.seat in
    row_moves v w (row_within (record no_costs { draws = 7; wins = 2; moves = 1 }) v w
    (record { draws = omega arith; wins = omega arith; gives = omega arith; cuts = omega arith; taken = omega arith; moves = omega arith })
    (row_then v x w (row_then v t x c.pop.ensures.row (c.in_ok-take_free_blocks-in-Got.ensures.none c.if-branch.false)) c.push.ensures.row))

pub returns-in_ok-push-in-Got-clause-row : goal.returns-in_ok-push-in-Got-clause-row
returns-in_ok-push-in-Got-clause-row g c = let v = c.args.seat.now in let t = c.pop.new.seat in let x = c.take_free_blocks.new.seat in
    let w = c.push.new.seat in
    row_moves v w (row_within (record no_costs { draws = 7; wins = 2; moves = 1 }) v w
    (record { draws = omega arith; wins = omega arith; gives = omega arith; cuts = omega arith; taken = omega arith; moves = omega arith })
    (row_then v x w (row_then v t x c.pop.ensures.row (c.in_ok-take_free_blocks-in-Got.ensures.none c.if-branch.false)) c.push.ensures.row))

pub returns-in_ok-push-in-Got-clause-done : goal.returns-in_ok-push-in-Got-clause-done
returns-in_ok-push-in-Got-clause-done g c = let v = c.args.seat.now in let t = c.pop.new.seat in let x = c.take_free_blocks.new.seat in
    let w = c.push.new.seat in let class = c.args.class.number in let d = c.in-Got.d in
    let popped : HasPopped class d v.view t.view = subst (λ pop. Pops class pop v.view t.view) c.in-Got.is c.in_ok-pop.ensures.done in
    let free : IsAllFree d t.view x.view = subst (λ some. TakesFree d class some t.view x.view)
    c.if-branch.false c.in_ok-take_free_blocks-in-Got.ensures.taken in
    let pushed : HasPushed 0 d 3 x.view w.view = c.in_ok-push-in-Got.ensures.done in
    let move : Row (record one_move { draws = 3 }) x w = record {
      view =
          free_moves v.view t.view class d c.args.class.is popped x.view c.recall_soundness-in-Got.ensures free w.view pushed;
      marks = c.push.ensures.row.marks;
    } in
    let row = row_then v x w (row_then v t x c.pop.ensures.row (c.in_ok-take_free_blocks-in-Got.ensures.none c.if-branch.false)) move in
    moved_on v.view t.view class d c.args.class.is popped x.view c.recall_soundness-in-Got.ensures free w.view pushed
    (let a = popped.more in let b = free.row.passes.more.draws in let m = move.view.passes.more.draws in omega arith)
    (row_moves v w (row_within (record no_costs { moves = 1 }) v w
    (record { draws = omega arith; wins = omega arith; gives = omega arith; cuts = omega arith; taken = omega arith; moves = omega arith })
    row)).view

pub returns-in-Empty-clause-done : goal.returns-in-Empty-clause-done
returns-in-Empty-clause-done g c = let v = c.args.seat.now in let w = c.pop.new.seat in
    let row = empty_list_row c.args.class.number c.in-Empty.head v w c.in_ok-pop.pop c.in-Empty.is c.in_ok-pop.ensures.done c.pop.ensures.row in
    none_of_class v.view w.view c.args.class.number c.in-Empty.head (row_moves v w row).view
    (subst (λ pop. Pops c.args.class.number pop v.view w.view) c.in-Empty.is c.in_ok-pop.ensures.done)

pub returns-in_err-take_free_blocks-in-Got-clause-asked : goal.returns-in_err-take_free_blocks-in-Got-clause-asked
returns-in_err-take_free_blocks-in-Got-clause-asked g c = asked_then c.pop.ensures.asked c.take_free_blocks.ensures.asked

pub returns-then-branch-clause-asked : goal.returns-then-branch-clause-asked
returns-then-branch-clause-asked g c = asked_then c.pop.ensures.asked c.take_free_blocks.ensures.asked

pub returns-in_err-push-in-Got-clause-asked : goal.returns-in_err-push-in-Got-clause-asked
returns-in_err-push-in-Got-clause-asked g c = asked_then (asked_then c.pop.ensures.asked c.take_free_blocks.ensures.asked) c.push.ensures.asked

pub returns-in_ok-push-in-Got-clause-asked : goal.returns-in_ok-push-in-Got-clause-asked
returns-in_ok-push-in-Got-clause-asked g c = asked_then (asked_then c.pop.ensures.asked c.take_free_blocks.ensures.asked) c.push.ensures.asked
