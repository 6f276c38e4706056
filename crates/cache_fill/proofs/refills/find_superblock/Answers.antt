use Rattle.std.proofs.Common.{subst, arith}
use Rattle.large_block.specs.Fresh.{HasTakenFresh, IsPast, Takes}
use Rattle.superblock_lists.specs.Pops.{HasPopped, IsEmptyList, Pops}
use Rattle.seat_costs.proofs.AskedLemmas.{asked_then}
use Rattle.seat_costs.proofs.RowLemmas.{row_then, view_row_then}
use Rattle.cache_fill.proofs.RefillLemmas.{fresh_behind, fresh_others, nothing_free, past_others}
use Rattle.cache_fill.proofs.ClassFillLemmas.{empty_list_row}
use Rattle.cache_fill.proofs.FillRowLemmas.{nothing_won}
use Rattle.cache_fill.proofs.refills.find_superblock.Goals as goal

pub returns-in_err-take-clause-row : goal.returns-in_err-take-clause-row
returns-in_err-take-clause-row g c = let v = c.args.seat.now in let t = c.pop.new.seat in
    row_then v t c.take_fresh.new.seat (empty_list_row 0 c.in-Empty.head v t c.in_ok-d.field-0 c.in-Empty.is c.in_ok-d.ensures.done
    c.pop.ensures.row) c.take_fresh.ensures.row

pub returns-in-Got-take-clause-row : goal.returns-in-Got-take-clause-row
returns-in-Got-take-clause-row g c = let v = c.args.seat.now in let t = c.pop.new.seat in
    row_then v t c.take_fresh.new.seat (empty_list_row 0 c.in-Empty.head v t c.in_ok-d.field-0 c.in-Empty.is c.in_ok-d.ensures.done
    c.pop.ensures.row) c.take_fresh.ensures.row

pub returns-in-Past-clause-row : goal.returns-in-Past-clause-row
returns-in-Past-clause-row g c = let v = c.args.seat.now in let t = c.pop.new.seat in
    row_then v t c.take_fresh.new.seat (empty_list_row 0 c.in-Empty.head v t c.in_ok-d.field-0 c.in-Empty.is c.in_ok-d.ensures.done
    c.pop.ensures.row) c.take_fresh.ensures.row

pub returns-in-Past-clause-done : goal.returns-in-Past-clause-done
returns-in-Past-clause-done g c = let v = c.args.seat.now in let t = c.pop.new.seat in let w = c.take_fresh.new.seat.view in
    let empty : IsEmptyList 0 c.in-Empty.head v.view t.view = subst (λ pop. Pops 0 pop v.view t.view) c.in-Empty.is c.in_ok-d.ensures.done in
    let past : IsPast 1 c.in-Past.used t.view w = subst (λ take. Takes 1 take t.view w) c.in-Past.is c.in_ok-take.ensures.done in
    nothing_free v.view t.view w c.in-Empty.head c.in-Past.used c.recall_soundness.ensures
    (view_row_then v.view t.view w (empty_list_row 0 c.in-Empty.head v t c.in_ok-d.field-0 c.in-Empty.is c.in_ok-d.ensures.done
    c.pop.ensures.row).view (nothing_won t.view w past.wins past.taken c.take_fresh.ensures.row.view))
    empty past

pub returns-in-Got-clause-fresh : goal.returns-in-Got-clause-fresh
returns-in-Got-clause-fresh g c = λ rose. absurd (let none = c.pop.ensures.row.view.passes.most.taken in omega (arith, rose, none))

pub returns-in-Got-take-clause-fresh : goal.returns-in-Got-take-clause-fresh
returns-in-Got-take-clause-fresh g c = let v = c.args.seat.now.view in let t = c.pop.new.seat.view in let w = c.take_fresh.new.seat.view in λ rose.
    let empty : IsEmptyList 0 c.in-Empty.head v t = subst (λ pop. Pops 0 pop v t) c.in-Empty.is c.in_ok-d.ensures.done in
    let got : HasTakenFresh 1 c.in-Got-take.d t w = subst (λ take. Takes 1 take t w) c.in-Got-take.is c.in_ok-take.ensures.done in
    fresh_behind v t w c.in-Empty.head c.in-Got-take.d c.recall_soundness.ensures empty got c.take_fresh.ensures.row.view.passes.next

pub returns-in-Past-clause-fresh : goal.returns-in-Past-clause-fresh
returns-in-Past-clause-fresh g c = let v = c.args.seat.now.view in let t = c.pop.new.seat.view in let w = c.take_fresh.new.seat.view in λ rose.
    let empty : IsEmptyList 0 c.in-Empty.head v t = subst (λ pop. Pops 0 pop v t) c.in-Empty.is c.in_ok-d.ensures.done in
    let past : IsPast 1 c.in-Past.used t w = subst (λ take. Takes 1 take t w) c.in-Past.is c.in_ok-take.ensures.done in
    absurd (let a = empty.taken in let b = past.taken in omega (arith, a, b, rose))

pub returns-in-Got-clause-others : goal.returns-in-Got-clause-others
returns-in-Got-clause-others g c = let v = c.args.seat.now.view in let w = c.pop.new.seat.view in
    let popped : HasPopped 0 c.in-Got.d v w = subst (λ pop. Pops 0 pop v w) c.in-Got.is c.in_ok-d.ensures.done in
    λ list less apart. popped.others.heads list apart

pub returns-in-Got-take-clause-others : goal.returns-in-Got-take-clause-others
returns-in-Got-take-clause-others g c = let v = c.args.seat.now.view in let t = c.pop.new.seat.view in let w = c.take_fresh.new.seat.view in
    let empty : IsEmptyList 0 c.in-Empty.head v t = subst (λ pop. Pops 0 pop v t) c.in-Empty.is c.in_ok-d.ensures.done in
    let got : HasTakenFresh 1 c.in-Got-take.d t w = subst (λ take. Takes 1 take t w) c.in-Got-take.is c.in_ok-take.ensures.done in
    fresh_others v t w c.in-Empty.head c.in-Got-take.d c.recall_soundness.ensures empty got

pub returns-in-Past-clause-others : goal.returns-in-Past-clause-others
returns-in-Past-clause-others g c = let v = c.args.seat.now.view in let t = c.pop.new.seat.view in let w = c.take_fresh.new.seat.view in
    let empty : IsEmptyList 0 c.in-Empty.head v t = subst (λ pop. Pops 0 pop v t) c.in-Empty.is c.in_ok-d.ensures.done in
    let past : IsPast 1 c.in-Past.used t w = subst (λ take. Takes 1 take t w) c.in-Past.is c.in_ok-take.ensures.done in
    past_others v t w c.in-Empty.head c.in-Past.used c.recall_soundness.ensures empty past

pub returns-in_err-take-clause-asked : goal.returns-in_err-take-clause-asked
returns-in_err-take-clause-asked g c = asked_then c.pop.ensures.asked c.take_fresh.ensures.asked

pub returns-in-Got-take-clause-asked : goal.returns-in-Got-take-clause-asked
returns-in-Got-take-clause-asked g c = asked_then c.pop.ensures.asked c.take_fresh.ensures.asked

pub returns-in-Past-clause-asked : goal.returns-in-Past-clause-asked
returns-in-Past-clause-asked g c = asked_then c.pop.ensures.asked c.take_fresh.ensures.asked
