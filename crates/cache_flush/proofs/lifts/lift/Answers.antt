use Rattle.std.proofs.Common.{ℕ, sym, subst}
use Rattle.core_model.specs.declared.event.Event.TheVariants.{Load}
use Rattle.heap_table.specs.Plays.{IsEvent}
use Rattle.std.specs.Prelude.{OnOk}
use Rattle.seat_costs.proofs.AskedLemmas.{asked_step, asked_then}
use Rattle.seat_costs.proofs.RowLemmas.{row_of, row_then}
use Rattle.seat_costs.proofs.ShiftLemmas.{lift_draw_row}
use Rattle.seat_costs.proofs.StoreLemmas.{load_row}
use Rattle.cache_flush.specs.Lifts.{HasLifted}
use Rattle.cache_flush.proofs.LiftLemmas.{can_load, lift_stopped, lift_told, x_can, x_going}
use Rattle.cache_flush.proofs.lifts.lift.Goals as goal

pub load_word-requires-clause-can : goal.load_word-requires-clause-can
load_word-requires-clause-can g c =
    can_load c.args.seat.now.view c.draw.new.seat.view c.recall_soundness.ensures c.args.class.number c.args.first c.requires.can
    c.in_ok-draw.ensures.drawn c.requires.first

pub draw_with-requires-clause-can : goal.draw_with-requires-clause-can
draw_with-requires-clause-can g c =
    let e = subst (λ (n : ℕ). IsEvent (Load n) c.draw.new.seat.view c.load_word.result c.load_word.new.self.view)
    c.requires.first c.load_word.ensures.event in
    λ going. record {
      going = going;
      ticket = tt;
      shown = x_can c.args.seat.now.view c.draw.new.seat.view c.load_word.new.self.view c.recall_soundness.ensures c.args.class.number
          c.load_word.result c.requires.can c.in_ok-draw.ensures.drawn c.draw.ensures.row.view e;
    }

pub returns-clause-lifted : goal.returns-clause-lifted
returns-clause-lifted g c =
    let v = c.args.seat.now.view in let u = c.draw.new.seat.view in let x = c.load_word.new.self.view in let w = c.draw_with.new.seat.view in
    let e = subst (λ (n : ℕ). IsEvent (Load n) u c.load_word.result x) c.requires.first c.load_word.ensures.event in
    let going = x_going v u x c.recall_soundness.ensures c.args.class.number c.load_word.result c.requires.can c.in_ok-draw.ensures.drawn
    c.draw.ensures.row.view e in
    let d = c.draw_with.ensures.event going in
    subst (λ (n : ℕ). OnOk c.draw_with.result (HasLifted c.args.class.number n v w)) (sym c.requires.first)
    (lift_told v u x c.recall_soundness.ensures c.args.class.number c.load_word.result c.requires.can c.in_ok-draw.ensures.drawn
    c.draw.ensures.row.view e d.0 w d.2 d.1 d.3 c.draw_with.result c.draw_with.ensures.told)

pub returns-clause-stopped : goal.returns-clause-stopped
returns-clause-stopped g c =
    let v = c.args.seat.now.view in let u = c.draw.new.seat.view in let x = c.load_word.new.self.view in let w = c.draw_with.new.seat.view in
    let e = subst (λ (n : ℕ). IsEvent (Load n) u c.load_word.result x) c.requires.first c.load_word.ensures.event in
    let going = x_going v u x c.recall_soundness.ensures c.args.class.number c.load_word.result c.requires.can c.in_ok-draw.ensures.drawn
    c.draw.ensures.row.view e in
    let d = c.draw_with.ensures.event going in
    lift_stopped v u x c.recall_soundness.ensures c.args.class.number c.load_word.result c.requires.can c.in_ok-draw.ensures.drawn
    c.draw.ensures.row.view e d.0 w d.2 d.1 d.3 c.draw_with.result c.draw_with.ensures.told

pub returns-clause-row : goal.returns-clause-row
returns-clause-row g c =
    let v = c.args.seat.now in let u = c.draw.new.seat in let x = c.load_word.new.self in let w = c.draw_with.new.seat in
    let e = subst (λ (n : ℕ). IsEvent (Load n) u.view c.load_word.result x.view) c.requires.first c.load_word.ensures.event in
    let going = x_going v.view u.view x.view c.recall_soundness.ensures c.args.class.number c.load_word.result c.requires.can
    c.in_ok-draw.ensures.drawn c.draw.ensures.row.view e in
    let d = c.draw_with.ensures.event going in
    row_then v x w (row_then v u x c.draw.ensures.row (row_of u x c.load_word.ensures.stores
    (load_row c.args.first u.view x.view c.load_word.result c.load_word.ensures.event)))
    (row_of x w c.draw_with.ensures.stores (lift_draw_row x.view d.0 d.1 going w.view d.2 c.args.class.number d.3))

pub returns-clause-asked : goal.returns-clause-asked
returns-clause-asked g c = asked_then (asked_step tt c.draw.ensures.numbers c.load_word.ensures.event) c.draw_with.ensures.numbers
