use Rattle.std.proofs.Common.{◌+◌, ap, ◌∙◌}
use Rattle.core_model.specs.View.{Role, role}
use Rattle.first_handover.proofs.Working.{between_at, held_at, seat_of}
use Rattle.first_handover.proofs.threads.begin_first.Goals as goal

pub returns-in-Ok : goal.returns-in-Ok
returns-in-Ok c =
    let first = c.new-seat.result.state in
    let at = c.send.new.seat.state in
    let seat = c.into_seat.result in
    let new = c.new-seat.ensures.state in
    let same = c.send.ensures.same in
    let sent = c.in-Ok.ensures in
    let back = c.into_seat.ensures in record {
      at = record {
        of = seat_of c.args.shared.now c.args.seat first at seat c.requires.of new same.table same.setup back.table back.view;
        between = between_at at seat.view back.view;
      };
      kept = held_at seat.view at.view c.in-Ok.kept back.view sent.kept;
      table = sent.table ∙ new.table ∙ c.requires.of.table;
      brings = sent.brings;
      role_is = ap role back.view ∙ sent.offered ∙ ap (λ (r : Role). record r { offers = r.offers + 1 }) (ap role new.view ∙ c.requires.role_is);
    }

pub returns-in-Err : goal.returns-in-Err
returns-in-Err c =
    let first = c.new-seat.result.state in
    let at = c.send.new.seat.state in
    let seat = c.into_seat-in-Err.result in
    let new = c.new-seat.ensures.state in
    let same = c.send.ensures.same in
    let back = c.into_seat-in-Err.ensures in record {
      at = record {
        of = seat_of c.args.shared.now c.args.seat first at seat c.requires.of new same.table same.setup back.table back.view;
        between = between_at at seat.view back.view;
      };
      kept = tt;
      table = tt;
      brings = tt;
      role_is = ap role back.view ∙ c.in-Err.ensures.none_offered ∙ ap role new.view ∙ c.requires.role_is;
    }
