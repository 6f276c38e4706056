use Rattle.std.proofs.Common.{Contains, ap, ◌∙◌}
use Rattle.std.proofs.lemmas.Result.{IfOk-weaker}
use Rattle.core_model.specs.View.{role}
use Rattle.heap_seat.specs.Alloc.{Allocates}
use Rattle.seat_model.specs.CacheState.{heap_view, held_blocks}
use Rattle.first_handover.proofs.Working.{between_at, held_at, seat_of}
use Rattle.first_handover.proofs.threads.begin_second.Goals as goal

pub returns : goal.returns
returns c =
    let first = c.new-seat.result.state in
    let at = c.alloc-own.new.self.state in
    let seat = c.into_seat.result in
    let new = c.new-seat.ensures.state in
    let kept = c.alloc-own.ensures.kept.heap in
    let back = c.into_seat.ensures in record {
      at = record {
        of = seat_of c.args.shared.now c.args.seat first at seat c.requires.of new kept.0 kept.1.setup back.table back.view;
        between = between_at at seat.view back.view;
      };
      own = IfOk-weaker c.alloc-own.result (λ b. Allocates 100 b (heap_view first) (heap_view at)) (Contains (held_blocks seat.view))
          (λ b got. held_at seat.view at.view b back.view got.blocks.has) c.alloc-own.ensures.ok;
      role_is = ap role back.view ∙ kept.2 ∙ ap role new.view ∙ c.requires.role_is;
    }
