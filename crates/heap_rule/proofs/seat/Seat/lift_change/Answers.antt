use Rattle.std.proofs.Common.{sym, subst, ◌∙◌}
use Rattle.core_model.specs.Guards.{MayAlloc}
use Rattle.heap_rule.specs.Seated.{SeatView, IsKeptOf}
use Rattle.heap_rule.proofs.ChangeLemmas.{lift_change}
use Rattle.heap_rule.proofs.NoteLemmas.{lift_notes}
use Rattle.heap_rule.proofs.ShiftLemmas.{cache_first, less}
use Rattle.heap_rule.proofs.seat.Seat.lift_change.Goals as goal

pub returns-clause-notes : goal.returns-clause-notes
returns-clause-notes c =
    let kept = subst (λ (s : SeatView). IsKeptOf c.self.inside.notes s.view) (c.self.view_is
    ∙ c.next_cached-first.ensures.same) c.self.invariant.seat.kept in
    let may : MayAlloc c.args.self.now.view c.args.class = record { is_class = c.requires.can.is_class; cached = c.requires.can.cached } in
    lift_notes c.args.self.now.view c.args.class _ c.next_cached-first.result c.requires.can
    (sym (cache_first c.self.inside.notes c.args.self.now.view kept c.args.class
    (less c.self.inside.notes c.args.self.now.view kept c.args.class may) c.requires.can.cached)) c.next_cached-first.ensures.next

pub returns-clause-change : goal.returns-clause-change
returns-clause-change c =
    let kept = subst (λ (s : SeatView). IsKeptOf c.self.inside.notes s.view) (c.self.view_is
    ∙ c.next_cached-first.ensures.same) c.self.invariant.seat.kept in
    let may : MayAlloc c.args.self.now.view c.args.class = record { is_class = c.requires.can.is_class; cached = c.requires.can.cached } in
    lift_change c.args.self.now.view c.args.class _ c.next_cached-first.result c.requires.can
    (sym (cache_first c.self.inside.notes c.args.self.now.view kept c.args.class
    (less c.self.inside.notes c.args.self.now.view kept c.args.class may) c.requires.can.cached))
