use Rattle.std.proofs.Common.{ℕ, ◌∙◌, [], ◌∷◌, ◌+◌, ◌++◌, length, length-append, ap, sym, subst, Contains, arith}
use Rattle.std.proofs.lemmas.List.Elements.{Contains-append_left, Contains-append_right}
use Rattle.atomic_table.specs.Table.{Me}
use Rattle.heap_model.proofs.MemberLemmas.{in_head}
use Rattle.heap_table.specs.SeatViews.{SeatViews, view_in}
use Rattle.heap_rule.specs.Carried.{CarrierView}
use Rattle.heap_rule.proofs.ClosingLemmas.{one_joined, one_carrier}
use Rattle.heap_rule.proofs.closing.gather_carriers.Goals as goal

pub join-requires-clause-other_table : goal.join-requires-clause-other_table
join-requires-clause-other_table c = let carrier = c.in-Some.carrier in
    ap (λ (s : CarrierView). s.table) c.carrier.view_is ∙ c.loop-carrier.invariant.carriers carrier
    (subst (λ l. Contains l carrier) (sym c.in-Some.ensures.items)
    (Contains-append_right c.pop.new.self.items (carrier ∷ []) carrier (in_head carrier [])))

pub join-requires-clause-no_slots : goal.join-requires-clause-no_slots
join-requires-clause-no_slots c = ap (λ (m : Me ℕ SeatViews). m.1) c.carrier.invariant.me_is

pub loop-carrier-preserved : goal.loop-carrier-preserved
loop-carrier-preserved c = let carrier = c.in-Some.carrier in let joined = ap (λ (m : Me ℕ SeatViews). m.0) c.join.ensures.views in
    let counted = c.loop-carrier.invariant.counted in record {
      table = c.join.ensures.table ∙ c.loop-carrier.invariant.table;
      carriers = λ s p. c.loop-carrier.invariant.carriers s (subst (λ l. Contains l s) (sym c.in-Some.ensures.items)
          (Contains-append_left c.pop.new.self.items (carrier ∷ []) s p));
      views = one_joined (λ (s : CarrierView). s.view) c.loop-carrier.carriers.items c.pop.new.self.items carrier c.carrier.inside.table_seat.me.0
          c.loop-carrier.last.me.0 c.join.new.seat.me.0 _ c.in-Some.ensures.items
          (ap (λ (m : Me ℕ SeatViews). m.0) c.carrier.invariant.me_is ∙ ap (λ (s : CarrierView). s.view ∷ []) c.carrier.view_is)
          joined c.loop-carrier.invariant.views;
      counted = (
        counted.0 + 1,
        (let l = ap length c.in-Some.ensures.items in let a = length-append c.pop.new.self.items (carrier ∷ []) in let n = counted.1 in omega arith),
        one_carrier counted.0 c.loop-carrier.last.me.0 c.join.new.seat.me.0 (view_in c.carrier.inside.table_seat.me.0) c.carrier.invariant.carrier
            (joined ∙ ap (λ vs. vs ++ c.loop-carrier.last.me.0) (ap (λ (m : Me ℕ SeatViews). m.0) c.carrier.invariant.me_is)) counted.2,
      );
    }
