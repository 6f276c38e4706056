use Rattle.std.proofs.Common.{◌≡◌, List, [], ◌∷◌, ◌++◌, ap, arith, refl, rules, subst, sym, ◌∙◌}
use Rattle.heap_table.specs.AtTable.{IsClosedSound}
use Rattle.heap_table.specs.Rule.{setup_for}
use Rattle.heap_rule.specs.Carried.{AreAllOf, CarrierView, carried_views}
use Rattle.heap_rule.specs.Seated.{SeatView}
use Rattle.heap_rule.specs.Seats.{views_of}
use Rattle.first_threads.proofs.Pairs.{held_by, is_closed, pair_hands_nothing, pair_of}
use Rattle.first_threads.proofs.threads.close.Goals as goal

pub close_shared-requires : goal.close_shared-requires
close_shared-requires c =
    let both = c.push_reserved-2.ensures.items ∙ ap (λ (l : List SeatView). l ++ c.args.other ∷ []) (c.push_reserved.ensures.items
    ∙ ap (λ (l : List SeatView). l ++ c.args.one ∷ []) c.in_ok-seats.ensures.items) in
    subst (AreAllOf c.args.shared c.push_reserved-2.new.self.items) (sym c.new.ensures.items)
    (subst (λ (l : List SeatView). AreAllOf c.args.shared l []) (sym both)
    (c.seats_that_hand_nothing_leave_no_carrier.ensures c.args.shared (c.args.one ∷ c.args.other ∷ [])
    (pair_of c.args.shared c.args.one c.args.other c.requires.seats c.requires.one c.requires.other)
    (pair_hands_nothing c.args.shared c.args.one c.args.other c.requires.seats c.requires.one_role c.requires.other_role)))

pub returns-clause-apart : goal.returns-clause-apart
returns-clause-apart c = λ a b in_one in_other.
    let k = setup_for c.args.shared.opening in
    let closed = c.in_ok-image.field-0 in
    let both = c.push_reserved-2.ensures.items ∙ ap (λ (l : List SeatView). l ++ c.args.other ∷ []) (c.push_reserved.ensures.items
    ∙ ap (λ (l : List SeatView). l ++ c.args.one ∷ []) c.in_ok-seats.ensures.items) in
    let alone = subst (λ (cs : List CarrierView). IsClosedSound k closed.now closed.kept
    (views_of c.push_reserved-2.new.self.items ++ carried_views cs)) c.new.ensures.items c.in_ok-image.ensures.sound in
    let sound = subst (λ (l : List SeatView). IsClosedSound k closed.now closed.kept (views_of l ++ [])) both alone in
    (c.no_block_is_held_twice.ensures.closed k closed.now closed.kept
    (views_of (c.args.one ∷ c.args.other ∷ [])) sound).by_two 0 1 c.args.one.view c.args.other.view (λ e. omega (arith, e))
    (omega arith) refl (omega arith) refl a b in_one in_other

pub returns-clause-named : goal.returns-clause-named
returns-clause-named c = λ b held.
    let k = setup_for c.args.shared.opening in
    let closed = c.in_ok-image.field-0 in
    let both = c.push_reserved-2.ensures.items ∙ ap (λ (l : List SeatView). l ++ c.args.other ∷ []) (c.push_reserved.ensures.items
    ∙ ap (λ (l : List SeatView). l ++ c.args.one ∷ []) c.in_ok-seats.ensures.items) in
    let alone = subst (λ (cs : List CarrierView). IsClosedSound k closed.now closed.kept
    (views_of c.push_reserved-2.new.self.items ++ carried_views cs)) c.new.ensures.items c.in_ok-image.ensures.sound in
    let sound = subst (λ (l : List SeatView). IsClosedSound k closed.now closed.kept (views_of l ++ [])) both alone in
    let same : closed.now ≡ c.image.inside.now.items = search rules in
    c.a_closed_heap_names_each_held_block.ensures.closed k closed.now closed.kept (views_of (c.args.one ∷ c.args.other ∷ [])) sound _
    (is_closed closed.now c.image.inside.now.items same (let long = c.in_ok-image.ensures.sound.now_long in omega arith)) b
    (held_by c.args.one.view c.args.other.view b held)
