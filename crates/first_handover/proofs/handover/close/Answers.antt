use Rattle.std.proofs.Common.{◌∷◌, [], List, arith, refl, subst, sym}
use Rattle.std.specs.Prelude.{option_to_list}
use Rattle.heap_table.specs.Rule.{setup_for}
use Rattle.heap_rule.specs.Carried.{AreAllOf, CarrierView, carried_views}
use Rattle.heap_rule.specs.Seated.{SeatView}
use Rattle.first_handover.specs.Handover.{by_close, by_crash}
use Rattle.first_handover.proofs.Closing.{all_of, apart_of, sound_with}
use Rattle.first_handover.proofs.handover.close.Goals as goal

pub close_shared-requires : goal.close_shared-requires
close_shared-requires c =
    let a = c.args in
    let r = c.requires in
    let all = all_of a.shared a.one a.other a.left r.seats r.one r.other r.table r.none_lost in
    let first = subst (λ (l : List SeatView). AreAllOf a.shared l (option_to_list a.left)) (sym c.in_ok-seats.ensures) all in
    subst (λ (l : List CarrierView). AreAllOf a.shared c.in_ok-seats.seats.items l) (sym c.in_ok-carriers.ensures) first

pub returns-clause-alone : goal.returns-clause-alone
returns-clause-alone c = λ a b in_others in_other.
    let x = c.args in
    let k = setup_for x.shared.opening in
    let words = c.in_ok-words.words in
    let sound = sound_with k words.now words.kept c.in_ok-seats.seats.items (x.one ∷ x.other ∷ []) c.in_ok-carriers.carriers.items
    (option_to_list x.left) c.in_ok-seats.ensures c.in_ok-carriers.ensures c.in_ok-words.ensures.sound in
    let views = x.one.view ∷ x.other.view ∷ carried_views (option_to_list x.left) in
    apart_of k.capacity x.one.view x.other.view (carried_views (option_to_list x.left))
    (c.no_block_is_held_twice.ensures.closed k words.now words.kept views sound) a b in_others in_other

pub returns-clause-left : goal.returns-clause-left
returns-clause-left c = λ image left.
    let x = c.args in
    let k = setup_for x.shared.opening in
    let words = c.in_ok-words.words in
    let sound = sound_with k words.now words.kept c.in_ok-seats.seats.items (x.one ∷ x.other ∷ []) c.in_ok-carriers.carriers.items
    (option_to_list x.left) c.in_ok-seats.ensures c.in_ok-carriers.ensures c.in_ok-words.ensures.sound in
    let views = x.one.view ∷ x.other.view ∷ carried_views (option_to_list x.left) in
    let law = c.a_crash_or_a_close_of_a_closed_heap_is_one_of_each_seat.ensures in
    let may = c.what_may_be_left_has_a_seats_blocks_and_words.ensures in
    elim left [
      | by_crash crash ↦ may.by_crash x.other.view image (law.crash k words.now words.kept views sound image crash 1 x.other.view
          (omega arith) refl c.requires.is_seat)
      | by_close close ↦ may.by_close x.other.view image (law.close k words.now words.kept views sound image close 1 x.other.view
          (omega arith) refl c.requires.is_seat)
    ]
