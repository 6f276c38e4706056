use Rattle.std.proofs.Common.{◌<◌, ◌+◌, ◌*◌, true, false, refl, ap, sym, subst, ◌∙◌, eq-eqb}
use Rattle.heap_model.specs.Geometry.{start_word}
use Rattle.heap_model.specs.Sizes.{words_of_class}
use Rattle.heap_model.specs.Words.{anchor_first, full_anchor}
use Rattle.core_model.proofs.PlaceLemmas.{not-eq}
use Rattle.seat_costs.proofs.AskedLemmas.{asked_then}
use Rattle.seat_costs.proofs.RowLemmas.{row_then}
use Rattle.cache_flush.specs.Gives.{GivesSeen}
use Rattle.cache_flush.proofs.GiveLemmas.{batch_inside, batch_still, can_give_full, can_give_some, given_later, given_seen, not_given_later}
use Rattle.cache_flush.proofs.gives.give_looked.Goals as goal

pub give_seen-requires-clause-can : goal.give_seen-requires-clause-can
give_seen-requires-clause-can g c = can_give_full c.args.seat.now.view c.args.d c.args.class.number c.args.last c.args.anchor c.requires.batch
    c.requires.sees
    (c.if-anchor-anchor_after_take_all.true ∙ c.anchor_after_take_all.ensures)

pub returns-then-branch-clause-given : goal.returns-then-branch-clause-given
returns-then-branch-clause-given g c =
    given_seen true c.args.seat.now.view c.give_seen.new.seat.view c.args.d c.args.class.number c.args.last c.args.anchor c.requires.batch
    c.requires.sees
    (eq-eqb c.args.anchor full_anchor (c.if-anchor-anchor_after_take_all.true ∙ c.anchor_after_take_all.ensures))
    (subst (λ won. GivesSeen c.args.d won c.args.seat.now.view c.give_seen.new.seat.view) c.if-branch.true c.in_ok-give_seen.ensures.done)

pub first_free-first-requires : goal.first_free-first-requires
first_free-first-requires g c = subst (λ n. c.args.d < n) (sym (c.new-geometry.ensures ∙ c.capacity.ensures))
    (batch_inside c.args.seat.now.view c.recall_soundness.ensures c.args.d c.args.class.number c.args.last c.requires.batch)

pub give_seen-requires-2-clause-can : goal.give_seen-requires-2-clause-can
give_seen-requires-2-clause-can g c =
    can_give_some c.args.seat.now.view c.link_last.new.seat.view c.args.d c.args.class.number c.args.last c.args.anchor
    c.first_free-first.result c.requires.batch c.requires.sees c.in_ok-link_last.ensures.linked
    (c.first_free-first.ensures ∙ ap (λ n. start_word n c.args.d + anchor_first c.args.anchor * words_of_class c.args.class.number)
    (c.new-geometry.ensures ∙ c.capacity.ensures))

pub returns-in_err-give_seen-2-clause-row : goal.returns-in_err-give_seen-2-clause-row
returns-in_err-give_seen-2-clause-row g c =
    row_then c.args.seat.now c.link_last.new.seat c.give_seen-2.new.seat c.link_last.ensures.row c.give_seen-2.ensures.row

pub returns-then-branch-2-clause-row : goal.returns-then-branch-2-clause-row
returns-then-branch-2-clause-row g c =
    row_then c.args.seat.now c.link_last.new.seat c.give_seen-2.new.seat c.link_last.ensures.row c.give_seen-2.ensures.row

pub returns-clause-row : goal.returns-clause-row
returns-clause-row g c =
    row_then c.args.seat.now c.link_last.new.seat c.give_seen-2.new.seat c.link_last.ensures.row c.give_seen-2.ensures.row

pub returns-then-branch-2-clause-given : goal.returns-then-branch-2-clause-given
returns-then-branch-2-clause-given g c = let linked = c.in_ok-link_last.ensures.linked in
    let v = c.args.seat.now.view in let t = c.link_last.new.seat.view in
    given_later false v t c.give_seen-2.new.seat.view c.args.d c.args.class.number false linked.parts_are refl refl c.link_last.ensures.row.view
    (given_seen false t c.give_seen-2.new.seat.view c.args.d c.args.class.number c.args.last c.args.anchor
    (batch_still false v t c.args.d c.args.class.number c.args.last linked.parts_are c.requires.batch)
    (linked.anchor ∙ c.requires.sees) (not-eq c.args.anchor full_anchor
    (λ full. c.if-anchor-anchor_after_take_all.false (full ∙ sym c.anchor_after_take_all.ensures)))
    (subst (λ won. GivesSeen c.args.d won t c.give_seen-2.new.seat.view) c.if-branch-2.true c.in_ok-give_seen-2.ensures.done))

pub returns-clause-given : goal.returns-clause-given
returns-clause-given g c = let linked = c.in_ok-link_last.ensures.linked in
    not_given_later 1 false c.args.seat.now.view c.link_last.new.seat.view c.give_seen-2.new.seat.view linked.ran linked.room linked.parts_are
    c.link_last.ensures.row.view
    (subst (λ won. GivesSeen c.args.d won c.link_last.new.seat.view c.give_seen-2.new.seat.view) c.if-branch-2.false c.in_ok-give_seen-2.ensures.done)

pub returns-in_err-give_seen-2-clause-asked : goal.returns-in_err-give_seen-2-clause-asked
returns-in_err-give_seen-2-clause-asked g c = asked_then c.link_last.ensures.asked c.give_seen-2.ensures.asked

pub returns-then-branch-2-clause-asked : goal.returns-then-branch-2-clause-asked
returns-then-branch-2-clause-asked g c = asked_then c.link_last.ensures.asked c.give_seen-2.ensures.asked

pub returns-clause-asked : goal.returns-clause-asked
returns-clause-asked g c = asked_then c.link_last.ensures.asked c.give_seen-2.ensures.asked
