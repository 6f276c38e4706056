use Rattle.heap_rule.specs.Shown.{Can}
use Rattle.std.proofs.lemmas.Result.{err_from_is_err_and}
use Rattle.seat_index.proofs.OwnedReads.{classed_below}
use Rattle.std.proofs.Common.{ap, sym, subst, set, refl, true, ◌∙◌, ◌+◌, ◌*◌, ◌<◌, ◌≤◌, length, arith, ℕ, None, Err}
use Rattle.heap_model.specs.Geometry.{start_word}
use Rattle.heap_model.specs.Sizes.{words_of_class}
use Rattle.heap_model.specs.Words.{anchor_first}
use Rattle.core_model.specs.declared.event.Event.TheVariants.{TakeAll}
use Rattle.core_model.specs.Effects.{seen_word, claim_class}
use Rattle.seat_state.specs.Notes.{snapshot}
use Rattle.heap_table.specs.SeatViews.{view_in}
use Rattle.heap_table.specs.Plays.{IsEvent}
use Rattle.heap_rule.specs.Seated.{SeatView, IsKeptOf, Tells}
use Rattle.core_model.specs.View.{of_class}
use Rattle.heap_model.specs.Counting.{times}
use Rattle.seat_index.specs.Owned.{IsMarking}
use Rattle.seat_index.proofs.OwnedLost.{take_lost}
use Rattle.seat_index.proofs.OwnedTaken.{taken_count, taken_first, taken_short, taken_inside, cache_taken, taken_owned}
use Rattle.seat_index.proofs.StackLemmas.{filled_stack, has_stack}
use Rattle.heap_rule.proofs.SeatLemmas.{seat_after, whole_at}
use Rattle.heap_rule.proofs.ChainLemmas.{all_taken, take_all_lost}
use Rattle.heap_rule.proofs.seat.Seat.take_into.Goals as goal

pub invariant_of-self : goal.invariant_of-self
invariant_of-self c = let e = c.in_err-exchange_seen.ensures.event in
    let is = ap seen_word (c.self.invariant.seat.kept.notes_are.seen_anchor ∙ ap snapshot c.in-Some.is) in
    record {
      seat = seat_after c.self.inside.table_seat.me c.exchange_seen.new.table_seat.me c.self.inside.notes _ c.self.inside.geometry.capacity
          (TakeAll c.args.d) e.0 c.args.shared.now c.exchange_seen.new.table_seat.table_id c.self.invariant.seat c.exchange_seen.ensures.at e.1
          (subst (λ n. IsKeptOf n (view_in c.exchange_seen.new.table_seat.me.0)) (sym c.in_err-exchange_seen.ensures.notes)
          (take_all_lost c.self.inside.notes (view_in c.self.inside.table_seat.me.0)
          (view_in c.exchange_seen.new.table_seat.me.0) c.args.d e.0 c.in-Some.anchor.word c.self.invariant.seat.kept e.1
          c.exchange_seen.ensures.at.has is e.2.1));
      marks_long = c.self.invariant.marks_long;
      own = take_lost c.self.inside.owned (view_in c.self.inside.table_seat.me.0)
          (view_in c.exchange_seen.new.table_seat.me.0) c.args.d e.0 c.in-Some.anchor.word c.self.invariant.own e.1 is e.2.1;
    }

pub load_cache-requires-clause-count : goal.load_cache-requires-clause-count
load_cache-requires-clause-count c = let e = c.in_ok-exchange_seen.ensures.event in
    let is = ap seen_word (c.self.invariant.seat.kept.notes_are.seen_anchor ∙ ap snapshot c.in-Some.is) in
    taken_count (view_in c.self.inside.table_seat.me.0) (view_in c.exchange_seen.new.table_seat.me.0) c.args.d e.0 e.1 (e.2
    ∙ sym is) c.args.class.number c.anchor_count-count.result c.in-Some.anchor.word
    (c.requires.class ∙ ap (λ (s : SeatView). claim_class c.args.d s.view.classed) (sym c.self.view_is)) c.anchor_count-count.ensures is

pub load_cache-requires-clause-first : goal.load_cache-requires-clause-first
load_cache-requires-clause-first c = let e = c.in_ok-exchange_seen.ensures.event in
    let is = ap seen_word (c.self.invariant.seat.kept.notes_are.seen_anchor ∙ ap snapshot c.in-Some.is) in
    taken_first (view_in c.self.inside.table_seat.me.0) (view_in c.exchange_seen.new.table_seat.me.0) c.args.d e.0 e.1 (e.2
    ∙ sym is) c.args.class.number c.first_free-first.result c.anchor_count-count.result c.in-Some.anchor.word
    (c.requires.class ∙ ap (λ (s : SeatView). claim_class c.args.d s.view.classed) (sym c.self.view_is)) c.anchor_count-count.ensures is
    (c.first_free-first.ensures ∙ ap (λ n. start_word n c.args.d + anchor_first c.in-Some.anchor.word * words_of_class c.args.class.number)
    c.self.invariant.seat.capacity_is)

pub load_cache-requires-clause-room : goal.load_cache-requires-clause-room
load_cache-requires-clause-room c = let e = c.in_ok-exchange_seen.ensures.event in
    let is = ap seen_word (c.self.invariant.seat.kept.notes_are.seen_anchor ∙ ap snapshot c.in-Some.is) in
    let class_is = c.requires.class ∙ ap (λ (s : SeatView). claim_class c.args.d s.view.classed) (sym c.self.view_is) in
    let n = taken_count (view_in c.self.inside.table_seat.me.0) (view_in c.exchange_seen.new.table_seat.me.0) c.args.d e.0 e.1 (e.2
    ∙ sym is) c.args.class.number c.anchor_count-count.result c.in-Some.anchor.word
    class_is c.anchor_count-count.ensures is in
    let short = taken_short (view_in c.self.inside.table_seat.me.0) (view_in c.exchange_seen.new.table_seat.me.0) c.args.d e.0 e.1 (e.2
    ∙ sym is) c.args.class.number class_is in
    let room = c.self.invariant.own.stacks.room c.args.class.number c.index_mut-stack.result.now
    (sym c.index_mut-stack.ensures.value) c.args.class.is in
    subst (λ k. k ≤ length c.index_mut-stack.result.now.blocks.items) (sym n)
    (subst (λ k. length (of_class (view_in c.exchange_seen.new.table_seat.me.0).caches c.args.class.number) ≤ k) (sym room) short)

pub cached-requires : goal.cached-requires
cached-requires c = c.load_cache.ensures.inside

pub mark_all-requires : goal.mark_all-requires
mark_all-requires c = let e = c.in_ok-exchange_seen.ensures.event in
    let is = ap seen_word (c.self.invariant.seat.kept.notes_are.seen_anchor ∙ ap snapshot c.in-Some.is) in
    let class_is = c.requires.class ∙ ap (λ (s : SeatView). claim_class c.args.d s.view.classed) (sym c.self.view_is) in
    λ b some. subst (λ n. b < n) (sym c.self.invariant.own.words_long)
    (taken_inside (view_in c.self.inside.table_seat.me.0) (view_in c.exchange_seen.new.table_seat.me.0) c.args.d e.0 e.1 (e.2 ∙ sym is) b
    (subst (λ l. 0 < times b l) (c.cached.ensures ∙ c.load_cache.ensures.loaded
    ∙ ap (of_class (view_in c.exchange_seen.new.table_seat.me.0).caches) class_is
    ∙ cache_taken (view_in c.self.inside.table_seat.me.0) (view_in c.exchange_seen.new.table_seat.me.0) c.args.d e.0 e.1 (e.2 ∙ sym is)) some))

pub invariant_of-self-2 : goal.invariant_of-self-2
invariant_of-self-2 c = let e = c.in_ok-exchange_seen.ensures.event in
    let is = ap seen_word (c.self.invariant.seat.kept.notes_are.seen_anchor ∙ ap snapshot c.in-Some.is) in
    let class_is = c.requires.class ∙ ap (λ (s : SeatView). claim_class c.args.d s.view.classed) (sym c.self.view_is) in
    let loaded = c.load_cache.ensures.loaded ∙ ap (of_class (view_in c.exchange_seen.new.table_seat.me.0).caches) class_is
    ∙ cache_taken (view_in c.self.inside.table_seat.me.0) (view_in c.exchange_seen.new.table_seat.me.0) c.args.d e.0 e.1 (e.2 ∙ sym is) in
    whole_at c.exchange_seen.new.table_seat.me c.load_cache.new.table_seat.me _ _ _ _ _ c.load_cache.ensures.same (record {
      seat = seat_after c.self.inside.table_seat.me c.exchange_seen.new.table_seat.me c.self.inside.notes _ c.self.inside.geometry.capacity
          (TakeAll c.args.d) e.0 c.args.shared.now c.exchange_seen.new.table_seat.table_id c.self.invariant.seat c.exchange_seen.ensures.at e.1
          (subst (λ n. IsKeptOf (record n {
            seen_anchor = None;
            caches =
                set n.caches c.args.class.number (record { first = c.first_free-first.result; count = c.anchor_count-count.result });
          })
          (view_in c.exchange_seen.new.table_seat.me.0)) (sym c.in_ok-exchange_seen.ensures.notes)
          (all_taken c.self.inside.notes (view_in c.self.inside.table_seat.me.0)
          (view_in c.exchange_seen.new.table_seat.me.0) c.args.d e.0 c.in-Some.anchor.word c.args.class.number
          (record { first = c.first_free-first.result; count = c.anchor_count-count.result })
          c.self.invariant.seat.kept e.1 c.exchange_seen.ensures.at.has is e.2 class_is c.args.class.is
          (c.first_free-first.ensures ∙ ap (λ n. start_word n c.args.d + anchor_first c.in-Some.anchor.word * words_of_class
          c.args.class.number) c.self.invariant.seat.capacity_is) c.anchor_count-count.ensures));
      marks_long = c.self.invariant.marks_long;
      own = taken_owned (view_in c.self.inside.table_seat.me.0) (view_in c.exchange_seen.new.table_seat.me.0) c.args.d e.0 e.1 (e.2
          ∙ sym is) c.self.inside.owned c.mark_all.new.blocks _ _ _ c.self.invariant.own
          (subst (λ l. IsMarking c.self.inside.owned.blocks c.mark_all.new.blocks l true) (c.cached.ensures ∙ loaded) c.mark_all.ensures)
          (ap (set c.self.inside.owned.classes.items c.args.d) class_is) refl
          (filled_stack c.self.inside.owned.stacks.items _ c.args.class.number c.index_mut-stack.result.now c.load_cache.new.stack _ class_is
          (has_stack c.self.inside.owned.stacks.items _ c.args.class.number c.self.invariant.own.stacks c.args.class.is).below
          (sym c.index_mut-stack.ensures.value) c.load_cache.ensures.room c.load_cache.ensures.inside loaded);
    })

pub first_free-first-requires : goal.first_free-first-requires
first_free-first-requires c =
    let can = subst (λ (s : SeatView). Can s.view (TakeAll c.args.d)) (sym c.self.view_is) c.requires.can in
    let b = classed_below (view_in c.self.inside.table_seat.me.0) c.self.invariant.seat.kept.has c.self.inside.owned c.self.invariant.own
    c.args.d can.shown.claimed in let e = c.self.invariant.seat.capacity_is in omega arith

pub index_mut-requires : goal.index_mut-requires
index_mut-requires c =
    let can = subst (λ (s : SeatView). Can s.view (TakeAll c.args.d)) (sym c.self.view_is) c.requires.can in
    let b = classed_below (view_in c.self.inside.table_seat.me.0) c.self.invariant.seat.kept.has c.self.inside.owned c.self.invariant.own
    c.args.d can.shown.claimed in subst (λ n. c.args.d < n) (sym (c.self.inside.owned.classes.ok.0 ∙ c.self.invariant.own.classes_long)) b

pub index_mut-requires-2 : goal.index_mut-requires-2
index_mut-requires-2 c =
    let can = subst (λ (s : SeatView). Can s.view (TakeAll c.args.d)) (sym c.self.view_is) c.requires.can in
    let b = classed_below (view_in c.self.inside.table_seat.me.0) c.self.invariant.seat.kept.has c.self.inside.owned c.self.invariant.own
    c.args.d can.shown.claimed in subst (λ n. c.args.d < n) (sym (c.self.inside.owned.ownerships.ok.0 ∙ c.self.invariant.own.ownerships_long)) b

pub returns-in_err-exchange_seen-clause-event : goal.returns-in_err-exchange_seen-clause-event
returns-in_err-exchange_seen-clause-event c =
    let told = err_from_is_err_and c.from_residual.result c.from_residual.ensures.1 in
    let e = c.in_err-exchange_seen.ensures.event in let is = ap seen_word (c.self.invariant.seat.kept.notes_are.seen_anchor
    ∙ ap snapshot c.in-Some.is) in
    rw (told.1, told.2) (subst (λ (s : SeatView). (x : ℕ) × IsEvent (TakeAll c.args.d) s.view x (view_in c.exchange_seen.new.table_seat.me.0)
    × Tells (seen_word s.view.seen_anchor) x (Err c.in_err-exchange_seen.field-0.0)) c.self.view_is
    (e.0, e.1, (e.2.0, λ same. e.2.1 (same ∙ is))))
