use Rattle.std.proofs.Common.{ℕ, ◌+◌, ◌*◌, ◌<◌, get_or, length, refl, ap, sym, subst, ◌∙◌, true≢false, arith}
use Rattle.heap_model.specs.Counting.{times}
use Rattle.heap_model.specs.Geometry.{start_word}
use Rattle.heap_model.specs.Sizes.{words_of_class}
use Rattle.heap_model.specs.Words.{anchor_first}
use Rattle.crash_core.specs.declared.owners.BlockPlace.TheVariants as place
use Rattle.core_model.specs.Effects.{chain}
use Rattle.crash_core.specs.Standing.{HasNewOwner}
use Rattle.core_model.specs.declared.event.Event.TheVariants.{TakeAll}
use Rattle.crash_core.proofs.StandingLemmas.{step_not, seat_is}
use Rattle.crash_core.proofs.KeptFacts.{unseen_anchor}
use Rattle.crash_core.proofs.TakeAllSteps.{take_fits, take_all, lost_take_all}
use Rattle.crash_core.proofs.anchor_exchanges.take_all.Goals as goal

pub returns-in_default : goal.returns-in_default
returns-in_default c = λ k views v keeps below at going ticket. step_not c.args.core.now k views c.args.seat v (TakeAll c.args.d)
    (λ may seen. unseen_anchor c.args.core.now k views c.args.seat v c.index-notes.result.now keeps below at
    (seat_is c.requires.seat (sym c.index-notes.ensures)) c.in_default.is may.is_seen)

pub returns-then-not-may_take_all : goal.returns-then-not-may_take_all
returns-then-not-may_take_all c = λ k views v keeps below at going ticket. step_not c.args.core.now k views c.args.seat v (TakeAll c.args.d)
    (λ may seen. true≢false (sym ((c.if-not-may_take_all.ensures.decides k views v keeps below at).1 may)))

pub returns-then-word-seen : goal.returns-then-word-seen
returns-then-word-seen c = λ k views v keeps below at going ticket.
    lost_take_all c.args.core.now k views c.args.seat v c.index-notes.result.now keeps below at
    (seat_is c.requires.seat (sym c.index-notes.ensures)) c.args.d c.in-Some.seen c.in-Some.is
    ((c.if-not-may_take_all.ensures.decides k views v keeps below at).0 refl)
    c.anchor-word.result c.anchor-word.ensures c.if-word-seen.true

pub overflow_cast-class : goal.overflow_cast-class
overflow_cast-class c = let l = (take_fits c.args.core.now c.args.seat c.args.d c.index-notes.result.now c.in-Some.seen c.anchor-word.result
    c.info-class.result c.requires.core c.requires.seat (seat_is c.requires.seat (sym c.index-notes.ensures))
    c.in-Some.is c.if-not-may_take_all.ensures.decides
    c.anchor-word.ensures (let e = c.if-word-seen.false in omega arith) c.info-class.ensures).is_class.last in omega arith

pub new-requires : goal.new-requires
new-requires c = (take_fits c.args.core.now c.args.seat c.args.d c.index-notes.result.now c.in-Some.seen c.anchor-word.result
    c.info-class.result c.requires.core c.requires.seat (seat_is c.requires.seat (sym c.index-notes.ensures))
    c.in-Some.is c.if-not-may_take_all.ensures.decides
    c.anchor-word.ensures (let e = c.if-word-seen.false in omega arith) c.info-class.ensures).is_class

pub give_chain-requires : goal.give_chain-requires
give_chain-requires c = subst (λ ws. (b : ℕ) → 0 < times b (chain (λ n. get_or ws n 0) c.first_free-first.result c.anchor_count-count.result)
    → (b < length c.args.core.now.blocks.items) × (b < length ws)) (sym c.deref.ensures.value)
    ((take_fits c.args.core.now c.args.seat c.args.d c.index-notes.result.now c.in-Some.seen c.anchor-word.result c.info-class.result
    c.requires.core c.requires.seat (seat_is c.requires.seat (sym c.index-notes.ensures)) c.in-Some.is c.if-not-may_take_all.ensures.decides
    c.anchor-word.ensures (let e = c.if-word-seen.false in omega arith) c.info-class.ensures).inside c.first_free-first.result
    c.anchor_count-count.result (c.first_free-first.ensures ∙ ap (λ n. start_word c.args.core.now.geometry.capacity c.args.d + anchor_first
    c.anchor-word.result * words_of_class n) c.new.ensures) c.anchor_count-count.ensures)

pub offset_bounds-caches-class : goal.offset_bounds-caches-class
offset_bounds-caches-class c = let l = (take_fits c.args.core.now c.args.seat c.args.d c.index-notes.result.now c.in-Some.seen
    c.anchor-word.result c.info-class.result c.requires.core c.requires.seat
    (seat_is c.requires.seat (sym c.index-notes.ensures)) c.in-Some.is c.if-not-may_take_all.ensures.decides
    c.anchor-word.ensures (let e = c.if-word-seen.false in omega arith) c.info-class.ensures).is_class.last in omega arith

pub bounds-caches-class : goal.bounds-caches-class
bounds-caches-class c = let l = (take_fits c.args.core.now c.args.seat c.args.d c.index-notes.result.now c.in-Some.seen c.anchor-word.result
    c.info-class.result c.requires.core c.requires.seat (seat_is c.requires.seat (sym c.index-notes.ensures))
    c.in-Some.is c.if-not-may_take_all.ensures.decides
    c.anchor-word.ensures (let e = c.if-word-seen.false in omega arith) c.info-class.ensures).is_class.last in omega arith

pub returns : goal.returns
returns c = λ k views v keeps below at going ticket.
    take_all c.args.core.now k views c.args.seat v c.index-notes.result.now keeps below at
    (seat_is c.requires.seat (sym c.index-notes.ensures)) c.args.d c.in-Some.seen c.in-Some.is
    ((c.if-not-may_take_all.ensures.decides k views v keeps below at).0 refl)
    c.anchor-word.result c.anchor-word.ensures (let e = c.if-word-seen.false in omega arith) c.info-class.result c.info-class.ensures going ticket
    c.first_free-first.result c.anchor_count-count.result (c.first_free-first.ensures
    ∙ ap (λ n. start_word c.args.core.now.geometry.capacity c.args.d + anchor_first c.anchor-word.result * words_of_class n) c.new.ensures)
    c.anchor_count-count.ensures c.give_chain.new.owners
    (subst (λ ws. HasNewOwner c.args.core.now.blocks.items c.give_chain.new.owners.items
    (chain (λ n. get_or ws n 0) c.first_free-first.result c.anchor_count-count.result)
    (record { seat = c.args.seat; place = place.Cached })) c.deref.ensures.value c.give_chain.ensures)
    c.anchor.result c.anchor_after_take_all.result c.anchor.ensures c.anchor_after_take_all.ensures
