use Rattle.std.proofs.Common.{◌≡◌, ℕ, ◌-◌, ◌/◌, ◌<◌, get_or, length, refl, ap, ap₂, sym, subst, ◌∙◌, true≢false, arith}
use Rattle.heap_model.specs.Geometry.{start_word}
use Rattle.heap_model.specs.Sizes.{words_of_class, blocks_of}
use Rattle.heap_model.specs.Counting.{times}
use Rattle.heap_model.proofs.SizeLemmas.{few_blocks}
use Rattle.core_model.specs.declared.event.Event.TheVariants.{Give}
use Rattle.crash_core.specs.declared.owners.BlockPlace.TheVariants as place
use Rattle.core_model.specs.Effects.{chain, given_anchor}
use Rattle.crash_core.specs.Standing.{HasNewOwner}
use Rattle.crash_core.proofs.StandingLemmas.{step_not, seat_is}
use Rattle.crash_core.proofs.ReadLemmas.{lengths}
use Rattle.crash_core.proofs.KeptFacts.{unseen_anchor}
use Rattle.crash_core.proofs.GiveSteps.{give_fits, give_below, give_kept, give_full}
use Rattle.crash_core.proofs.GiveParts.{lost_give}
use Rattle.crash_core.proofs.anchor_exchanges.give.Goals as goal

pub returns-in_default : goal.returns-in_default
returns-in_default c = λ k views v keeps below at going ticket. step_not c.args.core.now k views c.args.seat v (Give c.args.d)
    (λ may seen. unseen_anchor c.args.core.now k views c.args.seat v c.index-notes.result.now keeps below at
    (seat_is c.requires.seat (sym c.index-notes.ensures)) c.in_default.is may.is_seen)

pub returns-then-not-may_give : goal.returns-then-not-may_give
returns-then-not-may_give c = λ k views v keeps below at going ticket. step_not c.args.core.now k views c.args.seat v (Give c.args.d)
    (λ may seen. true≢false (sym ((c.if-not-may_give.ensures k views v keeps below at).1 may)))

pub anchor-word-requires-clause-d : goal.anchor-word-requires-clause-d
anchor-word-requires-clause-d c = give_below c.args.core.now c.args.seat c.args.d c.requires.core c.requires.seat c.if-not-may_give.ensures

pub returns-then-word-seen : goal.returns-then-word-seen
returns-then-word-seen c = λ k views v keeps below at going ticket.
    lost_give c.args.core.now k views c.args.seat v c.index-notes.result.now keeps below at
    (seat_is c.requires.seat (sym c.index-notes.ensures)) c.args.d c.in-Some.seen c.in-Some.is
    ((c.if-not-may_give.ensures k views v keeps below at).0 refl)
    c.anchor-word.result c.anchor-word.ensures c.if-word-seen.true

pub overflow_cast-batch : goal.overflow_cast-batch
overflow_cast-batch c = let l = (give_fits c.args.core.now c.args.seat c.args.d c.index-notes.result.now c.in-Some.seen c.anchor-word.result
    c.requires.core c.requires.seat (seat_is c.requires.seat (sym c.index-notes.ensures))
    (c.requires.ticket c.index-notes.result.now (sym c.index-notes.ensures)) c.in-Some.is c.if-not-may_give.ensures
    c.anchor-word.ensures (let e = c.if-word-seen.false in omega arith)).is_class.last in omega arith

pub start-requires : goal.start-requires
start-requires c = give_below c.args.core.now c.args.seat c.args.d c.requires.core c.requires.seat c.if-not-may_give.ensures

pub overflow_sub-index : goal.overflow_sub-index
overflow_sub-index c = let l = (give_fits c.args.core.now c.args.seat c.args.d c.index-notes.result.now c.in-Some.seen c.anchor-word.result
    c.requires.core c.requires.seat (seat_is c.requires.seat (sym c.index-notes.ensures))
    (c.requires.ticket c.index-notes.result.now (sym c.index-notes.ensures)) c.in-Some.is c.if-not-may_give.ensures
    c.anchor-word.ensures (let e = c.if-word-seen.false in omega arith)).low in let e = c.start.ensures in omega arith

pub new-class-requires : goal.new-class-requires
new-class-requires c = (give_fits c.args.core.now c.args.seat c.args.d c.index-notes.result.now c.in-Some.seen c.anchor-word.result
    c.requires.core c.requires.seat (seat_is c.requires.seat (sym c.index-notes.ensures))
    (c.requires.ticket c.index-notes.result.now (sym c.index-notes.ensures)) c.in-Some.is c.if-not-may_give.ensures
    c.anchor-word.ensures (let e = c.if-word-seen.false in omega arith)).is_class

pub anchor_after_give-given-requires-clause-is_anchor : goal.anchor_after_give-given-requires-clause-is_anchor
anchor_after_give-given-requires-clause-is_anchor c = (give_fits c.args.core.now c.args.seat c.args.d c.index-notes.result.now c.in-Some.seen
    c.anchor-word.result c.requires.core c.requires.seat (seat_is c.requires.seat (sym c.index-notes.ensures))
    (c.requires.ticket c.index-notes.result.now (sym c.index-notes.ensures)) c.in-Some.is c.if-not-may_give.ensures
    c.anchor-word.ensures (let e = c.if-word-seen.false in omega arith)).state

pub anchor_after_give-given-requires-clause-fits : goal.anchor_after_give-given-requires-clause-fits
anchor_after_give-given-requires-clause-fits c = let n = (give_fits c.args.core.now c.args.seat c.args.d c.index-notes.result.now c.in-Some.seen
    c.anchor-word.result c.requires.core c.requires.seat (seat_is c.requires.seat (sym c.index-notes.ensures))
    (c.requires.ticket c.index-notes.result.now (sym c.index-notes.ensures)) c.in-Some.is c.if-not-may_give.ensures
    c.anchor-word.ensures (let e = c.if-word-seen.false in omega arith)).count in
    let e = c.blocks_of.ensures ∙ ap blocks_of c.new-class.ensures in omega arith

pub anchor_after_give-given-requires-clause-first : goal.anchor_after_give-given-requires-clause-first
anchor_after_give-given-requires-clause-first c = let f = (give_fits c.args.core.now c.args.seat c.args.d c.index-notes.result.now
    c.in-Some.seen c.anchor-word.result c.requires.core c.requires.seat (seat_is c.requires.seat (sym c.index-notes.ensures))
    (c.requires.ticket c.index-notes.result.now (sym c.index-notes.ensures)) c.in-Some.is c.if-not-may_give.ensures
    c.anchor-word.ensures (let e = c.if-word-seen.false in omega arith)) in let n = f.index in let e = c.start.ensures in
    subst (λ x. x < 2147483648) (sym (ap₂ (λ a b. (c.index-notes.result.now.batch.first - a) / b) e (c.block_words.ensures.words
    ∙ ap words_of_class c.new-class.ensures))) n

pub anchor_after_give-given-requires-clause-all : goal.anchor_after_give-given-requires-clause-all
anchor_after_give-given-requires-clause-all c = let is = (give_fits c.args.core.now c.args.seat c.args.d c.index-notes.result.now c.in-Some.seen
    c.anchor-word.result c.requires.core c.requires.seat (seat_is c.requires.seat (sym c.index-notes.ensures))
    (c.requires.ticket c.index-notes.result.now (sym c.index-notes.ensures)) c.in-Some.is c.if-not-may_give.ensures
    c.anchor-word.ensures (let e = c.if-word-seen.false in omega arith)).is_class in
    let e = c.blocks_of.ensures ∙ ap blocks_of c.new-class.ensures in let few = few_blocks c.index-notes.result.now.batch.class is in omega arith

pub give_chain-requires : goal.give_chain-requires
give_chain-requires c = subst (λ ws. (b : ℕ) → 0 < times b (chain
    (λ n. get_or ws n 0) c.index-notes.result.now.batch.first c.index-notes.result.now.batch.count) → (b < length c.args.core.now.blocks.items)
    × (b < length ws)) (sym c.deref.ensures.value)
    (give_fits c.args.core.now c.args.seat c.args.d c.index-notes.result.now c.in-Some.seen c.anchor-word.result c.requires.core c.requires.seat
    (seat_is c.requires.seat (sym c.index-notes.ensures)) (c.requires.ticket c.index-notes.result.now (sym c.index-notes.ensures))
    c.in-Some.is c.if-not-may_give.ensures
    c.anchor-word.ensures (let e = c.if-word-seen.false in omega arith)).inside

pub anchor-requires : goal.anchor-requires
anchor-requires c = give_below c.args.core.now c.args.seat c.args.d c.requires.core c.requires.seat c.if-not-may_give.ensures

pub index_mut-requires : goal.index_mut-requires
index_mut-requires c = let b = give_below c.args.core.now c.args.seat c.args.d c.requires.core c.requires.seat c.if-not-may_give.ensures in
    let e = c.anchor.ensures in let l = (lengths c.args.core.now c.requires.core).words in omega arith

pub returns-then-word-anchor_after_take_all : goal.returns-then-word-anchor_after_take_all
returns-then-word-anchor_after_take_all c = λ k views v keeps below at going ticket.
    let words : c.block_words.result ≡ words_of_class c.index-notes.result.now.batch.class = c.block_words.ensures.words
    ∙ ap words_of_class c.new-class.ensures in
    let all : c.blocks_of.result ≡ blocks_of c.index-notes.result.now.batch.class = c.blocks_of.ensures ∙ ap blocks_of c.new-class.ensures in
    give_kept c.args.core.now k views c.args.seat v c.index-notes.result.now keeps below at
    (seat_is c.requires.seat (sym c.index-notes.ensures)) c.args.d c.in-Some.seen c.in-Some.is
    ((c.if-not-may_give.ensures k views v keeps below at).0 refl)
    c.anchor-word.result c.anchor-word.ensures ticket (let e = c.if-word-seen.false in omega arith) c.give_chain.new.owners
    (subst (λ ws. HasNewOwner c.args.core.now.blocks.items c.give_chain.new.owners.items
    (chain (λ n. get_or ws n 0) c.index-notes.result.now.batch.first c.index-notes.result.now.batch.count)
    (record { seat = c.args.seat; place = place.Nowhere })) c.deref.ensures.value c.give_chain.ensures)
    c.anchor.result c.anchor_after_give-given.result c.anchor.ensures (c.anchor_after_give-given.ensures
    ∙ ap₂ (λ a b. given_anchor c.anchor-word.result ((c.index-notes.result.now.batch.first - a) / b)
    c.index-notes.result.now.batch.count c.blocks_of.result) c.start.ensures words
    ∙ ap (given_anchor c.anchor-word.result ((c.index-notes.result.now.batch.first - start_word c.args.core.now.geometry.capacity c.args.d)
    / words_of_class c.index-notes.result.now.batch.class) c.index-notes.result.now.batch.count) all) going
    (λ e. c.if-word-anchor_after_take_all.true (e ∙ sym c.anchor_after_take_all.ensures))

pub index_mut-requires-3 : goal.index_mut-requires-3
index_mut-requires-3 c = let b = give_below c.args.core.now c.args.seat c.args.d c.requires.core c.requires.seat c.if-not-may_give.ensures in
    let l = (lengths c.args.core.now c.requires.core).superblocks in omega arith

pub returns : goal.returns
returns c = λ k views v keeps below at going ticket.
    let words : c.block_words.result ≡ words_of_class c.index-notes.result.now.batch.class = c.block_words.ensures.words
    ∙ ap words_of_class c.new-class.ensures in
    let all : c.blocks_of.result ≡ blocks_of c.index-notes.result.now.batch.class = c.blocks_of.ensures ∙ ap blocks_of c.new-class.ensures in
    give_full c.args.core.now k views c.args.seat v c.index-notes.result.now keeps below at
    (seat_is c.requires.seat (sym c.index-notes.ensures)) c.args.d c.in-Some.seen c.in-Some.is
    ((c.if-not-may_give.ensures k views v keeps below at).0 refl)
    c.anchor-word.result c.anchor-word.ensures ticket (let e = c.if-word-seen.false in omega arith) c.give_chain.new.owners
    (subst (λ ws. HasNewOwner c.args.core.now.blocks.items c.give_chain.new.owners.items
    (chain (λ n. get_or ws n 0) c.index-notes.result.now.batch.first c.index-notes.result.now.batch.count)
    (record { seat = c.args.seat; place = place.Nowhere })) c.deref.ensures.value c.give_chain.ensures)
    c.anchor.result c.anchor_after_give-given.result c.anchor.ensures (c.anchor_after_give-given.ensures
    ∙ ap₂ (λ a b. given_anchor c.anchor-word.result ((c.index-notes.result.now.batch.first - a) / b)
    c.index-notes.result.now.batch.count c.blocks_of.result) c.start.ensures words
    ∙ ap (given_anchor c.anchor-word.result ((c.index-notes.result.now.batch.first - start_word c.args.core.now.geometry.capacity c.args.d)
    / words_of_class c.index-notes.result.now.batch.class) c.index-notes.result.now.batch.count) all) going
    (let e = c.if-word-anchor_after_take_all.false in let f = c.anchor_after_take_all.ensures in omega arith) c.listed.result c.listed.ensures
