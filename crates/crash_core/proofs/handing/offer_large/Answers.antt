use Rattle.std.proofs.Common.{◌≡◌, ◌+◌, ◌<◌, get_or, length, length-set, refl, ap, sym, ◌∙◌, arith}
use Rattle.seat_state.specs.declared.superblocks.SuperblockUsage.TheVariants as usage
use Rattle.seat_state.specs.Superblocks.{usage_for, no_superblock, count_in}
use Rattle.heap_model.specs.Geometry.{superblock_of}
use Rattle.core_model.specs.Effects.{span_count}
use Rattle.core_model.specs.Handing.{after_offer, is_offered}
use Rattle.crash_core.proofs.EventSteps.{core_of}
use Rattle.crash_core.proofs.LargeOffers.{large_at, large_may}
use Rattle.crash_core.proofs.OfferDecision.{may_hand, seat_of}
use Rattle.crash_core.proofs.SplitSteps.{split_fits, split_count}
use Rattle.crash_core.proofs.StandingLemmas.{among, seat_capacity, seat_is}
use Rattle.crash_core.proofs.handing.offer_large.Goals as goal

pub superblock_of-d-requires : goal.superblock_of-d-requires
superblock_of-d-requires c = let f = (split_fits c.args.core.now c.args.seat c.args.block c.index-notes.result.now
    (core_of c.args.core.now c.requires.core) c.requires.seat (seat_is c.requires.seat (sym c.index-notes.ensures)) c.requires.held).from in
    omega arith

pub give_range-requires : goal.give_range-requires
give_range-requires c = let f = (split_fits c.args.core.now c.args.seat c.args.block c.index-notes.result.now
    (core_of c.args.core.now c.requires.core) c.requires.seat (seat_is c.requires.seat (sym c.index-notes.ensures)) c.requires.held).range in
    let e = c.superblock_of-d.ensures in
    let g = c.large_count-count.ensures ∙ ap count_in (c.usage.ensures
    ∙ ap (λ d. usage_for c.args.seat (get_or c.args.core.now.superblocks.items d no_superblock)) c.superblock_of-d.ensures) in
    let h = c.superblock_of-d.ensures in omega arith

pub returns : goal.returns
returns c = λ k s stands.
    let at_t = seat_is c.requires.seat (sym c.index-notes.ensures) in
    let o = seat_of c.args.core.now k s c.args.seat c.index-notes.result.now stands at_t in
    let may = c.requires.may c.index-notes.result.now at_t in
    let hand = may_hand c.args.core.now s c.args.seat c.index-notes.result.now o may.0 may.1 in
    let below = among stands.keeps c.requires.seat in
    let holds = (c.requires.held k s.views o.view stands.keeps below o.at).0 refl in
    let none = (o.kept.blocks c.args.block).held ∙ c.requires.no_small in
    let cap = seat_capacity c.args.core.now k s.views c.args.seat o.view stands.keeps below o.at in
    let number : c.len.result + c.args.core.now.carriers ≡ length s.views = (let l = c.len.ensures in let n = stands.keeps.seats in omega arith) in
    let d_is : c.superblock_of-d.result ≡ superblock_of o.view.setup.capacity c.args.block =
    c.superblock_of-d.ensures ∙ ap (λ n. superblock_of n c.args.block) (sym cap) in
    let n_is : c.large_count-count.result ≡ span_count (superblock_of o.view.setup.capacity c.args.block) o.view.large =
    c.large_count-count.ensures ∙ ap count_in (c.usage.ensures ∙ ap
    (λ d. usage_for c.args.seat (get_or c.args.core.now.superblocks.items d no_superblock)) c.superblock_of-d.ensures)
    ∙ sym (split_count c.args.core.now k s.views c.args.seat o.view c.index-notes.result.now stands.keeps below o.at at_t c.args.block holds)
    ∙ ap (λ n. span_count (superblock_of n c.args.block) o.view.large) (sym cap) in
    let some = holds.held in
    let long : c.superblock_of-d.result < length c.give_range.new.owners.items =
    (let f = (split_fits c.args.core.now c.args.seat c.args.block c.index-notes.result.now
    (core_of c.args.core.now c.requires.core) c.requires.seat (seat_is c.requires.seat (sym c.index-notes.ensures)) c.requires.held).range in
    let g = c.large_count-count.ensures ∙ ap count_in (c.usage.ensures
    ∙ ap (λ d. usage_for c.args.seat (get_or c.args.core.now.superblocks.items d no_superblock)) c.superblock_of-d.ensures) in
    let h = c.superblock_of-d.ensures in let l = c.give_range.ensures.long in omega arith) in (
      after_offer s c.args.seat o.view c.args.block,
      is_offered o.view o.at (large_may c.args.core.now k s c.args.seat o.view c.index-notes.result.now c.args.block stands o.at at_t hand holds none),
      large_at c.args.core.now k s c.args.seat o.view c.index-notes.result.now c.args.block stands o.at at_t hand holds none _
          (record {
            words = refl;
            capacity = refl;
            budget = refl;
            seats = refl;
            carriers = refl;
            blocks = refl;
            superblocks = length-set c.give_range.new.owners.items c.superblock_of-d.result
                (record { seat = c.len.result + c.args.core.now.carriers; usage = usage.Large c.large_count-count.result }) ∙ c.give_range.ensures.long;
            roots = refl;
          })
          refl c.give_range.new.owners.items c.superblock_of-d.result c.large_count-count.result
          (c.len.result + c.args.core.now.carriers) d_is n_is number c.give_range.ensures refl long,
    )

pub index_mut-requires : goal.index_mut-requires
index_mut-requires c =
    let core = c.requires.core in
    let at_t = seat_is c.requires.seat (sym c.index-notes.ensures) in
    let o = seat_of c.args.core.now core.setup core.state c.args.seat c.index-notes.result.now core.stands at_t in
    let below = among core.stands.keeps c.requires.seat in
    let holds = (c.requires.held core.setup core.state.views o.view core.stands.keeps below o.at).0 refl in
    let cap = seat_capacity c.args.core.now core.setup core.state.views c.args.seat o.view core.stands.keeps below o.at in
    let n_is : c.large_count-count.result ≡ span_count (superblock_of o.view.setup.capacity c.args.block) o.view.large =
    c.large_count-count.ensures ∙ ap count_in (c.usage.ensures ∙ ap
    (λ d. usage_for c.args.seat (get_or c.args.core.now.superblocks.items d no_superblock)) c.superblock_of-d.ensures)
    ∙ sym (split_count c.args.core.now core.setup core.state.views c.args.seat o.view c.index-notes.result.now core.stands.keeps below o.at at_t
    c.args.block holds) ∙ ap (λ n. span_count (superblock_of n c.args.block) o.view.large) (sym cap) in
    let some = holds.held in let f = (split_fits c.args.core.now c.args.seat c.args.block c.index-notes.result.now
    (core_of c.args.core.now c.requires.core) c.requires.seat (seat_is c.requires.seat (sym c.index-notes.ensures)) c.requires.held).range in
    let g = c.large_count-count.ensures ∙ ap count_in (c.usage.ensures
    ∙ ap (λ d. usage_for c.args.seat (get_or c.args.core.now.superblocks.items d no_superblock)) c.superblock_of-d.ensures) in
    let h = c.superblock_of-d.ensures in let l = c.give_range.ensures.long in omega arith
