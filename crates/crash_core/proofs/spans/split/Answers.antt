use Rattle.std.proofs.Common.{◌≡◌, get_or, refl, ap, sym, subst, ◌∙◌, arith}
use Rattle.seat_state.specs.declared.superblocks.SuperblockUsage.TheVariants as usage
use Rattle.heap_model.specs.Geometry.{superblock_of}
use Rattle.core_model.specs.Effects.{cleared, span_count}
use Rattle.seat_state.specs.Notes.{snapshot}
use Rattle.seat_state.specs.Superblocks.{usage_for, no_superblock, count_in, IsRange}
use Rattle.seat_state.proofs.WordLemmas.{entry_is}
use Rattle.crash_core.proofs.MoveSteps.{retold}
use Rattle.crash_core.proofs.SplitSteps.{split, split_fits, split_count}
use Rattle.crash_core.proofs.spans.split.Goals as goal
use Rattle.crash_core.proofs.StandingLemmas.{seat_is}

pub superblock_of-d-requires : goal.superblock_of-d-requires
superblock_of-d-requires c = let f = (split_fits c.args.core.now c.args.seat c.args.block c.index-notes.result.now c.requires.core c.requires.seat
    (seat_is c.requires.seat (sym c.index-notes.ensures)) c.requires.may).from in omega arith

pub returns : goal.returns
returns c = λ k views v t keeps below at at_t.
    let same : c.index-notes.result.now ≡ t = c.index-notes.ensures
    ∙ entry_is c.args.core.now.seats.items c.args.seat c.index-notes.result.now t c.requires.seat ∙ at_t.at in
    let may = (c.requires.may k views v keeps below at).0 refl in
    let count : c.large_count-count.result ≡ span_count (superblock_of c.args.core.now.geometry.capacity c.args.block) v.large =
    c.large_count-count.ensures ∙ ap count_in (c.usage.ensures ∙ ap
    (λ d. usage_for c.args.seat (get_or c.args.core.now.superblocks.items d no_superblock)) c.superblock_of-d.ensures)
    ∙ sym (split_count c.args.core.now k views c.args.seat v c.index-notes.result.now keeps below at
    (seat_is c.requires.seat (sym c.index-notes.ensures)) c.args.block may) in
    retold _ _ views c.args.seat c.index-notes.result.now t _ same
    (split c.args.core.now k views c.args.seat v c.index-notes.result.now keeps below at
    (seat_is c.requires.seat (sym c.index-notes.ensures)) c.args.block may c.large_count-count.result count c.give_range.new.owners c.cleared.result
    (subst (λ d. IsRange c.args.core.now.superblocks.items c.give_range.new.owners.items d c.large_count-count.result
    (record { seat = c.args.seat; usage = usage.Split })) c.superblock_of-d.ensures c.give_range.ensures)
    (c.cleared.ensures ∙ ap (λ d. cleared d c.large_count-count.result
    (snapshot c.index-notes.result.now.seen_anchor)) c.superblock_of-d.ensures))

pub give_range-requires : goal.give_range-requires
give_range-requires c = let f = (split_fits c.args.core.now c.args.seat c.args.block c.index-notes.result.now c.requires.core c.requires.seat
    (seat_is c.requires.seat (sym c.index-notes.ensures)) c.requires.may).range in let e = c.superblock_of-d.ensures in
    let g = c.large_count-count.ensures ∙ ap count_in (c.usage.ensures
    ∙ ap (λ d. usage_for c.args.seat (get_or c.args.core.now.superblocks.items d no_superblock)) c.superblock_of-d.ensures) in
    let h = c.superblock_of-d.ensures in omega arith
