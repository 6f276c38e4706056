use Rattle.std.proofs.Common.{refl, ap, length, sym, ◌∙◌}
use Rattle.std.proofs.lemmas.List.{length-map}
use Rattle.crash_core.specs.Standing.{block_given, superblock_given}
use Rattle.crash_core.proofs.AcceptDecision.{accept_done}
use Rattle.crash_core.proofs.StandingLemmas.{seat_is}
use Rattle.crash_core.proofs.accepting.accept_block.Goals as goal

pub returns : goal.returns
returns c =
    let at_t = seat_is c.requires.seat (sym c.index-notes.ensures) in
    let may = c.requires.may c.index-notes.result.now at_t in
    accept_done c.args.core.now _ c.args.seat c.args.carrier c.index-notes.result.now at_t may.0 may.1 c.requires.carries refl refl
    (record {
      capacity = refl;
      budget = refl;
      carriers = refl;
      blocks = ap length c.give_blocks.ensures ∙ length-map _ (block_given c.args.carrier c.args.seat);
      superblocks = ap length c.give_superblocks.ensures ∙ length-map _ (superblock_given c.args.carrier c.args.seat);
      roots = refl;
    })
    c.give_blocks.ensures c.give_superblocks.ensures
