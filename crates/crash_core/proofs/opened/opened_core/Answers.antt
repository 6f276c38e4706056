use Rattle.std.proofs.Common.{◌∙◌, ap, subst, length, refl}
use Rattle.crash_core.specs.OpenedOwners.{AreBlockOwners}
use Rattle.seat_state.specs.OpenedSuperblocks.{AreSuperblockOwners}
use Rattle.crash_core.proofs.OpenedCore.{stands}
use Rattle.crash_core.proofs.opened.opened_core.Goals as goal

pub block_owners-requires : goal.block_owners-requires
block_owners-requires c = ap length c.held.ensures ∙ c.requires.owners.blocks

pub superblock_owners-requires : goal.superblock_owners-requires
superblock_owners-requires c = ap length c.held-2.ensures ∙ c.requires.owners.blocks

pub returns : goal.returns
returns c = record {
  ok = stands _ c.args.heap.now.words c.args.heap.now.held c.args.budget c.args.seats c.args.owners.now.held c.args.owners.now.roots (record {
    words_are = c.in_ok-opened_table.ensures.ok;
    capacity = c.geometry.ensures;
    budget_is = refl;
    seats_are = c.in_ok-vec.ensures.items_if_clones_equal (λ y e. e);
    no_carriers = refl;
    blocks = subst (λ os. AreBlockOwners c.args.heap.now.words c.args.heap.now.held os c.in_ok-block_owners.field-0.items)
        c.held.ensures c.in_ok-block_owners.ensures.ok;
    superblocks = subst (λ os. AreSuperblockOwners c.args.heap.now.words c.args.heap.now.held os c.in_ok-superblock_owners.field-0.items)
        c.held-2.ensures c.in_ok-superblock_owners.ensures.ok;
    roots_are = c.in_ok-from_slice.ensures.items ∙ c.roots.ensures;
  }) c.in_ok-block_owners.ensures.ready c.requires.owners c.requires.seats c.requires.budget;
}
