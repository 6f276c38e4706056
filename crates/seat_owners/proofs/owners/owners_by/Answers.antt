use Rattle.std.proofs.Common.{slice_index}
use Rattle.seat_owners.proofs.OwnerLemmas.{owned_by_root}
use Rattle.seat_owners.proofs.owners.owners_by.Goals as goal

pub returns : goal.returns
returns c =
    rw (c.new.ensures.held, c.new.ensures.roots) (owned_by_root (slice_index c.args.heap.now.words)
    c.args.workers c.args.heap.now.held c.in_ok-held.held.items c.in_ok-roots.roots.items c.requires.some c.in_ok-held.ensures
    c.in_ok-roots.ensures)
