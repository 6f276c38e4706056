use Rattle.std.proofs.Common.{◌∙◌, ℕ, List, length, replicate, ap, sym, subst}
use Rattle.core_model.specs.Opening.{AreOwners}
use Rattle.image_run.proofs.CrashLemmas.{first_owns}
use Rattle.image_run.proofs.replaying.core_over.Goals as goal

pub of-requires-clause-owners : goal.of-requires-clause-owners
of-requires-clause-owners c =
    let held = c.args.heap.held in
    let blocks_are = c.in_ok-owners.ensures.held ∙ ap (λ (bs : List _). replicate (length bs) 0) c.held.ensures.held in
    subst (λ (l : List ℕ). AreOwners held c.args.seats l c.in_ok-owners.owners.roots) (sym blocks_are)
    (subst (λ (l : List ℕ). AreOwners held c.args.seats (replicate (length held) 0) l) (sym c.in_ok-owners.ensures.roots)
    (first_owns held c.args.seats c.requires.some))
