use Rattle.std.proofs.Common.{◌≡◌, ℕ, List, Some, slice_index, refl, subst}
use Rattle.region_header.proofs.MigrationLemmas.{current_of_new, current_below}
use Rattle.heap_recover.specs.InPlace.{IsRecoveryOf}
use Rattle.recovery_tests.proofs.in_place.recover_in_place.Goals as goal

pub rebuild-requires-clause-recovered : goal.rebuild-requires-clause-recovered
rebuild-requires-clause-recovered g c =
    let two : slice_index c.args.image.now 1 ≡ 2 = c.if-not-is_current.ensures.0 refl in
    let found = c.in_ok-found.ensures in
    let below = current_below (Some g.F.Filter.KINDS) c.args.image.now c.args.kinds.now c.requires.roots found.good c.requires.kinds in
    subst (λ (x : List ℕ). IsRecoveryOf (Some g.F.Filter.KINDS) x (g.F.Filter.links_of c.args.filter.now)
    c.in_ok-found.found.heap.words c.in_ok-found.found.heap.held)
    (current_of_new c.args.image.now c.args.kinds.now two)
    (record { formed = found.formed; below = below; none_outside = found.none; held_are = found.held; long = found.long; words_are = found.words })
