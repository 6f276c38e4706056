use Rattle.std.proofs.Common.{ℕ, List, Some, subst}
use Rattle.heap_recover.specs.InPlace.{IsBetween}
use Rattle.heap_recover.proofs.AlikeLemmas.{crash_alike, mixed_alike}
use Rattle.heap_recover.proofs.in_place.rebuild.Goals as goal

pub returns-clause-crash : goal.returns-clause-crash
returns-clause-crash g c =
    let v = g.M.LineMemory.view c.store_image.new.memory in
    crash_alike c.args.x.now c.args.to.now.words (g.F.Filter.links_of c.args.filter.now) c.args.to.now.held g.F.Filter.KINDS (Some g.F.Filter.KINDS)
    (g.met.F.Filter.inside c.args.filter.now) c.requires.recovered v
    (subst (λ (ws : List ℕ). IsBetween c.args.x.now ws v) c.words.ensures.words c.store_image.ensures.between)

pub returns-clause-mixed : goal.returns-clause-mixed
returns-clause-mixed g c =
    let v = g.M.LineMemory.view c.store_image.new.memory in
    mixed_alike c.args.x.now c.args.to.now.words (g.F.Filter.links_of c.args.filter.now) c.args.to.now.held g.F.Filter.KINDS (Some g.F.Filter.KINDS)
    (g.met.F.Filter.inside c.args.filter.now) c.requires.recovered v
    (subst (λ (ws : List ℕ). IsBetween c.args.x.now ws v) c.words.ensures.words c.store_image.ensures.between)
