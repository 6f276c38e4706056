use Rattle.std.proofs.Common.{ℕ, ◌≡◌, ◌+◌, ◌*◌, subst, sym}
use Rattle.heap_model.specs.Geometry.{start_word}
use Rattle.super_block.specs.Division.{Divisions, Describes, DividesTaken}
use Rattle.super_block.proofs.NamingLemmas.{nowhere}
use Rattle.super_block.proofs.DirectoryLemmas.{names_none, lies_in}
use Rattle.super_block.proofs.directory.Directory.name.Goals as goal

pub returns-in_default-clause-none : goal.returns-in_default-clause-none
returns-in_default-clause-none c l is =
    let is_inside = subst (λ (v : Divisions). Describes v l) (sym c.self.view_is) is in
    nowhere l c.args.offset (subst (λ capacity. (d within : ℕ) → c.args.offset ≡ 8 * (start_word capacity d + within)
    → ⊥) is_inside.capacity_is c.in_default.ensures.none)

pub returns-in_default-division-clause-none : goal.returns-in_default-division-clause-none
returns-in_default-division-clause-none c l is =
    let is_inside = subst (λ (v : Divisions). Describes v l) (sym c.self.view_is) is in
    names_none l c.args.offset c.in-Some.place (lies_in l _ c.args.offset c.in-Some.place is_inside c.in-Some.ensures.some)
    (subst (λ o. DividesTaken l c.in-Some.place.superblock o) c.in_default-division.is (c.division.ensures.divided l is))
