use Rattle.std.proofs.Common.{◌+◌, ◌*◌, refl, ap, subst, sym, ◌∙◌, arith}
use Rattle.heap_model.specs.Geometry.{start_word}
use Rattle.super_block.specs.Division.{Divisions, Describes}
use Rattle.super_block.proofs.IndexLemmas.{index_below}
use Rattle.super_block.proofs.directory.Directory.block.Goals as goal

pub returns-then-index-division-clause-none : goal.returns-then-index-division-clause-none
returns-then-index-division-clause-none c l is b indexed =
    let below = index_below l c.args.superblock c.args.index c.in-Some.division b (c.in-Some.ensures.divided l is).1 indexed in
    omega (arith, below, c.if-index-division.true)

pub returns-clause-some : goal.returns-clause-some
returns-clause-some c l is =
    let divided = c.in-Some.ensures.divided l is in
    let is_inside = subst (λ (v : Divisions). Describes v l) (sym c.self.view_is) is in
    record {
      words = c.in-Some.division.words;
      count = c.in-Some.division.count;
      is_of = record {
        taken = divided.0;
        begins = divided.1;
        below = c.if-index-division.false;
        at = ap (λ start. start + c.args.index * c.in-Some.division.words) (c.start_of.ensures
            ∙ ap (λ n. start_word n c.args.superblock) is_inside.capacity_is);
        size = refl;
      };
    }
