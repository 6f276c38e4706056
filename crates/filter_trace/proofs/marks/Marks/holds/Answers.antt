use Rattle.std.proofs.Common.{◌≡◌, sym, subst}
use Rattle.std.specs.Prelude.{Contains}
use Rattle.std.proofs.lemmas.Bool.{false≢true}
use Rattle.heap_model.specs.Blocks.{layout_of}
use Rattle.super_block.specs.Division.{Describes}
use Rattle.super_block.proofs.IndexLemmas.{indexed_block, same_index}
use Rattle.filter_trace.specs.Reached.{Traced}
use Rattle.filter_trace.proofs.PairLemmas.{marked_pair}
use Rattle.filter_trace.proofs.MarksLemmas.{block_low}
use Rattle.filter_trace.proofs.marks.Marks.holds.Goals as goal

pub holds_at-requires-clause-early : goal.holds_at-requires-clause-early
holds_at-requires-clause-early c =
    let l = layout_of c.self.invariant.image in
    let of_image = indexed_block l c.args.superblock c.args.index c.in-Some.block (c.in-Some.ensures.some l c.self.invariant.described) in
    block_low c.self.invariant.image c.self.invariant.words c.in-Some.block c.self.invariant.formed of_image

pub returns-in-Some : goal.returns-in-Some
returns-in-Some c l is =
    let block = c.in-Some.block in
    let found = c.self.inside.found in
    let traced = layout_of c.self.invariant.image in
    let of_image = indexed_block traced c.args.superblock c.args.index block (c.in-Some.ensures.some traced c.self.invariant.described) in
    let indexed = c.in-Some.ensures.some l (subst (λ (m : Traced). Describes m.directory l) (sym c.self.view_is) is) in (
      λ yes.
          let some = c.holds_at.ensures.some yes in
          let pair = marked_pair traced found.kinds found.pairs.items found.marks block some.0 c.self.invariant.marked of_image some.1 some.2 in
          record {
            block = block;
            kind = some.0;
            indexed = indexed;
            pair = subst (λ (m : Traced). Contains m.pairs (block, some.0)) c.self.view_is pair;
          },
      λ reached.
          let one : reached.block ≡ block = same_index l c.args.superblock c.args.index reached.block block reached.indexed indexed in
          let here : Contains c.args.self.now.pairs (block, reached.kind) =
          subst (λ b. Contains c.args.self.now.pairs (b, reached.kind)) one reached.pair in
          let pair : Contains found.pairs.items (block, reached.kind) =
          subst (λ (m : Traced). Contains m.pairs (block, reached.kind)) (sym c.self.view_is) here in
          c.holds_at.ensures.each reached.kind (c.self.invariant.marked.blocks block reached.kind pair).1
          (c.self.invariant.marked.marked block reached.kind pair),
    )

pub returns-in-None : goal.returns-in-None
returns-in-None c l is = (
  λ yes. absurd (false≢true yes),
  λ reached. absurd (c.in-None.ensures.none l (subst (λ (m : Traced). Describes m.directory l) (sym c.self.view_is) is) reached.block reached.indexed),
)
