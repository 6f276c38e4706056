use Rattle.std.proofs.Common.{sym, subst, ◌∙◌, arith}
use Rattle.std.specs.Prelude.{Contains}
use Rattle.std.proofs.lemmas.Bool.{false≢true, ltb-true}
use Rattle.heap_model.specs.Blocks.{layout_of}
use Rattle.filter_trace.specs.Reached.{Traced}
use Rattle.filter_trace.proofs.PairLemmas.{marked_pair}
use Rattle.filter_trace.proofs.MarksLemmas.{block_low}
use Rattle.filter_trace.proofs.marks.Marks.has.Goals as goal

pub returns-then-not-is_block : goal.returns-then-not-is_block
returns-then-not-is_block c = (
  λ yes. absurd (false≢true yes),
  λ here.
      let found : Contains c.self.inside.found.pairs.items (c.args.block, c.args.kind) =
      subst (λ (m : Traced). Contains m.pairs (c.args.block, c.args.kind)) (sym c.self.view_is) here in
      let is = c.self.invariant.marked.blocks c.args.block c.args.kind found in
      let low = block_low c.self.invariant.image c.self.invariant.words c.args.block c.self.invariant.formed is.0 in
      c.if-not-is_block.ensures.no (layout_of c.self.invariant.image) c.self.invariant.described low is.0,
)

pub returns-else-kind-self : goal.returns-else-kind-self
returns-else-kind-self c = (
  λ yes. absurd (let below = ltb-true c.args.kind c.self.inside.found.kinds yes in omega arith),
  λ here.
      let found : Contains c.self.inside.found.pairs.items (c.args.block, c.args.kind) =
      subst (λ (m : Traced). Contains m.pairs (c.args.block, c.args.kind)) (sym c.self.view_is) here in
      let is = c.self.invariant.marked.blocks c.args.block c.args.kind found in
      absurd (omega arith),
)

pub returns-then-kind-self : goal.returns-then-kind-self
returns-then-kind-self c =
    let l = layout_of c.self.invariant.image in
    let found = c.self.inside.found in (
      λ yes.
          let is = c.is_block.ensures.yes l c.self.invariant.described c.if-not-is_block.false in
          let pair = marked_pair l found.kinds found.pairs.items found.marks c.args.block c.args.kind c.self.invariant.marked is
          c.if-kind-self.true (sym c.has.ensures ∙ yes) in
          subst (λ (m : Traced). Contains m.pairs (c.args.block, c.args.kind)) c.self.view_is pair,
      λ here.
          let pair : Contains found.pairs.items (c.args.block, c.args.kind) =
          subst (λ (m : Traced). Contains m.pairs (c.args.block, c.args.kind)) (sym c.self.view_is) here in
          c.has.ensures ∙ c.self.invariant.marked.marked c.args.block c.args.kind pair,
    )
