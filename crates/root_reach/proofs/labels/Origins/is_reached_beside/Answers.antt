use Rattle.std.proofs.Common.{◌∙◌, sym, arith, rules}
use Rattle.root_reach.proofs.TraceLemmas.{beside_yes, beside_no}
use Rattle.root_reach.proofs.labels.Origins.is_reached_beside.Goals as goal

pub returns-then-is_beside : goal.returns-then-is_beside
returns-then-is_beside c = λ image kinds links are is.
    let found = c.is_beside.ensures.yes c.if-is_beside.true in (
      λ _. beside_yes image kinds links c.args.self.now c.args.block c.loop-kind.kind c.args.root found.0 are is (omega arith)
          (sym c.origin_of.ensures ∙ found.1) found.2,
      λ _. search rules,
    )

pub returns : goal.returns
returns c = λ image kinds links are is. (
  λ yes. absurd (cc),
  λ reached. absurd (beside_no image kinds links c.args.self.now c.args.block c.args.root are
      (λ k below. c.loop-kind.invariant k (omega arith)) reached),
)
