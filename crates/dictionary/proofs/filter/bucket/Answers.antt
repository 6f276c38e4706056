use Rattle.std.proofs.Common.{◌≡◌, ◌+◌, sym, ◌∙◌, ap, Some, arith}
use Rattle.dictionary.proofs.LinkLemmas.{get-all_to_nodes, get-all_past}
use Rattle.dictionary.proofs.filter.bucket.Goals as goal

pub returns-then-at-block : goal.returns-then-at-block
returns-then-at-block c =
    let same : 0 + c.args.at ≡ c.args.at = omega arith in
    sym (get-all_to_nodes 0 c.args.block.now c.args.at (omega arith) ∙ ap (λ x. Some (x, 2)) same)

pub returns-else-at-block : goal.returns-else-at-block
returns-else-at-block c = sym (get-all_past 0 c.args.block.now c.args.at (omega arith))
