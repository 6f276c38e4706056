use Rattle.std.proofs.Common.{◌++◌, ◌∷◌, [], ap, sym, ◌∙◌, length-set, arith}
use Rattle.std.proofs.lemmas.List.{take_more_set}
use Rattle.core_model.specs.Effects.{steps}
use Rattle.seat_index.proofs.StackLemmas.{steps_more}
use Rattle.seat_index.proofs.stacks.Stack.fill.Goals as goal

pub loop-i-preserved : goal.loop-i-preserved
loop-i-preserved c = record {
  long = length-set c.loop-i.self.blocks.items c.loop-i.i c.loop-i.block ∙ c.loop-i.invariant.long;
  at = (let a = c.loop-i.invariant.at in grind arith);
  filled = take_more_set c.loop-i.self.blocks.items c.loop-i.i c.loop-i.block (let t = c.loop-i-test.true in let e = c.loop-i.auto.i-end in
      let l = c.loop-i.invariant.long in let n = c.len-i-end.ensures in omega arith)
      ∙ ap (λ l. l ++ c.loop-i.block ∷ []) c.loop-i.invariant.filled
      ∙ ap (λ x. steps c.args.first c.args.apart c.loop-i.i ++ x ∷ []) c.loop-i.invariant.at
      ∙ sym (steps_more c.args.first c.args.apart c.loop-i.i);
}
