use Rattle.std.proofs.Common.{◌-◌, ◌/◌, ◌<◌, Some, ap, ap₂, sym, subst, ◌∙◌, arith}
use Rattle.heap_model.specs.Sizes.{words_of_class}
use Rattle.heap_model.proofs.SizeLemmas.{few_blocks}
use Rattle.core_model.specs.Effects.{given_anchor}
use Rattle.heap_rule.proofs.BatchLemmas.{block_index}
use Rattle.heap_rule.proofs.anchor_exchanges.anchor_with_batch.Goals as goal

pub anchor_after_give-requires-clause-first : goal.anchor_after_give-requires-clause-first
anchor_after_give-requires-clause-first c =
    subst (λ n. (c.args.batch.first - c.start.result) / n < 2147483648) (sym c.block_words.ensures.words)
    (subst (λ n. (c.args.batch.first - n) / words_of_class c.args.class.number < 2147483648) (sym c.start.ensures)
    (block_index c.args.geometry.capacity c.args.class.number c.args.d c.args.batch.first c.args.class.is c.requires.first))

pub anchor_after_give-requires-clause-all : goal.anchor_after_give-requires-clause-all
anchor_after_give-requires-clause-all c = let e = c.blocks_of-all.ensures in let few = few_blocks c.args.class.number c.args.class.is in omega arith

pub returns-clause-given : goal.returns-clause-given
returns-clause-given c = λ state room.
    ap Some (c.anchor_after_give.ensures ∙ ap₂ (λ i n. given_anchor c.args.anchor i c.args.batch.count n)
    (ap₂ (λ s n. (c.args.batch.first - s) / n) c.start.ensures c.block_words.ensures.words) c.blocks_of-all.ensures)
