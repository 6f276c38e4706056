use Rattle.std.proofs.Common.{rules, nat_lt}
use Rattle.std.proofs.lemmas.Bool.{ltb-true, ltb-false}
use Rattle.std.proofs.lemmas.List.Sorted.{IsPartitionPoint-from_clause, IsPartitionedBy-ltb}
use Rattle.heap_model.specs.declared.block.Block.{Block}
use Rattle.trace_text.proofs.OrderLemmas.{first_words_rise}
use Rattle.trace_text.proofs.map.count_before.Goals as goal

pub returns : goal.returns
returns c =
    let parted = IsPartitionedBy-ltb (λ (b : Block). b.first_word) c.args.held.now c.args.word (first_words_rise c.args.held.now c.requires) in
    let point = IsPartitionPoint-from_clause (λ (b : Block). nat_lt b.first_word c.args.word)
    c.args.held.now _ c.partition_point.ensures.partitioned parted (λ a r q k. search rules) in
    record {
      bound = c.partition_point.ensures.bound;
      before = λ k d low high. ltb-true _ _ (point.0 k d low high);
      behind = λ k d low high. ltb-false _ _ (point.1 k d low high);
    }
