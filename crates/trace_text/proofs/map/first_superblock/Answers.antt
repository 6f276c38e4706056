use Rattle.std.proofs.Common.{◌-◌, ◌/◌, get_or, sym, ap, ◌∙◌, arith}
use Rattle.heap_model.specs.declared.block.Block.{Block}
use Rattle.trace_text.proofs.OrderLemmas.{first_of-none, first_of-some, first_of-other}
use Rattle.trace_text.proofs.map.first_superblock.Goals as goal

pub returns-then-before-eq0 : goal.returns-then-before-eq0
returns-then-before-eq0 c =
    sym (first_of-none c.args.geometry.capacity c.args.d c.args.held.now
    (λ k e low high. let h = c.count_before-before.ensures.behind k e (omega arith) high in omega arith))

pub returns-then-start-block : goal.returns-then-start-block
returns-then-start-block c =
    let none : Block = record { first_word = 0; words = 0 } in
    let held = c.args.held.now in
    let count = c.count_before-before.result in
    let found = first_of-some c.args.geometry.capacity c.args.d held count none c.requires.in_order (omega arith) c.count_before-before.ensures.bound
    (λ k e low high. let h = c.count_before-before.ensures.before k e low high in omega arith)
    (λ k e low high. let h = c.count_before-before.ensures.behind k e low high in omega arith)
    (omega arith) in
    ap (λ n. n / 8192) c.saturating_sub.ensures ∙ ap (λ w. ((get_or held (count - 1) none).first_word - w) / 8192) c.start.ensures ∙ sym found

pub returns-else-start-block : goal.returns-else-start-block
returns-else-start-block c =
    let none : Block = record { first_word = 0; words = 0 } in
    sym (first_of-other c.args.geometry.capacity c.args.d c.args.held.now c.count_before-before.result none c.requires.in_order
    (omega arith) c.count_before-before.ensures.bound
    (λ k e low high. let h = c.count_before-before.ensures.before k e low high in omega arith)
    (λ k e low high. let h = c.count_before-before.ensures.behind k e low high in omega arith)
    (omega arith))
