use Rattle.std.proofs.Common.{◌-◌, ◌+◌, get_or, refl, arith}
use Rattle.crash_core.proofs.GivenLemmas.{part_next, some_left}
use Rattle.crash_core.proofs.anchor_exchanges.give_chain.Goals as goal

pub index_mut-requires : goal.index_mut-requires
index_mut-requires c = let l = c.loop-step.invariant.long in let t = c.loop-step-test.true in
    let r = (c.requires c.loop-step.block (c.loop-step.invariant.members c.loop-step.block
    (some_left (λ n. get_or c.args.words.now n 0) c.loop-step.block (c.args.count - c.loop-step._step) (omega arith)))).0 in omega arith

pub offset_bounds-words-block : goal.offset_bounds-words-block
offset_bounds-words-block c = let t = c.loop-step-test.true in let w = c.type_inv.words in
    let r = (c.requires c.loop-step.block (c.loop-step.invariant.members c.loop-step.block
    (some_left (λ n. get_or c.args.words.now n 0) c.loop-step.block (c.args.count - c.loop-step._step) (omega arith)))).1 in omega arith

pub bounds-words-block : goal.bounds-words-block
bounds-words-block c = let t = c.loop-step-test.true in
    (c.requires c.loop-step.block (c.loop-step.invariant.members c.loop-step.block
    (some_left (λ n. get_or c.args.words.now n 0) c.loop-step.block (c.args.count - c.loop-step._step) (omega arith)))).1

pub loop-step-preserved : goal.loop-step-preserved
loop-step-preserved c = let l = c.loop-step.invariant.long in let t = c.loop-step-test.true in
    let r = (c.requires c.loop-step.block (c.loop-step.invariant.members c.loop-step.block
    (some_left (λ n. get_or c.args.words.now n 0) c.loop-step.block (c.args.count - c.loop-step._step) (omega arith)))).0 in
    part_next (λ n. get_or c.args.words.now n 0) c.args.owners.now.items c.loop-step.owners.items c.args.first c.args.count c.loop-step.block
    (c.args.count - c.loop-step._step) (c.args.count - (c.loop-step._step + 1)) _ c.args.owner c.loop-step.invariant
    (omega arith) (omega arith) refl
