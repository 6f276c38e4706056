use Rattle.std.proofs.Common.{◌≡◌, ◌+◌, ◌-◌, refl, sym, subst, ◌∙◌, arith}
use Rattle.heap_model.specs.Geometry.{start_word, largest_capacity_fits}
use Rattle.heap_model.specs.Sizes.{words_of_class, blocks_of}
use Rattle.heap_model.proofs.SizeLemmas.{few_words, two_words, four_blocks, blocks_fit}
use Rattle.core_model.specs.Memory.{next}
use Rattle.crash_core.specs.Standing.{memory_at}
use Rattle.seat_state.proofs.DecisionLemmas.{refused}
use Rattle.crash_core.proofs.HalfLinked.{IsHalfLinked, half_start, half_room, half_step, half_apart, half_whole}
use Rattle.crash_core.proofs.cuts.is_linked.Goals as goal

pub next-requires-clause-until : goal.next-requires-clause-until
next-requires-clause-until c = let t = c.loop-step-test.true in let n = c.blocks_of-step-end.ensures in let d = c.requires.d in
    let room = half_room (next (memory_at c.args.core.now)) (start_word c.args.core.now.geometry.capacity c.args.d)
    (words_of_class c.args.class.number) (blocks_of c.args.class.number) c.loop-step.block
    (blocks_of c.args.class.number + 1 - c.loop-step._step) c.loop-step.invariant (omega arith) in
    let fits = blocks_fit c.args.class.number c.args.class.is in let two = two_words c.args.class.number c.args.class.is in omega arith

pub overflow_add-block : goal.overflow_add-block
overflow_add-block c = let t = c.loop-step-test.true in let n = c.blocks_of-step-end.ensures in let d = c.requires.d in
    let room = half_room (next (memory_at c.args.core.now)) (start_word c.args.core.now.geometry.capacity c.args.d)
    (words_of_class c.args.class.number) (blocks_of c.args.class.number) c.loop-step.block
    (blocks_of c.args.class.number + 1 - c.loop-step._step) c.loop-step.invariant (omega arith) in
    let fits = blocks_fit c.args.class.number c.args.class.is in let w : c.block_words-words.result ≡ words_of_class c.args.class.number =
    c.block_words-words.ensures.words in let f = few_words c.args.class.number c.args.class.is in
    let small = c.args.core.now.geometry.small in let top = largest_capacity_fits in omega arith

pub returns-then-next-block : goal.returns-then-next-block
returns-then-next-block c = let t = c.loop-step-test.true in let n = c.blocks_of-step-end.ensures in
    let w : c.block_words-words.result ≡ words_of_class c.args.class.number = c.block_words-words.ensures.words in
    refused (half_apart (next (memory_at c.args.core.now)) (start_word c.args.core.now.geometry.capacity c.args.d)
    (words_of_class c.args.class.number) (blocks_of c.args.class.number) c.loop-step.block
    (blocks_of c.args.class.number + 1 - c.loop-step._step) (blocks_of c.args.class.number - c.loop-step._step) c.loop-step.invariant
    (omega arith) (omega arith) (λ leads. c.if-next-block.true (c.next.ensures ∙ leads
    ∙ (let z : c.loop-step.block + words_of_class c.args.class.number ≡ c.loop-step.block + c.block_words-words.result = omega arith in z))))

pub loop-step-preserved : goal.loop-step-preserved
loop-step-preserved c = let t = c.loop-step-test.true in let n = c.blocks_of-step-end.ensures in
    let w : c.block_words-words.result ≡ words_of_class c.args.class.number = c.block_words-words.ensures.words in let f = c.if-next-block.false in
    half_step (next (memory_at c.args.core.now)) (start_word c.args.core.now.geometry.capacity c.args.d) (words_of_class c.args.class.number)
    (blocks_of c.args.class.number) c.loop-step.block (blocks_of c.args.class.number + 1 - c.loop-step._step)
    (blocks_of c.args.class.number + 1 - (c.loop-step._step + 1)) (c.loop-step.block + c.block_words-words.result) c.loop-step.invariant
    (omega arith) (omega arith) (sym c.next.ensures ∙ (let z : c.next.result ≡ c.loop-step.block + words_of_class c.args.class.number =
    omega arith in z)) (omega arith)

pub returns : goal.returns
returns c = let t = c.loop-step-test.false in let n = c.blocks_of-step-end.ensures in let a = c.loop-step.invariant.some in (
  λ e. half_whole (next (memory_at c.args.core.now)) (start_word c.args.core.now.geometry.capacity c.args.d)
      (words_of_class c.args.class.number) (blocks_of c.args.class.number) c.loop-step.block
      (blocks_of c.args.class.number + 1 - c.loop-step._step) c.loop-step.invariant (omega arith),
  λ w. refl,
)

pub loop-step-init : goal.loop-step-init
loop-step-init c = let b = four_blocks c.args.class.number c.args.class.is in let e = c.start-block.ensures in
    subst (λ x. IsHalfLinked (next (memory_at c.args.core.now)) (start_word c.args.core.now.geometry.capacity c.args.d)
    (words_of_class c.args.class.number) (blocks_of c.args.class.number) x (blocks_of c.args.class.number + 1 - 1)) (sym e)
    (half_start (next (memory_at c.args.core.now)) (start_word c.args.core.now.geometry.capacity c.args.d) (words_of_class c.args.class.number)
    (blocks_of c.args.class.number) (blocks_of c.args.class.number + 1 - 1) (omega arith) (omega arith))
