use Rattle.std.proofs.Common.{◌≡◌, ◌+◌, ◌<◌, ℕ, Option, None, IfOk, sym, subst, arith}
use Rattle.std.proofs.lemmas.Result.{IfOk-weaker}
use Rattle.heap_model.specs.declared.block.Block.{Block}
use Rattle.heap_model.specs.Sizes.{largest_small, span_of}
use Rattle.heap_model.proofs.SizeLemmas.{few_words, size_of-words}
use Rattle.block_heap.specs.Accounts.{AreAccounted}
use Rattle.block_heap.specs.Draws.{most_join_draws}
use Rattle.block_heap.specs.Medium.{RunsWithin}
use Rattle.block_heap.specs.Order.{ServesInOrder}
use Rattle.block_heap.specs.Parts.{parts_of}
use Rattle.block_heap.specs.Running.{IsRunning}
use Rattle.block_heap.specs.Large.{JoinsAs}
use Rattle.block_heap.specs.Serving.{Answers, AnswersInClass, DrainsAs}
use Rattle.block_heap.proofs.AllocLemmas.{answers_small, answers_large, both_ok, if_ok_both, on_ok_both}
use Rattle.size_table.proofs.ClassLemmas.{least_small, one_least, least_of_size}
use Rattle.block_heap.proofs.arena.Arena.alloc.Goals as goal

pub returns-in-Some-clause-ok : goal.returns-in-Some-clause-ok
returns-in-Some-clause-ok g c =
    let p = parts_of c.args.self.now in
    let q = parts_of c.alloc_small.new.self in
    IfOk-weaker c.alloc_small.result (λ answer. AnswersInClass c.in-Some.class.number answer p q) (λ answer. Answers c.args.asked.bytes answer p q)
    (λ answer. answers_small c.args.asked.bytes c.in-Some.class.number answer p q (c.args.asked.served c.in-Some.class c.in-Some.is))
    c.alloc_small.ensures.ok

pub returns-in-Some-clause-drains : goal.returns-in-Some-clause-drains
returns-in-Some-clause-drains g c =
    let p = parts_of c.args.self.now in
    let q = parts_of c.alloc_small.new.self in
    λ class is same. subst (λ (k : ℕ). IfOk c.alloc_small.result (λ answer. DrainsAs k answer p q))
    (sym (least_of_size c.args.asked.bytes c.in-Some.class.number class (c.args.asked.served c.in-Some.class c.in-Some.is) is same))
    c.alloc_small.ensures.drains

pub returns-in-None-clause-ok : goal.returns-in-None-clause-ok
returns-in-None-clause-ok g c =
    let p = parts_of c.args.self.now in
    let q = parts_of c.alloc_large.new.self in
    let large : largest_small < c.args.asked.bytes = c.args.asked.unserved c.in-None.is in
    let joins : IfOk c.alloc_large.result (λ answer. JoinsAs (span_of c.args.asked.bytes) answer p q) =
    subst (λ (count : ℕ). IfOk c.alloc_large.result (λ answer. JoinsAs count answer p q)) c.span_of.ensures c.alloc_large.ensures.ok in
    both_ok c.alloc_large.result (λ answer. JoinsAs (span_of c.args.asked.bytes) answer p q)
    (λ answer. Answers c.args.asked.bytes answer p q)
    (IsRunning q × ((AreAccounted p → AreAccounted q) × RunsWithin most_join_draws p.words q.words))
    (λ answer join runs. answers_large c.args.asked.bytes answer p q large c.requires.short join runs.0 runs.1.0 c.alloc_large.ensures.caches
    c.alloc_large.ensures.leaves_held.capacity runs.1.1.few) joins
    (on_ok_both c.alloc_large.result (IsRunning q) ((AreAccounted p → AreAccounted q)
    × RunsWithin most_join_draws p.words q.words) c.alloc_large.ensures.running
    (on_ok_both c.alloc_large.result (AreAccounted p → AreAccounted q) (RunsWithin most_join_draws p.words q.words) c.alloc_large.ensures.accounted
    c.alloc_large.ensures.runs_within))

pub returns-in-None-clause-drains : goal.returns-in-None-clause-drains
returns-in-None-clause-drains g c =
    let large : largest_small < c.args.asked.bytes = c.args.asked.unserved c.in-None.is in
    λ class is same.
    let few = few_words class is in
    let words = size_of-words class is in
    absurd (omega arith)

pub returns-in-Some-clause-order : goal.returns-in-Some-clause-order
returns-in-Some-clause-order g c = λ class least.
    subst (λ (k : ℕ). IfOk c.alloc_small.result (λ answer. ServesInOrder k answer (parts_of c.args.self.now) (parts_of c.alloc_small.new.self)))
    (one_least c.args.asked.bytes c.in-Some.class.number class (c.args.asked.served c.in-Some.class c.in-Some.is) least) c.alloc_small.ensures.order

pub returns-in-None-clause-order : goal.returns-in-None-clause-order
returns-in-None-clause-order g c = λ class least.
    let large : largest_small < c.args.asked.bytes = c.args.asked.unserved c.in-None.is in
    let small = least_small c.args.asked.bytes class least in
    absurd (omega arith)
