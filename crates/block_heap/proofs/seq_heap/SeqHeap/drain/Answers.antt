use Rattle.std.proofs.Common.{◌≡◌, ◌≤◌, ◌*◌, ap, subst, ◌∙◌, arith}
use Rattle.std.proofs.lemmas.Result.{err_from_is_err_and}
use Rattle.std.proofs.Math.Nat.{mul-le-mul_left}
use Rattle.heap_model.specs.Geometry.{largest_capacity_fits}
use Rattle.heap_model.specs.Sizes.{blocks_of}
use Rattle.heap_model.proofs.SizeLemmas.{few_blocks}
use Rattle.block_heap.specs.Laws.{seat_law, keeps_none_law, keeps_row_law}
use Rattle.block_heap.specs.SeqState.{SeqState}
use Rattle.block_heap.specs.Serving.{Answers, DrainsAs}
use Rattle.block_heap.proofs.DrainKeepLemmas.{kept_first, kept_pushed, kept_unpushed, kept_last, kept_done, kept_stops}
use Rattle.block_heap.proofs.DrainLemmas.{drains_last}
use Rattle.block_heap.proofs.RefusedLemmas.{size_served}
use Rattle.block_heap.proofs.DrawnLemmas.{draining_first, draining_more, room_for_one, drawn_few, drawn_stops_within}
use Rattle.block_heap.specs.Draws.{most_blocks}
use Rattle.block_heap.proofs.seq_heap.SeqHeap.drain.Goals as goal

pub overflow_mul-most : goal.overflow_mul-most
overflow_mul-most g c =
    let capacity = c.capacity.ensures in
    let small = c.self.invariant.lasts.small in
    let greatest = largest_capacity_fits in
    let count : c.blocks_of.result ≡ blocks_of c.args.class = c.blocks_of.ensures in
    let few = few_blocks c.args.class c.requires in
    let by_count : c.capacity.result * c.blocks_of.result ≤ c.capacity.result * most_blocks = mul-le-mul_left c.capacity.result (omega arith) in
    omega arith

pub invariant_of-asked-clause-served : goal.invariant_of-asked-clause-served
invariant_of-asked-clause-served g c = λ class one. size_served c.args.class c.size_of.result c.new.result class c.requires c.size_of.ensures
    c.new.ensures one

pub overflow_mul-b : goal.overflow_mul-b
overflow_mul-b g c =
    let gets = subst (λ a. Answers c.size_of.result a c.loop-offsets.self.parts c.request.new.self.parts) c.in-Some.is c.in_ok-b.ensures.ok in
    let short = ((seat_law c.request.new.self).placed c.in-Some.b gets.adds.has).short in
    omega arith

pub loop-offsets-init : goal.loop-offsets-init
loop-offsets-init g c = (
  draining_first c.args.class _ c.args.self.now c.in_ok-offsets.offsets.items c.in_ok-offsets.ensures.items c.requires c.self.view_is c.self.invariant,
  keeps_none_law c.args.self.now,
  kept_first c.args.class c.args.self.now c.in_ok-offsets.offsets.items c.in_ok-offsets.ensures.items,
  c.in_ok-offsets.ensures.capacity,
)

pub loop-offsets-preserved : goal.loop-offsets-preserved
loop-offsets-preserved g c = (
  draining_more c.args.class c.size_of.result _ c.args.self.now c.loop-offsets.self c.request.new.self c.loop-offsets.offsets.items
      c.push.new.self.items
      c.in_ok-b.field-0 c.in-Some.b c.in-Ok.ensures.items c.loop-offsets.invariant.0 c.in-Some.is c.in_ok-b.ensures.ok
      (c.in_ok-b.ensures.drains c.args.class c.requires c.size_of.ensures)
      c.requires c.size_of.ensures c.in_ok-b.ensures.runs c.request.ensures.counted,
  keeps_row_law c.args.self.now c.loop-offsets.self c.request.new.self c.loop-offsets.invariant.1 c.request.ensures.kept,
  kept_pushed c.args.class c.size_of.result c.args.self.now c.loop-offsets.self c.request.new.self c.loop-offsets.offsets.items c.push.new.self.items
      c.in_ok-b.field-0 c.in-Some.b c.in-Ok.ensures.items c.loop-offsets.invariant.2 c.in-Some.is c.in_ok-b.ensures.ok c.request.ensures.words
      c.requires c.size_of.ensures c.in_ok-b.ensures.runs,
  (let before = c.loop-offsets.invariant.3 in let more = c.push.ensures.capacity in omega arith),
)

pub returns-clause-ok : goal.returns-clause-ok
returns-clause-ok g c = λ drainable.
    drains_last c.args.class c.args.self.now c.loop-offsets.self c.loop-offsets.offsets.items (c.loop-offsets.invariant.0.0 drainable)
    (subst (λ a. DrainsAs c.args.class a c.loop-offsets.self.parts c.request.new.self.parts) c.in_default.is
    (c.in_ok-b.ensures.drains c.args.class c.requires c.size_of.ensures)).0

pub returns-in_err-b-clause-few : goal.returns-in_err-b-clause-few
returns-in_err-b-clause-few g c =
    drawn_few c.args.class c.args.self.now c.loop-offsets.self c.request.new.self c.loop-offsets.offsets.items c.loop-offsets.invariant.0.1
    c.request.ensures.draws

pub returns-in-Err-clause-few : goal.returns-in-Err-clause-few
returns-in-Err-clause-few g c =
    drawn_few c.args.class c.args.self.now c.loop-offsets.self c.request.new.self c.loop-offsets.offsets.items c.loop-offsets.invariant.0.1
    c.request.ensures.draws

pub returns-clause-few : goal.returns-clause-few
returns-clause-few g c =
    drawn_few c.args.class c.args.self.now c.loop-offsets.self c.request.new.self c.loop-offsets.offsets.items c.loop-offsets.invariant.0.1
    c.request.ensures.draws

pub returns-in_err-b-clause-above : goal.returns-in_err-b-clause-above
returns-in_err-b-clause-above g c =
    let told = err_from_is_err_and c.from_residual-in_err-b.result c.from_residual-in_err-b.ensures.1 in
    rw (told.1, told.2)
    (λ e one running. drawn_stops_within c.args.class _ c.in_err-b.field-0.0 e c.args.self.now c.loop-offsets.self c.request.new.self
    c.loop-offsets.offsets.items
    c.loop-offsets.invariant.0.1 c.request.ensures.draws c.request.ensures.counted c.in_err-b.ensures.stopped one running)

pub returns-in_err-b-clause-stops : goal.returns-in_err-b-clause-stops
returns-in_err-b-clause-stops g c =
    let told = err_from_is_err_and c.from_residual-in_err-b.result c.from_residual-in_err-b.ensures.1 in
    rw (told.1, told.2)
    (λ e one. kept_stops c.args.class c.in_err-b.field-0.0 e c.args.self.now c.loop-offsets.self c.request.new.self c.loop-offsets.offsets.items
    c.loop-offsets.invariant.2 c.in_err-b.ensures.stopped c.request.ensures.idle one)

pub returns-in_err-b-clause-keeps : goal.returns-in_err-b-clause-keeps
returns-in_err-b-clause-keeps g c =
    kept_last c.args.class c.args.self.now c.loop-offsets.self c.request.new.self c.loop-offsets.offsets.items
    c.loop-offsets.invariant.2 c.request.ensures.words c.in_err-b.ensures.held

pub returns-in-Err-clause-keeps : goal.returns-in-Err-clause-keeps
returns-in-Err-clause-keeps g c =
    kept_unpushed c.args.class c.size_of.result c.args.self.now c.loop-offsets.self c.request.new.self c.loop-offsets.offsets.items
    c.in_ok-b.field-0 c.in-Some.b c.loop-offsets.invariant.2 c.in-Some.is c.in_ok-b.ensures.ok c.request.ensures.words

pub returns-clause-keeps : goal.returns-clause-keeps
returns-clause-keeps g c =
    (kept_done c.args.class c.size_of.result c.args.self.now c.loop-offsets.self c.request.new.self c.loop-offsets.offsets.items
    c.in_ok-b.field-0 c.loop-offsets.invariant.2 c.in_default.is c.in_ok-b.ensures.ok c.request.ensures.words c.in_ok-b.ensures.runs).0

pub returns-clause-holds : goal.returns-clause-holds
returns-clause-holds g c =
    (kept_done c.args.class c.size_of.result c.args.self.now c.loop-offsets.self c.request.new.self c.loop-offsets.offsets.items
    c.in_ok-b.field-0 c.loop-offsets.invariant.2 c.in_default.is c.in_ok-b.ensures.ok c.request.ensures.words c.in_ok-b.ensures.runs).1

pub returns-in-Err-clause-kept : goal.returns-in-Err-clause-kept
returns-in-Err-clause-kept g c = keeps_row_law c.args.self.now c.loop-offsets.self c.request.new.self c.loop-offsets.invariant.1 c.request.ensures.kept

pub returns-clause-full : goal.returns-clause-full
returns-clause-full g c =
    (subst (λ a. DrainsAs c.args.class a c.loop-offsets.self.parts c.request.new.self.parts) c.in_default.is
    (c.in_ok-b.ensures.drains c.args.class c.requires c.size_of.ensures)).1

pub returns-in-Err-clause-memory : goal.returns-in-Err-clause-memory
returns-in-Err-clause-memory g c = absurd (
    let room = room_for_one c.args.class c.size_of.result _ (c.capacity.result * c.blocks_of.result)
    c.args.self.now c.loop-offsets.self c.request.new.self
    c.loop-offsets.offsets.items c.in_ok-b.field-0 c.in-Some.b c.loop-offsets.invariant.0 c.in-Some.is c.in_ok-b.ensures.ok
    (c.in_ok-b.ensures.drains c.args.class c.requires c.size_of.ensures) c.requires c.size_of.ensures c.in_ok-b.ensures.runs c.request.ensures.counted
    (ap (λ n. n * c.blocks_of.result) (c.capacity.ensures ∙ ap (λ (s : SeqState). s.parts.capacity) c.self.view_is)
    ∙ ap (λ n. c.args.self.now.parts.capacity * n) c.blocks_of.ensures) in
    let kept = c.loop-offsets.invariant.3 in
    let full = c.in-Err.ensures.full in
    omega arith)
