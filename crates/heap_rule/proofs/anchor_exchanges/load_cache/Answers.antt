use Rattle.std.proofs.Common.{◌≡◌, ◌<◌, ◌+◌, ◌-◌, drop, get_or, length, length-set, length-drop, sym, subst, ◌∙◌, arith}
use Rattle.std.proofs.lemmas.List.{take_all}
use Rattle.heap_model.specs.Geometry.{largest_capacity_fits}
use Rattle.atomic_table.specs.Table.{Me}
use Rattle.core_model.specs.Memory.{table_length}
use Rattle.core_model.specs.View.{of_class}
use Rattle.heap_table.specs.SeatViews.{SeatViews, view_in}
use Rattle.heap_table.specs.Plays.{HasSoundState}
use Rattle.heap_rule.proofs.CacheMarks.{cached_below, next_at}
use Rattle.seat_index.proofs.StackLemmas.{filled_more}
use Rattle.heap_rule.proofs.anchor_exchanges.load_cache.Goals as goal

pub read-block-requires-clause-inside : goal.read-block-requires-clause-inside
read-block-requires-clause-inside c = let t = c.loop-step-test.true in let n = c.requires.count in
    let b = cached_below (view_in c.args.table_seat.now.me.0) c.args.class.number c.requires.at.has c.loop-step.step c.loop-step.block
    (omega arith) (c.loop-step.invariant.at t) in
    subst (λ (m : Me _ SeatViews). c.loop-step.block < table_length (view_in m.0).setup.capacity) (sym c.loop-step.invariant.same)
    (let z : c.loop-step.block < table_length (view_in c.args.table_seat.now.me.0).setup.capacity = omega arith in z)

pub loop-step-preserved : goal.loop-step-preserved
loop-step-preserved c = let t = c.loop-step-test.true in let n = c.requires.count in
    let less : c.loop-step.step < length (of_class (view_in c.args.table_seat.now.me.0).caches c.args.class.number) = omega arith in
    let found = subst (λ (m : Me _ SeatViews). (s : HasSoundState (view_in m.0))
    × (c.read-block.result ≡ get_or s.words c.loop-step.block 0)) c.loop-step.invariant.same c.read-block.ensures.found in record {
      same = c.read-block.ensures.same ∙ c.loop-step.invariant.same;
      table = c.read-block.ensures.table ∙ c.loop-step.invariant.table;
      at = λ more. next_at (view_in c.args.table_seat.now.me.0) c.args.class.number found.0 c.loop-step.step c.loop-step.block less
          (c.loop-step.invariant.at t) c.read-block.result found.1 (omega arith);
      long = length-set c.loop-step.stack.blocks.items (c.len.result - c.args.count + c.loop-step.step) c.loop-step.block ∙ c.loop-step.invariant.long;
      filled = filled_more c.loop-step.stack.blocks.items (of_class (view_in c.args.table_seat.now.me.0).caches c.args.class.number)
          (c.len.result - c.args.count) c.loop-step.step c.loop-step.block c.loop-step.invariant.filled less (c.loop-step.invariant.at t)
          (let l = c.loop-step.invariant.long in let k = c.len.ensures in let r = c.requires.room in omega arith);
    }

pub returns-clause-loaded : goal.returns-clause-loaded
returns-clause-loaded c =
    let items = c.loop-step.stack.blocks.items in let cache = of_class (view_in c.args.table_seat.now.me.0).caches c.args.class.number in
    let past = c.loop-step-test.false in
    sym (take_all c.loop-step.step (drop (c.len.result - c.args.count) items) (let d = length-drop (c.len.result - c.args.count) items in
    let l = c.loop-step.invariant.long in let k = c.len.ensures in let r = c.requires.room in omega arith))
    ∙ c.loop-step.invariant.filled ∙ take_all c.loop-step.step cache (let n = c.requires.count in omega arith)

pub overflow_cast-block : goal.overflow_cast-block
overflow_cast-block c = let t = c.loop-step-test.true in let n = c.requires.count in
    let b = cached_below (view_in c.args.table_seat.now.me.0) c.args.class.number c.requires.at.has c.loop-step.step c.loop-step.block
    (omega arith) (c.loop-step.invariant.at t) in
    let small = c.requires.at.has.sound.good.small in let fits = largest_capacity_fits in omega arith
