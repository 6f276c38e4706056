use Rattle.std.proofs.Common.{◌+◌, refl, arith}
use Rattle.heap_model.specs.Durability.{is_head}
use Rattle.crash_image.proofs.CrashLemmas.{head_drawn, left_set, left_same}
use Rattle.crash_image.proofs.crash.scramble_heads.Goals as goal

pub loop-list-init : goal.loop-list-init
loop-list-init g c = (λ capacity. left_same capacity c.args.image.now.items, refl)

pub loop-list-preserved : goal.loop-list-preserved
loop-list-preserved g c = (
  λ capacity. left_set capacity c.args.image.now.items c.loop-list.image.items (16 + c.loop-list.list) c.draw.result
      (is_head c.loop-list.list (16 + c.loop-list.list) (omega arith) refl) (c.loop-list.invariant.0 capacity),
  head_drawn g.C.Chance.draw_gives c.args.scramble.now c.loop-list.scramble c.draw.new.self c.loop-list.image.items c.loop-list.list
      (c.loop-list.list + 1) c.draw.result (omega arith)
      (let long = (c.loop-list.invariant.0 0).long in omega arith) c.loop-list.invariant.1 c.draw.ensures,
)
