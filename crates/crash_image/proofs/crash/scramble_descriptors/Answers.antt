use Rattle.std.proofs.Common.{◌∙◌, ◌+◌, refl, arith}
use Rattle.std.proofs.lemmas.List.{get_or-set_other}
use Rattle.heap_model.specs.Durability.{is_anchor, is_link}
use Rattle.crash_image.proofs.CrashLemmas.{descriptor_drawn, left_set, left_same}
use Rattle.crash_image.proofs.crash.scramble_descriptors.Goals as goal

pub loop-d-init : goal.loop-d-init
loop-d-init g c = (left_same c.args.geometry.capacity c.args.image.now.items, λ word below. refl, refl)

pub loop-d-preserved : goal.loop-d-preserved
loop-d-preserved g c = (
  left_set c.args.geometry.capacity c.args.image.now.items _ c.link.result c.draw-in-loop-d.result
      (is_link c.loop-d.d c.link.result (omega arith) c.link.ensures)
      (left_set c.args.geometry.capacity c.args.image.now.items c.loop-d.image.items c.anchor.result c.draw.result
      (is_anchor c.loop-d.d c.anchor.result (omega arith) c.anchor.ensures) c.loop-d.invariant.0),
  λ word below. get_or-set_other _ c.link.result word c.draw-in-loop-d.result 0 (λ same. let l = c.link.ensures in omega (arith, same))
      ∙ get_or-set_other c.loop-d.image.items c.anchor.result word c.draw.result 0 (λ same. let a = c.anchor.ensures in omega (arith, same))
      ∙ c.loop-d.invariant.1 word below,
  descriptor_drawn g.C.Chance.draw_gives c.args.scramble.now c.loop-d.scramble c.draw.new.self c.draw-in-loop-d.new.self c.loop-d.image.items
      c.loop-d.d (c.loop-d.d + 1) c.anchor.result c.link.result c.draw.result c.draw-in-loop-d.result
      (omega arith) c.anchor.ensures c.link.ensures (let long = c.loop-d.invariant.0.long in let l = c.link.ensures in
      omega arith) c.loop-d.invariant.2 c.draw.ensures c.draw-in-loop-d.ensures,
)
