use Rattle.std.proofs.Common.{◌-◌, ◌+◌}
use Rattle.heap_model.specs.Geometry.{start_word}
use Rattle.heap_model.specs.Sizes.{words_of_class, blocks_of}
use Rattle.core_model.specs.Memory.{next}
use Rattle.crash_core.specs.Standing.{memory_at}
use Rattle.crash_core.proofs.HalfLinked.{IsHalfLinked}
use Rattle.crash_core.proofs.cuts.is_linked.Given as goal

abbrev pub invariant-loop-step : goal.invariant-loop-step
invariant-loop-step l = IsHalfLinked (next (memory_at l.core)) (start_word l.core.geometry.capacity l.d) (words_of_class l.fn.class.number)
    (blocks_of l.fn.class.number) l.block (blocks_of l.fn.class.number + 1 - l._step)
