use Rattle.std.proofs.Common.{ℕ, ◌<◌}
use Rattle.heap_model.specs.Sizes.{IsClass, size_of}
use Rattle.size_table.proofs.class.class_of.Given as goal

-- no smaller class holds the bytes
abbrev pub invariant-loop-class : goal.invariant-loop-class
invariant-loop-class l = (other : ℕ) → IsClass other → other < l.class → size_of other < l.bytes
