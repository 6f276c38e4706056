-- What contracts see of the words of an open heap.
use Rattle.line_memory.specs.View.{View}
use Rattle.line_memory.specs.Plain.{view_of}
use Rattle.block_heap.specs.declared.medium.Medium.{Medium}

-- the words of the memory, as it shows them
abbrev pub medium_view : {C : Type 0} → Medium C → View
medium_view m = view_of m.memory
