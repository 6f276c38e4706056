-- What a text says of a recovered heap.
use Rattle.std.specs.Prelude.{Bool, true, false}
use Rattle.heap_recover.specs.declared.answer.Was.{Was}
use Rattle.heap_recover.specs.declared.answer.Was.TheVariants.{Clean, Dirty}

-- whether it was closed
abbrev pub is_clean : Was → Bool
is_clean Clean = true
is_clean Dirty = false
