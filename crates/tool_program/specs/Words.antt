-- The words that a command line has behind the program's name.
use Rattle.std.specs.Prelude.{ℕ, List, [], drop, String, Result, Ok, Err}
use Rattle.std.specs.declared.alloc.Global.{Global}
use Rattle.std.specs.declared.vec.IntoIter.{IntoIter}
use Rattle.std.specs.Vec.Iter.{into_iter_items}
use Rattle.tool_command.specs.Command.{texts}

-- the words behind the program's name, in their order; none where the arguments can't be had
abbrev pub words_behind : {E : Type 0} → Result (IntoIter (String Global) Global) E → List (List ℕ)
words_behind (Ok args) = texts (drop 1 (into_iter_items args))
words_behind (Err e) = []
