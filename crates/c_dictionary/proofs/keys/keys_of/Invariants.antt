use Rattle.c_dictionary.specs.Keys.{ListsFirst}
use Rattle.c_dictionary.proofs.keys.keys_of.Given as goal

abbrev pub invariant-loop-i : goal.invariant-loop-i
invariant-loop-i l = ListsFirst l.maps l.i l.keys
