use Rattle.std.proofs.Common.{arith}
use Rattle.heap_rule.proofs.notes.uncache.Goals as goal

pub offset_bounds-notes-class : goal.offset_bounds-notes-class
offset_bounds-notes-class c = let b = c.requires.below in let f = c.requires.few in omega arith
