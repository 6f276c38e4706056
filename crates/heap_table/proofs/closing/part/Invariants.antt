use Rattle.std.proofs.Common.{◌≡◌, ◌≤◌, vec_len, vec_capacity}
use lib.ListN.{take, drop}
use Rattle.std.specs.Slots.{slots_items}
use Rattle.heap_table.proofs.closing.part.Given as goal

abbrev pub invariant-loop-i : goal.invariant-loop-i
invariant-loop-i l = record {
  words : l.words.items ≡ take l.i (drop l.from (slots_items l.closed.words));
  count : vec_len l.words ≡ l.i;
  room : l.length ≤ vec_capacity l.words;
}
