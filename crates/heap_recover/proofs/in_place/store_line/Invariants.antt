use Rattle.std.specs.Prelude.{◌≡◌, ◌↔◌, ◌+◌, ◌-◌, ◌*◌, ◌≤◌, slice_index, IsTrue}
use Rattle.heap_recover.specs.InPlace.{differences, IsStoredTo, Differ}
use Rattle.heap_recover.specs.InOrder.{stores_from, TakesAll}
use Rattle.heap_recover.proofs.in_place.store_line.Given as goal

abbrev pub invariant-loop-word : goal.invariant-loop-word
invariant-loop-word g l = record {
  low : 8 * l.fn.line ≤ l.word;
  high : l.word ≤ 8 * l.fn.line + 8;
  stored : IsStoredTo l.old l.new (8 * l.fn.line) l.word (g.M.LineMemory.view l.memory);
  tells : IsTrue l.some ↔ Differ l.old l.new (8 * l.fn.line) l.word;
  budget : (g.M.LineMemory.view l.memory).budget ≡ (g.M.LineMemory.view l.initial.memory).budget;
  going : (g.M.LineMemory.view l.memory).stopped ≡ (g.M.LineMemory.view l.initial.memory).stopped;
  drawn : (g.M.LineMemory.view l.memory).drawn + differences (slice_index l.old) (slice_index l.new) (8 * l.fn.line)
      ≡ (g.M.LineMemory.view l.initial.memory).drawn + differences (slice_index l.old) (slice_index l.new) l.word;
  steps : TakesAll g.M.LineMemory.view g.M.LineMemory.draws l.initial.memory
      (stores_from (slice_index l.old) (slice_index l.new) (8 * l.fn.line) (l.word - 8 * l.fn.line)) l.memory;
}
