use Rattle.std.specs.Prelude.{◌≡◌, ◌+◌, ◌*◌, ◌/◌, ◌≤◌, length, slice_index}
use Rattle.heap_recover.specs.InPlace.{differences, changed_lines, IsStoredTo}
use Rattle.heap_recover.specs.InOrder.{steps_in, TakesAll}
use Rattle.heap_recover.proofs.in_place.store_differences.Given as goal

abbrev pub invariant-loop-line : goal.invariant-loop-line
invariant-loop-line g l = record {
  high : l.line ≤ length l.old / 8;
  stored : IsStoredTo l.old l.new (8 * l.line) (8 * l.line) (g.M.LineMemory.view l.memory);
  budget : (g.M.LineMemory.view l.memory).budget ≡ (g.M.LineMemory.view l.initial.memory).budget;
  going : (g.M.LineMemory.view l.memory).stopped ≡ (g.M.LineMemory.view l.initial.memory).stopped;
  drawn : (g.M.LineMemory.view l.memory).drawn ≡ (g.M.LineMemory.view l.initial.memory).drawn
      + (differences (slice_index l.old) (slice_index l.new) (8 * l.line) + changed_lines (slice_index l.old) (slice_index l.new) l.line);
  steps : TakesAll g.M.LineMemory.view g.M.LineMemory.draws l.initial.memory (steps_in (slice_index l.old) (slice_index l.new) l.line) l.memory;
}
