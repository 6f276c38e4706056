-- What contracts see of the words of a memory.
use Rattle.std.specs.Prelude.{◌+◌, if◌then◌else◌}
use Rattle.std.specs.Option.{is_some}
use Rattle.line_memory.specs.View.{View}
use Rattle.line_memory.specs.Marks.{marked_words}
use Rattle.line_memory.specs.declared.lines.Lines.{Lines}

-- the tickets drawn are those allowed, and the one at which it stopped
abbrev pub lines_view : Lines → View
lines_view l =
    record {
      volatile = l.volatile.items;
      durable = l.durable.items;
      pending = marked_words l.pending;
      recent = l.recent;
      drawn = l.allowed + (if is_some l.stopped then 1 else 0);
      budget = l.budget;
      stopped = l.stopped;
    }
