use Rattle.std.proofs.Common.{◌≡◌, vec_len}
use Rattle.std.specs.Vec.{vec_capacity}
use Rattle.line_memory.specs.Marks.{CoversGroups, ListsPages}
use Rattle.line_memory.proofs.pending.Pending.take_elsewhere.Given as goal

abbrev pub invariant-loop-page : goal.invariant-loop-page
invariant-loop-page l =
    record {
      covered : CoversGroups l.self-inside.marks l.self-inside.groups;
      listed : ListsPages l.self-inside.marks l.self-inside.listed.items l.self-inside.pages.items (vec_capacity l.self-inside.pages);
      marks : l.self-inside.marks ≡ l.initial.self-inside.marks;
    }

abbrev pub decreases-loop-page : goal.decreases-loop-page
decreases-loop-page l = vec_len l.self-inside.pages
