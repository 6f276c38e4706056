use Rattle.std.proofs.Common.{◌≡◌, ◌+◌, ◌++◌, length, drop}
use Rattle.image_run.specs.Replaying.{events_of, last_answers}
use Rattle.image_run.proofs.lines.last_answers.Given as goal

-- the answers of the lines before this one are there, and the answers of the others are left
abbrev pub invariant-loop-event : goal.invariant-loop-event
invariant-loop-event l =
    (last_answers l.lines l.answers ≡ l.last.items ++ last_answers (drop l.event-index l.lines) (drop l.next l.answers))
    × (length l.answers ≡ l.next + length (events_of (drop l.event-index l.lines)))
