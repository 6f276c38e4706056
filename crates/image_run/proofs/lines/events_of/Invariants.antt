use Rattle.std.proofs.Common.{◌≡◌, take}
use Rattle.image_run.specs.Replaying.{events_of}
use Rattle.image_run.proofs.lines.events_of.Given as goal

-- the events of the lines before this one are there
abbrev pub invariant-loop-seat : goal.invariant-loop-seat
invariant-loop-seat l = l.events.items ≡ events_of (take l.seat-index l.lines)
