-- When a status comes: nothing else does, but want of memory or a failure before it.
use Rattle.std.specs.Prelude.{◌≡◌, ◌⊎◌, ℕ, List, Some, None}
use Rattle.tool_ports.specs.Causes.{Rose}
use Rattle.tool_ports.specs.Contents.{told_of}
use Rattle.tool_command.specs.Command.{Command, Asks, IsUsage}
use Rattle.tool_run.specs.CommandUses.{RefusesOutside, ReadsSource, kinds_checked}
use Rattle.tool_run.specs.Outcome.{AsksToGet, AsksToRead, AsksForRun, AsksForReplay, HoldsMalformed, HoldsOutside, HoldsOutsideLeft, HoldsBadShard, HoldsGood, HoldsMaps, HoldsBadLine, HoldsBadStep, HoldsTooMuch, CanBeDone}
use Rattle.tool_run.specs.Seen.{Seen, StoreFailed, SourceFailed}
use Rattle.tool_run.specs.Status.{done, usage, out_of_memory, read_fault, no_image, bad_header, outside, bad_shard, bad_trace}

-- it is this status, or memory ran out, or a read failed before it
abbrev pub ComesBut : ℕ → ℕ → Type 0
ComesBut due status = (status ≡ due) ⊎ (status ≡ out_of_memory) ⊎ (status ≡ read_fault)

-- what store and source tell decides the status
pub record IsComplete (words : List (List ℕ)) (old new : Seen) (status : ℕ) : Type 0 where
  -- the words ask for no command
  pub always_usage : IsUsage words → (status ≡ usage) ⊎ (status ≡ out_of_memory)
  -- there is no such image
  pub always_absent : (name : List ℕ) → AsksToGet words name → told_of old.contents name ≡ Some None → ComesBut no_image status
  -- its header is malformed
  pub always_cause : (name : List ℕ) (asks : AsksToGet words name) → HoldsMalformed (kinds_checked asks.command) old.contents name
      → ComesBut bad_header status
  -- a word of it points outside, and the command is refused for that; or a replay leaves such a word
  pub always_outside : (name : List ℕ) (at : ℕ) (asks : AsksToGet words name) (has : HoldsOutside old.contents name at)
      → RefusesOutside asks.command has.bytes → ComesBut outside status
  pub always_outside_left : (name : List ℕ) (at : ℕ) → AsksForReplay words name → HoldsOutsideLeft old.contents name old.left at
      → ComesBut outside status
  -- a shard of it has no map
  pub always_bad_shard : (name : List ℕ) (shard at : ℕ) → AsksToRead words name → HoldsBadShard old.contents name shard at
      → ComesBut bad_shard status
  -- a line of the trace asks for nothing, or the trace is too long
  pub always_bad_line : (name : List ℕ) (line : ℕ) → AsksForRun words name → HoldsMaps old.contents name → HoldsBadLine old.left line
      → ComesBut bad_trace status
  pub always_too_long : (name : List ℕ) → AsksForRun words name → HoldsMaps old.contents name → HoldsTooMuch old.left
      → ComesBut bad_trace status
  -- and the same of a schedule
  pub always_bad_step : (name : List ℕ) (line : ℕ) → AsksForReplay words name → HoldsGood old.contents name → HoldsBadStep old.left line
      → ComesBut bad_trace status
  pub always_schedule_too_long : (name : List ℕ) → AsksForReplay words name → HoldsGood old.contents name → HoldsTooMuch old.left
      → ComesBut bad_trace status
  -- nothing stands against the command, and no port fails that it needs
  pub complete : (command : Command) → Asks words command → CanBeDone command old.contents old.left
      → ¬ (StoreFailed old new) → (ReadsSource command → ¬ (SourceFailed old new)) → ¬ (Rose old.sink_faults new.sink_faults)
      → (status ≡ done) ⊎ (status ≡ out_of_memory)
