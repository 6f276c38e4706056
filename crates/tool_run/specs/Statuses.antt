-- What each status says of the words, and of what store, source and sink tell.
use Rattle.std.specs.Prelude.{◌≡◌, ℕ, List, Option, IfSome, Contains}
use Rattle.tool_command.specs.Command.{IsUsage}
use Rattle.tool_run.specs.Outcome.{IsDone, IsReadFault, IsWriteFault, IsAbsent, IsBadHeader, IsOutsideAt, IsBadShardAt, IsBadTrace}
use Rattle.tool_run.specs.Seen.{Seen, IsTold, StoreFailed, SourceFailed}
use Rattle.tool_run.specs.Status.{done, usage, read_fault, write_fault, no_image, bad_header, outside, bad_shard, bad_trace, statuses, own_line}

-- The tool was run on the words, and this is its status. `Explained` says what the standard error was told of a trace, if anything.
pub record IsStatusOf (words : List (List ℕ)) (old new : Seen) (Explained : Option (List ℕ) → Type 0) (status : ℕ) : Type 0 where
  -- there is no other status
  pub known : Contains statuses status
  -- the result was put and printed in full, and no write failed
  pub ok : status ≡ done → IsDone words old.contents new.contents old.left old.taken new.taken
  pub no_failed_write : status ≡ done → new.sink_faults ≡ old.sink_faults
  -- a status that has one line alone tells that line
  pub line : IfSome (own_line status) (IsTold old new)
  -- the words ask for no command
  pub usage : status ≡ usage → IsUsage words
  -- a call of the store, or of the source, failed
  pub read_fault : status ≡ read_fault → IsReadFault words old.contents (StoreFailed old new) (SourceFailed old new)
  -- putting or printing the result was cut off
  pub write_fault : status ≡ write_fault → IsWriteFault words old.contents new.contents old.left (StoreFailed old new)
      old.sink_faults new.sink_faults old.taken new.taken
  -- there is no such image
  pub absent : status ≡ no_image → IsAbsent words old.contents (IsTold old new)
  -- its header is malformed, with this cause first
  pub cause : status ≡ bad_header → IsBadHeader words old.contents (IsTold old new)
  -- a word points outside
  pub outside : status ≡ outside → IsOutsideAt words old.contents old.left (IsTold old new)
  -- a shard has no map
  pub bad_shard : status ≡ bad_shard → IsBadShardAt words old.contents (IsTold old new)
  -- a line of the trace or of the schedule asks for nothing, or it is too long
  pub bad_trace : status ≡ bad_trace → IsBadTrace words old.contents old.left (IsTold old new) Explained
