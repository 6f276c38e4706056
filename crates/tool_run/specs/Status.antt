-- What each status says.
use Rattle.std.specs.Prelude.{◌≢◌, ℕ, List, [], ◌∷◌, Option, Some, None, Contains, slice_index_or}
use Rattle.tool_run.specs.Lines.{usage_line, memory_line, read_line}

-- the result was put and printed in full
abbrev pub done : ℕ
done = 0

-- the words ask for no command
abbrev pub usage : ℕ
usage = 2

-- memory ran out before anything was put
abbrev pub out_of_memory : ℕ
out_of_memory = 3

-- the outside failed while something was read
abbrev pub read_fault : ℕ
read_fault = 4

-- the outside failed while the result was put or printed
abbrev pub write_fault : ℕ
write_fault = 5

-- there is no such image
abbrev pub no_image : ℕ
no_image = 6

-- the image has a malformed header
abbrev pub bad_header : ℕ
bad_header = 7

-- a root or a linked word points to no block
abbrev pub outside : ℕ
outside = 8

-- a shard of the image has no map
abbrev pub bad_shard : ℕ
bad_shard = 9

-- a line of the trace or of the schedule asks for nothing, or it is too long
abbrev pub bad_trace : ℕ
bad_trace = 10

-- there is no other
abbrev pub statuses : List ℕ
statuses = done ∷ usage ∷ out_of_memory ∷ read_fault ∷ write_fault ∷ no_image ∷ bad_header ∷ outside ∷ bad_shard ∷ bad_trace ∷ []

-- a status after which the store is as it was, whatever the command
pub record LeavesStore (status : ℕ) : Type 0 where
  pub refused : status ≢ done
  pub not_put : status ≢ write_fault

-- a status after which the chances are as they were, whatever the command, but for a replay
pub record LeavesChances (status : ℕ) : Type 0 where
  pub refused : status ≢ done
  pub not_put : status ≢ write_fault
  pub had_memory : status ≢ out_of_memory

-- a status by which the words or the image are refused: nothing is read from the source then, but for a replay whose crash leaves a word outside
pub record IsBeforeTrace (status : ℕ) : Type 0 where
  pub among : Contains (usage ∷ no_image ∷ bad_header ∷ outside ∷ bad_shard ∷ []) status

-- for the statuses from 0 on, the line of each that has one line alone
abbrev pub own_lines : List (Option (List ℕ))
own_lines = None ∷ None ∷ Some usage_line ∷ Some memory_line ∷ Some read_line ∷ []

-- the line of a status that has one line alone, if it has
abbrev pub own_line : ℕ → Option (List ℕ)
own_line status = slice_index_or own_lines status None
