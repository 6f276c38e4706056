-- What the functions of this crate say of each other's answers.
use Rattle.std.specs.Prelude.{◌≡◌, ◌⊎◌, ℕ, List, Option, Some, None}
use Rattle.tool_ports.specs.Contents.{Contents, Lacks, HoldsOldOrNew, KeepsOthers}
use Rattle.tool_ports.specs.declared.image_store.GetFault.{GetFault}
use Rattle.tool_ports.specs.declared.image_store.GetFault.TheVariants.{Absent as NoSuchImage, Failed as GetFailed, Memory as GetMemory}
use Rattle.tool_ports.specs.declared.image_store.PutImageFault.{PutImageFault}
use Rattle.tool_ports.specs.declared.image_store.PutImageFault.TheVariants.{Failed as PutFailed, Memory as PutMemory}
use Rattle.heap_recover.specs.declared.fault.RecoverFault.{RecoverFault}
use Rattle.heap_recover.specs.declared.fault.RecoverFault.TheVariants.{Header, Outside as OutsideFound, Memory as RecoverMemory}
use Rattle.tool_ports.specs.Taken.{taken_with}
use Rattle.tool_run.specs.declared.fault.Fault.{Fault}
use Rattle.tool_run.specs.declared.fault.Fault.TheVariants.{Usage, Memory, ReadFault, WriteFault, Absent, Malformed, Outside, BadShard, BadLine, BadStep, TooLong}
use Rattle.tool_ports.specs.declared.reading.ReadAllFault.{ReadAllFault}
use Rattle.tool_ports.specs.declared.reading.ReadAllFault.TheVariants.{TooLong as MoreGiven, Failed as ReadFailed, Memory as ReadMemory}
use Rattle.worker_run.specs.Said.{Line}
use Rattle.trace_text.specs.declared.request.TraceError.{TraceError}
use Rattle.trace_text.specs.declared.request.TraceError.TheVariants.{BadLine as BadTraceLine, Memory as TraceMemory}
use Rattle.trace_text.specs.Trace.{lines_of, AreLines}
use Rattle.image_run.specs.declared.fault.ReplayFault.{ReplayFault}
use Rattle.image_run.specs.declared.fault.ReplayFault.TheVariants.{Outside as OutsideLeft, Memory as ReplayMemory}
use Rattle.dictionary.specs.declared.fault.MapFault.{MapFault}
use Rattle.dictionary.specs.declared.fault.MapFault.TheVariants.{BadShard as NoMap, Memory as MapMemory}
use Rattle.tool_command.specs.Command.{Command, image_name}
use Rattle.tool_run.specs.Lines.{usage_line, memory_line, read_line, write_line, no_image_line, bad_header_line, outside_line, bad_shard_line, bad_line_line, bad_step_line, too_long_line, explained_line}
use Rattle.tool_run.specs.Making.{Makes, IsMalformed, HasOutside, HasBadShard, HasMapped, HasTrace, HasBadLine, HasTooMuch, HasGood, HasBadStep, HasOutsideLeft}
use Rattle.tool_run.specs.CommandUses.{GetsImage, RefusesOutside, kinds_checked, Reads, RunsATrace, ReplaysASchedule}
use Rattle.tool_run.specs.Outcome.{Puts, IsCutOff}
use Rattle.tool_run.specs.Status.{usage, out_of_memory, read_fault, write_fault, no_image, bad_header, outside, bad_shard, bad_trace}

-- the status of a fault
abbrev pub status_of : Fault → ℕ
status_of Usage = usage
status_of Memory = out_of_memory
status_of ReadFault = read_fault
status_of WriteFault = write_fault
status_of Absent = no_image
status_of (Malformed cause) = bad_header
status_of (Outside at value) = outside
status_of (BadShard shard at) = bad_shard
status_of (BadLine line cause) = bad_trace
status_of (BadStep line) = bad_trace
status_of TooLong = bad_trace

-- the line of a fault, where the command is about the image of this name
abbrev pub line_of : Fault → List ℕ → List ℕ
line_of Usage name = usage_line
line_of Memory name = memory_line
line_of ReadFault name = read_line
line_of WriteFault name = write_line
line_of Absent name = no_image_line name
line_of (Malformed cause) name = bad_header_line cause
line_of (Outside at value) name = outside_line at value
line_of (BadShard shard at) name = bad_shard_line shard at
line_of (BadLine line cause) name = bad_line_line line
line_of (BadStep line) name = bad_step_line line
line_of TooLong name = too_long_line

-- what the standard error is told of the fault, if anything
abbrev pub explanation_of : Fault → Option (List ℕ)
explanation_of (BadLine line cause) = Some (explained_line line cause)
explanation_of other = None

-- the line of the fault has no numbers
abbrev pub IsPlain : Fault → Type 0
IsPlain (Outside at value) = ⊥
IsPlain (BadShard shard at) = ⊥
IsPlain (BadLine line cause) = ⊥
IsPlain (BadStep line) = ⊥
IsPlain TooLong = Unit {0}
IsPlain Usage = Unit {0}
IsPlain Memory = Unit {0}
IsPlain ReadFault = Unit {0}
IsPlain WriteFault = Unit {0}
IsPlain Absent = Unit {0}
IsPlain (Malformed cause) = Unit {0}

-- why a command was refused by its image; `get_failed` is that the store's count of failures rose
abbrev pub Refuses : Command → Contents → Type 0 → Fault → Type 0
Refuses command contents get_failed Usage = ⊥
Refuses command contents get_failed Memory = Unit {0}
Refuses command contents get_failed ReadFault = GetsImage command × get_failed
Refuses command contents get_failed WriteFault = ⊥
Refuses command contents get_failed Absent = GetsImage command × Lacks contents (image_name command)
Refuses command contents get_failed (Malformed cause) = GetsImage command × IsMalformed (kinds_checked command) contents (image_name command) cause
Refuses command contents get_failed (Outside at value) = (has : HasOutside contents (image_name command) at value) × RefusesOutside command has.bytes
Refuses command contents get_failed (BadShard shard at) = Reads command × HasBadShard contents (image_name command) shard at
Refuses command contents get_failed (BadLine line cause) = ⊥
Refuses command contents get_failed (BadStep line) = ⊥
Refuses command contents get_failed TooLong = ⊥

-- what stands against the trace that a source has left; `read_failed` is that the source's count of failures rose
abbrev pub IsTraceFault : Option (List ℕ) → Type 0 → Fault → Type 0
IsTraceFault left read_failed Usage = ⊥
IsTraceFault left read_failed Memory = Unit {0}
IsTraceFault left read_failed ReadFault = read_failed
IsTraceFault left read_failed WriteFault = ⊥
IsTraceFault left read_failed Absent = ⊥
IsTraceFault left read_failed (Malformed cause) = ⊥
IsTraceFault left read_failed (Outside at value) = ⊥
IsTraceFault left read_failed (BadShard shard at) = ⊥
IsTraceFault left read_failed (BadLine line cause) = HasBadLine left line cause
IsTraceFault left read_failed (BadStep line) = ⊥
IsTraceFault left read_failed TooLong = HasTooMuch left

-- why a run was refused by its trace, once its image was good
pub record RefusesTrace (command : Command) (contents : Contents) (left : Option (List ℕ)) (read_failed : Type 0) (fault : Fault)
    : Type 0 where
  pub runs : RunsATrace command
  pub mapped : HasMapped contents (image_name command)
  pub why : IsTraceFault left read_failed fault

-- why a replay over an image that is good makes nothing: its schedule, or what it leaves
abbrev pub IsReplayFault : Contents → Option (List ℕ) → List ℕ → Type 0 → Fault → Type 0
IsReplayFault contents left name read_failed Usage = ⊥
IsReplayFault contents left name read_failed Memory = Unit {0}
IsReplayFault contents left name read_failed ReadFault = read_failed
IsReplayFault contents left name read_failed WriteFault = ⊥
IsReplayFault contents left name read_failed Absent = ⊥
IsReplayFault contents left name read_failed (Malformed cause) = ⊥
IsReplayFault contents left name read_failed (Outside at value) = HasOutsideLeft contents left name at value
IsReplayFault contents left name read_failed (BadShard shard at) = ⊥
IsReplayFault contents left name read_failed (BadLine line cause) = ⊥
IsReplayFault contents left name read_failed (BadStep line) = HasBadStep left line
IsReplayFault contents left name read_failed TooLong = HasTooMuch left

-- why a replay was refused, once its image was good
pub record RefusesReplay (command : Command) (contents : Contents) (left : Option (List ℕ)) (read_failed : Type 0) (fault : Fault)
    : Type 0 where
  pub replays : ReplaysASchedule command
  pub image : HasGood contents (image_name command)
  pub why : IsReplayFault contents left (image_name command) read_failed fault

-- why nothing was made for a command whose image was good
abbrev pub RefusesLater : Command → Contents → Option (List ℕ) → Type 0 → Fault → Type 0
RefusesLater command contents left read_failed fault =
    RefusesTrace command contents left read_failed fault ⊎ RefusesReplay command contents left read_failed fault

-- why nothing was made for a command
abbrev pub RefusesEither : Command → Contents → Option (List ℕ) → Type 0 → Type 0 → Fault → Type 0
RefusesEither command contents left get_failed read_failed fault =
    Refuses command contents get_failed fault ⊎ RefusesLater command contents left read_failed fault

-- the words or the image were refused, so that nothing was read from the source; but a word that points outside may be one that
-- a replay left
abbrev pub IsBeforeReading : Command → Fault → Type 0
IsBeforeReading command Usage = Unit {0}
IsBeforeReading command Memory = ⊥
IsBeforeReading command ReadFault = ⊥
IsBeforeReading command WriteFault = ⊥
IsBeforeReading command Absent = Unit {0}
IsBeforeReading command (Malformed cause) = Unit {0}
IsBeforeReading command (Outside at value) = ¬ (ReplaysASchedule command)
IsBeforeReading command (BadShard shard at) = Unit {0}
IsBeforeReading command (BadLine line cause) = ⊥
IsBeforeReading command (BadStep line) = ⊥
IsBeforeReading command TooLong = ⊥

-- the words, the image or the source were refused, so that the chances had not begun; but a word that points outside may be one
-- that a replay left
abbrev pub IsBeforeSeeding : Command → Fault → Type 0
IsBeforeSeeding command Usage = Unit {0}
IsBeforeSeeding command Memory = ⊥
IsBeforeSeeding command ReadFault = Unit {0}
IsBeforeSeeding command WriteFault = ⊥
IsBeforeSeeding command Absent = Unit {0}
IsBeforeSeeding command (Malformed cause) = Unit {0}
IsBeforeSeeding command (Outside at value) = ¬ (ReplaysASchedule command)
IsBeforeSeeding command (BadShard shard at) = Unit {0}
IsBeforeSeeding command (BadLine line cause) = Unit {0}
IsBeforeSeeding command (BadStep line) = Unit {0}
IsBeforeSeeding command TooLong = Unit {0}

-- the requests of the trace that the source has left
pub record IsTraceLeft (left : Option (List ℕ)) (lines : List Line) : Type 0 where
  pub trace : List ℕ
  pub has_trace : HasTrace left trace
  pub lines_are : AreLines (lines_of trace) lines

-- the result was put and printed in full
pub record IsDelivered (name : List ℕ) (image : Option (List ℕ)) (text : List ℕ) (old new : Contents)
    (taken taken' : Option (List ℕ)) : Type 0 where
  pub stored : Puts name image old new
  pub printed : taken' ≡ taken_with taken text

-- nothing was put and nothing printed
pub record IsUntouched (old new : Contents) (taken taken' : Option (List ℕ)) : Type 0 where
  pub store : new ≡ old
  pub sink : taken' ≡ taken

-- why a result was not put and printed in full
abbrev pub DeliveryFails : List ℕ → Option (List ℕ) → List ℕ → Contents → Contents → Type 0 → ℕ → ℕ
    → Option (List ℕ) → Option (List ℕ) → Fault → Type 0
DeliveryFails name image text old new put_failed faults between taken taken' Memory =
    IsUntouched old new taken taken'
DeliveryFails name image text old new put_failed faults between taken taken' WriteFault =
    IsCutOff name image text old new put_failed faults between taken taken'
DeliveryFails name image text old new put_failed faults between taken taken' Usage = ⊥
DeliveryFails name image text old new put_failed faults between taken taken' ReadFault = ⊥
DeliveryFails name image text old new put_failed faults between taken taken' Absent = ⊥
DeliveryFails name image text old new put_failed faults between taken taken' (Malformed cause) = ⊥
DeliveryFails name image text old new put_failed faults between taken taken' (Outside at value) = ⊥
DeliveryFails name image text old new put_failed faults between taken taken' (BadShard shard at) = ⊥
DeliveryFails name image text old new put_failed faults between taken taken' (BadLine line cause) = ⊥
DeliveryFails name image text old new put_failed faults between taken taken' (BadStep line) = ⊥
DeliveryFails name image text old new put_failed faults between taken taken' TooLong = ⊥

-- a command's result was made, put and printed in full
pub record IsCarriedOut (command : Command) (old new : Contents) (left taken taken' : Option (List ℕ))
    : Type 0 where
  pub image : Option (List ℕ)
  pub text : List ℕ
  pub made : Makes command old left image text
  pub delivered : IsDelivered (image_name command) image text old new taken taken'

-- nothing was made for a command, or not all of it was put and printed
pub record IsStopped (command : Command) (old new : Contents) (left : Option (List ℕ)) (store_failed source_failed : Type 0)
    (faults between : ℕ) (taken taken' : Option (List ℕ)) (fault : Fault) : Type 0 where
  pub cause : RefusesEither command old left store_failed source_failed fault × IsUntouched old new taken taken'
      ⊎ ((image : Option (List ℕ)) × (text : List ℕ) × Makes command old left image text
      × DeliveryFails (image_name command) image text old new store_failed faults between taken taken' fault)

-- a failed `get`, as a fault of the tool
abbrev pub fault_of_get : GetFault → Fault
fault_of_get NoSuchImage = Absent
fault_of_get GetFailed = ReadFault
fault_of_get GetMemory = Memory

-- a failed `put`
abbrev pub fault_of_put : PutImageFault → Fault
fault_of_put PutFailed = WriteFault
fault_of_put PutMemory = Memory

-- the store failed to put an image: the name has the old bytes or the new
pub record IsHalfPut (name : List ℕ) (image : Option (List ℕ)) (old new : Contents) (put_failed : Type 0)
    : Type 0 where
  pub bytes : List ℕ
  pub is_some : image ≡ Some bytes
  pub cause : put_failed
  pub stored : HoldsOldOrNew name bytes old new
  pub others : KeepsOthers name old new

-- why an image that is to be put was not: want of memory, or a failure of the store
abbrev pub PutFails : List ℕ → Option (List ℕ) → Contents → Contents → Type 0 → Fault → Type 0
PutFails name image old new put_failed Memory = new ≡ old
PutFails name image old new put_failed WriteFault = IsHalfPut name image old new put_failed
PutFails name image old new put_failed Usage = ⊥
PutFails name image old new put_failed ReadFault = ⊥
PutFails name image old new put_failed Absent = ⊥
PutFails name image old new put_failed (Malformed cause) = ⊥
PutFails name image old new put_failed (Outside at value) = ⊥
PutFails name image old new put_failed (BadShard shard at) = ⊥
PutFails name image old new put_failed (BadLine line cause) = ⊥
PutFails name image old new put_failed (BadStep line) = ⊥
PutFails name image old new put_failed TooLong = ⊥

-- a failed recovery
abbrev pub fault_of_recovery : RecoverFault → Fault
fault_of_recovery (Header cause) = Malformed cause
fault_of_recovery (OutsideFound at value) = Outside at value
fault_of_recovery RecoverMemory = Memory

-- a shard that has no map
abbrev pub fault_of_maps : MapFault → Fault
fault_of_maps (NoMap shard at) = BadShard shard at
fault_of_maps MapMemory = Memory

-- why a source was not read to its end
abbrev pub fault_of_reading : ReadAllFault → Fault
fault_of_reading MoreGiven = TooLong
fault_of_reading ReadFailed = ReadFault
fault_of_reading ReadMemory = Memory

-- a schedule that can't be read
abbrev pub fault_of_schedule : TraceError → Fault
fault_of_schedule (BadTraceLine line) = BadStep line
fault_of_schedule TraceMemory = Memory

-- a replay that prints nothing
abbrev pub fault_of_replay : ReplayFault → Fault
fault_of_replay (OutsideLeft at value) = Outside at value
fault_of_replay ReplayMemory = Memory
