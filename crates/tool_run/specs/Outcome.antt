-- What a call of the tool has done, by its status. `old` is what the store held before it, `new` what
-- it holds after it; `left` is what the source had left before it; `taken` and `taken'` are what the sink had taken.
use Rattle.std.specs.Prelude.{◌≡◌, ◌⊎◌, ℕ, ◌<◌, ◌≤◌, List, length, Option, Some, None}
use Rattle.heap_model.specs.declared.header.BadHeader.{BadHeader}
use Rattle.tool_ports.specs.Causes.{RoseByOne}
use Rattle.tool_ports.specs.Contents.{Contents, Holds, HoldsOldOrNew, KeepsOthers, Lacks, told_of}
use Rattle.tool_ports.specs.Taken.{taken_with, TakesPart}
use Rattle.worker_run.specs.Said.{Line}
use Rattle.trace_faults.specs.declared.fault.LineFault.{LineFault}
use Rattle.trace_text.specs.declared.schedule.Schedule.{Schedule}
use Rattle.trace_text.specs.Schedule.{IsSchedule, IsFirstBad}
use Rattle.trace_text.specs.Trace.{lines_of, AreLines, IsFirstOutside}
use Rattle.tool_command.specs.Command.{Command, format_image, show_image, drain_image, gen_trace, run_image, rebuild_image, replay_image, conservative_image, count_image, image_name, Asks, AsksToRun, AsksToReplay}
use Rattle.tool_run.specs.Lines.{Tells, write_line, no_image_line, bad_header_line, outside_line, bad_shard_line, bad_line_line, bad_step_line, too_long_line, explained_line}
use Rattle.tool_run.specs.Making.{Makes, Options, IsMalformed, HasOutside, HasBadShard, HasMapped, HasBadLine, HasTooMuch, HasGood, HasBadStep, HasOutsideLeft, PointsOutside, fault_of, fault_within, image_in, IsOrderlyIn, longest_trace}
use Rattle.tool_run.specs.CommandUses.{GetsImage, RefusesOutside, kinds_checked, Reads, PutsBack, ReadsSource}
use Rattle.dict_model.specs.Links.{shards}
use Rattle.dict_model.specs.Shards.{Map, MapOf, BadShard}

-- The image, if there is one, is under the name, and every other name has what it had.
abbrev pub Puts : List ℕ → Option (List ℕ) → Contents → Contents → Type 0
Puts name None old new = new ≡ old
Puts name (Some image) old new = Holds new name image × KeepsOthers name old new

-- the words ask for a command, and it was carried out in full
pub record IsDone (words : List (List ℕ)) (old new : Contents) (left taken taken' : Option (List ℕ))
    : Type 0 where
  pub command : Command
  pub asked : Asks words command
  pub image : Option (List ℕ)
  pub text : List ℕ
  pub made : Makes command old left image text
  pub stored : Puts (image_name command) image old new
  pub printed : taken' ≡ taken_with taken text

-- What is left of a result that wasn't put and printed in full. `faults` and `between` are the sink's count of failures before and
-- after that.
pub data IsCutOff (name : List ℕ) (image : Option (List ℕ)) (text : List ℕ) (old new : Contents)
    (store_failed : Type 0) (faults between : ℕ) (taken taken' : Option (List ℕ)) : Type 0 where
  -- The store failed: the name has its old bytes or the new, and nothing is printed.
  while_putting : (bytes : List ℕ) → image ≡ Some bytes → store_failed → between ≡ faults
      → HoldsOldOrNew name bytes old new → KeepsOthers name old new → taken' ≡ taken
      → IsCutOff name image text old new store_failed faults between taken taken'
  -- The sink failed once: the image is put, and a first part of the text is printed.
  while_printing : RoseByOne faults between → Puts name image old new → TakesPart text taken taken'
      → IsCutOff name image text old new store_failed faults between taken taken'

-- The words ask for a command, and its result was cut off. `faults` and `faults'` are the sink's count of
-- failures before and after the call. The line was tried after that: `before` and `between` are what the
-- sink had taken and counted by then.
pub record IsWriteFault (words : List (List ℕ)) (old new : Contents) (left : Option (List ℕ)) (store_failed : Type 0)
    (faults faults' : ℕ) (taken taken' : Option (List ℕ)) : Type 0 where
  pub command : Command
  pub asked : Asks words command
  pub image : Option (List ℕ)
  pub text : List ℕ
  pub made : Makes command old left image text
  pub before : Option (List ℕ)
  pub between : ℕ
  pub later : faults ≤ between
  pub cut_off : IsCutOff (image_name command) image text old new store_failed faults between taken before
  pub told : Tells write_line between faults' before taken'

-- the words ask for a command that gets the image of this name
pub record AsksToGet (words : List (List ℕ)) (name : List ℕ) : Type 0 where
  pub command : Command
  pub asked : Asks words command
  pub gets : GetsImage command
  pub is_named : image_name command ≡ name

-- the words ask for a command that gets the image of this name, and puts none
pub record AsksToLook (words : List (List ℕ)) (name : List ℕ) : Type 0 where
  pub command : Command
  pub asked : Asks words command
  pub gets : GetsImage command
  pub puts_none : ¬ (PutsBack command)
  pub is_named : image_name command ≡ name

-- the words ask for a command that puts an image in the place of the one of this name
pub record AsksToPutBack (words : List (List ℕ)) (name : List ℕ) : Type 0 where
  pub command : Command
  pub asked : Asks words command
  pub puts : PutsBack command
  pub is_named : image_name command ≡ name

-- the words ask for a run of a trace over the image of this name
pub record AsksForRun (words : List (List ℕ)) (name : List ℕ) : Type 0 where
  pub options : Options
  pub asked : AsksToRun words name options

-- the words ask for a replay over the image of this name
pub record AsksForReplay (words : List (List ℕ)) (name : List ℕ) : Type 0 where
  pub seed : ℕ
  pub asked : AsksToReplay words name seed

-- the words ask for a command that reads the source, over the image of this name
pub record AsksForSource (words : List (List ℕ)) (name : List ℕ) : Type 0 where
  pub command : Command
  pub asked : Asks words command
  pub reads : ReadsSource command
  pub is_named : image_name command ≡ name

-- the outside failed while something was read: an image, or the trace of a run, or the schedule of a replay, whose image is good
pub data IsReadFault (words : List (List ℕ)) (contents : Contents) (store_failed source_failed : Type 0) : Type 0 where
  at_image : (name : List ℕ) → AsksToGet words name → store_failed → IsReadFault words contents store_failed source_failed
  at_trace : (name : List ℕ) → AsksForRun words name → HasMapped contents name → source_failed
      → IsReadFault words contents store_failed source_failed
  at_schedule : (name : List ℕ) → AsksForReplay words name → HasGood contents name → source_failed
      → IsReadFault words contents store_failed source_failed

-- the words name an image that isn't there, where the store tells; `Told` says which line was told
pub record IsAbsent (words : List (List ℕ)) (contents : Contents) (Told : List ℕ → Type 0)
    : Type 0 where
  pub name : List ℕ
  pub asks : AsksToGet words name
  pub lacks : Lacks contents name
  pub told : Told (no_image_line name)

-- the words name an image whose header is malformed for their command
pub record IsBadHeader (words : List (List ℕ)) (contents : Contents) (Told : List ℕ → Type 0)
    : Type 0 where
  pub name : List ℕ
  pub asks : AsksToGet words name
  pub cause : BadHeader
  pub malformed : IsMalformed (kinds_checked asks.command) contents name cause
  pub told : Told (bad_header_line cause)

-- a word points outside: in an image that the command refuses for it, or in the one that a crash leaves of the replay that is asked for
pub data IsOutsideAt (words : List (List ℕ)) (contents : Contents) (left : Option (List ℕ)) (Told : List ℕ → Type 0) : Type 0 where
  in_image : (name : List ℕ) (at value : ℕ) (asks : AsksToGet words name) (has : HasOutside contents name at value)
      → RefusesOutside asks.command has.bytes → Told (outside_line at value) → IsOutsideAt words contents left Told
  in_image_left : (name : List ℕ) (at value : ℕ) → AsksForReplay words name → HasOutsideLeft contents left name at value
      → Told (outside_line at value) → IsOutsideAt words contents left Told

-- the store tells that it has an image of this name that is malformed under this limit of kinds
pub record HoldsMalformed (limit : Option ℕ) (contents : Contents) (name : List ℕ) : Type 0 where
  pub bytes : List ℕ
  pub held : told_of contents name ≡ Some (Some bytes)
  pub cause : BadHeader
  pub fault : fault_within limit bytes ≡ Some cause

-- the store tells that it has an image of this name whose header is good under this limit
pub record HoldsFormed (limit : Option ℕ) (contents : Contents) (name : List ℕ) : Type 0 where
  pub bytes : List ℕ
  pub held : told_of contents name ≡ Some (Some bytes)
  pub good : fault_within limit bytes ≡ None

-- the store tells that it has an image of this name with a good header, in which the word points outside
pub record HoldsOutside (contents : Contents) (name : List ℕ) (at : ℕ) : Type 0 where
  pub bytes : List ℕ
  pub held : told_of contents name ≡ Some (Some bytes)
  pub good : fault_of bytes ≡ None
  pub points : PointsOutside (image_in bytes) at

-- the store tells that it has an image of this name that can be recovered
pub record HoldsGood (contents : Contents) (name : List ℕ) : Type 0 where
  pub bytes : List ℕ
  pub held : told_of contents name ≡ Some (Some bytes)
  pub good : fault_of bytes ≡ None
  pub inside : (at : ℕ) → PointsOutside (image_in bytes) at → ⊥

-- the store tells that it has an image of this name with a good header that tells what it holds, by its own anchors or as nothing
-- points outside
pub record HoldsOpenable (contents : Contents) (name : List ℕ) : Type 0 where
  pub bytes : List ℕ
  pub held : told_of contents name ≡ Some (Some bytes)
  pub good : fault_of bytes ≡ None
  pub opens : IsOrderlyIn bytes ⊎ ((at : ℕ) → PointsOutside (image_in bytes) at → ⊥)

-- the words ask for a command that reads the maps of the image of this name
pub record AsksToRead (words : List (List ℕ)) (name : List ℕ) : Type 0 where
  pub command : Command
  pub asked : Asks words command
  pub reads : Reads command
  pub is_named : image_name command ≡ name

-- the words name an image in which a shard has no map: the lowest such shard, and its first bad place, are told
pub record IsBadShardAt (words : List (List ℕ)) (contents : Contents) (Told : List ℕ → Type 0) : Type 0 where
  pub name : List ℕ
  pub asks : AsksToRead words name
  pub shard : ℕ
  pub at : ℕ
  pub has : HasBadShard contents name shard at
  pub told : Told (bad_shard_line shard at)

-- the store tells that it has an image of this name that can be recovered, in which the shard has no map
pub record HoldsBadShard (contents : Contents) (name : List ℕ) (shard at : ℕ) : Type 0 where
  pub bytes : List ℕ
  pub held : told_of contents name ≡ Some (Some bytes)
  pub good : fault_of bytes ≡ None
  pub inside : (w : ℕ) → PointsOutside (image_in bytes) w → ⊥
  pub below : shard < shards
  pub bad : BadShard (image_in bytes) shard at

-- the store tells that it has an image of this name that can be recovered, in which each shard has a map
pub record HoldsMaps (contents : Contents) (name : List ℕ) : Type 0 where
  pub bytes : List ℕ
  pub held : told_of contents name ≡ Some (Some bytes)
  pub good : fault_of bytes ≡ None
  pub inside : (at : ℕ) → PointsOutside (image_in bytes) at → ⊥
  pub maps : (shard : ℕ) → shard < shards → (map : Map) × MapOf (image_in bytes) shard map

-- the words ask for a run or a replay over an image that is good, and the trace or the schedule is refused: a line of it asks for
-- nothing, of which the first is told, or it is too long
pub data IsBadTrace (words : List (List ℕ)) (contents : Contents) (left : Option (List ℕ)) (Told : List ℕ → Type 0)
    (Explained : Option (List ℕ) → Type 0) : Type 0 where
  at_line : (name : List ℕ) (line : ℕ) (cause : LineFault) → AsksForRun words name → HasMapped contents name → HasBadLine left line cause
      → Told (bad_line_line line) → Explained (Some (explained_line line cause)) → IsBadTrace words contents left Told Explained
  too_long : (name : List ℕ) → AsksForRun words name → HasMapped contents name → HasTooMuch left
      → Told too_long_line → Explained None → IsBadTrace words contents left Told Explained
  at_step : (name : List ℕ) (line : ℕ) → AsksForReplay words name → HasGood contents name → HasBadStep left line
      → Told (bad_step_line line) → Explained None → IsBadTrace words contents left Told Explained
  schedule_too_long : (name : List ℕ) → AsksForReplay words name → HasGood contents name → HasTooMuch left
      → Told too_long_line → Explained None → IsBadTrace words contents left Told Explained

-- the source tells that a line of the trace that it has left asks for nothing
pub record HoldsBadLine (left : Option (List ℕ)) (line : ℕ) : Type 0 where
  pub trace : List ℕ
  pub all : left ≡ Some trace
  pub short : length trace ≤ longest_trace
  pub first : IsFirstOutside (lines_of trace) line

-- the source tells that it has more left than the longest trace
pub record HoldsTooMuch (left : Option (List ℕ)) : Type 0 where
  pub bytes : List ℕ
  pub all : left ≡ Some bytes
  pub more : longest_trace < length bytes

-- the source tells that it has a trace left that can be run
pub record HoldsTrace (left : Option (List ℕ)) : Type 0 where
  pub trace : List ℕ
  pub all : left ≡ Some trace
  pub short : length trace ≤ longest_trace
  pub lines : List Line
  pub lines_are : AreLines (lines_of trace) lines

-- the source tells that a line of the schedule that it has left tells no step
pub record HoldsBadStep (left : Option (List ℕ)) (line : ℕ) : Type 0 where
  pub text : List ℕ
  pub all : left ≡ Some text
  pub short : length text ≤ longest_trace
  pub first : IsFirstBad (lines_of text) line

-- the source tells that it has a schedule left
pub record HoldsSchedule (left : Option (List ℕ)) : Type 0 where
  pub text : List ℕ
  pub all : left ≡ Some text
  pub short : length text ≤ longest_trace
  pub schedule : Schedule
  pub is : IsSchedule text schedule

-- the store and the source tell of an image that can be recovered, and of a schedule whose replay leaves nothing outside
pub record HoldsReplay (contents : Contents) (name : List ℕ) (left : Option (List ℕ)) : Type 0 where
  pub image : HoldsGood contents name
  pub schedule : HoldsSchedule left
  pub inside : (at value : ℕ) → HasOutsideLeft contents left name at value → ⊥

-- the store and the source tell of an image that can be recovered, and of a schedule whose replay leaves the word outside
pub record HoldsOutsideLeft (contents : Contents) (name : List ℕ) (left : Option (List ℕ)) (at : ℕ) : Type 0 where
  pub image : HoldsGood contents name
  pub schedule : HoldsSchedule left
  pub value : ℕ
  pub leaves : HasOutsideLeft contents left name at value

-- nothing in the store or the source stands against the command
abbrev pub CanBeDone : Command → Contents → Option (List ℕ) → Type 0
CanBeDone (format_image image capacity) contents left = Unit {0}
CanBeDone (show_image image with_map in_parallel) contents left = HoldsMaps contents image
CanBeDone (drain_image image class) contents left = HoldsGood contents image
CanBeDone (gen_trace requests seed) contents left = Unit {0}
CanBeDone (run_image image options) contents left = HoldsMaps contents image × HoldsTrace left
CanBeDone (rebuild_image image budget seed) contents left = HoldsGood contents image
CanBeDone (replay_image image seed) contents left = HoldsReplay contents image left
CanBeDone (conservative_image image with_map) contents left = HoldsFormed None contents image
CanBeDone (count_image image with_map) contents left = HoldsOpenable contents image
