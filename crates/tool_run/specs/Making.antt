-- What a command is to put and to print.
use Rattle.std.specs.Prelude.{◌≡◌, ℕ, ◌*◌, ◌<◌, ◌≤◌, Bool, false, List, ◌++◌, length, Option, Some, None, IfSome, codes, decimal, slice_index}
use Rattle.std.specs.List.{flat_map}
use Rattle.heap_model.specs.declared.header.BadHeader.{BadHeader}
use Rattle.heap_model.specs.declared.block.Block.{Block}
use Rattle.heap_model.specs.Blocks.{layout_of}
use Rattle.heap_model.specs.Recovered.{IsDrained, AreAscending}
use Rattle.dict_model.specs.Links.{shards}
use Rattle.dict_model.specs.Shards.{Map, MapOf, BadShard}
use Rattle.heap_model.specs.Geometry.{image_words}
use Rattle.heap_model.specs.Image.{Image, bytes_of_words, image_of_bytes}
use Rattle.heap_model.specs.Sizes.{size_of}
use Rattle.heap_model.specs.Header.{capacity_of, empty_words, header_fault, first_kinds}
use Rattle.region_header.specs.Migration.{current_words}
pub use Rattle.image_run.specs.Reporting.{fault_of, words_in_bytes, image_in, IsKept, PointsOutside, Recovers, IsEntryOf, shown_text, Reports}
pub use Rattle.image_run.specs.Rebuilding.{Rebuilds}
pub use Rattle.image_run.specs.Replaying.{Replays, LeavesOutside}
pub use Rattle.image_run.specs.Running.{Options, RunsRequests}
use Rattle.image_run.specs.Conservative.{TellsByWords}
use Rattle.image_run.specs.Counting.{IsOrderlyImage, TellsOpened}
use Rattle.mixed_trace.specs.Conservative.{current_without_kinds}
use Rattle.tool_ports.specs.Contents.{Contents, Holds}
use Rattle.worker_run.specs.Said.{Line, requests_of}
use Rattle.trace_text.specs.declared.schedule.Schedule.{Schedule}
use Rattle.trace_text.specs.Generated.{made_trace}
use Rattle.trace_text.specs.Report.{line_feed}
use Rattle.trace_text.specs.Schedule.{IsSchedule, IsFirstBad}
use Rattle.trace_faults.specs.Faults.{IsFirstFault}
use Rattle.trace_faults.specs.declared.fault.LineFault.{LineFault}
use Rattle.trace_text.specs.Trace.{lines_of, AreLines}
use Rattle.tool_command.specs.Command.{Command, format_image, show_image, drain_image, gen_trace, run_image, rebuild_image, replay_image, conservative_image, count_image}

-- what `format` prints: the capacity, and the length of the image in bytes
abbrev pub formatted_line : ℕ → List ℕ
formatted_line capacity = codes "formatted " ++ decimal capacity
    ++ codes " bytes " ++ decimal (8 * image_words capacity) ++ line_feed

-- the line on a class that gives blocks at these byte offsets
abbrev pub class_line : ℕ → List ℕ → List ℕ
class_line class offsets = codes "class " ++ decimal class ++ codes " size " ++ decimal (size_of class)
    ++ codes " blocks " ++ decimal (length offsets) ++ line_feed

-- the line of an offset
abbrev pub offset_line : ℕ → List ℕ
offset_line offset = decimal offset ++ line_feed

-- the line on a class, and one for each offset
abbrev pub drained_text : ℕ → List ℕ → List ℕ
drained_text class offsets = class_line class offsets ++ flat_map offset_line offsets

-- the byte offset of a block that draining the class gives once the image is recovered
pub record IsOffsetDrained (image : Image) (class : ℕ) (offset : ℕ) : Type 0 where
  pub block : Block
  pub is_drained : IsDrained (layout_of image) (IsKept image) class block
  pub at : offset ≡ 8 * block.first_word

-- an empty image, and the line that tells of it
pub record IsFormatted (capacity : ℕ) (put : Option (List ℕ)) (text : List ℕ) : Type 0 where
  pub image_is : put ≡ Some (bytes_of_words (empty_words capacity))
  pub text_is : text ≡ formatted_line capacity

-- the text on a named image that can be recovered
pub record Shows (contents : Contents) (name : List ℕ) (with_map : Bool) (text : List ℕ) : Type 0 where
  pub bytes : List ℕ
  pub is_there : Holds contents name bytes
  pub good : fault_of bytes ≡ None
  pub inside : (at : ℕ) → PointsOutside (image_in bytes) at → ⊥
  pub report : Reports (image_in bytes) false with_map text

-- the text on what the class gives of a named image that can be recovered
pub record TellsDrained (contents : Contents) (name : List ℕ) (class : ℕ) (text : List ℕ) : Type 0 where
  pub bytes : List ℕ
  pub is_there : Holds contents name bytes
  pub good : fault_of bytes ≡ None
  pub inside : (at : ℕ) → PointsOutside (image_in bytes) at → ⊥
  pub offsets : List ℕ
  pub drained : AreAscending (λ offset. offset) (IsOffsetDrained (image_in bytes) class) offsets
  pub text_is : text ≡ drained_text class offsets

-- the first cause that makes the header of the bytes bad, where the kinds of roots have to lie below the limit, if there is one
abbrev pub fault_within : Option ℕ → List ℕ → Option BadHeader
fault_within limit bytes = header_fault limit (length bytes) (image_of_bytes bytes)

-- the image in the bytes of a file, in the new version, whatever its roots' kinds: one of the old version gets the kind 0 for each root
abbrev pub image_without_kinds : List ℕ → Image
image_without_kinds bytes = slice_index (current_without_kinds (words_in_bytes bytes))

-- the text on a named image that is recovered with no filter
pub record ShowsByWords (contents : Contents) (name : List ℕ) (with_map : Bool) (text : List ℕ) : Type 0 where
  pub bytes : List ℕ
  pub is_there : Holds contents name bytes
  pub good : fault_within None bytes ≡ None
  pub tells : TellsByWords (image_without_kinds bytes) with_map text

-- the image in the bytes of a file, in the new version, tells by its own anchors what it holds
abbrev pub IsOrderlyIn : List ℕ → Type 0
IsOrderlyIn bytes = IsOrderlyImage (current_words (words_in_bytes bytes) first_kinds)

-- the text on a named image that is opened by its own anchors where it is orderly, and else recovered
pub record Counts (contents : Contents) (name : List ℕ) (with_map : Bool) (text : List ℕ) : Type 0 where
  pub bytes : List ℕ
  pub is_there : Holds contents name bytes
  pub good : fault_of bytes ≡ None
  pub tells : TellsOpened (current_words (words_in_bytes bytes) first_kinds) with_map text

-- the bytes of a named image, whose header has this cause first, under this limit of kinds
pub record IsMalformed (limit : Option ℕ) (contents : Contents) (name : List ℕ) (cause : BadHeader) : Type 0 where
  pub bytes : List ℕ
  pub held : Holds contents name bytes
  pub fault : fault_within limit bytes ≡ Some cause

-- a word of a named image with a good header, which points outside
pub record HasOutside (contents : Contents) (name : List ℕ) (at value : ℕ) : Type 0 where
  pub bytes : List ℕ
  pub is_there : Holds contents name bytes
  pub good : fault_of bytes ≡ None
  pub points : PointsOutside (image_in bytes) at
  pub value_is : value ≡ image_in bytes at

-- the shard is the lowest of the image that has no map, and this is its first bad place
pub record IsLowestBad (image : Image) (shard at : ℕ) : Type 0 where
  pub below : shard < shards
  pub bad : BadShard image shard at
  pub lower : (i : ℕ) → i < shard → (map : Map) × MapOf image i map

-- a shard of a named image that can be recovered has no map
pub record HasBadShard (contents : Contents) (name : List ℕ) (shard at : ℕ) : Type 0 where
  pub bytes : List ℕ
  pub is_there : Holds contents name bytes
  pub good : fault_of bytes ≡ None
  pub inside : (at : ℕ) → PointsOutside (image_in bytes) at → ⊥
  pub lowest : IsLowestBad (image_in bytes) shard at

-- the store has an image of this name that can be recovered, and each shard of it has a map
pub record HasMapped (contents : Contents) (name : List ℕ) : Type 0 where
  pub bytes : List ℕ
  pub is_there : Holds contents name bytes
  pub good : fault_of bytes ≡ None
  pub inside : (at : ℕ) → PointsOutside (image_in bytes) at → ⊥
  pub maps : (i : ℕ) → i < shards → (map : Map) × MapOf (image_in bytes) i map

-- where the source tells, these are all the bytes that it has left
abbrev pub HasLeft : Option (List ℕ) → List ℕ → Type 0
HasLeft left bytes = IfSome left (λ all. all ≡ bytes)

-- the most bytes of a trace
abbrev pub longest_trace : ℕ
longest_trace = 16777216

-- all that the source has left is this trace, of at most the longest length
pub record HasTrace (left : Option (List ℕ)) (trace : List ℕ) : Type 0 where
  pub all : HasLeft left trace
  pub short : length trace ≤ longest_trace

-- the first line of the trace that the source has left that asks for nothing, and why it does
pub record HasBadLine (left : Option (List ℕ)) (line : ℕ) (cause : LineFault) : Type 0 where
  pub trace : List ℕ
  pub has_trace : HasTrace left trace
  pub first : IsFirstFault (lines_of trace) line cause

-- where the source tells, it has more left than the longest trace
abbrev pub HasTooMuch : Option (List ℕ) → Type 0
HasTooMuch left = IfSome left (λ all. longest_trace < length all)

-- a run over a named image of the trace that the source has left
pub record RunsTrace (contents : Contents) (left : Option (List ℕ)) (name : List ℕ) (options : Options)
    (put : Option (List ℕ)) (text : List ℕ) : Type 0 where
  pub mapped : HasMapped contents name
  pub trace : List ℕ
  pub has_trace : HasTrace left trace
  pub lines : List Line
  pub lines_are : AreLines (lines_of trace) lines
  pub image : List ℕ
  pub put_is : put ≡ Some image
  pub runs : RunsRequests (image_in mapped.bytes) (requests_of lines) options image text

-- recovery, made in place, of a named image that can be recovered
pub record RebuildsNamed (contents : Contents) (name : List ℕ) (budget : ℕ) (put : Option (List ℕ)) (text : List ℕ) : Type 0 where
  pub bytes : List ℕ
  pub is_there : Holds contents name bytes
  pub good : fault_of bytes ≡ None
  pub inside : (at : ℕ) → PointsOutside (image_in bytes) at → ⊥
  pub image : List ℕ
  pub put_is : put ≡ Some image
  pub rebuilds : Rebuilds (image_in bytes) (image_words (capacity_of (image_in bytes))) budget image text

-- the store has an image of this name that can be recovered
pub record HasGood (contents : Contents) (name : List ℕ) : Type 0 where
  pub bytes : List ℕ
  pub is_there : Holds contents name bytes
  pub good : fault_of bytes ≡ None
  pub inside : (at : ℕ) → PointsOutside (image_in bytes) at → ⊥

-- these are the words and the held blocks of the heap that recovery makes of it
pub record HasHeap (contents : Contents) (name words : List ℕ) (held : List Block) : Type 0 where
  pub image : HasGood contents name
  pub free : List ℕ
  pub recovers : Recovers (image_in image.bytes) held free (slice_index words)
  pub long : length words ≡ image_words (capacity_of (image_in image.bytes))

-- the schedule that the source has left, of at most the longest length of a trace
pub record HasSchedule (left : Option (List ℕ)) (schedule : Schedule) : Type 0 where
  pub text : List ℕ
  pub has_text : HasTrace left text
  pub is : IsSchedule text schedule

-- the first line of it that tells no step
pub record HasBadStep (left : Option (List ℕ)) (line : ℕ) : Type 0 where
  pub text : List ℕ
  pub has_text : HasTrace left text
  pub first : IsFirstBad (lines_of text) line

-- a replay over a named image of the schedule that the source has left
pub record ReplaysNamed (contents : Contents) (left : Option (List ℕ)) (name text : List ℕ) : Type 0 where
  pub words : List ℕ
  pub held : List Block
  pub heap : HasHeap contents name words held
  pub schedule : Schedule
  pub has_schedule : HasSchedule left schedule
  pub replays : Replays words held schedule.seats schedule.lines.items text

-- such a replay leaves a word that points outside in the image that a crash then leaves
pub record HasOutsideLeft (contents : Contents) (left : Option (List ℕ)) (name : List ℕ) (at value : ℕ) : Type 0 where
  pub words : List ℕ
  pub held : List Block
  pub heap : HasHeap contents name words held
  pub schedule : Schedule
  pub has_schedule : HasSchedule left schedule
  pub leaves : LeavesOutside words held schedule.seats schedule.lines.items at value

-- where the store holds this and the source has this left, the command is to put these bytes, if any, and to print this text
abbrev pub Makes : Command → Contents → Option (List ℕ) → Option (List ℕ) → List ℕ → Type 0
Makes (format_image image capacity) contents left put text = IsFormatted capacity put text
Makes (show_image image with_map in_parallel) contents left put text = (put ≡ None) × Shows contents image with_map text
Makes (drain_image image class) contents left put text = (put ≡ None) × TellsDrained contents image class text
Makes (gen_trace requests seed) contents left put text = (put ≡ None) × (text ≡ made_trace requests seed)
Makes (run_image image options) contents left put text = RunsTrace contents left image options put text
Makes (rebuild_image image budget seed) contents left put text = RebuildsNamed contents image budget put text
Makes (replay_image image seed) contents left put text = (put ≡ None) × ReplaysNamed contents left image text
Makes (conservative_image image with_map) contents left put text = (put ≡ None) × ShowsByWords contents image with_map text
Makes (count_image image with_map) contents left put text = (put ≡ None) × Counts contents image with_map text
