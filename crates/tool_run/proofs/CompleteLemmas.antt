-- A command against which nothing stands stops for want of memory alone, where neither the store nor the sink fails.
use Rattle.std.proofs.Common.{◌≡◌, ◌⊎◌, ℕ, ◌<◌, List, length, Option, Some, None, inl, inr, sym, subst, arith}
use Rattle.tool_ports.specs.Causes.{RoseByOne}
use Rattle.tool_ports.specs.Contents.{Contents}
use Rattle.tool_run.specs.Making.{image_in}
use Rattle.dict_model.specs.Shards.{BadShard as IsBadShard}
use Rattle.dict_model.proofs.ShardLemmas.{no_bad_shard}
use Rattle.tool_command.specs.Command.{Command, format_image, show_image, drain_image, gen_trace, run_image, rebuild_image, replay_image, conservative_image, count_image, image_name, Asks}
use Rattle.tool_run.specs.declared.fault.Fault.{Fault}
use Rattle.tool_run.specs.declared.fault.Fault.TheVariants.{Usage, Memory, ReadFault, WriteFault, Absent, Malformed, Outside, BadShard, BadLine, BadStep, TooLong}
use Rattle.tool_command.proofs.OneCommandLemmas.{one_command}
use Rattle.tool_run.specs.Inside.{Refuses, IsTraceFault, IsReplayFault, DeliveryFails, IsStopped, status_of}
use Rattle.tool_run.specs.Making.{IsOrderlyIn, HasOutside, PointsOutside, HasBadStep, HasTooMuch, fault_within, longest_trace}
use Rattle.tool_run.specs.CommandUses.{GetsImage, FollowsLinks, RefusesOutside, kinds_checked, Reads, RunsATrace, ReplaysASchedule, ReadsSource}
use Rattle.tool_run.specs.Outcome.{HoldsFormed, HoldsGood, HoldsMaps, HoldsTrace, HoldsSchedule, HoldsReplay, CanBeDone, IsCutOff, while_putting, while_printing}
use Rattle.tool_run.specs.Status.{done, out_of_memory}
use Rattle.trace_text.specs.Trace.{lines_of, AreLines}
use Rattle.trace_text.specs.Schedule.{IsSchedule}
use Rattle.trace_text.proofs.ReadingLemmas.{read_or_outside}
use Rattle.trace_text.proofs.ScheduleLemmas.{schedule_or_bad}
use Rattle.tool_run.proofs.OutsideLemmas.{of_told, same_bytes}
use Rattle.tool_run.proofs.TraceLemmas.{of_left}

-- what the store has for such a command
formed_of : (command : Command) (contents : Contents) (left : Option (List ℕ)) → GetsImage command → CanBeDone command contents left
    → HoldsFormed (kinds_checked command) contents (image_name command)
formed_of (format_image image capacity) contents left gets can = absurd gets
formed_of (show_image image with_map in_parallel) contents left gets can = record { bytes = can.bytes; held = can.held; good = can.good }
formed_of (drain_image image class) contents left gets can = record { bytes = can.bytes; held = can.held; good = can.good }
formed_of (gen_trace requests seed) contents left gets can = absurd gets
formed_of (rebuild_image image budget seed) contents left gets can = record { bytes = can.bytes; held = can.held; good = can.good }
formed_of (replay_image image seed) contents left gets can = record { bytes = can.image.bytes; held = can.image.held; good = can.image.good }
formed_of (run_image image options) contents left gets can = record { bytes = can.0.bytes; held = can.0.held; good = can.0.good }
formed_of (conservative_image image with_map) contents left gets can = can
formed_of (count_image image with_map) contents left gets can = record { bytes = can.bytes; held = can.held; good = can.good }

good_of : (command : Command) (contents : Contents) (left : Option (List ℕ)) → FollowsLinks command → CanBeDone command contents left
    → HoldsGood contents (image_name command)
good_of (format_image image capacity) contents left follows can = absurd follows
good_of (show_image image with_map in_parallel) contents left follows can = record {
  bytes = can.bytes;
  held = can.held;
  good = can.good;
  inside = can.inside;
}
good_of (drain_image image class) contents left follows can = can
good_of (gen_trace requests seed) contents left follows can = absurd follows
good_of (rebuild_image image budget seed) contents left follows can = can
good_of (replay_image image seed) contents left follows can = can.image
good_of (run_image image options) contents left follows can = record {
  bytes = can.0.bytes;
  held = can.0.held;
  good = can.0.good;
  inside = can.0.inside;
}
good_of (conservative_image image with_map) contents left follows can = absurd follows
good_of (count_image image with_map) contents left follows can = absurd follows

-- no word of it that points outside refuses the command
none_outside : (command : Command) (contents : Contents) (left : Option (List ℕ)) (at value : ℕ) → CanBeDone command contents left
    → (has : HasOutside contents (image_name command) at value) → RefusesOutside command has.bytes → ⊥
none_outside (count_image image with_map) contents left at value can has refuses =
    let same : has.bytes ≡ can.bytes = same_bytes contents image image has.bytes can.bytes (λ i. image) has.is_there can.held in
    elim can.opens as (λ _. ⊥) [
      | inl orderly ↦ refuses (subst IsOrderlyIn (sym same) orderly)
      | inr inside ↦ inside at (subst (λ (l : List ℕ). PointsOutside (image_in l) at) same has.points)
    ]
none_outside command contents left at value can has refuses =
    let good = good_of command contents left refuses can in
    let same : has.bytes ≡ good.bytes = same_bytes contents (image_name command) (image_name command) has.bytes good.bytes
    (λ i. image_name command) has.is_there good.held in
    good.inside at (subst (λ (l : List ℕ). PointsOutside (image_in l) at) same has.points)

maps_of : (command : Command) (contents : Contents) (left : Option (List ℕ)) → Reads command → CanBeDone command contents left
    → HoldsMaps contents (image_name command)
maps_of (format_image image capacity) contents left reads can = absurd reads
maps_of (show_image image with_map in_parallel) contents left reads can = can
maps_of (drain_image image class) contents left reads can = absurd reads
maps_of (gen_trace requests seed) contents left reads can = absurd reads
maps_of (run_image image options) contents left reads can = can.0
maps_of (rebuild_image image budget seed) contents left reads can = absurd reads
maps_of (replay_image image seed) contents left reads can = absurd reads
maps_of (conservative_image image with_map) contents left reads can = absurd reads
maps_of (count_image image with_map) contents left reads can = absurd reads

trace_of : (command : Command) (contents : Contents) (left : Option (List ℕ)) → RunsATrace command → CanBeDone command contents left → HoldsTrace left
trace_of (format_image image capacity) contents left runs can = absurd runs
trace_of (show_image image with_map in_parallel) contents left runs can = absurd runs
trace_of (drain_image image class) contents left runs can = absurd runs
trace_of (gen_trace requests seed) contents left runs can = absurd runs
trace_of (run_image image options) contents left runs can = can.1
trace_of (rebuild_image image budget seed) contents left runs can = absurd runs
trace_of (replay_image image seed) contents left runs can = absurd runs
trace_of (conservative_image image with_map) contents left runs can = absurd runs
trace_of (count_image image with_map) contents left runs can = absurd runs

replay_of : (command : Command) (contents : Contents) (left : Option (List ℕ)) → ReplaysASchedule command → CanBeDone command contents left
    → HoldsReplay contents (image_name command) left
replay_of (format_image image capacity) contents left replays can = absurd replays
replay_of (show_image image with_map in_parallel) contents left replays can = absurd replays
replay_of (drain_image image class) contents left replays can = absurd replays
replay_of (gen_trace requests seed) contents left replays can = absurd replays
replay_of (run_image image options) contents left replays can = absurd replays
replay_of (rebuild_image image budget seed) contents left replays can = absurd replays
replay_of (replay_image image seed) contents left replays can = can
replay_of (conservative_image image with_map) contents left replays can = absurd replays
replay_of (count_image image with_map) contents left replays can = absurd replays

-- the trace is not refused
trace_good : (left : Option (List ℕ)) (read_failed : Type 0) (status : ℕ) (fault : Fault) → HoldsTrace left → (read_failed → ⊥)
    → status ≡ status_of fault → IsTraceFault left read_failed fault
    → (status ≡ done) ⊎ (status ≡ out_of_memory)
trace_good left read_failed status Memory has reads is why = inr is
trace_good left read_failed status ReadFault has reads is why = absurd (reads why)
trace_good left read_failed status (BadLine line cause) has reads is why =
    let same : has.trace ≡ why.trace = of_left (λ all. all ≡ why.trace) left has.trace has.all why.has_trace.all in
    absurd (read_or_outside (lines_of why.trace) has.lines line (subst (λ (l : List ℕ). AreLines (lines_of l) has.lines) same has.lines_are) why.first.first)
trace_good left read_failed status TooLong has reads is why =
    let more = of_left (λ all. longest_trace < length all) left has.trace has.all why in
    let short = has.short in
    absurd (omega arith)
trace_good left read_failed status Usage has reads is why = absurd why
trace_good left read_failed status WriteFault has reads is why = absurd why
trace_good left read_failed status Absent has reads is why = absurd why
trace_good left read_failed status (Malformed cause) has reads is why = absurd why
trace_good left read_failed status (Outside at value) has reads is why = absurd why
trace_good left read_failed status (BadShard shard at) has reads is why = absurd why
trace_good left read_failed status (BadStep line) has reads is why = absurd why

-- a schedule has no line that tells no step, nor too many bytes
pub no_bad_step : (left : Option (List ℕ)) (line : ℕ) → HoldsSchedule left → HasBadStep left line → ⊥
no_bad_step left line has why =
    let same : has.text ≡ why.text = of_left (λ all. all ≡ why.text) left has.text has.all why.has_text.all in
    schedule_or_bad why.text has.schedule line (subst (λ (l : List ℕ). IsSchedule l has.schedule) same has.is) why.first

pub not_too_much : (left : Option (List ℕ)) → HoldsSchedule left → HasTooMuch left → ⊥
not_too_much left has why =
    let more = of_left (λ all. longest_trace < length all) left has.text has.all why in
    let short = has.short in
    omega arith

-- so it is not refused, and its replay leaves nothing outside
replay_good : (contents : Contents) (left : Option (List ℕ)) (name : List ℕ) (read_failed : Type 0) (status : ℕ) (fault : Fault)
    → HoldsReplay contents name left → (read_failed → ⊥) → status ≡ status_of fault
    → IsReplayFault contents left name read_failed fault → (status ≡ done) ⊎ (status ≡ out_of_memory)
replay_good contents left name read_failed status Memory has reads is why = inr is
replay_good contents left name read_failed status ReadFault has reads is why = absurd (reads why)
replay_good contents left name read_failed status (Outside at value) has reads is why = absurd (has.inside at value why)
replay_good contents left name read_failed status (BadStep line) has reads is why = absurd (no_bad_step left line has.schedule why)
replay_good contents left name read_failed status TooLong has reads is why = absurd (not_too_much left has.schedule why)
replay_good contents left name read_failed status Usage has reads is why = absurd why
replay_good contents left name read_failed status WriteFault has reads is why = absurd why
replay_good contents left name read_failed status Absent has reads is why = absurd why
replay_good contents left name read_failed status (Malformed cause) has reads is why = absurd why
replay_good contents left name read_failed status (BadShard shard at) has reads is why = absurd why
replay_good contents left name read_failed status (BadLine line cause) has reads is why = absurd why

module _ (command : Command) (contents : Contents) (left : Option (List ℕ)) (get_failed : Type 0) (status : ℕ)
    (can : CanBeDone command contents left) (works : get_failed → ⊥) where
  pub refused : (fault : Fault) → status ≡ status_of fault → Refuses command contents get_failed fault → (status ≡ done) ⊎ (status ≡ out_of_memory)
  refused Usage is why = absurd why
  refused Memory is why = inr is
  refused ReadFault is why = absurd (works why.1)
  refused WriteFault is why = absurd why
  refused Absent is why =
      let has = formed_of command contents left why.0 can in
      let none : Some has.bytes ≡ None = of_told (λ image. image ≡ None) contents (image_name command) (image_name command) (Some has.bytes)
      (λ i. image_name command) why.1 has.held in
      absurd (cc)
  refused (Malformed cause) is why =
      let has = formed_of command contents left why.0 can in
      let same : why.1.bytes ≡ has.bytes = same_bytes contents (image_name command) (image_name command) why.1.bytes has.bytes
      (λ i. image_name command) why.1.held has.held in
      let bad : fault_within (kinds_checked command) has.bytes ≡ Some cause =
      subst (λ (l : List ℕ). fault_within (kinds_checked command) l ≡ Some cause) same why.1.fault in
      let good : fault_within (kinds_checked command) has.bytes ≡ None = has.good in
      absurd (cc)
  refused (Outside at value) is why = absurd (none_outside command contents left at value can why.0 why.1)
  refused (BadShard shard at) is why =
      let has = maps_of command contents left why.0 can in
      let same : why.1.bytes ≡ has.bytes = same_bytes contents (image_name command) (image_name command) why.1.bytes has.bytes
      (λ i. image_name command) why.1.is_there has.held in
      let map = has.maps shard why.1.lowest.below in
      absurd (no_bad_shard (image_in has.bytes) shard at map.0 map.1
      (subst (λ (l : List ℕ). IsBadShard (image_in l) shard at) same why.1.lowest.bad))
  refused (BadLine line cause) is why = absurd why
  refused (BadStep line) is why = absurd why
  refused TooLong is why = absurd why

cut_off : (P : Type 0) (name : List ℕ) (image : Option (List ℕ)) (text : List ℕ) (old new : Contents) (store_failed : Type 0)
    (faults between : ℕ) (taken taken' : Option (List ℕ))
    → (store_failed → ⊥) → (RoseByOne faults between → ⊥) → IsCutOff name image text old new store_failed faults between taken taken' → P
cut_off P name image text old new store_failed faults between taken taken' store sink
    (while_putting bytes is failed unprinted stored others same) = absurd (store failed)
cut_off P name image text old new store_failed faults between taken taken' store sink (while_printing once put part) = absurd (sink once)

undelivered : (name : List ℕ) (image : Option (List ℕ)) (text : List ℕ) (old new : Contents) (store_failed : Type 0) (faults between : ℕ)
    (taken taken' : Option (List ℕ)) (status : ℕ) (fault : Fault)
    → (store_failed → ⊥) → (RoseByOne faults between → ⊥) → status ≡ status_of fault
    → DeliveryFails name image text old new store_failed faults between taken taken' fault
    → (status ≡ done) ⊎ (status ≡ out_of_memory)
undelivered name image text old new store_failed faults between taken taken' status Memory store sink is why = inr is
undelivered name image text old new store_failed faults between taken taken' status WriteFault store sink is why =
    cut_off ((status ≡ done) ⊎ (status ≡ out_of_memory)) name image text old new store_failed faults between taken taken' store sink why
undelivered name image text old new store_failed faults between taken taken' status Usage store sink is why = absurd why
undelivered name image text old new store_failed faults between taken taken' status ReadFault store sink is why = absurd why
undelivered name image text old new store_failed faults between taken taken' status Absent store sink is why = absurd why
undelivered name image text old new store_failed faults between taken taken' status (Malformed cause) store sink is why = absurd why
undelivered name image text old new store_failed faults between taken taken' status (Outside at value) store sink is why = absurd why
undelivered name image text old new store_failed faults between taken taken' status (BadShard shard at) store sink is why = absurd why
undelivered name image text old new store_failed faults between taken taken' status (BadLine line cause) store sink is why = absurd why
undelivered name image text old new store_failed faults between taken taken' status (BadStep line) store sink is why = absurd why
undelivered name image text old new store_failed faults between taken taken' status TooLong store sink is why = absurd why

pub stops_complete : (words : List (List ℕ)) (command : Command) (old new : Contents) (left : Option (List ℕ))
    (store_failed source_failed : Type 0) (faults between : ℕ) (taken taken' : Option (List ℕ)) (status : ℕ) (fault : Fault)
    → Asks words command → IsStopped command old new left store_failed source_failed faults between taken taken' fault → status ≡ status_of fault
    → (other : Command) → Asks words other → CanBeDone other old left → (store_failed → ⊥) → (ReadsSource other → source_failed → ⊥)
    → (RoseByOne faults between → ⊥) → (status ≡ done) ⊎ (status ≡ out_of_memory)
stops_complete words command old new left store_failed source_failed faults between taken taken' status fault asked stopped is other asks can
    store source sink =
    let same : other ≡ command = one_command words other command asks asked in
    let here : CanBeDone command old left = subst (λ (c : Command). CanBeDone c old left) same can in
    elim stopped.cause as (λ _. (status ≡ done) ⊎ (status ≡ out_of_memory)) [
      | inl (inl why, untouched) ↦ refused command old left store_failed status here store fault is why
      | inl (inr (inl trace), untouched) ↦
          trace_good left source_failed status fault (trace_of command old left trace.runs here)
          (source (subst ReadsSource (sym same) (inl trace.runs))) is trace.why
      | inl (inr (inr replay), untouched) ↦
          replay_good old left (image_name command) source_failed status fault (replay_of command old left replay.replays here)
          (source (subst ReadsSource (sym same) (inr replay.replays))) is replay.why
      | inr (image, text, made, why) ↦ undelivered (image_name command)
          image text old new store_failed faults between taken taken' status fault store sink is why
    ]
