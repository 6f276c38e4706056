-- What a command that reads the maps of an image comes to, where the store tells that a shard of it has no map.
use Rattle.std.proofs.Common.{◌≡◌, ◌⊎◌, ℕ, List, Option, Some, None, inl, inr, sym, subst}
use Rattle.tool_ports.specs.Contents.{Contents}
use Rattle.tool_run.specs.Making.{image_in}
use Rattle.dict_model.specs.Shards.{BadShard as IsBadShard}
use Rattle.dict_model.proofs.ShardLemmas.{no_bad_shard}
use Rattle.tool_command.specs.Command.{Command, format_image, show_image, drain_image, gen_trace, run_image, rebuild_image, replay_image, conservative_image, count_image, image_name, Asks}
use Rattle.tool_run.specs.declared.fault.Fault.{Fault}
use Rattle.tool_run.specs.declared.fault.Fault.TheVariants.{Usage, Memory, ReadFault, WriteFault, Absent, Malformed, Outside, BadShard, BadLine, BadStep, TooLong}
use Rattle.tool_command.proofs.OneCommandLemmas.{one_command}
use Rattle.tool_run.specs.Inside.{Refuses, IsCarriedOut, IsStopped, status_of}
use Rattle.tool_run.specs.Making.{Makes, HasMapped, PointsOutside, fault_of, fault_within}
use Rattle.tool_run.specs.CommandUses.{Reads, ReplaysASchedule}
use Rattle.tool_run.specs.Outcome.{AsksToRead, HoldsBadShard}
use Rattle.tool_run.specs.Status.{out_of_memory, read_fault, bad_shard}
use Rattle.tool_run.proofs.FilterLemmas.{follows_checks, reads_follows}
use Rattle.tool_run.proofs.OutsideLemmas.{of_told, same_bytes}

-- an image that can be run has no such shard
mapped_shard : (contents : Contents) (n name : List ℕ) (shard at : ℕ) → n ≡ name → HasMapped contents n → HoldsBadShard contents name shard at → ⊥
mapped_shard contents n name shard at named mapped has =
    let same : mapped.bytes ≡ has.bytes = same_bytes contents n name mapped.bytes has.bytes named mapped.is_there has.held in
    let map = mapped.maps shard has.below in
    no_bad_shard (image_in mapped.bytes) shard at map.0 map.1
    (subst (λ (l : List ℕ). IsBadShard (image_in l) shard at) (sym same) has.bad)

-- nothing is made then
not_made : (command : Command) (contents : Contents) (name : List ℕ) (shard at : ℕ) (left image : Option (List ℕ)) (text : List ℕ)
    → Reads command → image_name command ≡ name → HoldsBadShard contents name shard at → Makes command contents left image text → ⊥
not_made (format_image n capacity) contents name shard at left image text reads named has made = reads
not_made (show_image n with_map in_parallel) contents name shard at left image text reads named has made =
    let same : made.1.bytes ≡ has.bytes = same_bytes contents n name made.1.bytes has.bytes named made.1.is_there has.held in
    let map = made.1.report.maps shard has.below in
    no_bad_shard (image_in made.1.bytes) shard at map.0 map.1
    (subst (λ (l : List ℕ). IsBadShard (image_in l) shard at) (sym same) has.bad)
not_made (drain_image n class) contents name shard at left image text reads named has made = reads
not_made (gen_trace requests seed) contents name shard at left image text reads named has made = reads
not_made (rebuild_image n budget seed) contents name shard at left image text reads named has made = reads
not_made (replay_image n seed) contents name shard at left image text reads named has made = reads
not_made (conservative_image n with_map) contents name shard at left image text reads named has made = reads
not_made (count_image n with_map) contents name shard at left image text reads named has made = reads
not_made (run_image n options) contents name shard at left image text reads named has made = mapped_shard contents n name shard at named made.mapped has

-- want of memory, a failed get, or that
refused : (command : Command) (contents : Contents) (name : List ℕ) (shard at : ℕ) (get_failed : Type 0) (status : ℕ) (fault : Fault)
    → Reads command → image_name command ≡ name → HoldsBadShard contents name shard at → status ≡ status_of fault
    → Refuses command contents get_failed fault
    → (status ≡ bad_shard) ⊎ (status ≡ out_of_memory) ⊎ (status ≡ read_fault)
refused command contents name shard at get_failed status Usage reads named has is why = absurd why
refused command contents name shard at get_failed status Memory reads named has is why = inr (inl is)
refused command contents name shard at get_failed status ReadFault reads named has is why = inr (inr is)
refused command contents name shard at get_failed status WriteFault reads named has is why = absurd why
refused command contents name shard at get_failed status Absent reads named has is why =
    let none : Some has.bytes ≡ None = of_told (λ image. image ≡ None) contents (image_name command) name (Some has.bytes) named why.1 has.held in
    absurd (cc)
refused command contents name shard at get_failed status (Malformed cause) reads named has is why =
    let same : why.1.bytes ≡ has.bytes = same_bytes contents (image_name command) name why.1.bytes has.bytes named why.1.held has.held in
    let here : fault_of why.1.bytes ≡ Some cause = subst (λ limit. fault_within limit why.1.bytes ≡ Some cause)
    (follows_checks command (reads_follows command reads)) why.1.fault in
    let bad : fault_of has.bytes ≡ Some cause = subst (λ (l : List ℕ). fault_of l ≡ Some cause) same here in
    let good : fault_of has.bytes ≡ None = has.good in
    absurd (cc)
refused command contents name shard at get_failed status (Outside place value) reads named has is why =
    let same : why.0.bytes ≡ has.bytes = same_bytes contents (image_name command) name why.0.bytes has.bytes named why.0.is_there has.held in
    absurd (has.inside place (subst (λ (l : List ℕ). PointsOutside (image_in l) place) same why.0.points))
refused command contents name shard at get_failed status (BadShard other place) reads named has is why = inl is
refused command contents name shard at get_failed status (BadLine line cause) reads named has is why = absurd why
refused command contents name shard at get_failed status (BadStep line) reads named has is why = absurd why
refused command contents name shard at get_failed status TooLong reads named has is why = absurd why

-- a command that reads such an image makes nothing
none_made : (words : List (List ℕ)) (command : Command) (contents : Contents) (left image : Option (List ℕ)) (text : List ℕ)
    → Asks words command → Makes command contents left image text
    → (name : List ℕ) (shard at : ℕ) → AsksToRead words name → HoldsBadShard contents name shard at → ⊥
none_made words command contents left image text asked made name shard at asks has =
    let same : asks.command ≡ command = one_command words asks.command command asks.asked asked in
    not_made command contents name shard at left image text (subst Reads same asks.reads)
    (subst (λ (c : Command). image_name c ≡ name) same asks.is_named) has made

-- so it is not done
pub not_done_bad : (words : List (List ℕ)) (command : Command) (old new : Contents) (left taken taken' : Option (List ℕ)) (status : ℕ)
    → Asks words command → IsCarriedOut command old new left taken taken'
    → (name : List ℕ) (shard at : ℕ) → AsksToRead words name → HoldsBadShard old name shard at
    → (status ≡ bad_shard) ⊎ (status ≡ out_of_memory) ⊎ (status ≡ read_fault)
not_done_bad words command old new left taken taken' status asked done name shard at asks has =
    absurd (none_made words command old left done.image done.text asked done.made name shard at asks has)

-- a command that reads maps replays no schedule
no_maps : (command : Command) → Reads command → ReplaysASchedule command → ⊥
no_maps (show_image n with_map in_parallel) reads replays = replays
no_maps (run_image n options) reads replays = replays
no_maps (format_image n capacity) reads replays = reads
no_maps (drain_image n class) reads replays = reads
no_maps (gen_trace requests seed) reads replays = reads
no_maps (rebuild_image n budget seed) reads replays = reads
no_maps (replay_image n seed) reads replays = reads
no_maps (conservative_image n with_map) reads replays = reads
no_maps (count_image n with_map) reads replays = reads

-- why a command stopped
pub stops_bad : (words : List (List ℕ)) (command : Command) (old new : Contents) (left : Option (List ℕ)) (store_failed source_failed : Type 0)
    (faults between : ℕ) (taken taken' : Option (List ℕ)) (status : ℕ) (fault : Fault)
    → Asks words command → IsStopped command old new left store_failed source_failed faults between taken taken' fault → status ≡ status_of fault
    → (name : List ℕ) (shard at : ℕ) → AsksToRead words name → HoldsBadShard old name shard at
    → (status ≡ bad_shard) ⊎ (status ≡ out_of_memory) ⊎ (status ≡ read_fault)
stops_bad words command old new left store_failed source_failed faults between taken taken' status fault asked stopped is name shard at asks has =
    elim stopped.cause as (λ _. (status ≡ bad_shard) ⊎ (status ≡ out_of_memory) ⊎ (status ≡ read_fault)) [
      | inl (inl why, untouched) ↦
          let same : asks.command ≡ command = one_command words asks.command command asks.asked asked in
          refused command old name shard at store_failed status fault (subst Reads same asks.reads)
          (subst (λ (c : Command). image_name c ≡ name) same asks.is_named) has is why
      | inl (inr (inl trace), untouched) ↦
          let same : asks.command ≡ command = one_command words asks.command command asks.asked asked in
          absurd (mapped_shard old (image_name command) name shard at (subst (λ (c : Command). image_name c ≡ name) same asks.is_named)
          trace.mapped has)
      | inl (inr (inr replay), untouched) ↦
          let same : asks.command ≡ command = one_command words asks.command command asks.asked asked in
          absurd (no_maps command (subst Reads same asks.reads) replay.replays)
      | inr (image, text, made, why) ↦ absurd (none_made words command old left image text asked made name shard at asks has)
    ]
