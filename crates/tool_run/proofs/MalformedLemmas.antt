-- What a command that gets an image comes to, where the store tells that its header is malformed.
use Rattle.std.proofs.Common.{◌≡◌, ◌⊎◌, ℕ, List, Option, Some, None, inl, inr, subst}
use Rattle.tool_ports.specs.Contents.{Contents}
use Rattle.heap_model.specs.declared.header.BadHeader.{BadHeader}
use Rattle.tool_command.specs.Command.{Command, format_image, show_image, drain_image, gen_trace, run_image, rebuild_image, replay_image, conservative_image, count_image, image_name, Asks}
use Rattle.tool_run.specs.declared.fault.Fault.{Fault}
use Rattle.tool_run.specs.declared.fault.Fault.TheVariants.{Usage, Memory, ReadFault, WriteFault, Absent, Malformed, Outside, BadShard, BadLine, BadStep, TooLong}
use Rattle.tool_command.proofs.OneCommandLemmas.{one_command}
use Rattle.tool_run.specs.Inside.{Refuses, IsCarriedOut, IsStopped, status_of}
use Rattle.dict_model.specs.Links.{kind_count}
use Rattle.tool_run.specs.Making.{Makes, HasMapped, HasGood, fault_within}
use Rattle.tool_run.specs.CommandUses.{GetsImage, kinds_checked}
use Rattle.tool_run.specs.Outcome.{AsksToGet, HoldsMalformed}
use Rattle.tool_run.specs.Status.{out_of_memory, read_fault, bad_header}
use Rattle.tool_run.proofs.FilterLemmas.{follows_checks, refuses_checks, reads_follows, runs_follows, replays_follows}
use Rattle.tool_run.proofs.OutsideLemmas.{of_told, same_bytes}

-- bytes with a good header and a malformed one
both_headers : {P : Type 0} (limit : Option ℕ) (bytes other : List ℕ) (cause : BadHeader) → bytes ≡ other → fault_within limit bytes ≡ None
    → fault_within limit other ≡ Some cause → P
both_headers limit bytes other cause same good bad =
    let none : fault_within limit other ≡ None = subst (λ (l : List ℕ). fault_within limit l ≡ None) same good in
    absurd (cc)

-- what a command that checks the filter's kinds takes for malformed is so with these
by_kinds : (command : Command) (contents : Contents) (name : List ℕ) → kinds_checked command ≡ Some kind_count
    → HoldsMalformed (kinds_checked command) contents name → HoldsMalformed (Some kind_count) contents name
by_kinds command contents name checks has = subst (λ limit. HoldsMalformed limit contents name) checks has

-- an image that can be run has a good header
mapped_good : (contents : Contents) (n name : List ℕ) → n ≡ name → HasMapped contents n → HoldsMalformed (Some kind_count) contents name → ⊥
mapped_good contents n name named mapped has =
    both_headers (Some kind_count) mapped.bytes has.bytes has.cause
    (same_bytes contents n name mapped.bytes has.bytes named mapped.is_there has.held) mapped.good has.fault

-- and so has one that can be recovered
recoverable_good : (contents : Contents) (n name : List ℕ) → n ≡ name → HasGood contents n → HoldsMalformed (Some kind_count) contents name → ⊥
recoverable_good contents n name named image has =
    both_headers (Some kind_count) image.bytes has.bytes has.cause
    (same_bytes contents n name image.bytes has.bytes named image.is_there has.held) image.good has.fault

-- nothing is made then
not_made : (command : Command) (contents : Contents) (name : List ℕ) (left image : Option (List ℕ)) (text : List ℕ)
    → GetsImage command → image_name command ≡ name → HoldsMalformed (kinds_checked command) contents name → Makes command contents left image text → ⊥
not_made (format_image n capacity) contents name left image text gets named has made = gets
not_made (gen_trace requests seed) contents name left image text gets named has made = gets
not_made (rebuild_image n budget seed) contents name left image text gets named has made =
    both_headers (Some kind_count) made.bytes has.bytes has.cause (same_bytes contents n name made.bytes has.bytes named made.is_there has.held)
    made.good has.fault
not_made (run_image n options) contents name left image text gets named has made = mapped_good contents n name named made.mapped has
not_made (replay_image n seed) contents name left image text gets named has made = recoverable_good contents n name named made.1.heap.image has
not_made (show_image n with_map in_parallel) contents name left image text gets named has made =
    both_headers (Some kind_count) made.1.bytes has.bytes has.cause
    (same_bytes contents n name made.1.bytes has.bytes named made.1.is_there has.held) made.1.good has.fault
not_made (conservative_image n with_map) contents name left image text gets named has made =
    both_headers None made.1.bytes has.bytes has.cause (same_bytes contents n name made.1.bytes has.bytes named made.1.is_there has.held)
    made.1.good has.fault
not_made (count_image n with_map) contents name left image text gets named has made =
    both_headers (Some kind_count) made.1.bytes has.bytes has.cause
    (same_bytes contents n name made.1.bytes has.bytes named made.1.is_there has.held) made.1.good has.fault
not_made (drain_image n class) contents name left image text gets named has made =
    both_headers (Some kind_count) made.1.bytes has.bytes has.cause
    (same_bytes contents n name made.1.bytes has.bytes named made.1.is_there has.held) made.1.good has.fault

-- want of memory, a failed get, or that
refused : (command : Command) (contents : Contents) (name : List ℕ) (get_failed : Type 0) (status : ℕ) (fault : Fault)
    → image_name command ≡ name → HoldsMalformed (kinds_checked command) contents name → status ≡ status_of fault
    → Refuses command contents get_failed fault
    → (status ≡ bad_header) ⊎ (status ≡ out_of_memory) ⊎ (status ≡ read_fault)
refused command contents name get_failed status Usage named has is why = absurd why
refused command contents name get_failed status Memory named has is why = inr (inl is)
refused command contents name get_failed status ReadFault named has is why = inr (inr is)
refused command contents name get_failed status WriteFault named has is why = absurd why
refused command contents name get_failed status Absent named has is why =
    let none : Some has.bytes ≡ None = of_told (λ image. image ≡ None) contents (image_name command) name (Some has.bytes) named why.1 has.held in
    absurd (cc)
refused command contents name get_failed status (Malformed cause) named has is why = inl is
refused command contents name get_failed status (BadLine line cause) named has is why = absurd why
refused command contents name get_failed status (BadStep line) named has is why = absurd why
refused command contents name get_failed status TooLong named has is why = absurd why
refused command contents name get_failed status (BadShard shard place) named has is why =
    let here = by_kinds command contents name (follows_checks command (reads_follows command why.0)) has in
    both_headers (Some kind_count) why.1.bytes here.bytes here.cause
    (same_bytes contents (image_name command) name why.1.bytes here.bytes named why.1.is_there here.held) why.1.good here.fault
refused command contents name get_failed status (Outside place value) named has is why =
    let here = by_kinds command contents name (refuses_checks command why.0.bytes why.1) has in
    both_headers (Some kind_count) why.0.bytes here.bytes here.cause
    (same_bytes contents (image_name command) name why.0.bytes here.bytes named why.0.is_there here.held) why.0.good here.fault

-- why a command stopped
pub stops_malformed : (words : List (List ℕ)) (command : Command) (old new : Contents) (left : Option (List ℕ))
    (store_failed source_failed : Type 0) (faults between : ℕ) (taken taken' : Option (List ℕ)) (status : ℕ) (fault : Fault)
    → Asks words command → IsStopped command old new left store_failed source_failed faults between taken taken' fault → status ≡ status_of fault
    → (name : List ℕ) (asks : AsksToGet words name) → HoldsMalformed (kinds_checked asks.command) old name
    → (status ≡ bad_header) ⊎ (status ≡ out_of_memory) ⊎ (status ≡ read_fault)
stops_malformed words command old new left store_failed source_failed faults between taken taken' status fault asked stopped is name asks has =
    let same : asks.command ≡ command = one_command words asks.command command asks.asked asked in
    let named : image_name command ≡ name = subst (λ (c : Command). image_name c ≡ name) same asks.is_named in
    let here : HoldsMalformed (kinds_checked command) old name = subst (λ (c : Command). HoldsMalformed (kinds_checked c) old name) same has in
    elim stopped.cause as (λ _. (status ≡ bad_header) ⊎ (status ≡ out_of_memory) ⊎ (status ≡ read_fault)) [
      | inl (inl why, untouched) ↦ refused command old name store_failed status fault named here is why
      | inl (inr (inl trace), untouched) ↦ absurd (mapped_good old (image_name command) name named trace.mapped
          (by_kinds command old name (follows_checks command (runs_follows command trace.runs)) here))
      | inl (inr (inr replay), untouched) ↦ absurd (recoverable_good old (image_name command) name named replay.image
          (by_kinds command old name (follows_checks command (replays_follows command replay.replays)) here))
      | inr (image, text, made, why) ↦ absurd (not_made command old name left image text (subst GetsImage same asks.gets) named here made)
    ]

-- so it is not done
pub not_done_malformed : (words : List (List ℕ)) (command : Command) (old new : Contents) (left taken taken' : Option (List ℕ)) (status : ℕ)
    → Asks words command → IsCarriedOut command old new left taken taken'
    → (name : List ℕ) (asks : AsksToGet words name) → HoldsMalformed (kinds_checked asks.command) old name
    → (status ≡ bad_header) ⊎ (status ≡ out_of_memory) ⊎ (status ≡ read_fault)
not_done_malformed words command old new left taken taken' status asked done name asks has =
    let same : asks.command ≡ command = one_command words asks.command command asks.asked asked in
    absurd (not_made command old name left done.image done.text (subst GetsImage same asks.gets)
    (subst (λ (c : Command). image_name c ≡ name) same asks.is_named)
    (subst (λ (c : Command). HoldsMalformed (kinds_checked c) old name) same has) done.made)
