-- What a command that gets an image comes to, where the store tells that there is no such image.
use Rattle.std.proofs.Common.{◌≡◌, ◌⊎◌, ℕ, List, Option, Some, None, inl, inr, subst}
use Rattle.tool_ports.specs.Contents.{Contents, Holds, told_of}
use Rattle.tool_command.specs.Command.{Command, format_image, show_image, drain_image, gen_trace, run_image, rebuild_image, replay_image, conservative_image, count_image, image_name, Asks}
use Rattle.tool_run.specs.declared.fault.Fault.{Fault}
use Rattle.tool_run.specs.declared.fault.Fault.TheVariants.{Memory, ReadFault, Absent, Malformed, Outside, BadShard}
use Rattle.tool_command.proofs.OneCommandLemmas.{one_command}
use Rattle.tool_run.specs.Inside.{Refuses, IsCarriedOut, IsStopped, status_of}
use Rattle.tool_run.specs.Making.{Makes}
use Rattle.tool_run.specs.CommandUses.{GetsImage}
use Rattle.tool_run.specs.Outcome.{AsksToGet}
use Rattle.tool_run.specs.Status.{out_of_memory, read_fault, no_image}
use Rattle.tool_run.proofs.OutsideLemmas.{of_told}

-- a name without an image holds no bytes
not_there : (contents : Contents) (n name bytes : List ℕ) → n ≡ name → told_of contents name ≡ Some None → Holds contents n bytes → ⊥
not_there contents n name bytes named none holds =
    let some : None ≡ Some bytes = of_told (λ image. image ≡ Some bytes) contents n name None named holds none in
    cc

-- nothing is made then
not_made : (command : Command) (contents : Contents) (name : List ℕ) (left image : Option (List ℕ)) (text : List ℕ)
    → GetsImage command → image_name command ≡ name → told_of contents name ≡ Some None → Makes command contents left image text → ⊥
not_made (format_image n capacity) contents name left image text gets named none made = gets
not_made (gen_trace requests seed) contents name left image text gets named none made = gets
not_made (show_image n with_map in_parallel) contents name left image text gets named none made =
    not_there contents n name made.1.bytes named none made.1.is_there
not_made (drain_image n class) contents name left image text gets named none made = not_there contents n name made.1.bytes named none made.1.is_there
not_made (rebuild_image n budget seed) contents name left image text gets named none made =
    not_there contents n name made.bytes named none made.is_there
not_made (replay_image n seed) contents name left image text gets named none made =
    not_there contents n name made.1.heap.image.bytes named none made.1.heap.image.is_there
not_made (conservative_image n with_map) contents name left image text gets named none made =
    not_there contents n name made.1.bytes named none made.1.is_there
not_made (count_image n with_map) contents name left image text gets named none made = not_there contents n name made.1.bytes named none made.1.is_there
not_made (run_image n options) contents name left image text gets named none made =
    not_there contents n name made.mapped.bytes named none made.mapped.is_there

-- want of memory, a failed get, or that
refused : (command : Command) (contents : Contents) (name : List ℕ) (get_failed : Type 0) (status : ℕ) (fault : Fault)
    → image_name command ≡ name → told_of contents name ≡ Some None → status ≡ status_of fault → Refuses command contents get_failed fault
    → (status ≡ no_image) ⊎ (status ≡ out_of_memory) ⊎ (status ≡ read_fault)
refused command contents name get_failed status Memory named none is why = inr (inl is)
refused command contents name get_failed status ReadFault named none is why = inr (inr is)
refused command contents name get_failed status Absent named none is why = inl is
refused command contents name get_failed status (Malformed cause) named none is why =
    absurd (not_there contents (image_name command) name why.1.bytes named none why.1.held)
refused command contents name get_failed status (Outside at value) named none is why =
    absurd (not_there contents (image_name command) name why.0.bytes named none why.0.is_there)
refused command contents name get_failed status (BadShard shard at) named none is why =
    absurd (not_there contents (image_name command) name why.1.bytes named none why.1.is_there)
refused command contents name get_failed status other named none is why = absurd why

-- why a command stopped
pub stops_absent : (words : List (List ℕ)) (command : Command) (old new : Contents) (left : Option (List ℕ))
    (store_failed source_failed : Type 0) (faults between : ℕ) (taken taken' : Option (List ℕ)) (status : ℕ) (fault : Fault)
    → Asks words command → IsStopped command old new left store_failed source_failed faults between taken taken' fault → status ≡ status_of fault
    → (name : List ℕ) → AsksToGet words name → told_of old name ≡ Some None
    → (status ≡ no_image) ⊎ (status ≡ out_of_memory) ⊎ (status ≡ read_fault)
stops_absent words command old new left store_failed source_failed faults between taken taken' status fault asked stopped is name asks none =
    let same : asks.command ≡ command = one_command words asks.command command asks.asked asked in
    let named : image_name command ≡ name = subst (λ (c : Command). image_name c ≡ name) same asks.is_named in
    elim stopped.cause as (λ _. (status ≡ no_image) ⊎ (status ≡ out_of_memory) ⊎ (status ≡ read_fault)) [
      | inl (inl why, untouched) ↦ refused command old name store_failed status fault named none is why
      | inl (inr (inl trace), untouched) ↦ absurd (not_there old (image_name command) name trace.mapped.bytes named none trace.mapped.is_there)
      | inl (inr (inr replay), untouched) ↦ absurd (not_there old (image_name command) name replay.image.bytes named none replay.image.is_there)
      | inr (image, text, made, why) ↦ absurd (not_made command old name left image text (subst GetsImage same asks.gets) named none made)
    ]

-- so it is not done
pub not_done_absent : (words : List (List ℕ)) (command : Command) (old new : Contents) (left taken taken' : Option (List ℕ)) (status : ℕ)
    → Asks words command → IsCarriedOut command old new left taken taken'
    → (name : List ℕ) → AsksToGet words name → told_of old name ≡ Some None → (status ≡ no_image) ⊎ (status ≡ out_of_memory) ⊎ (status ≡ read_fault)
not_done_absent words command old new left taken taken' status asked done name asks none =
    let same : asks.command ≡ command = one_command words asks.command command asks.asked asked in
    absurd (not_made command old name left done.image done.text (subst GetsImage same asks.gets)
    (subst (λ (c : Command). image_name c ≡ name) same asks.is_named) none done.made)
