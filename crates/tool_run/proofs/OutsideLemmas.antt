-- What a command that gets an image comes to, where the store tells that a word of it points outside.
use Rattle.std.proofs.Common.{◌≡◌, ◌⊎◌, ℕ, Bool, List, slice_index, Option, Some, None, IfSome, inl, inr, sym, subst}
use Rattle.tool_ports.specs.Contents.{Contents, Holds, told_of}
use Rattle.heap_model.specs.Header.{first_kinds}
use Rattle.region_header.specs.Migration.{current_words}
use Rattle.tool_run.specs.Making.{IsOrderlyIn, image_in, words_in_bytes}
use Rattle.tool_command.specs.Command.{Command, format_image, show_image, drain_image, gen_trace, run_image, rebuild_image, replay_image, conservative_image, count_image, image_name, Asks}
use Rattle.tool_run.specs.declared.fault.Fault.{Fault}
use Rattle.tool_run.specs.declared.fault.Fault.TheVariants.{Usage, Memory, ReadFault, WriteFault, Absent, Malformed, Outside, BadShard, BadLine, BadStep, TooLong}
use Rattle.tool_command.proofs.OneCommandLemmas.{one_command}
use Rattle.tool_run.specs.Inside.{Refuses, IsCarriedOut, IsStopped, status_of}
use Rattle.tool_run.specs.Making.{Makes, HasMapped, HasGood, PointsOutside, fault_of, fault_within}
use Rattle.tool_run.specs.CommandUses.{RefusesOutside}
use Rattle.tool_run.specs.Outcome.{AsksToGet, HoldsOutside}
use Rattle.tool_run.specs.Status.{out_of_memory, read_fault, outside}
use Rattle.image_run.specs.Counting.{IsOrderlyImage, TellsOpened, by_anchors, traced}
use Rattle.tool_run.proofs.FilterLemmas.{refuses_checks}

-- what holds where the store tells of a name, holds of what it tells
pub of_told : (P : Option (List ℕ) → Type 0) (contents : Contents) (n name : List ℕ) (image : Option (List ℕ)) → n ≡ name
    → IfSome (told_of contents n) P → told_of contents name ≡ Some image → P image
of_told P contents n name image named holds told =
    subst (λ (o : Option (Option (List ℕ))). IfSome o P) told (subst (λ (m : List ℕ). IfSome (told_of contents m) P) named holds)

pub same_bytes : (contents : Contents) (n name a b : List ℕ) → n ≡ name → Holds contents n a → told_of contents name ≡ Some (Some b) → a ≡ b
same_bytes contents n name a b named holds told =
    let same : Some b ≡ Some a = of_told (λ image. image ≡ Some a) contents n name (Some b) named holds told in cc

-- an image that can be run has no such word
pub mapped_inside : (contents : Contents) (n name : List ℕ) (at : ℕ) → n ≡ name → HasMapped contents n → HoldsOutside contents name at → ⊥
mapped_inside contents n name at named mapped has =
    let same : mapped.bytes ≡ has.bytes = same_bytes contents n name mapped.bytes has.bytes named mapped.is_there has.held in
    mapped.inside at (subst (λ (l : List ℕ). PointsOutside (image_in l) at) (sym same) has.points)

-- nor has one that can be recovered
pub good_inside : (contents : Contents) (n name : List ℕ) (at : ℕ) → n ≡ name → HasGood contents n → HoldsOutside contents name at → ⊥
good_inside contents n name at named image has =
    let same : image.bytes ≡ has.bytes = same_bytes contents n name image.bytes has.bytes named image.is_there has.held in
    image.inside at (subst (λ (l : List ℕ). PointsOutside (image_in l) at) (sym same) has.points)

-- where the anchors of an image don't tell what it holds, such a word is told of in no text
none_told : (words : List ℕ) (at : ℕ) (with_map : Bool) (text : List ℕ) → ¬ (IsOrderlyImage words) → PointsOutside (slice_index words) at
    → TellsOpened words with_map text → ⊥
none_told words at with_map text disorderly points (by_anchors orderly told) = disorderly orderly
none_told words at with_map text disorderly points (traced not_orderly inside told) = inside at points

-- nothing is made then
not_made : (command : Command) (contents : Contents) (name : List ℕ) (at : ℕ) (left image : Option (List ℕ)) (text : List ℕ)
    → (has : HoldsOutside contents name at) → RefusesOutside command has.bytes → image_name command ≡ name → Makes command contents left image text → ⊥
not_made (format_image n capacity) contents name at left image text has refuses named made = refuses
not_made (gen_trace requests seed) contents name at left image text has refuses named made = refuses
not_made (conservative_image n with_map) contents name at left image text has refuses named made = refuses
not_made (run_image n options) contents name at left image text has refuses named made = mapped_inside contents n name at named made.mapped has
not_made (rebuild_image n budget seed) contents name at left image text has refuses named made =
    let same : made.bytes ≡ has.bytes = same_bytes contents n name made.bytes has.bytes named made.is_there has.held in
    made.inside at (subst (λ (l : List ℕ). PointsOutside (image_in l) at) (sym same) has.points)
not_made (replay_image n seed) contents name at left image text has refuses named made = good_inside contents n name at named made.1.heap.image has
not_made (show_image n with_map in_parallel) contents name at left image text has refuses named made =
    let same : made.1.bytes ≡ has.bytes = same_bytes contents n name made.1.bytes has.bytes named made.1.is_there has.held in
    made.1.inside at (subst (λ (l : List ℕ). PointsOutside (image_in l) at) (sym same) has.points)
not_made (drain_image n class) contents name at left image text has refuses named made =
    let same : made.1.bytes ≡ has.bytes = same_bytes contents n name made.1.bytes has.bytes named made.1.is_there has.held in
    made.1.inside at (subst (λ (l : List ℕ). PointsOutside (image_in l) at) (sym same) has.points)
not_made (count_image n with_map) contents name at left image text has refuses named made =
    let same : made.1.bytes ≡ has.bytes = same_bytes contents n name made.1.bytes has.bytes named made.1.is_there has.held in
    none_told (current_words (words_in_bytes made.1.bytes) first_kinds) at with_map text (subst (λ (l : List ℕ). ¬ (IsOrderlyIn l)) (sym same) refuses)
    (subst (λ (l : List ℕ). PointsOutside (image_in l) at) (sym same) has.points) made.1.tells

-- want of memory, a failed get, or that
refused : (command : Command) (contents : Contents) (name : List ℕ) (at : ℕ) (get_failed : Type 0) (status : ℕ) (fault : Fault)
    → (has : HoldsOutside contents name at) → RefusesOutside command has.bytes → image_name command ≡ name → status ≡ status_of fault
    → Refuses command contents get_failed fault
    → (status ≡ outside) ⊎ (status ≡ out_of_memory) ⊎ (status ≡ read_fault)
refused command contents name at get_failed status Usage has refuses named is why = absurd why
refused command contents name at get_failed status Memory has refuses named is why = inr (inl is)
refused command contents name at get_failed status ReadFault has refuses named is why = inr (inr is)
refused command contents name at get_failed status WriteFault has refuses named is why = absurd why
refused command contents name at get_failed status Absent has refuses named is why =
    let none : Some has.bytes ≡ None = of_told (λ image. image ≡ None) contents (image_name command) name (Some has.bytes) named why.1 has.held in
    absurd (cc)
refused command contents name at get_failed status (Malformed cause) has refuses named is why =
    let same : why.1.bytes ≡ has.bytes = same_bytes contents (image_name command) name why.1.bytes has.bytes named why.1.held has.held in
    let here : fault_of why.1.bytes ≡ Some cause = subst (λ limit. fault_within limit why.1.bytes ≡ Some cause)
    (refuses_checks command has.bytes refuses) why.1.fault in
    let bad : fault_of has.bytes ≡ Some cause = subst (λ (l : List ℕ). fault_of l ≡ Some cause) same here in
    let good : fault_of has.bytes ≡ None = has.good in
    absurd (cc)
refused command contents name at get_failed status (BadShard shard place) has refuses named is why =
    let same : why.1.bytes ≡ has.bytes = same_bytes contents (image_name command) name why.1.bytes has.bytes named why.1.is_there has.held in
    absurd (why.1.inside at (subst (λ (l : List ℕ). PointsOutside (image_in l) at) (sym same) has.points))
refused command contents name at get_failed status (Outside place value) has refuses named is why = inl is
refused command contents name at get_failed status (BadLine line cause) has refuses named is why = absurd why
refused command contents name at get_failed status (BadStep line) has refuses named is why = absurd why
refused command contents name at get_failed status TooLong has refuses named is why = absurd why

-- a command that is refused for such a word makes nothing
none_made : (words : List (List ℕ)) (command : Command) (contents : Contents) (left image : Option (List ℕ)) (text : List ℕ)
    → Asks words command → Makes command contents left image text
    → (name : List ℕ) (at : ℕ) (asks : AsksToGet words name) (has : HoldsOutside contents name at) → RefusesOutside asks.command has.bytes → ⊥
none_made words command contents left image text asked made name at asks has refuses =
    let same : asks.command ≡ command = one_command words asks.command command asks.asked asked in
    not_made command contents name at left image text has (subst (λ (c : Command). RefusesOutside c has.bytes) same refuses)
    (subst (λ (c : Command). image_name c ≡ name) same asks.is_named) made

-- so it is not done
pub not_done : (words : List (List ℕ)) (command : Command) (old new : Contents) (left taken taken' : Option (List ℕ)) (status : ℕ)
    → Asks words command → IsCarriedOut command old new left taken taken'
    → (name : List ℕ) (at : ℕ) (asks : AsksToGet words name) (has : HoldsOutside old name at) → RefusesOutside asks.command has.bytes
    → (status ≡ outside) ⊎ (status ≡ out_of_memory) ⊎ (status ≡ read_fault)
not_done words command old new left taken taken' status asked done name at asks has refuses =
    absurd (none_made words command old left done.image done.text asked done.made name at asks has refuses)

-- why a command stopped
pub stops_outside : (words : List (List ℕ)) (command : Command) (old new : Contents) (left : Option (List ℕ))
    (store_failed source_failed : Type 0) (faults between : ℕ) (taken taken' : Option (List ℕ)) (status : ℕ) (fault : Fault)
    → Asks words command → IsStopped command old new left store_failed source_failed faults between taken taken' fault → status ≡ status_of fault
    → (name : List ℕ) (at : ℕ) (asks : AsksToGet words name) (has : HoldsOutside old name at) → RefusesOutside asks.command has.bytes
    → (status ≡ outside) ⊎ (status ≡ out_of_memory) ⊎ (status ≡ read_fault)
stops_outside words command old new left store_failed source_failed faults between taken taken' status fault asked stopped is name at asks has refuses =
    elim stopped.cause as (λ _. (status ≡ outside) ⊎ (status ≡ out_of_memory) ⊎ (status ≡ read_fault)) [
      | inl (inl why, untouched) ↦
          let same : asks.command ≡ command = one_command words asks.command command asks.asked asked in
          refused command old name at store_failed status fault has (subst (λ (c : Command). RefusesOutside c has.bytes) same refuses)
          (subst (λ (c : Command). image_name c ≡ name) same asks.is_named) is why
      | inl (inr (inl trace), untouched) ↦
          let same : asks.command ≡ command = one_command words asks.command command asks.asked asked in
          absurd (mapped_inside old (image_name command) name at (subst (λ (c : Command). image_name c ≡ name) same asks.is_named) trace.mapped has)
      | inl (inr (inr replay), untouched) ↦
          let same : asks.command ≡ command = one_command words asks.command command asks.asked asked in
          absurd (good_inside old (image_name command) name at (subst (λ (c : Command). image_name c ≡ name) same asks.is_named) replay.image has)
      | inr (image, text, made, why) ↦ absurd (none_made words command old left image text asked made name at asks has refuses)
    ]

-- what comes where a command is refused for such a word comes where the words ask for one
pub where_asked : (P : Type 0) (words : List (List ℕ)) (command : Command) (contents : Contents) → Asks words command
    → ((at : ℕ) (has : HoldsOutside contents (image_name command) at) → RefusesOutside command has.bytes → P)
    → (name : List ℕ) (at : ℕ) (asks : AsksToGet words name) (has : HoldsOutside contents name at) → RefusesOutside asks.command has.bytes → P
where_asked P words command contents asked comes name at asks has refuses =
    let same : asks.command ≡ command = one_command words asks.command command asks.asked asked in
    let named : image_name command ≡ name = subst (λ (c : Command). image_name c ≡ name) same asks.is_named in
    let here : told_of contents (image_name command) ≡ Some (Some has.bytes) =
    subst (λ (n : List ℕ). told_of contents n ≡ Some (Some has.bytes)) (sym named) has.held in
    comes at (record { bytes = has.bytes; held = here; good = has.good; points = has.points })
    (subst (λ (c : Command). RefusesOutside c has.bytes) same refuses)
