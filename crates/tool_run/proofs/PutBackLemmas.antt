-- The calls of a command whose image is put back, by the status that it ends with.
use Rattle.std.proofs.Common.{◌≡◌, ◌≢◌, ◌⊎◌, ℕ, Bool, true, false, nat_eq, List, Option, inl, inr, refl, ap, sym, ◌∙◌, subst, arith}
use Rattle.std.specs.Prelude.{if◌then◌else◌}
use Rattle.std.proofs.lemmas.Bool.{ne_eqb}
use Rattle.tool_ports.specs.Calls.{with_get, with_put}
use Rattle.tool_ports.specs.Contents.{Contents}
use Rattle.tool_ports.specs.declared.store_calls.StoreCalls.{StoreCalls}
use Rattle.tool_run.specs.Calls.{get_limit, with_making, with_command, with_status}
use Rattle.tool_command.specs.Command.{Command, format_image, show_image, drain_image, gen_trace, run_image, rebuild_image, replay_image, conservative_image, count_image, Asks, AsksToGen, AsksToFormat}
use Rattle.tool_run.specs.declared.fault.Fault.{Fault}
use Rattle.tool_run.specs.declared.fault.Fault.TheVariants.{Usage, Memory, ReadFault, WriteFault, Absent, Malformed, Outside, BadShard, BadLine, BadStep, TooLong}
use Rattle.tool_command.proofs.OneCommandLemmas.{one_command}
use Rattle.tool_run.specs.Inside.{Refuses, DeliveryFails, IsStopped, status_of}
use Rattle.tool_run.specs.CommandUses.{GetsImage, PutsBack}
use Rattle.tool_run.specs.Outcome.{AsksToLook, AsksToPutBack}
use Rattle.tool_run.specs.Status.{done, out_of_memory, write_fault}
use Rattle.tool_run.proofs.CallLemmas.{put_back}

-- no fault's status is that of a result
pub not_done : (fault : Fault) → status_of fault ≡ done → ⊥
not_done Memory is = let never : 3 ≡ 0 = is in absurd (omega arith)
not_done other is = absurd (omega arith)

-- it gets once, and puts once, where the result was put or a put or a write failed
pub put_once : (words : List (List ℕ)) (command : Command) (before after : StoreCalls) (status : ℕ) (fault : Fault)
    → Asks words command → after ≡ with_status command (status_of fault) before → status ≡ status_of fault
    → (name : List ℕ) → AsksToPutBack words name → (status ≡ done) ⊎ (status ≡ write_fault) → after ≡ with_put (with_get get_limit before)
put_once words command before after status fault asked calls is name asks (inl delivered) = absurd (not_done fault (sym is ∙ delivered))
put_once words command before after status fault asked calls is name asks (inr cut) =
    let same : asks.command ≡ command = one_command words asks.command command asks.asked asked in
    let written : after ≡ with_command command before = subst (λ n. after ≡ with_status command n before) (sym is ∙ cut) calls in
    written ∙ (put_back command before (subst PutsBack same asks.puts)).1

-- a command that puts nothing back gets once, whatever it ends with
look_once : (command : Command) (before : StoreCalls) → GetsImage command → ¬ (PutsBack command)
    → (with_making command before ≡ with_get get_limit before) × (with_command command before ≡ with_get get_limit before)
look_once (format_image image capacity) before gets none = absurd gets
look_once (show_image image with_map in_parallel) before gets none = (refl, refl)
look_once (drain_image image class) before gets none = (refl, refl)
look_once (gen_trace requests seed) before gets none = absurd gets
look_once (run_image image options) before gets none = absurd (none tt)
look_once (rebuild_image image budget seed) before gets none = absurd (none tt)
look_once (replay_image image seed) before gets none = (refl, refl)
look_once (conservative_image image with_map) before gets none = (refl, refl)
look_once (count_image image with_map) before gets none = (refl, refl)

either : {A : Type 0} (b : Bool) (x y z : A) → x ≡ z → y ≡ z → (if b then x else y) ≡ z
either true x y z first second = first
either false x y z first second = second

pub looked_once : (words : List (List ℕ)) (command : Command) (before after : StoreCalls) (fault : Fault)
    → Asks words command → after ≡ with_status command (status_of fault) before → (name : List ℕ) → AsksToLook words name
    → after ≡ with_get get_limit before
looked_once words command before after fault asked calls name asks =
    let same : asks.command ≡ command = one_command words asks.command command asks.asked asked in
    let once = look_once command before (subst GetsImage same asks.gets) (subst (λ (c : Command). ¬ (PutsBack c)) same asks.puts_none) in
    calls ∙ either (nat_eq (status_of fault) write_fault) _ _ _ once.1 once.0

-- also where it was carried out
pub carried_once : (words : List (List ℕ)) (command : Command) (before after : StoreCalls)
    → Asks words command → after ≡ with_command command before → (name : List ℕ) → AsksToLook words name → after ≡ with_get get_limit before
carried_once words command before after asked calls name asks =
    let same : asks.command ≡ command = one_command words asks.command command asks.asked asked in
    calls ∙ (look_once command before (subst GetsImage same asks.gets) (subst (λ (c : Command). ¬ (PutsBack c)) same asks.puts_none)).1

-- one whose image is put back got once alone, where its result was neither put nor cut off
pub got_alone : (words : List (List ℕ)) (command : Command) (before after : StoreCalls) (status : ℕ) (fault : Fault)
    → Asks words command → after ≡ with_status command (status_of fault) before → status ≡ status_of fault
    → (name : List ℕ) → AsksToPutBack words name → status ≢ write_fault → after ≡ with_get get_limit before
got_alone words command before after status fault asked calls is name asks whole =
    let same : asks.command ≡ command = one_command words asks.command command asks.asked asked in
    let not_cut : nat_eq (status_of fault) write_fault ≡ false = ne_eqb (status_of fault) write_fault (λ e. whole (is ∙ e)) in
    calls ∙ ap (λ b. if b then with_command command before else with_making command before) not_cut
    ∙ (put_back command before (subst PutsBack same asks.puts)).0

-- a trace that is made calls for nothing, whatever it ends with
pub never_called : (words : List (List ℕ)) (command : Command) (before after : StoreCalls) (fault : Fault)
    → Asks words command → after ≡ with_status command (status_of fault) before → (requests seed : ℕ) → AsksToGen words requests seed → after ≡ before
never_called words command before after fault asked calls requests seed asks =
    let same : command ≡ gen_trace requests seed = one_command words command (gen_trace requests seed) asked asks in
    calls ∙ ap (λ (c : Command). with_status c (status_of fault) before) same
    ∙ either (nat_eq (status_of fault) write_fault) before before before refl refl

-- want of memory is before a put
unput : (command : Command) (before after : StoreCalls) (status : ℕ) (fault : Fault) → after ≡ with_status command (status_of fault) before
    → status ≡ status_of fault → status ≡ out_of_memory → after ≡ with_making command before
unput command before after status fault calls is memory = subst (λ n. after ≡ with_status command n before) (sym is ∙ memory) calls

-- to make a result takes one get, or none
one_or_none : (command : Command) (before : StoreCalls)
    → (with_making command before ≡ before) ⊎ (with_making command before ≡ with_get get_limit before)
one_or_none (format_image image capacity) before = inl refl
one_or_none (show_image image with_map in_parallel) before = inr refl
one_or_none (drain_image image class) before = inr refl
one_or_none (gen_trace requests seed) before = inl refl
one_or_none (run_image image options) before = inr refl
one_or_none (rebuild_image image budget seed) before = inr refl
one_or_none (replay_image image seed) before = inr refl
one_or_none (conservative_image image with_map) before = inr refl
one_or_none (count_image image with_map) before = inr refl

pub got_or_not : (command : Command) (before after : StoreCalls) (status : ℕ) (fault : Fault) → after ≡ with_status command (status_of fault) before
    → status ≡ status_of fault → status ≡ out_of_memory → (after ≡ before) ⊎ (after ≡ with_get get_limit before)
got_or_not command before after status fault calls is memory = elim (one_or_none command before) [
  | inl none ↦ inl (unput command before after status fault calls is memory ∙ none)
  | inr one ↦ inr (unput command before after status fault calls is memory ∙ one)
]

-- so no empty image is put then
pub none_put : (words : List (List ℕ)) (command : Command) (before after : StoreCalls) (status : ℕ) (fault : Fault)
    → Asks words command → after ≡ with_status command (status_of fault) before → status ≡ status_of fault
    → (image : List ℕ) (capacity : ℕ) → AsksToFormat words image capacity → status ≡ out_of_memory → after ≡ before
none_put words command before after status fault asked calls is image capacity asks memory =
    let same : command ≡ format_image image capacity = one_command words command (format_image image capacity) asked asks in
    unput command before after status fault calls is memory ∙ ap (λ (c : Command). with_making c before) same

-- an empty image is refused by want of memory alone
format_refused : (image : List ℕ) (capacity : ℕ) (contents : Contents) (A : Type 0) (fault : Fault) → status_of fault ≢ out_of_memory
    → Refuses (format_image image capacity) contents A fault → ⊥
format_refused image capacity contents A Memory other why = other refl
format_refused image capacity contents A ReadFault other why = why.0
format_refused image capacity contents A Absent other why = why.0
format_refused image capacity contents A (Malformed cause) other why = why.0
format_refused image capacity contents A (Outside at value) other why = why.1
format_refused image capacity contents A (BadShard shard at) other why = why.0
format_refused image capacity contents A Usage other why = why
format_refused image capacity contents A WriteFault other why = why
format_refused image capacity contents A (BadLine line cause) other why = why
format_refused image capacity contents A (BadStep line) other why = why
format_refused image capacity contents A TooLong other why = why

-- and a result is cut off by it, or by a failure
undelivered : (name text : List ℕ) (image : Option (List ℕ)) (old new : Contents) (A : Type 0) (faults between : ℕ) (taken taken' : Option (List ℕ))
    (fault : Fault) → status_of fault ≢ out_of_memory → DeliveryFails name image text old new A faults between taken taken' fault
    → status_of fault ≡ write_fault
undelivered name text image old new A faults between taken taken' Memory other why = absurd (other refl)
undelivered name text image old new A faults between taken taken' WriteFault other why = refl
undelivered name text image old new A faults between taken taken' Usage other why = absurd why
undelivered name text image old new A faults between taken taken' ReadFault other why = absurd why
undelivered name text image old new A faults between taken taken' Absent other why = absurd why
undelivered name text image old new A faults between taken taken' (Malformed cause) other why = absurd why
undelivered name text image old new A faults between taken taken' (Outside at value) other why = absurd why
undelivered name text image old new A faults between taken taken' (BadShard shard at) other why = absurd why
undelivered name text image old new A faults between taken taken' (BadLine line cause) other why = absurd why
undelivered name text image old new A faults between taken taken' (BadStep line) other why = absurd why
undelivered name text image old new A faults between taken taken' TooLong other why = absurd why

format_cut_off : (image : List ℕ) (capacity : ℕ) (old new : Contents) (left : Option (List ℕ)) (A B : Type 0) (faults between : ℕ)
    (taken taken' : Option (List ℕ)) (fault : Fault) → status_of fault ≢ out_of_memory
    → IsStopped (format_image image capacity) old new left A B faults between taken taken' fault → status_of fault ≡ write_fault
format_cut_off image capacity old new left A B faults between taken taken' fault other stopped = elim stopped.cause [
  | inl (inl why, same) ↦ absurd (format_refused image capacity old A fault other why)
  | inl (inr (inl trace), same) ↦ absurd trace.runs
  | inl (inr (inr replay), same) ↦ absurd replay.replays
  | inr (put, text, made, why) ↦ undelivered image text put old new A faults between taken taken' fault other why
]

-- so one that was made is put once
pub formatted_once : (words : List (List ℕ)) (command : Command) (before after : StoreCalls) (status : ℕ) (fault : Fault) (old new : Contents)
    (left : Option (List ℕ)) (A B : Type 0) (faults between : ℕ) (taken taken' : Option (List ℕ))
    → Asks words command → after ≡ with_status command (status_of fault) before → status ≡ status_of fault
    → IsStopped command old new left A B faults between taken taken' fault
    → (image : List ℕ) (capacity : ℕ) → AsksToFormat words image capacity → status ≢ out_of_memory → after ≡ with_put before
formatted_once words command before after status fault old new left A B faults between taken taken' asked calls is stopped image capacity asks other =
    let same : command ≡ format_image image capacity = one_command words command (format_image image capacity) asked asks in
    let cut : status_of fault ≡ write_fault =
    format_cut_off image capacity old new left A B faults between taken taken' fault (λ e. other (is ∙ e))
    (subst (λ (c : Command). IsStopped c old new left A B faults between taken taken' fault) same stopped) in
    calls ∙ ap (λ (c : Command). with_status c (status_of fault) before) same
    ∙ ap (λ n. with_status (format_image image capacity) n before) cut
