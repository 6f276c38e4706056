-- From the contracts of the two steps of a command to the command, and to the status of the call.
use Rattle.std.proofs.Common.{◌≡◌, ℕ, ◌≤◌, List, Option, Some, Result, Ok, Err, OnOk, IfErr, IsErrOf, inl, inr, refl, sym, ap, ◌∙◌, subst}
use Rattle.tool_ports.specs.Causes.{one_more, Rose, RoseByOne}
use Rattle.tool_ports.specs.Contents.{Contents}
use Rattle.tool_ports.specs.Calls.{with_get, with_put}
use Rattle.tool_ports.specs.declared.store_calls.StoreCalls.{StoreCalls}
use Rattle.tool_run.specs.Calls.{get_limit, with_making, with_putting, with_command, with_status}
use Rattle.tool_command.specs.Command.{Command, format_image, show_image, drain_image, gen_trace, run_image, rebuild_image, replay_image, conservative_image, count_image, image_name}
use Rattle.tool_run.specs.declared.fault.Fault.{Fault}
use Rattle.tool_run.specs.declared.fault.Fault.TheVariants.{Usage, Memory, ReadFault, WriteFault, Absent, Malformed, Outside, BadShard, BadLine, BadStep, TooLong}
use Rattle.tool_run.specs.Inside.{DeliveryFails, IsStopped, Refuses, RefusesEither, status_of}
use Rattle.dict_model.specs.Links.{kind_count}
use Rattle.tool_run.specs.Making.{Makes}
use Rattle.tool_run.specs.CommandUses.{GetsImage, FollowsLinks, PutsBack, kinds_checked}
use Rattle.tool_run.specs.Outcome.{IsCutOff, while_putting, while_printing}
use Rattle.tool_run.proofs.FilterLemmas.{follows_gets, follows_checks}

-- a count that was one more at a moment has risen since
pub rose_by_then : (before then later : ℕ) → RoseByOne before then → then ≤ later → Rose before later
rose_by_then before then later once high = subst (λ n. n ≤ later) once high

-- a result that was cut off, with wider words on the cause
pub wider_cut : (name : List ℕ) (image : Option (List ℕ)) (text : List ℕ) (old new : Contents) (A A' : Type 0) (faults between : ℕ)
    (taken taken' : Option (List ℕ)) → (A → A')
    → IsCutOff name image text old new A faults between taken taken' → IsCutOff name image text old new A' faults between taken taken'
wider_cut name image text old new A A' faults between taken taken' to (while_putting bytes is failed unprinted stored others same) =
    while_putting bytes is (to failed) unprinted stored others same
wider_cut name image text old new A A' faults between taken taken' to (while_printing once put part) = while_printing once put part

-- what was made and not delivered
wider_failure : (name text : List ℕ) (old new : Contents) (A A' : Type 0) (faults between : ℕ) (taken taken' image : Option (List ℕ)) → (A → A')
    → (fault : Fault)
    → DeliveryFails name image text old new A faults between taken taken' fault
    → DeliveryFails name image text old new A' faults between taken taken' fault
wider_failure name text old new A A' faults between taken taken' image to Memory h = h
wider_failure name text old new A A' faults between taken taken' image to WriteFault h =
    wider_cut name image text old new A A' faults between taken taken' to h
wider_failure name text old new A A' faults between taken taken' image to Usage h = h
wider_failure name text old new A A' faults between taken taken' image to ReadFault h = h
wider_failure name text old new A A' faults between taken taken' image to Absent h = h
wider_failure name text old new A A' faults between taken taken' image to (Malformed cause) h = h
wider_failure name text old new A A' faults between taken taken' image to (Outside at value) h = h
wider_failure name text old new A A' faults between taken taken' image to (BadShard shard at) h = h
wider_failure name text old new A A' faults between taken taken' image to (BadLine line cause) h = h
wider_failure name text old new A A' faults between taken taken' image to (BadStep line) h = h
wider_failure name text old new A A' faults between taken taken' image to TooLong h = h

pub stops_at_delivery : (command : Command) (name text : List ℕ) (image : Option (List ℕ)) (old mid new : Contents) (left : Option (List ℕ))
    (first second third : ℕ) (read_failed : Type 0) (faults between : ℕ) (taken taken' : Option (List ℕ)) (fault : Fault)
    → Makes command old left image text → name ≡ image_name command → mid ≡ old → second ≡ first
    → DeliveryFails name image text mid new (RoseByOne second third) faults between taken taken' fault
    → IsStopped command old new left (RoseByOne first third) read_failed faults between taken taken' fault
stops_at_delivery command name text image old mid new left first second third read_failed faults between taken taken' fault made named same stood why =
    let here : DeliveryFails (image_name command) image text mid new (RoseByOne second third) faults between taken taken' fault =
    subst (λ (n : List ℕ). DeliveryFails n image text mid new (RoseByOne second third) faults between taken taken' fault) named why in
    let there : DeliveryFails (image_name command) image text old new (RoseByOne second third) faults between taken taken' fault =
    subst (λ (m : Contents). DeliveryFails (image_name command) image text m new (RoseByOne second third) faults between taken taken' fault)
    same here in
    record {
      cause = inr (
        image,
        text,
        made,
        wider_failure (image_name command) text old new (RoseByOne second third) (RoseByOne first third) faults between taken taken' image
            (λ once. once ∙ ap one_more stood) fault there,
      );
    }

-- what follows at an error, of its cause
pub if_error : {T E : Type 0} (P Q : E → Type 0) (result : Result T E) → IfErr result P → ((e : E) → P e → Q e) → IfErr result Q
if_error P Q (Ok x) is next = tt
if_error P Q (Err e) is next = next e is

-- what a failed recovery is for the command that asked for it
pub refuses : (command : Command) (name : List ℕ) (contents : Contents) (get_failed : Type 0) (fault cause : Fault) → fault ≡ cause
    → FollowsLinks command → image_name command ≡ name
    → ((other : Command) → FollowsLinks other → image_name other ≡ name → Refuses other contents get_failed cause)
    → Refuses command contents get_failed fault
refuses command name contents get_failed fault cause is follows named why =
    subst (λ (f : Fault). Refuses command contents get_failed f) (sym is) (why command follows named)

-- and what a failed get, or a bad header, is for a command that gets the image under this limit
pub refuses_within : (limit : Option ℕ) (name : List ℕ) (contents : Contents) (get_failed : Type 0) (fault cause : Fault) → fault ≡ cause
    → ((other : Command) → GetsImage other → kinds_checked other ≡ limit → image_name other ≡ name → Refuses other contents get_failed cause)
    → (command : Command) → GetsImage command → kinds_checked command ≡ limit → image_name command ≡ name → Refuses command contents get_failed fault
refuses_within limit name contents get_failed fault cause is why command gets checks named =
    subst (λ (f : Fault). Refuses command contents get_failed f) (sym is) (why command gets checks named)

-- so for one that follows links
pub refuses_links : (name : List ℕ) (contents : Contents) (get_failed : Type 0) (fault cause : Fault) → fault ≡ cause
    → ((other : Command) → GetsImage other → kinds_checked other ≡ Some kind_count → image_name other ≡ name → Refuses other contents get_failed cause)
    → (command : Command) → FollowsLinks command → image_name command ≡ name → Refuses command contents get_failed fault
refuses_links name contents get_failed fault cause is why command follows named =
    refuses_within (Some kind_count) name contents get_failed fault cause is why command (follows_gets command follows)
    (follows_checks command follows) named

-- a command that was refused has made no more calls than to get its image
pub calls_refused : (command : Command) (contents : Contents) (left : Option (List ℕ)) (A B : Type 0) (before : StoreCalls) (fault : Fault)
    → RefusesEither command contents left A B fault
    → with_making command before ≡ with_status command (status_of fault) before
calls_refused command contents left A B before WriteFault (inl why) = absurd why
calls_refused command contents left A B before WriteFault (inr (inl trace)) = absurd trace.why
calls_refused command contents left A B before WriteFault (inr (inr replay)) = absurd replay.why
calls_refused command contents left A B before fault why = refl

-- another error is another result
other_fault : {U : Type 0} (result : Result U Fault) (fault other : Fault) → result ≡ Err fault → result ≡ Err other → (fault ≡ other → ⊥) → ⊥
other_fault result fault other is also differ = differ (cc)

-- what was made is put, if it is to be put
putting_made : (command : Command) (contents : Contents) (left put : Option (List ℕ)) (text : List ℕ) (before : StoreCalls)
    → Makes command contents left put text
    → with_putting put (with_making command before) ≡ with_command command before
putting_made (format_image image capacity) contents left put text before made = ap (λ p. with_putting p before) made.image_is
putting_made (show_image image with_map in_parallel) contents left put text before made = ap (λ p. with_putting p (with_get get_limit before)) made.0
putting_made (drain_image image class) contents left put text before made = ap (λ p. with_putting p (with_get get_limit before)) made.0
putting_made (gen_trace requests seed) contents left put text before made = ap (λ p. with_putting p before) made.0
putting_made (run_image image options) contents left put text before made = ap (λ p. with_putting p (with_get get_limit before)) made.put_is
putting_made (rebuild_image image budget seed) contents left put text before made = ap (λ p. with_putting p (with_get get_limit before)) made.put_is
putting_made (replay_image image seed) contents left put text before made = ap (λ p. with_putting p (with_get get_limit before)) made.0
putting_made (conservative_image image with_map) contents left put text before made = ap (λ p. with_putting p (with_get get_limit before)) made.0
putting_made (count_image image with_map) contents left put text before made = ap (λ p. with_putting p (with_get get_limit before)) made.0

-- a command that puts an image back gets once, and puts once where it is carried out
pub put_back : (command : Command) (before : StoreCalls) → PutsBack command
    → (with_making command before ≡ with_get get_limit before) × (with_command command before ≡ with_put (with_get get_limit before))
put_back (format_image image capacity) before puts = absurd puts
put_back (show_image image with_map in_parallel) before puts = absurd puts
put_back (drain_image image class) before puts = absurd puts
put_back (gen_trace requests seed) before puts = absurd puts
put_back (run_image image options) before puts = (refl, refl)
put_back (rebuild_image image budget seed) before puts = (refl, refl)
put_back (replay_image image seed) before puts = absurd puts
put_back (conservative_image image with_map) before puts = absurd puts
put_back (count_image image with_map) before puts = absurd puts

module _ (command : Command) (contents : Contents) (left image : Option (List ℕ)) (text : List ℕ) (before mid after : StoreCalls)
    (made : Makes command contents left image text)
    (first : mid ≡ with_making command before) where
  all_put : after ≡ with_putting image mid → after ≡ with_command command before
  all_put put = put ∙ ap (with_putting image) first ∙ putting_made command contents left image text before made

  -- the calls of a command that was carried out
  pub calls_done : {U : Type 0} (result : Result U Fault) → ((IsErrOf result Memory → ⊥) → after ≡ with_putting image mid)
      → OnOk result (after ≡ with_command command before)
  calls_done (Ok u) put = all_put (put (λ e. let never : Ok u ≡ Err Memory = e in cc))
  calls_done (Err e) put = tt

  -- and of one that was not delivered
  pub calls_undelivered : {U : Type 0} (name : List ℕ) (old new : Contents) (A : Type 0) (faults between : ℕ) (taken taken' : Option (List ℕ))
      (result : Result U Fault) → IfErr result (DeliveryFails name image text old new A faults between taken taken')
      → ((IsErrOf result Memory → ⊥) → after ≡ with_putting image mid) → (IsErrOf result Memory → after ≡ mid)
      → IfErr result (λ fault. after ≡ with_status command (status_of fault) before)
  calls_undelivered name old new A faults between taken taken' (Ok u) why put not_put = tt
  calls_undelivered name old new A faults between taken taken' (Err Memory) why put not_put = not_put refl ∙ first
  calls_undelivered name old new A faults between taken taken' (Err WriteFault) why put not_put =
      all_put (put (λ e. other_fault _ WriteFault Memory refl e (λ same. let never : WriteFault ≡ Memory = same in cc)))
  calls_undelivered name old new A faults between taken taken' (Err Usage) why put not_put = absurd why
  calls_undelivered name old new A faults between taken taken' (Err ReadFault) why put not_put = absurd why
  calls_undelivered name old new A faults between taken taken' (Err Absent) why put not_put = absurd why
  calls_undelivered name old new A faults between taken taken' (Err (Malformed cause)) why put not_put = absurd why
  calls_undelivered name old new A faults between taken taken' (Err (Outside at value)) why put not_put = absurd why
  calls_undelivered name old new A faults between taken taken' (Err (BadShard shard at)) why put not_put = absurd why
  calls_undelivered name old new A faults between taken taken' (Err (BadLine line cause)) why put not_put = absurd why
  calls_undelivered name old new A faults between taken taken' (Err (BadStep line)) why put not_put = absurd why
  calls_undelivered name old new A faults between taken taken' (Err TooLong) why put not_put = absurd why

-- what was refused by its image was refused
pub refused_by_image : (command : Command) (contents : Contents) (left : Option (List ℕ)) (A B : Type 0) (fault cause : Fault) → fault ≡ cause
    → Refuses command contents A cause
    → RefusesEither command contents left A B fault
refused_by_image command contents left A B fault cause is why = inl (subst (λ (f : Fault). Refuses command contents A f) (sym is) why)
