-- From why a command stopped, and the line that was printed then, to what its status says.
use Rattle.std.proofs.Common.{◌≡◌, ◌≢◌, ◌⊎◌, ℕ, zero, suc, ◌<◌, ◌≤◌, List, [], ◌∷◌, get_or, Option, IfSome, Contains, inl, inr, refl, sym, subst, arith, lit<}
use Rattle.tool_ports.specs.Contents.{Contents}
use Rattle.tool_command.specs.Command.{Command, format_image, show_image, drain_image, gen_trace, run_image, rebuild_image, replay_image, conservative_image, count_image, image_name, Asks}
use Rattle.tool_run.specs.declared.fault.Fault.{Fault}
use Rattle.tool_run.specs.declared.fault.Fault.TheVariants.{Usage, Memory, ReadFault, WriteFault, Absent, Malformed, Outside, BadShard, BadLine, BadStep, TooLong}
use Rattle.tool_run.specs.Inside.{DeliveryFails, IsStopped, IsBeforeReading, status_of, line_of, explanation_of}
use Rattle.tool_run.specs.Lines.{Tells, Explains}
use Rattle.tool_run.specs.CommandUses.{RunsATrace, ReplaysASchedule, ReadsSource}
use Rattle.tool_run.specs.Outcome.{AsksForRun, AsksForReplay, AsksForSource, IsReadFault, at_image, at_trace, at_schedule, IsWriteFault, IsAbsent, IsBadHeader, IsOutsideAt, in_image, in_image_left, IsBadShardAt, IsBadTrace, at_line, too_long, at_step, schedule_too_long}
use Rattle.tool_run.specs.Status.{statuses, own_line, LeavesStore, IsBeforeTrace, done, usage, read_fault, write_fault, no_image, bad_header, outside, bad_shard, bad_trace}
use Rattle.tool_run.proofs.FilterLemmas.{refuses_gets}

-- a fault has a status
pub has_status : (fault : Fault) (status : ℕ) → status ≡ status_of fault → Contains statuses status
has_status Usage status is = rw is (1, lit< tt, refl)
has_status Memory status is = rw is (2, lit< tt, refl)
has_status ReadFault status is = rw is (3, lit< tt, refl)
has_status WriteFault status is = rw is (4, lit< tt, refl)
has_status Absent status is = rw is (5, lit< tt, refl)
has_status (Malformed cause) status is = rw is (6, lit< tt, refl)
has_status (Outside at value) status is = rw is (7, lit< tt, refl)
has_status (BadShard shard at) status is = rw is (8, lit< tt, refl)
has_status (BadLine line cause) status is = rw is (9, lit< tt, refl)
has_status (BadStep line) status is = rw is (9, lit< tt, refl)
has_status TooLong status is = rw is (9, lit< tt, refl)

-- a line that tells, where the count and what was taken go by other names
pub tells_since : (line : List ℕ) (first second third : ℕ) (taken mid new : Option (List ℕ)) → second ≡ first → mid ≡ taken
    → Tells line second third mid new → Tells line first third taken new
tells_since line first second third taken mid new stood same told =
    subst (λ n. Tells line n third taken new) stood (subst (λ (m : Option (List ℕ)). Tells line second third m new) same told)

-- words that ask for a command that runs a trace ask for a run
pub for_run : (words : List (List ℕ)) (command : Command) → RunsATrace command → Asks words command → AsksForRun words (image_name command)
for_run words (format_image image capacity) runs asked = absurd runs
for_run words (show_image image with_map in_parallel) runs asked = absurd runs
for_run words (drain_image image class) runs asked = absurd runs
for_run words (gen_trace requests seed) runs asked = absurd runs
for_run words (rebuild_image image budget seed) runs asked = absurd runs
for_run words (replay_image image seed) runs asked = absurd runs
for_run words (conservative_image image with_map) runs asked = absurd runs
for_run words (count_image image with_map) runs asked = absurd runs
for_run words (run_image image options) runs asked = record { options = options; asked = asked }

-- and those for one that replays a schedule ask for a replay
pub for_replay : (words : List (List ℕ)) (command : Command) → ReplaysASchedule command → Asks words command → AsksForReplay words (image_name command)
for_replay words (format_image image capacity) replays asked = absurd replays
for_replay words (show_image image with_map in_parallel) replays asked = absurd replays
for_replay words (drain_image image class) replays asked = absurd replays
for_replay words (gen_trace requests seed) replays asked = absurd replays
for_replay words (run_image image options) replays asked = absurd replays
for_replay words (rebuild_image image budget seed) replays asked = absurd replays
for_replay words (conservative_image image with_map) replays asked = absurd replays
for_replay words (count_image image with_map) replays asked = absurd replays
for_replay words (replay_image image seed) replays asked = record { seed = seed; asked = asked }

-- those for one that reads the source
pub for_source : (words : List (List ℕ)) (command : Command) → ReadsSource command → Asks words command → AsksForSource words (image_name command)
for_source words command reads asked = record { command = command; asked = asked; reads = reads; is_named = refl }

module _ (words : List (List ℕ)) (command : Command) (old new : Contents) (left : Option (List ℕ)) (store_failed source_failed : Type 0)
    (first second third : ℕ) (taken mid final : Option (List ℕ))
    (status : ℕ) (asked : Asks words command) (low : first ≤ second) (high : second ≤ third) (stood : status ≢ write_fault → second ≡ first) where
  -- the outside failed while something was read
  pub is_read_fault : (fault : Fault) → IsStopped command old new left store_failed source_failed first second taken mid fault
      → status ≡ status_of fault
      → status ≡ read_fault → IsReadFault words old store_failed source_failed
  is_read_fault ReadFault stopped is four = elim stopped.cause [
    | inl (inl why, same) ↦ at_image (image_name command) (record { command = command; asked = asked; gets = why.0; is_named = refl }) why.1
    | inl (inr (inl trace), same) ↦ at_trace (image_name command) (for_run words command trace.runs asked) trace.mapped trace.why
    | inl (inr (inr replay), same) ↦ at_schedule (image_name command) (for_replay words command replay.replays asked) replay.image replay.why
    | inr (image, text, made, why) ↦ absurd why
  ]
  is_read_fault other stopped is four = absurd (omega arith)

  -- the result was cut off
  pub is_write_fault : (fault : Fault) (name : List ℕ) → IsStopped command old new left store_failed source_failed first second taken mid fault
      → status ≡ status_of fault
      → Tells (line_of fault name) second third mid final
      → status ≡ write_fault → IsWriteFault words old new left store_failed first third taken final
  is_write_fault WriteFault name stopped is told five = elim stopped.cause [
    | inl (inl why, same) ↦ absurd why
    | inl (inr (inl trace), same) ↦ absurd trace.why
    | inl (inr (inr replay), same) ↦ absurd replay.why
    | inr (image, text, made, why) ↦ record {
      command = command;
      asked = asked;
      image = image;
      text = text;
      made = made;
      before = mid;
      between = second;
      later = low;
      cut_off = why;
      told = told;
    }
  ]
  is_write_fault other name stopped is told five = absurd (omega arith)

  -- the image has a malformed header
  pub is_bad_header : (fault : Fault) (name : List ℕ) → IsStopped command old new left store_failed source_failed first second taken mid fault
      → status ≡ status_of fault
      → Tells (line_of fault name) second third mid final
      → status ≡ bad_header → IsBadHeader words old (λ line. Tells line first third taken final)
  is_bad_header (Malformed cause) name stopped is told seven = elim stopped.cause [
    | inl (inl why, same) ↦ record {
      name = image_name command;
      asks = record { command = command; asked = asked; gets = why.0; is_named = refl };
      cause = cause;
      malformed = why.1;
      told = tells_since (line_of (Malformed cause) name) first second third taken mid final (stood (λ five. absurd (omega arith))) same.sink told;
    }
    | inl (inr (inl trace), same) ↦ absurd trace.why
    | inl (inr (inr replay), same) ↦ absurd replay.why
    | inr (image, text, made, why) ↦ absurd why
  ]
  is_bad_header other name stopped is told seven = absurd (omega arith)

  -- a word points outside, in the image or in what a crash leaves of a replay
  pub is_outside : (fault : Fault) (name : List ℕ) → IsStopped command old new left store_failed source_failed first second taken mid fault
      → status ≡ status_of fault
      → Tells (line_of fault name) second third mid final
      → status ≡ outside → IsOutsideAt words old left (λ line. Tells line first third taken final)
  is_outside (Outside at value) name stopped is told eight = elim stopped.cause [
    | inl (inl why, same) ↦ in_image (image_name command) at value
        (record { command = command; asked = asked; gets = refuses_gets command why.0.bytes why.1; is_named = refl }) why.0 why.1
        (tells_since (line_of (Outside at value) name) first second third taken mid final (stood (λ five. absurd (omega arith))) same.sink told)
    | inl (inr (inl trace), same) ↦ absurd trace.why
    | inl (inr (inr replay), same) ↦ in_image_left (image_name command) at value (for_replay words command replay.replays asked) replay.why
        (tells_since (line_of (Outside at value) name) first second third taken mid final (stood (λ five. absurd (omega arith))) same.sink told)
    | inr (image, text, made, why) ↦ absurd why
  ]
  is_outside other name stopped is told eight = absurd (omega arith)

  -- a shard of the image has no map
  pub is_bad_shard : (fault : Fault) (name : List ℕ) → IsStopped command old new left store_failed source_failed first second taken mid fault
      → status ≡ status_of fault
      → Tells (line_of fault name) second third mid final
      → status ≡ bad_shard → IsBadShardAt words old (λ line. Tells line first third taken final)
  is_bad_shard (BadShard shard at) name stopped is told nine = elim stopped.cause [
    | inl (inl why, same) ↦ record {
      name = image_name command;
      asks = record { command = command; asked = asked; reads = why.0; is_named = refl };
      shard = shard;
      at = at;
      has = why.1;
      told = tells_since (line_of (BadShard shard at) name) first second third taken mid final (stood (λ five. absurd (omega arith))) same.sink told;
    }
    | inl (inr (inl trace), same) ↦ absurd trace.why
    | inl (inr (inr replay), same) ↦ absurd replay.why
    | inr (image, text, made, why) ↦ absurd why
  ]
  is_bad_shard other name stopped is told nine = absurd (omega arith)

  -- there is no such image
  pub is_absent : (fault : Fault) (name : List ℕ) → name ≡ image_name command
      → IsStopped command old new left store_failed source_failed first second taken mid fault → status ≡ status_of fault
      → Tells (line_of fault name) second third mid final
      → status ≡ no_image → IsAbsent words old (λ line. Tells line first third taken final)
  is_absent Absent name named stopped is told six = elim stopped.cause [
    | inl (inl why, same) ↦ record {
      name = image_name command;
      asks = record { command = command; asked = asked; gets = why.0; is_named = refl };
      lacks = why.1;
      told = subst (λ (n : List ℕ). Tells (line_of Absent n) first third taken final) named
          (tells_since (line_of Absent name) first second third taken mid final (stood (λ five. absurd (omega arith))) same.sink told);
    }
    | inl (inr (inl trace), same) ↦ absurd trace.why
    | inl (inr (inr replay), same) ↦ absurd replay.why
    | inr (image, text, made, why) ↦ absurd why
  ]
  is_absent other name named stopped is told six = absurd (omega arith)

  -- the line of a status that has one line alone
  own_told : (fault : Fault) (name : List ℕ) → IsStopped command old new left store_failed source_failed first second taken mid fault
      → status ≡ status_of fault
      → Tells (line_of fault name) second third mid final → IfSome (own_line (status_of fault)) (λ line. Tells line first third taken final)
  own_told Usage name stopped is told = elim stopped.cause [
    | inl (inl why, same) ↦ absurd why
    | inl (inr (inl trace), same) ↦ absurd trace.why
    | inl (inr (inr replay), same) ↦ absurd replay.why
    | inr (image, text, made, why) ↦ absurd why
  ]
  own_told Memory name stopped is told = elim stopped.cause [
    | inl (why, same) ↦ tells_since (line_of Memory name) first second third taken mid final (stood (λ five. absurd (omega arith))) same.sink told
    | inr (image, text, made, why) ↦ tells_since (line_of Memory name) first second third taken mid final
        (stood (λ five. absurd (omega arith))) why.sink told
  ]
  own_told ReadFault name stopped is told = elim stopped.cause [
    | inl (why, same) ↦ tells_since (line_of ReadFault name) first second third taken mid final (stood (λ five. absurd (omega arith))) same.sink told
    | inr (image, text, made, why) ↦ absurd why
  ]
  own_told other name stopped is told = tt

  pub is_own_line : (fault : Fault) (name : List ℕ) → IsStopped command old new left store_failed source_failed first second taken mid fault
      → status ≡ status_of fault
      → Tells (line_of fault name) second third mid final → IfSome (own_line status) (λ line. Tells line first third taken final)
  is_own_line fault name stopped is told =
      subst (λ n. IfSome (own_line n) (λ line. Tells line first third taken final)) (sym is) (own_told fault name stopped is told)

  -- the trace is refused
  pub is_bad_trace : (Explained : Option (List ℕ) → Type 0) (fault : Fault) (name : List ℕ) → Explained (explanation_of fault) → IsStopped command old new left store_failed source_failed first second taken mid fault
      → status ≡ status_of fault
      → Tells (line_of fault name) second third mid final
      → status ≡ bad_trace → IsBadTrace words old left (λ line. Tells line first third taken final) Explained
  is_bad_trace Explained (BadLine line cause) name explained stopped is told ten = elim stopped.cause [
    | inl (inl why, same) ↦ absurd why
    | inl (inr (inl trace), same) ↦ at_line (image_name command) line cause (for_run words command trace.runs asked) trace.mapped trace.why
        (tells_since (line_of (BadLine line cause) name) first second third taken mid final (stood (λ five. absurd (omega arith))) same.sink told)
        explained
    | inl (inr (inr replay), same) ↦ absurd replay.why
    | inr (image, text, made, why) ↦ absurd why
  ]
  is_bad_trace Explained (BadStep line) name explained stopped is told ten = elim stopped.cause [
    | inl (inl why, same) ↦ absurd why
    | inl (inr (inl trace), same) ↦ absurd trace.why
    | inl (inr (inr replay), same) ↦ at_step (image_name command) line (for_replay words command replay.replays asked) replay.image replay.why
        (tells_since (line_of (BadStep line) name) first second third taken mid final (stood (λ five. absurd (omega arith))) same.sink told)
        explained
    | inr (image, text, made, why) ↦ absurd why
  ]
  is_bad_trace Explained TooLong name explained stopped is told ten = elim stopped.cause [
    | inl (inl why, same) ↦ absurd why
    | inl (inr (inl trace), same) ↦ too_long (image_name command) (for_run words command trace.runs asked) trace.mapped trace.why
        (tells_since (line_of TooLong name) first second third taken mid final (stood (λ five. absurd (omega arith))) same.sink told)
        explained
    | inl (inr (inr replay), same) ↦ schedule_too_long (image_name command) (for_replay words command replay.replays asked) replay.image replay.why
        (tells_since (line_of TooLong name) first second third taken mid final (stood (λ five. absurd (omega arith))) same.sink told)
        explained
    | inr (image, text, made, why) ↦ absurd why
  ]
  is_bad_trace Explained other name explained stopped is told ten = absurd (omega arith)

-- a status of words or an image that were refused
early : (status i : ℕ) → i < 5 → get_or (usage ∷ no_image ∷ bad_header ∷ outside ∷ bad_shard ∷ []) i status ≡ status
    → (status ≡ usage) ⊎ ((no_image ≤ status) × (status ≤ bad_shard))
early status zero below is = inl (sym is)
early status (suc zero) below is = inr (let e : 6 ≡ status = is in omega arith, let e : 6 ≡ status = is in omega arith)
early status (suc (suc zero)) below is = inr (let e : 7 ≡ status = is in omega arith, let e : 7 ≡ status = is in omega arith)
early status (suc (suc (suc zero))) below is = inr (let e : 8 ≡ status = is in omega arith, let e : 8 ≡ status = is in omega arith)
early status (suc (suc (suc (suc zero)))) below is = inr (let e : 9 ≡ status = is in omega arith, let e : 9 ≡ status = is in omega arith)
early status (suc (suc (suc (suc (suc i))))) below is = absurd (omega arith)

too_late : (status n : ℕ) → IsBeforeTrace status → status ≡ n → (3 ≤ n) → (n ≤ 5) ⊎ (10 ≤ n) → ⊥
too_late status n before is low high = elim (early status before.among.0 before.among.1 before.among.2) [
  | inl two ↦ omega arith
  | inr between ↦ elim high [
    | inl h ↦ (let a = between.0 in omega arith)
    | inr h ↦ (let b = between.1 in omega arith)
  ]
]

-- by such a status nothing was read from the source
pub before_reading : (words : List (List ℕ)) (command : Command) (status : ℕ) (fault : Fault) → Asks words command → status ≡ status_of fault
    → IsBeforeTrace status
    → (status ≡ outside → (name : List ℕ) → ¬ (AsksForReplay words name)) → IsBeforeReading command fault
before_reading words command status Usage asked is before no_replay = tt
before_reading words command status Memory asked is before no_replay = too_late status 3 before is (omega arith) (inl (omega arith))
before_reading words command status ReadFault asked is before no_replay = too_late status 4 before is (omega arith) (inl (omega arith))
before_reading words command status WriteFault asked is before no_replay = too_late status 5 before is (omega arith) (inl (omega arith))
before_reading words command status Absent asked is before no_replay = tt
before_reading words command status (Malformed cause) asked is before no_replay = tt
before_reading words command status (Outside at value) asked is before no_replay =
    λ replays. no_replay is (image_name command) (for_replay words command replays asked)
before_reading words command status (BadShard shard at) asked is before no_replay = tt
before_reading words command status (BadLine line cause) asked is before no_replay = too_late status 10 before is (omega arith) (inr (omega arith))
before_reading words command status (BadStep line) asked is before no_replay = too_late status 10 before is (omega arith) (inr (omega arith))
before_reading words command status TooLong asked is before no_replay = too_late status 10 before is (omega arith) (inr (omega arith))

-- a result was made later than that
pub done_is_later : (status : ℕ) → IsBeforeTrace status → status ≡ done → ⊥
done_is_later status before is = elim (early status before.among.0 before.among.1 before.among.2) [
  | inl two ↦ omega (arith, two, is)
  | inr between ↦ omega (arith, between.0, is)
]

-- where no trace is refused nothing is explained
pub unexplained : {H : Type 0} (faults : H → ℕ) (taken : H → Option (List ℕ)) (old new : H) (status : ℕ) (fault : Fault) → status ≡ status_of fault
    → Explains faults taken old new (explanation_of fault) → status ≢ bad_trace → new ≡ old
unexplained faults taken old new status Usage is explained other = explained
unexplained faults taken old new status Memory is explained other = explained
unexplained faults taken old new status ReadFault is explained other = explained
unexplained faults taken old new status WriteFault is explained other = explained
unexplained faults taken old new status Absent is explained other = explained
unexplained faults taken old new status (Malformed cause) is explained other = explained
unexplained faults taken old new status (Outside at value) is explained other = explained
unexplained faults taken old new status (BadShard shard at) is explained other = explained
unexplained faults taken old new status (BadLine line cause) is explained other = absurd (other is)
unexplained faults taken old new status (BadStep line) is explained other = explained
unexplained faults taken old new status TooLong is explained other = explained

-- words that ask for a command are not refused
pub never_usage : (command : Command) (old new : Contents) (left : Option (List ℕ)) (store_failed source_failed : Type 0) (faults between : ℕ)
    (taken mid : Option (List ℕ)) (status : ℕ) (fault : Fault)
    → IsStopped command old new left store_failed source_failed faults between taken mid fault → status ≡ status_of fault → status ≡ usage → ⊥
never_usage command old new left store_failed source_failed faults between taken mid status Usage stopped is two = elim stopped.cause [
  | inl (inl why, same) ↦ absurd why
  | inl (inr (inl trace), same) ↦ absurd trace.why
  | inl (inr (inr replay), same) ↦ absurd replay.why
  | inr (image, text, made, why) ↦ absurd why
]
never_usage command old new left store_failed source_failed faults between taken mid status other stopped is two = absurd (omega arith)

-- nothing was put where no put or write failed
not_put : (name : List ℕ) (image : Option (List ℕ)) (text : List ℕ) (old new : Contents) (put_failed : Type 0) (faults between : ℕ)
    (taken taken' : Option (List ℕ)) (status : ℕ) (fault : Fault) → status ≡ status_of fault → status ≢ write_fault
    → DeliveryFails name image text old new put_failed faults between taken taken' fault → new ≡ old
not_put name image text old new put_failed faults between taken taken' status Memory is other why = why.store
not_put name image text old new put_failed faults between taken taken' status WriteFault is other why = absurd (other is)
not_put name image text old new put_failed faults between taken taken' status Usage is other why = absurd why
not_put name image text old new put_failed faults between taken taken' status ReadFault is other why = absurd why
not_put name image text old new put_failed faults between taken taken' status Absent is other why = absurd why
not_put name image text old new put_failed faults between taken taken' status (Malformed cause) is other why = absurd why
not_put name image text old new put_failed faults between taken taken' status (Outside at value) is other why = absurd why
not_put name image text old new put_failed faults between taken taken' status (BadShard shard at) is other why = absurd why
not_put name image text old new put_failed faults between taken taken' status (BadLine line cause) is other why = absurd why
not_put name image text old new put_failed faults between taken taken' status (BadStep line) is other why = absurd why
not_put name image text old new put_failed faults between taken taken' status TooLong is other why = absurd why

pub store_left : (command : Command) (old new : Contents) (left : Option (List ℕ)) (store_failed source_failed : Type 0) (faults between : ℕ)
    (taken mid : Option (List ℕ)) (status : ℕ) (fault : Fault)
    → IsStopped command old new left store_failed source_failed faults between taken mid fault → status ≡ status_of fault
    → LeavesStore status → new ≡ old
store_left command old new left store_failed source_failed faults between taken mid status fault stopped is leaves = elim stopped.cause [
  | inl (why, same) ↦ same.store
  | inr (image, text, made, why) ↦
      not_put (image_name command) image text old new store_failed faults between taken mid status fault is leaves.not_put why
]
