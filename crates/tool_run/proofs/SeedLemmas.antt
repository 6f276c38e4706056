-- From the seed of the command that was carried out to that of the one that the words ask for.
use Rattle.std.proofs.Common.{◌≡◌, ◌⊎◌, ℕ, List, Option, inl, inr, refl, sym, ap, subst, ◌∙◌, arith}
use Rattle.image_run.specs.declared.fault.ReplayFault.{ReplayFault}
use Rattle.image_run.specs.declared.fault.ReplayFault.TheVariants.{Outside as OutsideLeft, Memory as ReplayMemory}
use Rattle.tool_ports.specs.Contents.{Contents}
use Rattle.tool_command.specs.Command.{Command, replay_image, image_name, Asks}
use Rattle.tool_command.proofs.OneCommandLemmas.{one_command}
use Rattle.tool_run.specs.declared.fault.Fault.{Fault}
use Rattle.tool_run.specs.declared.fault.Fault.TheVariants.{Usage, Memory, ReadFault, WriteFault, Absent, Malformed, Outside, BadShard, BadLine, BadStep, TooLong}
use Rattle.tool_run.specs.Asking.{AsksOf, IsDoneWith, IsCutOffWith, IsToldCutOff}
use Rattle.tool_run.specs.Inside.{DeliveryFails, RefusesEither, IsBeforeSeeding, status_of, line_of, fault_of_replay}
use Rattle.tool_run.specs.Lines.{Tells}
use Rattle.tool_run.specs.Outcome.{AsksForReplay, IsCutOff}
use Rattle.tool_run.specs.Seeding.{seed_of, BeginBy}
use Rattle.tool_run.specs.Status.{done, write_fault, outside, LeavesChances}
use Rattle.tool_run.proofs.CallLemmas.{wider_cut}
use Rattle.tool_run.proofs.PutBackLemmas.{not_done}
use Rattle.tool_run.proofs.StatusLemmas.{for_replay}

-- a command for which nothing was made is not cut off
not_cut_off : (command : Command) (contents : Contents) (left : Option (List ℕ)) (A B : Type 0) (fault : Fault)
    → RefusesEither command contents left A B fault → status_of fault ≡ write_fault → ⊥
not_cut_off command contents left A B WriteFault (inl why) is = absurd why
not_cut_off command contents left A B WriteFault (inr (inl trace)) is = absurd trace.why
not_cut_off command contents left A B WriteFault (inr (inr replay)) is = absurd replay.why
not_cut_off command contents left A B other why is = absurd (omega arith)

pub refused_is_not_cut_off : (command : Command) (contents : Contents) (left : Option (List ℕ)) (A B : Type 0) (fault cause : Fault)
    → fault ≡ cause → RefusesEither command contents left A B cause → status_of fault ≡ write_fault → ⊥
refused_is_not_cut_off command contents left A B fault cause is why cut = not_cut_off command contents left A B cause why (ap status_of (sym is) ∙ cut)

-- what holds of a result that was made holds of the one that was cut off
pub cut_off_with : (holds : Option (List ℕ) → List ℕ → Type 0) (named name text : List ℕ) (image : Option (List ℕ)) (old mid new : Contents)
    (A A' : Type 0) (faults between : ℕ) (taken taken' : Option (List ℕ)) (fault : Fault) → holds image text → named ≡ name → mid ≡ old → (A → A')
    → DeliveryFails named image text mid new A faults between taken taken' fault → status_of fault ≡ write_fault
    → IsCutOffWith name old new A' faults between taken taken' holds
cut_off_with holds named name text image old mid new A A' faults between taken taken' WriteFault is same stood to why cut = record {
  image = image;
  text = text;
  is = is;
  cut_off = wider_cut name image text old new A A' faults between taken taken' to
      (subst (λ (n : List ℕ). IsCutOff n image text old new A faults between taken taken') same
      (subst (λ (m : Contents). IsCutOff named image text m new A faults between taken taken') stood why));
}
cut_off_with holds named name text image old mid new A A' faults between taken taken' other is same stood to why cut = absurd (omega arith)

module _ {C One : Type 0} (seed_gives : C → ℕ → C → Type 0) (chance_gives : C → ℕ → One → C → Type 0) (word_gives : C → ℕ → C → Type 0)
    (words : List (List ℕ)) (command other : Command) (old new : C)
    (asked : Asks words command) (asks : Asks words other) where
  -- words ask for one command, and so for one seed
  pub by_its_seed : BeginBy seed_gives chance_gives word_gives (seed_of command) old new
      → BeginBy seed_gives chance_gives word_gives (seed_of other) old new
  by_its_seed begun = subst (λ (c : Command). BeginBy seed_gives chance_gives word_gives (seed_of c) old new)
      (one_command words command other asked asks) begun

  -- and so for what is asked
  pub by_its_command : (draw_gives : One → ℕ → One → Type 0) (before after : Contents) (left taken taken' : Option (List ℕ))
      → IsDoneWith (image_name command) before after taken taken' (AsksOf seed_gives chance_gives draw_gives word_gives command before left old new)
      → IsDoneWith (image_name other) before after taken taken' (AsksOf seed_gives chance_gives draw_gives word_gives other before left old new)
  by_its_command draw_gives before after left taken taken' asks_so =
      subst (λ (c : Command). IsDoneWith (image_name c) before after taken taken'
      (AsksOf seed_gives chance_gives draw_gives word_gives c before left old new))
      (one_command words command other asked asks) asks_so

  -- also where the result was cut off
  pub cut_off_by_its_seed : (status : ℕ) (fault : Fault) → status ≡ status_of fault
      → (status_of fault ≡ write_fault → BeginBy seed_gives chance_gives word_gives (seed_of command) old new)
      → (status ≡ done) ⊎ (status ≡ write_fault) → BeginBy seed_gives chance_gives word_gives (seed_of other) old new
  cut_off_by_its_seed status fault is begun (inl delivered) = absurd (not_done fault (sym is ∙ delivered))
  cut_off_by_its_seed status fault is begun (inr cut) = by_its_seed (begun (sym is ∙ cut))

  -- and so is what was asked then
  pub cut_off_by_its_command : (draw_gives : One → ℕ → One → Type 0) (before after : Contents) (left : Option (List ℕ)) (store_failed : Type 0)
      (first second third : ℕ) (taken mid final : Option (List ℕ)) (status : ℕ) (fault : Fault) (name : List ℕ) → status ≡ status_of fault
      → Tells (line_of fault name) second third mid final
      → (status_of fault ≡ write_fault → IsCutOffWith (image_name command) before after store_failed first second taken mid
      (AsksOf seed_gives chance_gives draw_gives word_gives command before left old new))
      → status ≡ write_fault → IsToldCutOff (image_name other) before after store_failed first third taken final
      (AsksOf seed_gives chance_gives draw_gives word_gives other before left old new)
  cut_off_by_its_command draw_gives before after left store_failed first second third taken mid final status WriteFault name is told cut five = record {
    before = mid;
    between = second;
    cut = subst (λ (c : Command). IsCutOffWith (image_name c) before after store_failed first second taken mid
        (AsksOf seed_gives chance_gives draw_gives word_gives c before left old new)) (one_command words command other asked asks) (cut refl);
    told = told;
  }
  cut_off_by_its_command draw_gives before after left store_failed first second third taken mid final status fault name is told cut five =
      absurd (omega arith)

-- by want of memory the chances may have begun
pub memory_is_later : (command : Command) (fault : Fault) → fault ≡ Memory → IsBeforeSeeding command fault → ⊥
memory_is_later command fault is before = subst (IsBeforeSeeding command) is before

-- and so they have where a replay itself made nothing
pub replay_is_later : (name : List ℕ) (seed : ℕ) (cause : ReplayFault) (fault : Fault) → fault ≡ fault_of_replay cause
    → IsBeforeSeeding (replay_image name seed) fault → ⊥
replay_is_later name seed (OutsideLeft at value) fault is before = subst (IsBeforeSeeding (replay_image name seed)) is before tt
replay_is_later name seed ReplayMemory fault is before = subst (IsBeforeSeeding (replay_image name seed)) is before

-- by such a status they had not begun
pub before_seeding : (words : List (List ℕ)) (command : Command) (status : ℕ) (fault : Fault) → Asks words command → status ≡ status_of fault
    → LeavesChances status
    → (status ≡ outside → (name : List ℕ) → ¬ (AsksForReplay words name)) → IsBeforeSeeding command fault
before_seeding words command status Usage asked is leaves no_replay = tt
before_seeding words command status Memory asked is leaves no_replay = leaves.had_memory is
before_seeding words command status ReadFault asked is leaves no_replay = tt
before_seeding words command status WriteFault asked is leaves no_replay = leaves.not_put is
before_seeding words command status Absent asked is leaves no_replay = tt
before_seeding words command status (Malformed cause) asked is leaves no_replay = tt
before_seeding words command status (Outside at value) asked is leaves no_replay =
    λ replays. no_replay is (image_name command) (for_replay words command replays asked)
before_seeding words command status (BadShard shard at) asked is leaves no_replay = tt
before_seeding words command status (BadLine line cause) asked is leaves no_replay = tt
before_seeding words command status (BadStep line) asked is leaves no_replay = tt
before_seeding words command status TooLong asked is leaves no_replay = tt
