-- A call that told a line and did nothing else: memory ran out before there was a command, or the words ask for none.
use Rattle.std.proofs.Common.{◌≡◌, ◌⊎◌, ℕ, ◌+◌, ◌≤◌, List, Option, IfSome, Contains, inl, inr, lit<, refl, sym, subst, arith}
use Rattle.tool_ports.specs.Left.{GivesAtMost}
use Rattle.tool_command.specs.Command.{Command, Asks, IsUsage, format_image, run_image, replay_image}
use Rattle.tool_run.specs.ChancesUse.{UsesChances}
use Rattle.tool_run.specs.Completeness.{IsComplete}
use Rattle.tool_run.specs.Lines.{memory_line, usage_line}
use Rattle.tool_run.specs.Making.{longest_trace}
use Rattle.tool_run.specs.Seen.{Seen, IsTold}
use Rattle.tool_run.specs.SourceUse.{UsesSource}
use Rattle.tool_run.specs.Status.{done, usage, out_of_memory, write_fault, statuses, own_line}
use Rattle.tool_run.specs.Statuses.{IsStatusOf}
use Rattle.tool_run.specs.StoreUse.{UsesStore}
use Rattle.tool_run.proofs.ReadingLemmas.{none_taken}

-- why nothing was done, and the line that was told
pub data IsIdle (words : List (List ℕ)) (old new : Seen) (status : ℕ) : Type 0 where
  for_memory : status ≡ out_of_memory → IsTold old new memory_line → IsIdle words old new status
  for_usage : status ≡ usage → IsUsage words → IsTold old new usage_line → IsIdle words old new status

-- store and source are as they were
pub record IsUnused (old new : Seen) : Type 0 where
  pub contents : new.contents ≡ old.contents
  pub calls : new.calls ≡ old.calls
  pub store_faults : new.store_faults ≡ old.store_faults
  pub left : new.left ≡ old.left
  pub source_faults : new.source_faults ≡ old.source_faults

module _ (words : List (List ℕ)) (old new : Seen) (status : ℕ) where
  at_two_or_three : IsIdle words old new status → (2 ≤ status) × (status ≤ 3)
  at_two_or_three (for_memory is told) = (omega (arith, is), omega (arith, is))
  at_two_or_three (for_usage is none told) = (omega (arith, is), omega (arith, is))

  -- where there is a command, memory ran out
  memory_of : IsIdle words old new status → (command : Command) → Asks words command → status ≡ out_of_memory
  memory_of (for_memory is told) command asks = is
  memory_of (for_usage is none told) command asks = absurd (none command asks)

  no_command : IsIdle words old new status → status ≡ usage → IsUsage words
  no_command (for_memory is told) two = absurd (omega (arith, is, two))
  no_command (for_usage is none told) two = none

  own : IsIdle words old new status → IfSome (own_line status) (IsTold old new)
  own (for_memory is told) = subst (λ n. IfSome (own_line n) (IsTold old new)) (sym is) told
  own (for_usage is none told) = subst (λ n. IfSome (own_line n) (IsTold old new)) (sym is) told

  has_status : IsIdle words old new status → Contains statuses status
  has_status (for_memory is told) = rw is (2, lit< tt, refl)
  has_status (for_usage is none told) = rw is (1, lit< tt, refl)

  either : IsIdle words old new status → (status ≡ usage) ⊎ (status ≡ out_of_memory)
  either (for_memory is told) = inr is
  either (for_usage is none told) = inl is

-- at such a status there is no result
no_result : (status : ℕ) → (2 ≤ status) × (status ≤ 3) → (status ≡ done) ⊎ (status ≡ write_fault) → ⊥
no_result status range (inl e) = omega (arith, range.0, e)
no_result status range (inr e) = omega (arith, range.1, e)

pub idle_status : (words : List (List ℕ)) (old new : Seen) (Explained : Option (List ℕ) → Type 0) (status : ℕ) → IsIdle words old new status
    → IsStatusOf words old new Explained status
idle_status words old new Explained status idle =
    let range = at_two_or_three words old new status idle in
    let low : 2 ≤ status = range.0 in
    let high : status ≤ 3 = range.1 in
    record {
      known = has_status words old new status idle;
      ok = λ e. absurd (omega (arith, low, e));
      no_failed_write = λ e. absurd (omega (arith, low, e));
      line = own words old new status idle;
      usage = no_command words old new status idle;
      read_fault = λ e. absurd (omega (arith, high, e));
      write_fault = λ e. absurd (omega (arith, high, e));
      absent = λ e. absurd (omega (arith, high, e));
      cause = λ e. absurd (omega (arith, high, e));
      outside = λ e. absurd (omega (arith, high, e));
      bad_shard = λ e. absurd (omega (arith, high, e));
      bad_trace = λ e. absurd (omega (arith, high, e));
    }

pub idle_store : (words : List (List ℕ)) (old new : Seen) (status : ℕ) → IsIdle words old new status → IsUnused old new
    → UsesStore words old new status
idle_store words old new status idle unused = record {
  unchanged = λ leaves. unused.contents;
  no_failed_call = λ read write. unused.store_faults;
  one_failed = inl unused.store_faults;
  no_call = λ none. unused.calls;
  no_call_for_a_trace = λ requests seed asks. unused.calls;
  one_get = λ name asks other. absurd (other (memory_of words old new status idle asks.command asks.asked));
  get_and_put = λ name asks ended. absurd (no_result status (at_two_or_three words old new status idle) ended);
  get_alone = λ name asks whole cut other. absurd (other (memory_of words old new status idle asks.command asks.asked));
  get_or_none = λ name asks memory. inl unused.calls;
  one_put = λ image capacity asks other. absurd (other (memory_of words old new status idle (format_image image capacity) asks));
  no_put = λ image capacity asks memory. unused.calls;
}

pub idle_source : {T : Type 0} (words : List (List ℕ)) (old new : Seen) (HasEnded : T → Type 0) (source : T) (status : ℕ)
    → IsIdle words old new status → IsUnused old new → UsesSource words old new HasEnded source source status
idle_source words old new HasEnded source status idle unused = record {
  unread = λ none. refl;
  not_yet_read = λ before no_replay. refl;
  image_first = λ name at asks has refuses. refl;
  read_to_the_end = λ name asks whole. absurd (no_result status (at_two_or_three words old new status idle) (inl whole));
  has_ended = λ name asks whole. absurd (no_result status (at_two_or_three words old new status idle) (inl whole));
  read_at_most = subst (λ (left : Option (List ℕ)). GivesAtMost (longest_trace + 1) old.left left) (sym unused.left)
      (none_taken (longest_trace + 1) old.left);
  no_failed_read = λ other. unused.source_faults;
}

pub idle_chances : {C One : Type 0} (seed_gives : C → ℕ → C → Type 0) (chance_gives : C → ℕ → One → C → Type 0) (draw_gives : One → ℕ → One
    → Type 0) (word_gives : C → ℕ → C → Type 0) (words : List (List ℕ)) (old new : Seen) (chances : C) (status : ℕ)
    → IsIdle words old new status → UsesChances seed_gives chance_gives draw_gives word_gives words old new chances chances status
idle_chances seed_gives chance_gives draw_gives word_gives words old new chances status idle = record {
  seeded = λ command asks ended. absurd (no_result status (at_two_or_three words old new status idle) ended);
  asked = λ command asks whole. absurd (no_result status (at_two_or_three words old new status idle) (inl whole));
  asked_cut_off = λ command asks cut. absurd (no_result status (at_two_or_three words old new status idle) (inr cut));
  no_chance = λ leaves no_replay. refl;
  never_asked = λ none. refl;
}

pub idle_complete : (words : List (List ℕ)) (old new : Seen) (status : ℕ) → IsIdle words old new status → IsComplete words old new status
idle_complete words old new status idle =
    let memory : (command : Command) → Asks words command → status ≡ out_of_memory = memory_of words old new status idle in
    record {
      always_usage = λ none. either words old new status idle;
      always_absent = λ name asks told. inr (inl (memory asks.command asks.asked));
      always_cause = λ name asks holds. inr (inl (memory asks.command asks.asked));
      always_outside = λ name at asks has refuses. inr (inl (memory asks.command asks.asked));
      always_outside_left = λ name at asks holds. inr (inl (memory (replay_image name asks.seed) asks.asked));
      always_bad_shard = λ name shard at asks holds. inr (inl (memory asks.command asks.asked));
      always_bad_line = λ name line asks maps holds. inr (inl (memory (run_image name asks.options) asks.asked));
      always_too_long = λ name asks maps holds. inr (inl (memory (run_image name asks.options) asks.asked));
      always_bad_step = λ name line asks good holds. inr (inl (memory (replay_image name asks.seed) asks.asked));
      always_schedule_too_long = λ name asks good holds. inr (inl (memory (replay_image name asks.seed) asks.asked));
      complete = λ command asks can store source sink. inr (memory command asks);
    }
