-- A call whose command was stopped by a fault, and told its line.
use Rattle.std.proofs.Common.{◌≡◌, ◌≢◌, ◌⊎◌, ℕ, ◌+◌, ◌≤◌, List, Option, None, sym, ◌∙◌}
use Rattle.tool_ports.specs.Left.{GivesAtMost}
use Rattle.tool_command.specs.Command.{Command, Asks, image_name}
use Rattle.tool_run.specs.Asking.{AsksOf, IsCutOffWith}
use Rattle.tool_run.specs.Calls.{with_status}
use Rattle.tool_run.specs.ChancesUse.{UsesChances}
use Rattle.tool_run.specs.Completeness.{IsComplete}
use Rattle.tool_run.specs.declared.fault.Fault.{Fault}
use Rattle.tool_run.specs.Inside.{IsStopped, IsBeforeReading, IsBeforeSeeding, status_of, line_of, explanation_of}
use Rattle.tool_run.specs.Lines.{Tells}
use Rattle.tool_run.specs.Making.{longest_trace}
use Rattle.tool_run.specs.CommandUses.{ReadsSource, RefusesOutside}
use Rattle.tool_run.specs.Outcome.{HoldsOutside}
use Rattle.tool_run.specs.Seeding.{seed_of, BeginBy}
use Rattle.tool_run.specs.Seen.{Seen, StoreFailed, SourceFailed}
use Rattle.tool_run.specs.SourceUse.{UsesSource}
use Rattle.tool_run.specs.Status.{done, read_fault, write_fault}
use Rattle.tool_run.specs.Statuses.{IsStatusOf}
use Rattle.tool_run.specs.StoreUse.{UsesStore}
use Rattle.tool_run.proofs.AbsentLemmas.{stops_absent}
use Rattle.tool_run.proofs.BadScheduleLemmas.{stops_bad_step, stops_schedule_too_long}
use Rattle.tool_run.proofs.BadShardLemmas.{stops_bad}
use Rattle.tool_run.proofs.BadTraceLemmas.{stops_bad_line, stops_too_long}
use Rattle.tool_run.proofs.CallLemmas.{rose_by_then}
use Rattle.tool_run.proofs.CompleteLemmas.{stops_complete}
use Rattle.tool_run.proofs.MalformedLemmas.{stops_malformed}
use Rattle.tool_run.proofs.OutsideLeftLemmas.{stops_outside_left}
use Rattle.tool_run.proofs.OutsideLemmas.{stops_outside, where_asked}
use Rattle.tool_run.proofs.PutBackLemmas.{not_done, put_once, looked_once, got_alone, got_or_not, never_called, none_put, formatted_once}
use Rattle.tool_run.proofs.SeedLemmas.{cut_off_by_its_seed, cut_off_by_its_command, before_seeding}
use Rattle.tool_run.proofs.StatusLemmas.{has_status, is_read_fault, is_write_fault, is_bad_header, is_outside, is_bad_shard, is_absent, is_bad_trace, is_own_line, never_usage, store_left, for_source, before_reading}

-- `between` and `mid` are what the sink had counted and taken before the line was told
module _ (words : List (List ℕ)) (command : Command) (old new : Seen) (between : ℕ) (mid : Option (List ℕ)) (status : ℕ) (fault : Fault)
    (asked : Asks words command) (is : status ≡ status_of fault)
    (stopped : IsStopped command old.contents new.contents old.left (StoreFailed old new) (SourceFailed old new)
    old.sink_faults between old.taken mid fault) where
  not_result : status ≡ done → ⊥
  not_result e = not_done fault (sym is ∙ e)

  pub stopped_status : (Explained : Option (List ℕ) → Type 0) (name : List ℕ) → name ≡ image_name command → Explained (explanation_of fault)
      → Tells (line_of fault name) between new.sink_faults mid new.taken → old.sink_faults ≤ between → between ≤ new.sink_faults
      → (status ≢ write_fault → between ≡ old.sink_faults) → IsStatusOf words old new Explained status
  stopped_status Explained name named explained told low high stood = record {
    known = has_status fault status is;
    ok = λ e. absurd (not_result e);
    no_failed_write = λ e. absurd (not_result e);
    line = is_own_line words command old.contents new.contents old.left (StoreFailed old new) (SourceFailed old new) old.sink_faults between
        new.sink_faults old.taken mid new.taken status asked low high stood fault name stopped is told;
    usage = λ e. absurd (never_usage command old.contents new.contents old.left (StoreFailed old new) (SourceFailed old new) old.sink_faults between
        old.taken mid status fault stopped is e);
    read_fault = is_read_fault words command old.contents new.contents old.left (StoreFailed old new) (SourceFailed old new) old.sink_faults between
        new.sink_faults old.taken mid new.taken status asked low high stood fault stopped is;
    write_fault = is_write_fault words command old.contents new.contents old.left (StoreFailed old new) (SourceFailed old new) old.sink_faults between
        new.sink_faults old.taken mid new.taken status asked low high stood fault name stopped is told;
    absent = is_absent words command old.contents new.contents old.left (StoreFailed old new) (SourceFailed old new) old.sink_faults between
        new.sink_faults old.taken mid new.taken status asked low high stood fault name named stopped is told;
    cause = is_bad_header words command old.contents new.contents old.left (StoreFailed old new) (SourceFailed old new) old.sink_faults between
        new.sink_faults old.taken mid new.taken status asked low high stood fault name stopped is told;
    outside = is_outside words command old.contents new.contents old.left (StoreFailed old new) (SourceFailed old new) old.sink_faults between
        new.sink_faults old.taken mid new.taken status asked low high stood fault name stopped is told;
    bad_shard = is_bad_shard words command old.contents new.contents old.left (StoreFailed old new) (SourceFailed old new) old.sink_faults between
        new.sink_faults old.taken mid new.taken status asked low high stood fault name stopped is told;
    bad_trace = is_bad_trace words command old.contents new.contents old.left (StoreFailed old new) (SourceFailed old new) old.sink_faults between
        new.sink_faults old.taken mid new.taken status asked low high stood Explained fault name explained stopped is told;
  }

  pub stopped_store : new.calls ≡ with_status command (status_of fault) old.calls
      → (status ≢ read_fault → status ≢ write_fault → new.store_faults ≡ old.store_faults)
      → (new.store_faults ≡ old.store_faults) ⊎ (new.source_faults ≡ old.source_faults) → UsesStore words old new status
  stopped_store calls steady one = record {
    unchanged = store_left command old.contents new.contents old.left (StoreFailed old new) (SourceFailed old new) old.sink_faults between
        old.taken mid status fault stopped is;
    no_failed_call = steady;
    one_failed = one;
    no_call = λ none. absurd (none command asked);
    no_call_for_a_trace = never_called words command old.calls new.calls fault asked calls;
    one_get = λ name asks memory. looked_once words command old.calls new.calls fault asked calls name asks;
    get_and_put = put_once words command old.calls new.calls status fault asked calls is;
    get_alone = λ name asks other whole memory. got_alone words command old.calls new.calls status fault asked calls is name asks whole;
    get_or_none = λ name asks memory. got_or_not command old.calls new.calls status fault calls is memory;
    one_put = formatted_once words command old.calls new.calls status fault old.contents new.contents old.left (StoreFailed old new)
        (SourceFailed old new) old.sink_faults between old.taken mid asked calls is stopped;
    no_put = none_put words command old.calls new.calls status fault asked calls is;
  }

  pub stopped_source : {T : Type 0} (HasEnded : T → Type 0) (before after : T) → (¬ (ReadsSource command) → after ≡ before)
      → (IsBeforeReading command fault → after ≡ before)
      → ((at : ℕ) (has : HoldsOutside old.contents (image_name command) at) → RefusesOutside command has.bytes → after ≡ before)
      → GivesAtMost (longest_trace + 1) old.left new.left → (status ≢ read_fault → new.source_faults ≡ old.source_faults)
      → UsesSource words old new HasEnded before after status
  stopped_source HasEnded before after no_source unread image_first at_most steady = record {
    unread = λ none. no_source (λ reads. none (image_name command) (for_source words command reads asked));
    not_yet_read = λ early no_replay. unread (before_reading words command status fault asked is early no_replay);
    image_first = where_asked (after ≡ before) words command old.contents asked image_first;
    read_to_the_end = λ name asks whole. absurd (not_result whole);
    has_ended = λ name asks whole. absurd (not_result whole);
    read_at_most = at_most;
    no_failed_read = steady;
  }

  pub stopped_chances : {C One : Type 0} (seed_gives : C → ℕ → C → Type 0) (chance_gives : C → ℕ → One → C → Type 0) (draw_gives : One → ℕ → One
      → Type 0) (word_gives : C → ℕ → C → Type 0) (before after : C) (name : List ℕ)
      → Tells (line_of fault name) between new.sink_faults mid new.taken
      → (status_of fault ≡ write_fault → BeginBy seed_gives chance_gives word_gives (seed_of command) before after)
      → (status_of fault ≡ write_fault → IsCutOffWith (image_name command) old.contents new.contents (StoreFailed old new)
      old.sink_faults between old.taken mid (AsksOf seed_gives chance_gives draw_gives word_gives command old.contents old.left before after))
      → (IsBeforeSeeding command fault → after ≡ before) → (seed_of command ≡ None → after ≡ before)
      → UsesChances seed_gives chance_gives draw_gives word_gives words old new before after status
  stopped_chances seed_gives chance_gives draw_gives word_gives before after name told begun cut_off no_chance never = record {
    seeded = λ other asks. cut_off_by_its_seed seed_gives chance_gives word_gives words command other before after asked asks status fault is begun;
    asked = λ other asks whole. absurd (not_result whole);
    asked_cut_off = λ other asks. cut_off_by_its_command seed_gives chance_gives word_gives words command other before after asked asks draw_gives
        old.contents new.contents old.left (StoreFailed old new) old.sink_faults between new.sink_faults old.taken mid new.taken status fault name
        is told cut_off;
    no_chance = λ leaves no_replay. no_chance (before_seeding words command status fault asked is leaves no_replay);
    never_asked = λ none. never (none command asked);
  }

  pub stopped_complete : between ≤ new.sink_faults → IsComplete words old new status
  stopped_complete high = record {
    always_usage = λ none. absurd (none command asked);
    always_absent = stops_absent words command old.contents new.contents old.left (StoreFailed old new) (SourceFailed old new)
        old.sink_faults between old.taken mid status fault asked stopped is;
    always_cause = stops_malformed words command old.contents new.contents old.left (StoreFailed old new) (SourceFailed old new)
        old.sink_faults between old.taken mid status fault asked stopped is;
    always_outside = stops_outside words command old.contents new.contents old.left (StoreFailed old new) (SourceFailed old new)
        old.sink_faults between old.taken mid status fault asked stopped is;
    always_outside_left = stops_outside_left words command old.contents new.contents old.left old.taken mid status asked
        (StoreFailed old new) (SourceFailed old new) old.sink_faults between fault stopped is;
    always_bad_shard = stops_bad words command old.contents new.contents old.left (StoreFailed old new) (SourceFailed old new)
        old.sink_faults between old.taken mid status fault asked stopped is;
    always_bad_line = stops_bad_line words command old.contents new.contents old.left old.taken mid status asked
        (StoreFailed old new) (SourceFailed old new) old.sink_faults between fault stopped is;
    always_too_long = stops_too_long words command old.contents new.contents old.left old.taken mid status asked
        (StoreFailed old new) (SourceFailed old new) old.sink_faults between fault stopped is;
    always_bad_step = stops_bad_step words command old.contents new.contents old.left old.taken mid status asked
        (StoreFailed old new) (SourceFailed old new) old.sink_faults between fault stopped is;
    always_schedule_too_long = stops_schedule_too_long words command old.contents new.contents old.left old.taken mid status asked
        (StoreFailed old new) (SourceFailed old new) old.sink_faults between fault stopped is;
    complete = λ other asks can store source sink. stops_complete words command old.contents new.contents old.left (StoreFailed old new)
        (SourceFailed old new) old.sink_faults between old.taken mid status fault asked stopped is other asks can store source
        (λ once. sink (rose_by_then old.sink_faults between new.sink_faults once high));
  }
