-- A call whose command was carried out: its status is 0.
use Rattle.std.proofs.Common.{◌≡◌, ℕ, ◌+◌, List, Option, None, IfSome, Contains, inl, lit<, refl, sym, ap, subst, ◌∙◌, arith}
use Rattle.tool_ports.specs.Calls.{with_get, with_put}
use Rattle.tool_ports.specs.Left.{IsAtEnd, GivesAtMost}
use Rattle.tool_ports.specs.declared.store_calls.StoreCalls.{StoreCalls}
use Rattle.tool_command.specs.Command.{Command, Asks, AsksToFormat, AsksToGen, format_image, gen_trace, image_name}
use Rattle.tool_command.proofs.OneCommandLemmas.{one_command}
use Rattle.tool_run.specs.Asking.{AsksOf, IsDoneWith}
use Rattle.tool_run.specs.Calls.{get_limit, with_command}
use Rattle.tool_run.specs.ChancesUse.{UsesChances}
use Rattle.tool_run.specs.Completeness.{IsComplete}
use Rattle.tool_run.specs.Inside.{IsCarriedOut}
use Rattle.tool_run.specs.Making.{longest_trace}
use Rattle.tool_run.specs.CommandUses.{PutsBack, ReadsSource, RefusesOutside}
use Rattle.tool_run.specs.Outcome.{HoldsOutside, AsksToPutBack, AsksForSource}
use Rattle.tool_run.specs.Seeding.{seed_of, BeginBy}
use Rattle.tool_run.specs.Seen.{Seen, IsTold}
use Rattle.tool_run.specs.SourceUse.{UsesSource}
use Rattle.tool_run.specs.Status.{done, statuses, own_line}
use Rattle.tool_run.specs.Statuses.{IsStatusOf}
use Rattle.tool_run.specs.StoreUse.{UsesStore}
use Rattle.tool_run.proofs.AbsentLemmas.{not_done_absent}
use Rattle.tool_run.proofs.BadScheduleLemmas.{done_bad_step, done_schedule_too_long}
use Rattle.tool_run.proofs.BadShardLemmas.{not_done_bad}
use Rattle.tool_run.proofs.BadTraceLemmas.{done_bad_line, done_too_long}
use Rattle.tool_run.proofs.CallLemmas.{put_back}
use Rattle.tool_run.proofs.MalformedLemmas.{not_done_malformed}
use Rattle.tool_run.proofs.OutsideLeftLemmas.{done_outside_left}
use Rattle.tool_run.proofs.OutsideLemmas.{not_done, where_asked}
use Rattle.tool_run.proofs.PutBackLemmas.{carried_once}
use Rattle.tool_run.proofs.SeedLemmas.{by_its_command, by_its_seed}
use Rattle.tool_run.proofs.StatusLemmas.{for_source, done_is_later}

-- what is so where the command reads the source is so where the words ask for one that does
pub where_read : (P : Type 0) (words : List (List ℕ)) (command : Command) → Asks words command → (ReadsSource command → P)
    → (name : List ℕ) → AsksForSource words name → P
where_read P words command asked comes name asks =
    comes (subst (λ (c : Command). ReadsSource c) (one_command words asks.command command asks.asked asked) asks.reads)

module _ (words : List (List ℕ)) (command : Command) (before after : StoreCalls) (asked : Asks words command)
    (calls : after ≡ with_command command before) where
  -- a command that puts an image back gets once, and puts once
  put_back_once : (name : List ℕ) → AsksToPutBack words name → after ≡ with_put (with_get get_limit before)
  put_back_once name asks =
      calls ∙ (put_back command before (subst PutsBack (one_command words asks.command command asks.asked asked) asks.puts)).1

  -- a trace that is made calls for nothing
  none_called : (requests seed : ℕ) → AsksToGen words requests seed → after ≡ before
  none_called requests seed asks =
      calls ∙ ap (λ (c : Command). with_command c before) (one_command words command (gen_trace requests seed) asked asks)

  -- an empty image is put once
  put_alone : (image : List ℕ) (capacity : ℕ) → AsksToFormat words image capacity → after ≡ with_put before
  put_alone image capacity asks =
      calls ∙ ap (λ (c : Command). with_command c before) (one_command words command (format_image image capacity) asked asks)

module _ (words : List (List ℕ)) (command : Command) (old new : Seen) (status : ℕ) (is : status ≡ done) (asked : Asks words command) where
  pub carried_status : (Explained : Option (List ℕ) → Type 0)
      → IsCarriedOut command old.contents new.contents old.left old.taken new.taken
      → new.sink_faults ≡ old.sink_faults → IsStatusOf words old new Explained status
  carried_status Explained carried written = record {
    known = subst (λ n. Contains statuses n) (sym is) (0, lit< tt, refl);
    ok = λ e. record {
      command = command;
      asked = asked;
      image = carried.image;
      text = carried.text;
      made = carried.made;
      stored = carried.delivered.stored;
      printed = carried.delivered.printed;
    };
    no_failed_write = λ e. written;
    line = subst (λ n. IfSome (own_line n) (IsTold old new)) (sym is) tt;
    usage = λ e. absurd (omega (arith, is, e));
    read_fault = λ e. absurd (omega (arith, is, e));
    write_fault = λ e. absurd (omega (arith, is, e));
    absent = λ e. absurd (omega (arith, is, e));
    cause = λ e. absurd (omega (arith, is, e));
    outside = λ e. absurd (omega (arith, is, e));
    bad_shard = λ e. absurd (omega (arith, is, e));
    bad_trace = λ e. absurd (omega (arith, is, e));
  }

  pub carried_store : new.calls ≡ with_command command old.calls → new.store_faults ≡ old.store_faults → UsesStore words old new status
  carried_store calls steady = record {
    unchanged = λ leaves. absurd (leaves.refused is);
    no_failed_call = λ read write. steady;
    one_failed = inl steady;
    no_call = λ none. absurd (none command asked);
    no_call_for_a_trace = none_called words command old.calls new.calls asked calls;
    one_get = λ name asks memory. carried_once words command old.calls new.calls asked calls name asks;
    get_and_put = λ name asks ended. put_back_once words command old.calls new.calls asked calls name asks;
    get_alone = λ name asks other cut memory. absurd (other is);
    get_or_none = λ name asks memory. absurd (omega (arith, is, memory));
    one_put = λ image capacity asks memory. put_alone words command old.calls new.calls asked calls image capacity asks;
    no_put = λ image capacity asks memory. absurd (omega (arith, is, memory));
  }

  pub carried_source : {T : Type 0} (HasEnded : T → Type 0) (before after : T) → (¬ (ReadsSource command) → after ≡ before)
      → ((at : ℕ) (has : HoldsOutside old.contents (image_name command) at) → RefusesOutside command has.bytes → after ≡ before)
      → (ReadsSource command → IsAtEnd new.left) → (ReadsSource command → HasEnded after)
      → GivesAtMost (longest_trace + 1) old.left new.left → new.source_faults ≡ old.source_faults
      → UsesSource words old new HasEnded before after status
  carried_source HasEnded before after no_source image_first end ended at_most steady = record {
    unread = λ none. no_source (λ reads. none (image_name command) (for_source words command reads asked));
    not_yet_read = λ early no_replay. absurd (done_is_later status early is);
    image_first = where_asked (after ≡ before) words command old.contents asked image_first;
    read_to_the_end = λ name asks whole. where_read (IsAtEnd new.left) words command asked end name asks;
    has_ended = λ name asks whole. where_read (HasEnded after) words command asked ended name asks;
    read_at_most = at_most;
    no_failed_read = λ other. steady;
  }

  pub carried_chances : {C One : Type 0} (seed_gives : C → ℕ → C → Type 0) (chance_gives : C → ℕ → One → C → Type 0) (draw_gives : One → ℕ → One
      → Type 0) (word_gives : C → ℕ → C → Type 0) (before after : C)
      → BeginBy seed_gives chance_gives word_gives (seed_of command) before after
      → IsDoneWith (image_name command) old.contents new.contents old.taken new.taken
      (AsksOf seed_gives chance_gives draw_gives word_gives command old.contents old.left before after)
      → (seed_of command ≡ None → after ≡ before)
      → UsesChances seed_gives chance_gives draw_gives word_gives words old new before after status
  carried_chances seed_gives chance_gives draw_gives word_gives before after begun asked_so never = record {
    seeded = λ other asks ended. by_its_seed seed_gives chance_gives word_gives words command other before after asked asks begun;
    asked = λ other asks whole. by_its_command seed_gives chance_gives word_gives words command other before after asked asks draw_gives
        old.contents new.contents old.left old.taken new.taken asked_so;
    asked_cut_off = λ other asks cut. absurd (omega (arith, is, cut));
    no_chance = λ leaves no_replay. absurd (leaves.refused is);
    never_asked = λ none. never (none command asked);
  }

  pub carried_complete : IsCarriedOut command old.contents new.contents old.left old.taken new.taken → IsComplete words old new status
  carried_complete carried = record {
    always_usage = λ none. absurd (none command asked);
    always_absent = not_done_absent words command old.contents new.contents old.left old.taken new.taken status asked carried;
    always_cause = not_done_malformed words command old.contents new.contents old.left old.taken new.taken status asked carried;
    always_outside = not_done words command old.contents new.contents old.left old.taken new.taken status asked carried;
    always_outside_left = done_outside_left words command old.contents new.contents old.left old.taken new.taken status asked carried;
    always_bad_shard = not_done_bad words command old.contents new.contents old.left old.taken new.taken status asked carried;
    always_bad_line = done_bad_line words command old.contents new.contents old.left old.taken new.taken status asked carried;
    always_too_long = done_too_long words command old.contents new.contents old.left old.taken new.taken status asked carried;
    always_bad_step = done_bad_step words command old.contents new.contents old.left old.taken new.taken status asked carried;
    always_schedule_too_long = done_schedule_too_long words command old.contents new.contents old.left old.taken new.taken status asked carried;
    complete = λ other asks can store source sink. inl is;
  }
