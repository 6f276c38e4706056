-- What is so of a call of the tool is so by equal words and by an equal status, and where help was told behind it.
use Rattle.std.proofs.Common.{◌≡◌, ℕ, List, Option, sym, subst}
use Rattle.tool_run.specs.ChancesUse.{UsesChances}
use Rattle.tool_run.specs.Completeness.{IsComplete}
use Rattle.tool_run.specs.Lines.{Explains}
use Rattle.tool_run.specs.Outcome.{IsBadTrace}
use Rattle.tool_run.specs.Seen.{Seen, IsTold}
use Rattle.tool_run.specs.SourceUse.{UsesSource}
use Rattle.tool_run.specs.Status.{bad_trace}
use Rattle.tool_run.specs.Statuses.{IsStatusOf}
use Rattle.tool_run.specs.StoreUse.{UsesStore}
use Rattle.tool_program.specs.Errors.{TellsHelp}

-- what holds of words and a status holds of equal ones
by_equal : (P : List (List ℕ) → ℕ → Type 0) (words words' : List (List ℕ)) (status status' : ℕ) → words ≡ words' → status' ≡ status
    → P words status → P words' status'
by_equal P words words' status status' same equal holds =
    subst (λ (s : ℕ). P words' s) (sym equal) (subst (λ (ws : List (List ℕ)). P ws status) same holds)

module _ (words words' : List (List ℕ)) (old new : Seen) (status status' : ℕ) (same : words ≡ words') (equal : status' ≡ status) where
  pub status_by : (Explained : Option (List ℕ) → Type 0) → IsStatusOf words old new Explained status → IsStatusOf words' old new Explained status'
  status_by Explained = by_equal (λ ws s. IsStatusOf ws old new Explained s) words words' status status' same equal

  pub store_by : UsesStore words old new status → UsesStore words' old new status'
  store_by = by_equal (λ ws s. UsesStore ws old new s) words words' status status' same equal

  pub source_by : {T : Type 0} (HasEnded : T → Type 0) (before after : T) → UsesSource words old new HasEnded before after status
      → UsesSource words' old new HasEnded before after status'
  source_by HasEnded before after = by_equal (λ ws s. UsesSource ws old new HasEnded before after s) words words' status status' same equal

  pub chances_by : {C One : Type 0} (seed_gives : C → ℕ → C → Type 0) (chance_gives : C → ℕ → One → C → Type 0) (draw_gives : One → ℕ → One
      → Type 0) (word_gives : C → ℕ → C → Type 0) (before after : C)
      → UsesChances seed_gives chance_gives draw_gives word_gives words old new before after status
      → UsesChances seed_gives chance_gives draw_gives word_gives words' old new before after status'
  chances_by seed_gives chance_gives draw_gives word_gives before after =
      by_equal (λ ws s. UsesChances seed_gives chance_gives draw_gives word_gives ws old new before after s) words words' status status' same equal

  pub complete_by : IsComplete words old new status → IsComplete words' old new status'
  complete_by = by_equal (λ ws s. IsComplete ws old new s) words words' status status' same equal

-- what was said of a trace stands where nothing was said behind it
pub explained_since : {H : Type 0} (faults : H → ℕ) (taken : H → Option (List ℕ)) (old mid new : H) (words : List (List ℕ)) (before after : Seen)
    (status : ℕ) → (status ≡ bad_trace → new ≡ mid) → IsStatusOf words before after (Explains faults taken old mid) status
    → IsStatusOf words before after (Explains faults taken old new) status
explained_since {H} faults taken old mid new words before after status same is = record {
  known = is.known;
  ok = is.ok;
  no_failed_write = is.no_failed_write;
  line = is.line;
  usage = is.usage;
  read_fault = is.read_fault;
  write_fault = is.write_fault;
  absent = is.absent;
  cause = is.cause;
  outside = is.outside;
  bad_shard = is.bad_shard;
  bad_trace = λ ten. subst (λ (h : H). IsBadTrace words before.contents before.left (IsTold before after) (Explains faults taken old h))
      (sym (same ten)) (is.bad_trace ten);
}

-- and the help where nothing was said before it
pub help_since : {H : Type 0} (faults : H → ℕ) (taken : H → Option (List ℕ)) (old mid new : H) → mid ≡ old
    → TellsHelp (faults mid) (faults new) (taken mid) (taken new) → TellsHelp (faults old) (faults new) (taken old) (taken new)
help_since {H} faults taken old mid new same told = subst (λ (h : H). TellsHelp (faults h) (faults new) (taken h) (taken new)) same told
