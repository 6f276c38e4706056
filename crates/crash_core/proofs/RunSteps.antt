-- What a list of events makes of each state that the core stands for, an event at a time.
use Rattle.std.proofs.Common.{◌≡◌, ℕ, suc, ◌+◌, ◌<◌, ◌≤◌, List, [], ◌∷◌, ◌++◌, get_or, length, take, take_all, refl, ap, sym, subst, ◌∙◌, arith}
use Rattle.std.proofs.Math.Seq.{take-suc}
use Rattle.core_model.specs.declared.answer.StepAnswer.{StepAnswer}
use Rattle.core_model.specs.declared.event.Event.{Event}
use Rattle.crash_core.specs.declared.state.CoreState.{CoreState}
use Rattle.core_model.specs.View.{Setup}
use Rattle.core_model.specs.Steps.{TableState, StepsTo, Runs}
use Rattle.crash_core.specs.Standing.{IsStanding, Follows, RunsOn}
use Rattle.crash_core.proofs.StandingLemmas.{among}

-- one event more
runs_more : (k : Setup) (s : TableState) (events : List (ℕ × Event)) (answers : List StepAnswer) (mid : TableState) (e : ℕ × Event)
    (answer : StepAnswer) (next : TableState) → Runs k s events answers mid → e.0 < length mid.views
    → StepsTo k mid e.0 e.1 answer next → Runs k s (events ++ e ∷ []) (answers ++ answer ∷ []) next
runs_more k s [] [] mid e answer next runs below steps = (
  next,
  subst (λ x. e.0 < length x.views) (sym runs) below,
  subst (λ x. StepsTo k x e.0 e.1 answer next) (sym runs) steps,
  refl,
)
runs_more k s [] (a ∷ answers) mid e answer next runs below steps = absurd runs
runs_more k s (d ∷ events) [] mid e answer next runs below steps = absurd runs
runs_more k s (d ∷ events) (a ∷ answers) mid e answer next runs below steps =
    (runs.0, runs.1, runs.2, runs_more k runs.0 events answers mid e answer next runs.3 below steps)

pub runs_none : (c : CoreState) → RunsOn c [] [] c
runs_none c = λ k s stands. (s, refl, stands)

pub runs_on : (old mid new : CoreState) (events : List (ℕ × Event)) (answers : List StepAnswer) (e : ℕ × Event) (answer : StepAnswer)
    → RunsOn old events answers mid → e.0 < length mid.seats.items → Follows mid e.0 e.1 answer new
    → RunsOn old (events ++ e ∷ []) (answers ++ answer ∷ []) new
runs_on old mid new events answers e answer runs below follows = λ k s stands. let half = runs k s stands in let next = follows k half.0 half.2 in
    (next.0, runs_more k s events answers half.0 e answer next.0 half.1 (among half.2.keeps below) next.1, next.2)

-- a core that has run some events
pub record IsRunning (old now : CoreState) (events : List (ℕ × Event)) (answers : List StepAnswer) : Type 0 where
  pub core : IsStanding now
  pub seats : length now.seats.items ≡ length old.seats.items
  pub runs : RunsOn old events answers now

pub running_on : (old mid new : CoreState) (events : List (ℕ × Event)) (answers : List StepAnswer) (i : ℕ) (e : ℕ × Event) (answer : StepAnswer)
    → IsRunning old mid (take i events) answers → i < length events
    → get_or events i e ≡ e → e.0 < length mid.seats.items → Follows mid e.0 e.1 answer new → IsStanding new
    → length new.seats.items ≡ length mid.seats.items → IsRunning old new (take (i + 1) events) (answers ++ answer ∷ [])
running_on old mid new events answers i e answer running less at below follows core seats = record {
  core = core;
  seats = seats ∙ running.seats;
  runs = subst (λ es. RunsOn old es (answers ++ answer ∷ []) new)
      (sym (ap (λ n. take n events) one ∙ take-suc events i e less ∙ ap (λ x. take i events ++ x ∷ []) at))
      (runs_on old mid new (take i events) answers e answer running.runs below follows);
} where
  one : i + 1 ≡ suc i
  one = omega arith

pub running_whole : (old new : CoreState) (events : List (ℕ × Event)) (answers : List StepAnswer) (i : ℕ)
    → IsRunning old new (take i events) answers → length events ≤ i → RunsOn old events answers new
running_whole old new events answers i running past = subst (λ es. RunsOn old es answers new) (take_all i events past) running.runs
