-- Jobs that are given their chances in turn, and the workers to whom chances are dealt by that.
use Rattle.std.proofs.Common.{◌≡◌, ℕ, suc, ◌+◌, ◌<◌, List, [], ◌∷◌, ◌++◌, get_or, length, refl, subst, sym, ◌∙◌, arith}
use Rattle.worker_parts.specs.declared.beginning.Job.{Job}
use Rattle.run_rows.specs.Turns.{AreInTurn}
use Rattle.shared_run.specs.Dealt.{AreGiven, AreDealt}

module _ {C One : Type 0} (chance_gives : C → ℕ → One → C → Type 0) where
  -- no job, no chance
  pub given_none : (old : C) (jobs : List (Job One)) → jobs ≡ [] → AreGiven chance_gives old jobs old
  given_none old jobs none = subst (λ (js : List (Job One)). AreGiven chance_gives old js old) (sym none) refl

  -- a job more at the end
  given_push : (old mid new : C) (jobs : List (Job One)) (job : Job One) → AreGiven chance_gives old jobs mid
      → chance_gives mid job.worker.number job.chance new
      → AreGiven chance_gives old (jobs ++ (job ∷ [])) new
  given_push old mid new [] job given gives = (new, subst (λ (c : C). chance_gives c job.worker.number job.chance new) given gives, refl)
  given_push old mid new (first ∷ rest) job given gives = (given.0, given.1, given_push given.0 mid new rest job given.2 gives)

  pub given_more : (old mid new : C) (jobs now : List (Job One)) (job : Job One) → now ≡ jobs ++ (job ∷ []) → AreGiven chance_gives old jobs mid
      → chance_gives mid job.worker.number job.chance new → AreGiven chance_gives old now new
  given_more old mid new jobs now job is given gives =
      subst (λ (js : List (Job One)). AreGiven chance_gives old js new) (sym is) (given_push old mid new jobs job given gives)

  -- where each job's worker has the number of the jobs behind it
  dealt_by_number : (old new : C) (jobs : List (Job One)) → ((i : ℕ) (any : Job One) → i < length jobs
      → (get_or jobs i any).worker.number + i + 1 ≡ length jobs)
      → AreGiven chance_gives old jobs new → AreDealt chance_gives old (length jobs) new
  dealt_by_number old new [] numbers given = given
  dealt_by_number old new (job ∷ rest) numbers given =
      let long : length (job ∷ rest) ≡ suc (length rest) = refl in
      let first : job.worker.number + 0 + 1 ≡ suc (length rest) = numbers 0 job (omega arith) in
      let number : job.worker.number ≡ length rest = omega arith in
      let behind : (i : ℕ) (any : Job One) → i < length rest → (get_or rest i any).worker.number + i + 1 ≡ length rest =
      λ i any below. let here : (get_or rest i any).worker.number + suc i + 1 ≡ suc (length rest) = numbers (suc i) any (omega arith) in
      omega arith in (
        job.chance,
        given.0,
        subst (λ n. chance_gives old n job.chance given.0) number given.1,
        dealt_by_number given.0 new rest behind given.2,
      )

  -- so many workers in their turn
  pub dealt_in_turn : (old new : C) (jobs : List (Job One)) (workers : ℕ) → length jobs ≡ workers
      → AreInTurn (λ (job : Job One). job.worker) workers jobs
      → AreGiven chance_gives old jobs new → AreDealt chance_gives old workers new
  dealt_in_turn old new jobs workers count turns given =
      subst (λ n. AreDealt chance_gives old n new) count
      (dealt_by_number old new jobs (λ i any below. (turns.each i any below).1 ∙ sym count) given)
