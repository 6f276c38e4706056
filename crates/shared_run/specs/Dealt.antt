-- What the workers of a run, and a crash of it, ask of the chances.
use Rattle.std.specs.Prelude.{◌≡◌, ℕ, zero, suc, Bool, true, false, List, [], ◌∷◌, map}
use Rattle.heap_model.specs.Image.{Image}
use Rattle.crash_image.specs.Crash.{GivesAll, transient_words}
use Rattle.worker_parts.specs.declared.beginning.Job.{Job}

-- job by job the chances were asked for the chance of its worker, by that one's number, and it is the job's
abbrev pub AreGiven : {C One : Type 0} → (C → ℕ → One → C → Type 0) → C → List (Job One) → C → Type 0
AreGiven chance_gives old [] new = new ≡ old
AreGiven {C} chance_gives old (job ∷ jobs) new = (next : C) × chance_gives old job.worker.number job.chance next × AreGiven chance_gives next jobs new

-- the chances were asked for the chance of each worker below this number once, by its own number, the last one first
abbrev pub AreDealt : {C One : Type 0} → (C → ℕ → One → C → Type 0) → C → ℕ → C → Type 0
AreDealt chance_gives old zero new = new ≡ old
AreDealt {C} {One} chance_gives old (suc last) new = (chance : One) × (next : C) × chance_gives old last chance next
    × AreDealt chance_gives next last new

-- the chances were asked for a chance for each of the workers and then, where the run was stopped, for the list heads,
-- anchors and links of the image that is left, in the order of word index
pub record DealsThenScrambles {C One : Type 0} (chance_gives : C → ℕ → One → C → Type 0) (word_gives : C → ℕ → C → Type 0)
    (workers : ℕ) (stopped : Bool) (capacity : ℕ) (left : Image) (old new : C) : Type 0 where
  pub dealt : C
  pub workers_first : AreDealt chance_gives old workers dealt
  pub then_nothing : stopped ≡ false → new ≡ dealt
  pub then_words : stopped ≡ true → GivesAll word_gives dealt (map left (transient_words capacity)) new
