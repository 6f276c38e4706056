-- What the chances are asked for, by the words and the status.
use Rattle.std.specs.Prelude.{◌≡◌, ◌⊎◌, ℕ, List, None}
use Rattle.tool_command.specs.Command.{Command, Asks, image_name}
use Rattle.tool_run.specs.Asking.{AsksOf, IsDoneWith, IsToldCutOff}
use Rattle.tool_run.specs.Outcome.{AsksForReplay}
use Rattle.tool_run.specs.Seeding.{seed_of, BeginBy}
use Rattle.tool_run.specs.Seen.{Seen, StoreFailed}
use Rattle.tool_run.specs.Status.{done, write_fault, outside, LeavesChances}

-- They begin by the seed that the words give, where a result was made, and are asked for what it needs: where a run or rebuild was
-- stopped, the image that was to be put has the words that they gave for what a crash leaves at random. What else a rebuild leaves is by
-- the numbers that its chance gave. `before` and `after` are the chances, of which the first four say what each call gives.
pub record UsesChances {C One : Type 0} (seed_gives : C → ℕ → C → Type 0) (chance_gives : C → ℕ → One → C → Type 0) (draw_gives : One → ℕ
    → One → Type 0) (word_gives : C → ℕ → C → Type 0)
    (words : List (List ℕ)) (old new : Seen) (before after : C) (status : ℕ) : Type 0 where
  -- a result is by the seed
  pub seeded : (command : Command) → Asks words command → (status ≡ done) ⊎ (status ≡ write_fault)
      → BeginBy seed_gives chance_gives word_gives (seed_of command) before after
  -- what is put and printed is by what they gave
  pub asked : (command : Command) → Asks words command → status ≡ done
      → IsDoneWith (image_name command) old.contents new.contents old.taken new.taken
      (AsksOf seed_gives chance_gives draw_gives word_gives command old.contents old.left before after)
  pub asked_cut_off : (command : Command) → Asks words command → status ≡ write_fault
      → IsToldCutOff (image_name command) old.contents new.contents (StoreFailed old new) old.sink_faults new.sink_faults old.taken new.taken
      (AsksOf seed_gives chance_gives draw_gives word_gives command old.contents old.left before after)
  -- they are as they were where there is no result, but for want of memory and a replay at 8
  pub no_chance : LeavesChances status → (status ≡ outside → (name : List ℕ) → ¬ (AsksForReplay words name)) → after ≡ before
  -- and so they are where there is no seed
  pub never_asked : ((command : Command) → Asks words command → seed_of command ≡ None) → after ≡ before
