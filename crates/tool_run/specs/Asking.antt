-- What the chances of a command are asked for, said of what it puts and prints.
use Rattle.std.specs.Prelude.{◌≡◌, ℕ, List, Option, Some}
use Rattle.heap_model.specs.declared.block.Block.{Block}
use Rattle.image_run.specs.Rebuilding.{RebuildAsks}
use Rattle.image_run.specs.Replaying.{ReplayAsks}
use Rattle.image_run.specs.Running.{Options, RunAsks}
use Rattle.tool_command.specs.Command.{Command, format_image, show_image, drain_image, gen_trace, run_image, rebuild_image, replay_image, conservative_image, count_image}
use Rattle.tool_ports.specs.Contents.{Contents, Holds}
use Rattle.trace_text.specs.declared.schedule.Schedule.{Schedule}
use Rattle.tool_run.specs.Inside.{IsDelivered}
use Rattle.tool_run.specs.Lines.{Tells, write_line}
use Rattle.tool_run.specs.Making.{HasHeap, HasSchedule, image_in}
use Rattle.tool_run.specs.Outcome.{IsCutOff}

-- of a drain: they began anew by the seed 0, and one chance was asked for, by the number 0
pub record DrainAsks {C One : Type 0} (seed_gives : C → ℕ → C → Type 0) (chance_gives : C → ℕ → One → C → Type 0) (old new : C) : Type 0 where
  pub begun : C
  pub anew : seed_gives old 0 begun
  pub chance : One
  pub asked : chance_gives begun 0 chance new

-- of a run over a named image that puts these bytes
pub record NamedRunAsks {C One : Type 0} (seed_gives : C → ℕ → C → Type 0) (chance_gives : C → ℕ → One → C → Type 0) (word_gives : C → ℕ → C → Type 0)
    (contents : Contents) (name : List ℕ) (options : Options) (old new : C) (put : Option (List ℕ)) : Type 0 where
  pub bytes : List ℕ
  pub is_there : Holds contents name bytes
  pub image : List ℕ
  pub put_is : put ≡ Some image
  pub asks : RunAsks seed_gives chance_gives word_gives (image_in bytes) options image old new

-- of a rebuild of a named image, with so many steps, that puts these bytes and prints this text
pub record NamedRebuildAsks {C One : Type 0} (seed_gives : C → ℕ → C → Type 0) (chance_gives : C → ℕ → One → C → Type 0) (draw_gives : One → ℕ
    → One → Type 0) (word_gives : C → ℕ → C → Type 0)
    (contents : Contents) (name : List ℕ) (budget seed : ℕ) (old new : C) (put : Option (List ℕ)) (text : List ℕ) : Type 0 where
  pub bytes : List ℕ
  pub is_there : Holds contents name bytes
  pub image : List ℕ
  pub put_is : put ≡ Some image
  pub asks : RebuildAsks seed_gives chance_gives draw_gives word_gives (image_in bytes) budget seed image text old new

-- of a replay over a named image of the schedule that the source has left, which prints this text
pub record NamedReplayAsks {C : Type 0} (seed_gives word_gives : C → ℕ → C → Type 0) (contents : Contents) (left : Option (List ℕ))
    (name : List ℕ) (seed : ℕ)
    (old new : C) (text : List ℕ) : Type 0 where
  pub words : List ℕ
  pub held : List Block
  pub heap : HasHeap contents name words held
  pub schedule : Schedule
  pub has_schedule : HasSchedule left schedule
  pub asks : ReplayAsks seed_gives word_gives words held schedule.seats schedule.lines.items seed text old new

-- What the chances of a command are asked for, from the old ones to the new, where it puts these bytes, if any, and
-- prints this text. A command that has no seed
-- asks for nothing.
abbrev pub AsksOf : {C One : Type 0} → (C → ℕ → C → Type 0) → (C → ℕ → One → C → Type 0) → (One → ℕ → One → Type 0) → (C → ℕ → C → Type 0)
    → Command → Contents → Option (List ℕ) → C → C
    → Option (List ℕ) → List ℕ → Type 0
AsksOf seed_gives chance_gives draw_gives word_gives (format_image image capacity) contents left old new put text = new ≡ old
AsksOf seed_gives chance_gives draw_gives word_gives (show_image image with_map in_parallel) contents left old new put text = new ≡ old
AsksOf seed_gives chance_gives draw_gives word_gives (drain_image image class) contents left old new put text =
    DrainAsks seed_gives chance_gives old new
AsksOf seed_gives chance_gives draw_gives word_gives (gen_trace requests seed) contents left old new put text = new ≡ old
AsksOf seed_gives chance_gives draw_gives word_gives (run_image image options) contents left old new put text =
    NamedRunAsks seed_gives chance_gives word_gives contents image options old new put
AsksOf seed_gives chance_gives draw_gives word_gives (rebuild_image image budget seed) contents left old new put text =
    NamedRebuildAsks seed_gives chance_gives draw_gives word_gives contents image budget seed old new put text
AsksOf seed_gives chance_gives draw_gives word_gives (replay_image image seed) contents left old new put text =
    NamedReplayAsks seed_gives word_gives contents left image seed old new text
AsksOf seed_gives chance_gives draw_gives word_gives (conservative_image image with_map) contents left old new put text = new ≡ old
AsksOf seed_gives chance_gives draw_gives word_gives (count_image image with_map) contents left old new put text = new ≡ old

-- an image, if any, was put under the name, and a text was printed, of which this holds
pub record IsDoneWith (name : List ℕ) (old new : Contents) (taken taken' : Option (List ℕ)) (holds : Option (List ℕ) → List ℕ → Type 0) : Type 0 where
  pub image : Option (List ℕ)
  pub text : List ℕ
  pub is : holds image text
  pub delivered : IsDelivered name image text old new taken taken'

-- an image, if any, and a text were made, of which this holds, and putting and printing them was cut off
pub record IsCutOffWith (name : List ℕ) (old new : Contents) (store_failed : Type 0) (faults between : ℕ) (taken taken' : Option (List ℕ))
    (holds : Option (List ℕ) → List ℕ → Type 0) : Type 0 where
  pub image : Option (List ℕ)
  pub text : List ℕ
  pub is : holds image text
  pub cut_off : IsCutOff name image text old new store_failed faults between taken taken'

-- and the line on that was tried after it: `before` and `between` are what the sink had taken and counted by then
pub record IsToldCutOff (name : List ℕ) (old new : Contents) (store_failed : Type 0) (faults faults' : ℕ) (taken taken' : Option (List ℕ))
    (holds : Option (List ℕ) → List ℕ → Type 0) : Type 0 where
  pub before : Option (List ℕ)
  pub between : ℕ
  pub cut : IsCutOffWith name old new store_failed faults between taken before holds
  pub told : Tells write_line between faults' before taken'
