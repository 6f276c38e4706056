-- The forms of words that the program's table tells, and the command that each asks for.
use Rattle.std.specs.Prelude.{◌≡◌, ◌≢◌, ℕ, ◌<◌, ◌≤◌, ◌^◌, Bool, if◌then◌else◌, List, [], ◌∷◌, ◌++◌, codes, decimal, length, slice_index, Option, None, Some, unwrap_or}
use Rattle.heap_model.specs.Geometry.{largest_capacity}
use Rattle.heap_model.specs.Sizes.{IsClass}
use Rattle.image_run.specs.Running.{Options}
use Rattle.image_run.specs.declared.options.TheConstants.{MOST_WORKERS, MOST_BUDGET}
use Rattle.tool_command.specs.declared.trace_plan.TheConstants.{MOST_REQUESTS, GREATEST_SEED}
use Rattle.tool_command.specs.Command.{Command, format_image, show_image, drain_image, gen_trace, run_image, rebuild_image, replay_image, conservative_image, count_image}

-- a name that is not empty, and does not begin with a hyphen (45)
pub record IsImageWord (word : List ℕ) : Type 0 where
  pub some : 0 < length word
  pub no_option : slice_index word 0 ≢ 45

-- an option and its number, or no words where it is left out
abbrev pub number_words : List ℕ → Option ℕ → List (List ℕ)
number_words option None = []
number_words option (Some number) = option ∷ decimal number ∷ []

-- an option without a value, or no words where it is left out
abbrev pub flag_words : List ℕ → Bool → List (List ℕ)
flag_words option given = if given then option ∷ [] else []

-- 'format IMAGE S'
pub record IsFormatForm (words : List (List ℕ)) (image : List ℕ) (capacity : ℕ) : Type 0 where
  pub words_are : words ≡ codes "format" ∷ image ∷ decimal capacity ∷ []
  pub named : IsImageWord image
  pub least : 1 ≤ capacity
  pub most : capacity ≤ largest_capacity

-- 'show IMAGE [--map] [--par]'
pub record IsShowForm (words : List (List ℕ)) (image : List ℕ) (with_map in_parallel : Bool) : Type 0 where
  pub words_are : words ≡ codes "show" ∷ image ∷ (flag_words (codes "--map") with_map ++ flag_words (codes "--par") in_parallel)
  pub named : IsImageWord image

-- 'drain IMAGE CLASS'
pub record IsDrainForm (words : List (List ℕ)) (image : List ℕ) (class : ℕ) : Type 0 where
  pub words_are : words ≡ codes "drain" ∷ image ∷ decimal class ∷ []
  pub named : IsImageWord image
  pub is_class : IsClass class

-- 'gen N SEED'
pub record IsGenForm (words : List (List ℕ)) (requests seed : ℕ) : Type 0 where
  pub words_are : words ≡ codes "gen" ∷ decimal requests ∷ decimal seed ∷ []
  pub few : requests ≤ MOST_REQUESTS
  pub small : seed ≤ GREATEST_SEED

-- 'run IMAGE --workers N [--stop K] [--seed X] [--sum] [--map]': without K the budget is the greatest, without X the seed 0
pub record IsRunForm (words : List (List ℕ)) (image : List ℕ) (options : Options) : Type 0 where
  pub stop : Option ℕ
  pub seed : Option ℕ
  pub words_are : words ≡ codes "run" ∷ image ∷ codes "--workers" ∷ decimal options.workers
      ∷ (number_words (codes "--stop") stop ++ number_words (codes "--seed") seed
      ++ flag_words (codes "--sum") options.with_sum ++ flag_words (codes "--map") options.with_map)
  pub named : IsImageWord image
  pub some : 1 ≤ options.workers
  pub few : options.workers ≤ MOST_WORKERS
  pub within : options.budget ≡ unwrap_or stop MOST_BUDGET
  pub below : options.budget ≤ MOST_BUDGET
  pub seeded : options.seed ≡ unwrap_or seed 0
  pub fits : options.seed < 2 ^ 64

-- 'rebuild IMAGE [--stop K] [--seed X]', as of 'run'
pub record IsRebuildForm (words : List (List ℕ)) (image : List ℕ) (budget chance_seed : ℕ) : Type 0 where
  pub stop : Option ℕ
  pub seed : Option ℕ
  pub words_are : words ≡ codes "rebuild" ∷ image ∷ (number_words (codes "--stop") stop ++ number_words (codes "--seed") seed)
  pub named : IsImageWord image
  pub within : budget ≡ unwrap_or stop MOST_BUDGET
  pub below : budget ≤ MOST_BUDGET
  pub seeded : chance_seed ≡ unwrap_or seed 0
  pub fits : chance_seed < 2 ^ 64

-- 'replay IMAGE [--seed X]'
pub record IsReplayForm (words : List (List ℕ)) (image : List ℕ) (chance_seed : ℕ) : Type 0 where
  pub seed : Option ℕ
  pub words_are : words ≡ codes "replay" ∷ image ∷ number_words (codes "--seed") seed
  pub named : IsImageWord image
  pub seeded : chance_seed ≡ unwrap_or seed 0
  pub fits : chance_seed < 2 ^ 64

-- 'conservative IMAGE [--map]'
pub record IsConservativeForm (words : List (List ℕ)) (image : List ℕ) (with_map : Bool) : Type 0 where
  pub words_are : words ≡ codes "conservative" ∷ image ∷ flag_words (codes "--map") with_map
  pub named : IsImageWord image

-- 'count IMAGE [--map]'
pub record IsCountForm (words : List (List ℕ)) (image : List ℕ) (with_map : Bool) : Type 0 where
  pub words_are : words ≡ codes "count" ∷ image ∷ flag_words (codes "--map") with_map
  pub named : IsImageWord image

-- the words are of the form of this command: the parts in the order of the table, numbers in their ranges and without leading zeros
abbrev pub IsForm : List (List ℕ) → Command → Type 0
IsForm words (format_image image capacity) = IsFormatForm words image capacity
IsForm words (show_image image with_map in_parallel) = IsShowForm words image with_map in_parallel
IsForm words (drain_image image class) = IsDrainForm words image class
IsForm words (gen_trace requests seed) = IsGenForm words requests seed
IsForm words (run_image image options) = IsRunForm words image options
IsForm words (rebuild_image image budget seed) = IsRebuildForm words image budget seed
IsForm words (replay_image image seed) = IsReplayForm words image seed
IsForm words (conservative_image image with_map) = IsConservativeForm words image with_map
IsForm words (count_image image with_map) = IsCountForm words image with_map
