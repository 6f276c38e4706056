-- The words of the command line, and the command that they ask for.
use Rattle.std.specs.Prelude.{ℕ, ◌⊎◌, ◌<◌, ◌≤◌, ◌^◌, Bool, List, [], map, String, string_bytes}
use Rattle.std.specs.declared.alloc.Global.{Global}
use Rattle.clap.specs.Words.{matches_of}
use Rattle.heap_model.specs.Geometry.{largest_capacity}
use Rattle.heap_model.specs.Sizes.{IsClass}
use Rattle.tool_command.specs.declared.trace_plan.TheConstants.{MOST_REQUESTS, GREATEST_SEED}
use Rattle.image_run.specs.Running.{Options}
use Rattle.image_run.specs.declared.options.TheConstants.{MOST_WORKERS, MOST_BUDGET}
use Rattle.tool_command.specs.CommandLine.{format_app, show_app, drain_app, gen_app, run_app, rebuild_app, replay_app, conservative_app, count_app, image_id, capacity_id, class_id, map_id, requests_id, trace_seed_id, workers_id, stop_id, seed_id, sum_id, par_id, HasNumberOr, IsTaken, HasText, HasNumber, HasFlag}

-- what the tool can be asked for
pub data Command : Type 0 where
  format_image : (image : List ℕ) → (capacity : ℕ) → Command
  show_image : (image : List ℕ) → (with_map in_parallel : Bool) → Command
  drain_image : (image : List ℕ) → (class : ℕ) → Command
  gen_trace : (requests seed : ℕ) → Command
  run_image : (image : List ℕ) → (options : Options) → Command
  rebuild_image : (image : List ℕ) → (budget seed : ℕ) → Command
  replay_image : (image : List ℕ) → (seed : ℕ) → Command
  conservative_image : (image : List ℕ) → (with_map : Bool) → Command
  count_image : (image : List ℕ) → (with_map : Bool) → Command

-- the image that a command is about; the empty name where it is about none
abbrev pub image_name : Command → List ℕ
image_name (format_image image capacity) = image
image_name (show_image image with_map in_parallel) = image
image_name (drain_image image class) = image
image_name (gen_trace requests seed) = []
image_name (run_image image options) = image
image_name (rebuild_image image budget seed) = image
image_name (replay_image image seed) = image
image_name (conservative_image image with_map) = image
image_name (count_image image with_map) = image

-- the bytes of each word
abbrev pub texts : List (String Global) → List (List ℕ)
texts words = map (λ word. string_bytes word) words

-- the words 'format IMAGE S'
pub record AsksToFormat (words : List (List ℕ)) (image : List ℕ) (capacity : ℕ) : Type 0 where
  pub taken : IsTaken format_app words
  pub named : HasText (matches_of format_app words) image_id image
  pub counted : HasNumber (matches_of format_app words) capacity_id capacity
  pub least : 1 ≤ capacity
  pub most : capacity ≤ largest_capacity

-- the words 'show IMAGE', with the options '--map' and '--par' or without
pub record AsksToShow (words : List (List ℕ)) (image : List ℕ) (with_map in_parallel : Bool) : Type 0 where
  pub taken : IsTaken show_app words
  pub named : HasText (matches_of show_app words) image_id image
  pub mapped : HasFlag (matches_of show_app words) map_id with_map
  pub parallel : HasFlag (matches_of show_app words) par_id in_parallel

-- the words 'drain IMAGE CLASS'
pub record AsksToDrain (words : List (List ℕ)) (image : List ℕ) (class : ℕ) : Type 0 where
  pub taken : IsTaken drain_app words
  pub named : HasText (matches_of drain_app words) image_id image
  pub counted : HasNumber (matches_of drain_app words) class_id class
  pub is_class : IsClass class

-- the words 'gen N SEED'
pub record AsksToGen (words : List (List ℕ)) (requests seed : ℕ) : Type 0 where
  pub taken : IsTaken gen_app words
  pub counted : HasNumber (matches_of gen_app words) requests_id requests
  pub few : requests ≤ MOST_REQUESTS
  pub seeded : HasNumber (matches_of gen_app words) trace_seed_id seed
  pub small : seed ≤ GREATEST_SEED

-- the words 'run IMAGE --workers N', with other options or without: the budget is the greatest where none is given, and the seed 0
pub record AsksToRun (words : List (List ℕ)) (image : List ℕ) (options : Options) : Type 0 where
  pub taken : IsTaken run_app words
  pub named : HasText (matches_of run_app words) image_id image
  pub by : HasNumber (matches_of run_app words) workers_id options.workers
  pub some : 1 ≤ options.workers
  pub few : options.workers ≤ MOST_WORKERS
  pub within : HasNumberOr (matches_of run_app words) stop_id MOST_BUDGET options.budget
  pub below : options.budget ≤ MOST_BUDGET
  pub seeded : HasNumberOr (matches_of run_app words) seed_id 0 options.seed
  pub fits : options.seed < 2 ^ 64
  pub summed : HasFlag (matches_of run_app words) sum_id options.with_sum
  pub mapped : HasFlag (matches_of run_app words) map_id options.with_map

-- the words 'rebuild IMAGE', with options or without: the budget is the greatest where none is given, and the seed 0
pub record AsksToRebuild (words : List (List ℕ)) (image : List ℕ) (budget seed : ℕ) : Type 0 where
  pub taken : IsTaken rebuild_app words
  pub named : HasText (matches_of rebuild_app words) image_id image
  pub within : HasNumberOr (matches_of rebuild_app words) stop_id MOST_BUDGET budget
  pub below : budget ≤ MOST_BUDGET
  pub seeded : HasNumberOr (matches_of rebuild_app words) seed_id 0 seed
  pub fits : seed < 2 ^ 64

-- the words 'replay IMAGE', with the option or without: the seed is 0 where none is given
pub record AsksToReplay (words : List (List ℕ)) (image : List ℕ) (seed : ℕ) : Type 0 where
  pub taken : IsTaken replay_app words
  pub named : HasText (matches_of replay_app words) image_id image
  pub seeded : HasNumberOr (matches_of replay_app words) seed_id 0 seed
  pub fits : seed < 2 ^ 64

-- the words 'conservative IMAGE', with the option '--map' or without
pub record AsksToRecoverConservatively (words : List (List ℕ)) (image : List ℕ) (with_map : Bool) : Type 0 where
  pub taken : IsTaken conservative_app words
  pub named : HasText (matches_of conservative_app words) image_id image
  pub mapped : HasFlag (matches_of conservative_app words) map_id with_map

-- the words 'count IMAGE', with the option '--map' or without
pub record AsksToCount (words : List (List ℕ)) (image : List ℕ) (with_map : Bool) : Type 0 where
  pub taken : IsTaken count_app words
  pub named : HasText (matches_of count_app words) image_id image
  pub mapped : HasFlag (matches_of count_app words) map_id with_map

-- the words ask for this command
abbrev pub Asks : List (List ℕ) → Command → Type 0
Asks words (format_image image capacity) = AsksToFormat words image capacity
Asks words (show_image image with_map in_parallel) = AsksToShow words image with_map in_parallel
Asks words (drain_image image class) = AsksToDrain words image class
Asks words (gen_trace requests seed) = AsksToGen words requests seed
Asks words (run_image image options) = AsksToRun words image options
Asks words (rebuild_image image budget seed) = AsksToRebuild words image budget seed
Asks words (replay_image image seed) = AsksToReplay words image seed
Asks words (conservative_image image with_map) = AsksToRecoverConservatively words image with_map
Asks words (count_image image with_map) = AsksToCount words image with_map

-- the words ask for no command
abbrev pub IsUsage : List (List ℕ) → Type 0
IsUsage words = (command : Command) → ¬ (Asks words command)

-- the first word names a command, and clap finds no fault in the words behind it
unfoldable pub IsFaultless : List (List ℕ) → Type 0
IsFaultless words = IsTaken format_app words ⊎ IsTaken show_app words ⊎ IsTaken drain_app words ⊎ IsTaken gen_app words
    ⊎ IsTaken run_app words ⊎ IsTaken rebuild_app words ⊎ IsTaken replay_app words ⊎ IsTaken conservative_app words ⊎ IsTaken count_app words
