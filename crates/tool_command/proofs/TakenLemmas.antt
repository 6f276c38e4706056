-- Words that clap takes ask for a command: each text and number that a command wants is there, and lies in its bounds.
use Rattle.std.proofs.Common.{◌^◌, ◌-◌, ℕ, Bool, List, Result, Ok, Err, IfOk, refl, inl, inr, arith}
use Rattle.clap.specs.Walk.{Text}
use Rattle.clap.specs.Words.{matches_of}
use Rattle.super_block.proofs.ConstantLemmas.{largest_capacity_is}
use Rattle.image_run.specs.Running.{Options}
use Rattle.image_run.specs.declared.options.TheConstants.{MOST_WORKERS, MOST_BUDGET}
use Rattle.super_block.specs.declared.layout.TheConstants.{LARGEST_CAPACITY, LAST_CLASS}
use Rattle.tool_command.specs.declared.trace_plan.TheConstants.{MOST_REQUESTS, GREATEST_SEED}
use Rattle.tool_command.specs.Command.{Command, format_image, show_image, drain_image, gen_trace, run_image, rebuild_image, replay_image, conservative_image, count_image, Asks, AsksToFormat, AsksToShow, AsksToDrain, AsksToGen, AsksToRun, AsksToRebuild, AsksToReplay, AsksToRecoverConservatively, AsksToCount, IsFaultless, IsUsage}
use Rattle.tool_command.specs.CommandLine.{format_app, show_app, drain_app, gen_app, run_app, rebuild_app, replay_app, conservative_app, count_app, capacity_id, class_id, map_id, requests_id, trace_seed_id, workers_id, stop_id, seed_id, sum_id, par_id, IsTaken}
use Rattle.tool_command.proofs.ArgumentLemmas.{flag_in, has_flag_in, image_given, needed_option_given, number_given, option_given_or}

-- ---- the commands

module _ (words : List Text) where
  pub format_asked : IsTaken format_app words → (image : Text) × (capacity : ℕ) × AsksToFormat words image capacity
  format_asked taken =
      let image = image_given format_app words taken.faultless refl refl refl in
      let capacity = number_given format_app words taken.faultless 1 2 capacity_id 1 LARGEST_CAPACITY refl refl refl in (
        image.0,
        capacity.number,
        record {
          taken = taken;
          named = image.1;
          counted = capacity.has;
          least = capacity.low;
          most = omega (arith, largest_capacity_is, capacity.high);
        },
      )

  pub show_asked : IsTaken show_app words → (image : Text) × (with_map in_parallel : Bool) × AsksToShow words image with_map in_parallel
  show_asked taken =
      let rows = matches_of show_app words in
      let image = image_given show_app words taken.faultless refl refl refl in (
        image.0,
        flag_in map_id rows,
        flag_in par_id rows,
        record {
          taken = taken;
          named = image.1;
          mapped = has_flag_in rows map_id;
          parallel = has_flag_in rows par_id;
        },
      )

  pub drain_asked : IsTaken drain_app words → (image : Text) × (class : ℕ) × AsksToDrain words image class
  drain_asked taken =
      let image = image_given drain_app words taken.faultless refl refl refl in
      let class = number_given drain_app words taken.faultless 1 2 class_id 1 LAST_CLASS refl refl refl in
      (image.0, class.number, record { taken = taken; named = image.1; counted = class.has; is_class = record { some = class.low; last = class.high } })

  pub gen_asked : IsTaken gen_app words → (requests seed : ℕ) × AsksToGen words requests seed
  gen_asked taken =
      let requests = number_given gen_app words taken.faultless 0 1 requests_id 0 MOST_REQUESTS refl refl refl in
      let seed = number_given gen_app words taken.faultless 1 2 trace_seed_id 0 GREATEST_SEED refl refl refl in
      (requests.number, seed.number, record { taken = taken; counted = requests.has; few = requests.high; seeded = seed.has; small = seed.high })

  pub run_asked : IsTaken run_app words → (image : Text) × (options : Options) × AsksToRun words image options
  run_asked taken =
      let rows = matches_of run_app words in
      let image = image_given run_app words taken.faultless refl refl refl in
      let workers = needed_option_given run_app words taken.faultless 1 workers_id 1 MOST_WORKERS refl refl refl in
      let budget = option_given_or run_app words taken.faultless 2 stop_id MOST_BUDGET 0 MOST_BUDGET refl refl (omega arith) (omega arith)
      (omega arith) in
      let seed = option_given_or run_app words taken.faultless 3 seed_id 0 0 (2 ^ 64 - 1) refl refl (omega arith) (omega arith) (omega arith) in (
        image.0,
        record { workers = workers.number; budget = budget.number; seed = seed.number; with_sum = flag_in sum_id rows; with_map = flag_in map_id rows },
        record {
          taken = taken;
          named = image.1;
          by = workers.has;
          some = workers.low;
          few = workers.high;
          within = budget.has;
          below = budget.high;
          seeded = seed.has;
          fits = seed.fits;
          summed = has_flag_in rows sum_id;
          mapped = has_flag_in rows map_id;
        },
      )

  pub rebuild_asked : IsTaken rebuild_app words → (image : Text) × (budget seed : ℕ) × AsksToRebuild words image budget seed
  rebuild_asked taken =
      let image = image_given rebuild_app words taken.faultless refl refl refl in
      let budget = option_given_or rebuild_app words taken.faultless 1 stop_id MOST_BUDGET 0 MOST_BUDGET refl refl (omega arith) (omega arith)
      (omega arith) in
      let seed = option_given_or rebuild_app words taken.faultless 2 seed_id 0 0 (2 ^ 64 - 1) refl refl (omega arith) (omega arith) (omega arith) in (
        image.0,
        budget.number,
        seed.number,
        record {
          taken = taken;
          named = image.1;
          within = budget.has;
          below = budget.high;
          seeded = seed.has;
          fits = seed.fits;
        },
      )

  pub replay_asked : IsTaken replay_app words → (image : Text) × (seed : ℕ) × AsksToReplay words image seed
  replay_asked taken =
      let image = image_given replay_app words taken.faultless refl refl refl in
      let seed = option_given_or replay_app words taken.faultless 1 seed_id 0 0 (2 ^ 64 - 1) refl refl (omega arith) (omega arith) (omega arith) in
      (image.0, seed.number, record { taken = taken; named = image.1; seeded = seed.has; fits = seed.fits })

  pub conservative_asked : IsTaken conservative_app words → (image : Text) × (with_map : Bool) × AsksToRecoverConservatively words image with_map
  conservative_asked taken =
      let rows = matches_of conservative_app words in
      let image = image_given conservative_app words taken.faultless refl refl refl in
      (image.0, flag_in map_id rows, record { taken = taken; named = image.1; mapped = has_flag_in rows map_id })

  pub count_asked : IsTaken count_app words → (image : Text) × (with_map : Bool) × AsksToCount words image with_map
  count_asked taken =
      let rows = matches_of count_app words in
      let image = image_given count_app words taken.faultless refl refl refl in
      (image.0, flag_in map_id rows, record { taken = taken; named = image.1; mapped = has_flag_in rows map_id })

-- ---- the first word names the command

pub faultless_asks : (words : List Text) → IsFaultless words → (command : Command) × Asks words command
unfolding IsFaultless
faultless_asks words faultless = elim faultless [
  | inl taken ↦ let asked = format_asked words taken in (format_image asked.0 asked.1, asked.2)
  | inr (inl taken) ↦ let asked = show_asked words taken in (show_image asked.0 asked.1 asked.2, asked.3)
  | inr (inr (inl taken)) ↦ let asked = drain_asked words taken in (drain_image asked.0 asked.1, asked.2)
  | inr (inr (inr (inl taken))) ↦ let asked = gen_asked words taken in (gen_trace asked.0 asked.1, asked.2)
  | inr (inr (inr (inr (inl taken)))) ↦ let asked = run_asked words taken in (run_image asked.0 asked.1, asked.2)
  | inr (inr (inr (inr (inr (inl taken))))) ↦ let asked = rebuild_asked words taken in (rebuild_image asked.0 asked.1 asked.2, asked.3)
  | inr (inr (inr (inr (inr (inr (inl taken)))))) ↦ let asked = replay_asked words taken in (replay_image asked.0 asked.1, asked.2)
  | inr (inr (inr (inr (inr (inr (inr (inl taken))))))) ↦ let asked = conservative_asked words taken in (conservative_image asked.0 asked.1, asked.2)
  | inr (inr (inr (inr (inr (inr (inr (inr taken))))))) ↦ let asked = count_asked words taken in (count_image asked.0 asked.1, asked.2)
]

pub asks_faultless : (words : List Text) (command : Command) → Asks words command → IsFaultless words
unfolding IsFaultless
asks_faultless words (format_image image capacity) asks = inl asks.taken
asks_faultless words (show_image image with_map in_parallel) asks = inr (inl asks.taken)
asks_faultless words (drain_image image class) asks = inr (inr (inl asks.taken))
asks_faultless words (gen_trace requests seed) asks = inr (inr (inr (inl asks.taken)))
asks_faultless words (run_image image options) asks = inr (inr (inr (inr (inl asks.taken))))
asks_faultless words (rebuild_image image budget seed) asks = inr (inr (inr (inr (inr (inl asks.taken)))))
asks_faultless words (replay_image image seed) asks = inr (inr (inr (inr (inr (inr (inl asks.taken))))))
asks_faultless words (conservative_image image with_map) asks = inr (inr (inr (inr (inr (inr (inr (inl asks.taken)))))))
asks_faultless words (count_image image with_map) asks = inr (inr (inr (inr (inr (inr (inr (inr asks.taken)))))))

pub usage_faulty : (words : List Text) → IsUsage words → IsFaultless words → ⊥
usage_faulty words none faultless =
    let asked = faultless_asks words faultless in
    none asked.0 asked.1

-- words that were read as a command are such
pub faultless_if_ok : {T E : Type 0} (words : List Text) (command_of : T → Command) (result : Result T E)
    → IfOk result (λ x. Asks words (command_of x)) → IfOk result (λ x. IsFaultless words)
faultless_if_ok words command_of (Ok x) asks = asks_faultless words (command_of x) asks
faultless_if_ok words command_of (Err e) asks = tt
