-- Words in the forms of 'run' and 'rebuild' ask for their commands, whichever options stand there.
use Rattle.std.proofs.Common.{◌≡◌, ◌∙◌, ◌<◌, ◌-◌, ◌^◌, ℕ, Bool, true, false, List, [], ◌∷◌, ◌++◌, codes, Option, Some, None, refl, ap, arith}
use Rattle.std.specs.Prelude.{decimal, option_map}
use Rattle.clap.specs.Values.{bool_text}
use Rattle.clap.specs.Walk.{Row, Text, first_of, one_of}
use Rattle.clap.specs.Simple.{built, filled}
use Rattle.clap.specs.Words.{matches_of}
use Rattle.clap.specs.Faults.{defaults_fault}
use Rattle.image_run.specs.Running.{Options}
use Rattle.image_run.specs.declared.options.TheConstants.{MOST_WORKERS, MOST_BUDGET}
use Rattle.tool_command.specs.CommandLine.{run_app, rebuild_app, image_id, map_id, workers_id, stop_id, seed_id, sum_id, option_rule, needed_option_rule, flag_rule}
use Rattle.tool_command.specs.Command.{Command, Asks, AsksToRun, AsksToRebuild, format_image, show_image, drain_image, gen_trace, run_image, rebuild_image, replay_image, conservative_image, count_image}
use Rattle.tool_command.specs.Forms.{IsForm, IsRunForm, IsRebuildForm, number_words, flag_words}
use Rattle.tool_command.proofs.WalkingLemmas.{Given, by_name, AreTaken, ended}
use Rattle.tool_command.proofs.PlainWordLemmas.{number_is_plain}
use Rattle.tool_command.proofs.FormLemmas.{format_asks, show_asks, drain_asks, gen_asks, replay_asks, conservative_asks, count_asks, image_given, seed_given, map_given, image_taken, bounded}
use Rattle.tool_command.proofs.WrittenLemmas.{number_given, flag_given, number_taken, flag_taken, needed_option_fits, number_found, number_or_found, flag_found, IsWhole, IsPlainApp, is_taken, matched}

abbrev stop_given : Option ℕ → List Given
stop_given = number_given (filled (option_rule stop_id 0 MOST_BUDGET)) (codes "--stop") stop_id

abbrev sum_given : Bool → List Given
sum_given = flag_given (filled (flag_rule sum_id)) (codes "--sum") sum_id

-- ---- 'rebuild IMAGE [--stop K] [--seed X]'

abbrev rebuild_given : Text → Option ℕ → Option ℕ → List Given
rebuild_given image stop seed = image_given image ∷ (stop_given stop ++ (seed_given seed ++ []))

abbrev rebuild_rows : Text → Option ℕ → Option ℕ → List Row
rebuild_rows image stop seed = ended (built rebuild_app).top (rebuild_given image stop seed)

rebuild_whole : (image : Text) (stop seed : Option ℕ) → IsWhole rebuild_app (rebuild_given image stop seed)
    (image ∷ (number_words (codes "--stop") stop ++ number_words (codes "--seed") seed))
unfolding defaults_fault
rebuild_whole image (Some k) (Some x) = record { words_are = refl; new = refl; defaults = refl; checks = refl }
rebuild_whole image (Some k) None = record { words_are = refl; new = refl; defaults = refl; checks = refl }
rebuild_whole image None (Some x) = record { words_are = refl; new = refl; defaults = refl; checks = refl }
rebuild_whole image None None = record { words_are = refl; new = refl; defaults = refl; checks = refl }

-- the texts that clap matches
record HasLimits (rows : List Row) (image : Text) (stop seed : Option ℕ) : Type 0 where
  named : first_of image_id rows ≡ Some image
  within : one_of stop_id rows ≡ option_map decimal stop
  within_first : first_of stop_id rows ≡ option_map decimal stop
  seeded : one_of seed_id rows ≡ option_map decimal seed
  seeded_first : first_of seed_id rows ≡ option_map decimal seed

rebuild_found : (image : Text) (stop seed : Option ℕ) → HasLimits (rebuild_rows image stop seed) image stop seed
rebuild_found image (Some k) (Some x) = record { named = refl; within = refl; within_first = refl; seeded = refl; seeded_first = refl }
rebuild_found image (Some k) None = record { named = refl; within = refl; within_first = refl; seeded = refl; seeded_first = refl }
rebuild_found image None (Some x) = record { named = refl; within = refl; within_first = refl; seeded = refl; seeded_first = refl }
rebuild_found image None None = record { named = refl; within = refl; within_first = refl; seeded = refl; seeded_first = refl }

pub rebuild_asks : (words : List Text) (image : Text) (budget seed : ℕ) → IsRebuildForm words image budget seed → AsksToRebuild words image budget seed
rebuild_asks words image budget seed form =
    let s = (built rebuild_app).top in
    let given = rebuild_given image form.stop form.seed in
    let rest = image ∷ (number_words (codes "--stop") form.stop ++ number_words (codes "--seed") form.seed) in
    let plain : IsPlainApp rebuild_app = record { leaf = refl; binary = refl } in
    let budget_fits : budget < 2 ^ 64 = omega (arith, form.below) in
    let found = rebuild_found image form.stop form.seed in
    let seed_taken = number_taken s 2 seed_id (codes "--seed") (2 ^ 64 - 1) form.seed []
    (record { dashes = refl; long = refl; here = refl; found = refl; itself = refl; valued = refl; one = refl })
    (bounded form.seed 0 seed (2 ^ 64 - 1) form.seeded form.fits (omega (arith, form.fits))) tt in
    let stop_taken = number_taken s 2 stop_id (codes "--stop") MOST_BUDGET form.stop (seed_given form.seed ++ [])
    (record { dashes = refl; long = refl; here = refl; found = refl; itself = refl; valued = refl; one = refl })
    (bounded form.stop MOST_BUDGET budget MOST_BUDGET form.within budget_fits form.below) seed_taken in
    let taken = image_taken s image (stop_given form.stop ++ (seed_given form.seed ++ []))
    (record { here = refl; found = refl; single = refl; once = refl; closed = refl }) form.named stop_taken in
    let whole = rebuild_whole image form.stop form.seed in
    let matches = matched rebuild_app given words rest plain form.words_are whole taken in
    record {
      taken = is_taken rebuild_app given words rest plain form.words_are whole taken;
      named = ap (first_of image_id) matches ∙ found.named;
      within = number_or_found (matches_of rebuild_app words) stop_id MOST_BUDGET budget form.stop budget_fits form.within
          (ap (one_of stop_id) matches ∙ found.within) (ap (first_of stop_id) matches ∙ found.within_first);
      below = form.below;
      seeded = number_or_found (matches_of rebuild_app words) seed_id 0 seed form.seed form.fits form.seeded (ap (one_of seed_id) matches
          ∙ found.seeded) (ap (first_of seed_id) matches ∙ found.seeded_first);
      fits = form.fits;
    }

-- ---- 'run IMAGE --workers N [--stop K] [--seed X] [--sum] [--map]'

abbrev workers_given : ℕ → Given
workers_given workers = by_name (filled (needed_option_rule workers_id 1 MOST_WORKERS)) (codes "--workers") workers_id (decimal workers)

abbrev run_given : Text → ℕ → Option ℕ → Option ℕ → Bool → Bool → List Given
run_given image workers stop seed with_sum with_map = image_given image ∷ workers_given workers ∷
    (stop_given stop ++ (seed_given seed ++ (sum_given with_sum ++ (map_given with_map ++ []))))

abbrev run_words : Text → ℕ → Option ℕ → Option ℕ → Bool → Bool → List Text
run_words image workers stop seed with_sum with_map = image ∷ codes "--workers" ∷ decimal workers
    ∷ (number_words (codes "--stop") stop ++ number_words (codes "--seed") seed ++ flag_words (codes "--sum") with_sum ++ flag_words
    (codes "--map") with_map)

abbrev run_rows : Text → ℕ → Option ℕ → Option ℕ → Bool → Bool → List Row
run_rows image workers stop seed with_sum with_map = ended (built run_app).top (run_given image workers stop seed with_sum with_map)

run_whole : (image : Text) (workers : ℕ) (stop seed : Option ℕ) (with_sum with_map : Bool)
    → IsWhole run_app (run_given image workers stop seed with_sum with_map) (run_words image workers stop seed with_sum with_map)
unfolding defaults_fault
run_whole image workers (Some k) (Some x) true true = record { words_are = refl; new = refl; defaults = refl; checks = refl }
run_whole image workers (Some k) (Some x) true false = record { words_are = refl; new = refl; defaults = refl; checks = refl }
run_whole image workers (Some k) (Some x) false true = record { words_are = refl; new = refl; defaults = refl; checks = refl }
run_whole image workers (Some k) (Some x) false false = record { words_are = refl; new = refl; defaults = refl; checks = refl }
run_whole image workers (Some k) None true true = record { words_are = refl; new = refl; defaults = refl; checks = refl }
run_whole image workers (Some k) None true false = record { words_are = refl; new = refl; defaults = refl; checks = refl }
run_whole image workers (Some k) None false true = record { words_are = refl; new = refl; defaults = refl; checks = refl }
run_whole image workers (Some k) None false false = record { words_are = refl; new = refl; defaults = refl; checks = refl }
run_whole image workers None (Some x) true true = record { words_are = refl; new = refl; defaults = refl; checks = refl }
run_whole image workers None (Some x) true false = record { words_are = refl; new = refl; defaults = refl; checks = refl }
run_whole image workers None (Some x) false true = record { words_are = refl; new = refl; defaults = refl; checks = refl }
run_whole image workers None (Some x) false false = record { words_are = refl; new = refl; defaults = refl; checks = refl }
run_whole image workers None None true true = record { words_are = refl; new = refl; defaults = refl; checks = refl }
run_whole image workers None None true false = record { words_are = refl; new = refl; defaults = refl; checks = refl }
run_whole image workers None None false true = record { words_are = refl; new = refl; defaults = refl; checks = refl }
run_whole image workers None None false false = record { words_are = refl; new = refl; defaults = refl; checks = refl }

-- the texts that clap matches
record HasRun (rows : List Row) (image : Text) (workers : ℕ) (stop seed : Option ℕ) (with_sum with_map : Bool) : Type 0 where
  limits : HasLimits rows image stop seed
  by : one_of workers_id rows ≡ Some (decimal workers)
  summed : first_of sum_id rows ≡ Some (bool_text with_sum)
  mapped : first_of map_id rows ≡ Some (bool_text with_map)

has_run : {rows : List Row} {image : Text} {workers : ℕ} {stop seed : Option ℕ} {with_sum with_map : Bool}
    → first_of image_id rows ≡ Some image → one_of stop_id rows ≡ option_map decimal stop → first_of stop_id rows ≡ option_map decimal stop
    → one_of seed_id rows ≡ option_map decimal seed → first_of seed_id rows ≡ option_map decimal seed
    → one_of workers_id rows ≡ Some (decimal workers) → first_of sum_id rows ≡ Some (bool_text with_sum)
    → first_of map_id rows ≡ Some (bool_text with_map) → HasRun rows image workers stop seed with_sum with_map
has_run named within within_first seeded seeded_first by summed mapped = record {
  limits = record { named = named; within = within; within_first = within_first; seeded = seeded; seeded_first = seeded_first };
  by = by;
  summed = summed;
  mapped = mapped;
}

run_found : (image : Text) (workers : ℕ) (stop seed : Option ℕ) (with_sum with_map : Bool)
    → HasRun (run_rows image workers stop seed with_sum with_map) image workers stop seed with_sum with_map
run_found image workers (Some k) (Some x) true true = has_run refl refl refl refl refl refl refl refl
run_found image workers (Some k) (Some x) true false = has_run refl refl refl refl refl refl refl refl
run_found image workers (Some k) (Some x) false true = has_run refl refl refl refl refl refl refl refl
run_found image workers (Some k) (Some x) false false = has_run refl refl refl refl refl refl refl refl
run_found image workers (Some k) None true true = has_run refl refl refl refl refl refl refl refl
run_found image workers (Some k) None true false = has_run refl refl refl refl refl refl refl refl
run_found image workers (Some k) None false true = has_run refl refl refl refl refl refl refl refl
run_found image workers (Some k) None false false = has_run refl refl refl refl refl refl refl refl
run_found image workers None (Some x) true true = has_run refl refl refl refl refl refl refl refl
run_found image workers None (Some x) true false = has_run refl refl refl refl refl refl refl refl
run_found image workers None (Some x) false true = has_run refl refl refl refl refl refl refl refl
run_found image workers None (Some x) false false = has_run refl refl refl refl refl refl refl refl
run_found image workers None None true true = has_run refl refl refl refl refl refl refl refl
run_found image workers None None true false = has_run refl refl refl refl refl refl refl refl
run_found image workers None None false true = has_run refl refl refl refl refl refl refl refl
run_found image workers None None false false = has_run refl refl refl refl refl refl refl refl

pub run_asks : (words : List Text) (image : Text) (options : Options) → IsRunForm words image options → AsksToRun words image options
run_asks words image options form =
    let s = (built run_app).top in
    let given = run_given image options.workers form.stop form.seed options.with_sum options.with_map in
    let rest = run_words image options.workers form.stop form.seed options.with_sum options.with_map in
    let plain : IsPlainApp run_app = record { leaf = refl; binary = refl } in
    let workers_fit : options.workers < 2 ^ 64 = omega (arith, form.few) in
    let budget_fits : options.budget < 2 ^ 64 = omega (arith, form.below) in
    let found = run_found image options.workers form.stop form.seed options.with_sum options.with_map in
    let map_taken = flag_taken s 2 map_id (codes "--map") options.with_map [] (record { dashes = refl; long = refl; here = refl; bare = refl }) tt in
    let sum_taken = flag_taken s 2 sum_id (codes "--sum") options.with_sum (map_given options.with_map ++ [])
    (record { dashes = refl; long = refl; here = refl; bare = refl }) map_taken in
    let seed_taken = number_taken s 2 seed_id (codes "--seed") (2 ^ 64 - 1) form.seed (sum_given options.with_sum ++ (map_given options.with_map ++ []))
    (record { dashes = refl; long = refl; here = refl; found = refl; itself = refl; valued = refl; one = refl })
    (bounded form.seed 0 options.seed (2 ^ 64 - 1) form.seeded form.fits (omega (arith, form.fits))) sum_taken in
    let stop_taken = number_taken s 2 stop_id (codes "--stop") MOST_BUDGET form.stop
    (seed_given form.seed ++ (sum_given options.with_sum ++ (map_given options.with_map ++ [])))
    (record { dashes = refl; long = refl; here = refl; found = refl; itself = refl; valued = refl; one = refl })
    (bounded form.stop MOST_BUDGET options.budget MOST_BUDGET form.within budget_fits form.below) seed_taken in
    let behind = stop_given form.stop ++ (seed_given form.seed ++ (sum_given options.with_sum ++ (map_given options.with_map ++ []))) in
    let workers_taken : AreTaken s 2 (workers_given options.workers ∷ behind) = (
      record { dashes = refl; long = refl; here = refl; found = refl; itself = refl; valued = refl; one = refl },
      number_is_plain options.workers workers_fit,
      needed_option_fits s workers_id 1 MOST_WORKERS options.workers workers_fit form.some form.few,
      stop_taken,
    ) in
    let taken = image_taken s image (workers_given options.workers ∷ behind)
    (record { here = refl; found = refl; single = refl; once = refl; closed = refl }) form.named workers_taken in
    let whole = run_whole image options.workers form.stop form.seed options.with_sum options.with_map in
    let matches = matched run_app given words rest plain form.words_are whole taken in
    record {
      taken = is_taken run_app given words rest plain form.words_are whole taken;
      named = ap (first_of image_id) matches ∙ found.limits.named;
      by = number_found (matches_of run_app words) workers_id options.workers workers_fit (ap (one_of workers_id) matches ∙ found.by);
      some = form.some;
      few = form.few;
      within = number_or_found (matches_of run_app words) stop_id MOST_BUDGET options.budget form.stop budget_fits form.within
          (ap (one_of stop_id) matches ∙ found.limits.within) (ap (first_of stop_id) matches ∙ found.limits.within_first);
      below = form.below;
      seeded = number_or_found (matches_of run_app words) seed_id 0 options.seed form.seed form.fits form.seeded
          (ap (one_of seed_id) matches ∙ found.limits.seeded) (ap (first_of seed_id) matches ∙ found.limits.seeded_first);
      fits = form.fits;
      summed = flag_found (matches_of run_app words) sum_id options.with_sum (ap (first_of sum_id) matches ∙ found.summed);
      mapped = flag_found (matches_of run_app words) map_id options.with_map (ap (first_of map_id) matches ∙ found.mapped);
    }

-- words in a form ask for its command
pub form_asks : (words : List Text) (command : Command) → IsForm words command → Asks words command
form_asks words (format_image image capacity) form = format_asks words image capacity form
form_asks words (show_image image with_map in_parallel) form = show_asks words image with_map in_parallel form
form_asks words (drain_image image class) form = drain_asks words image class form
form_asks words (gen_trace requests seed) form = gen_asks words requests seed form
form_asks words (run_image image options) form = run_asks words image options form
form_asks words (rebuild_image image budget seed) form = rebuild_asks words image budget seed form
form_asks words (replay_image image seed) form = replay_asks words image seed form
form_asks words (conservative_image image with_map) form = conservative_asks words image with_map form
form_asks words (count_image image with_map) form = count_asks words image with_map form
