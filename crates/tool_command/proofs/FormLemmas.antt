-- Words in a form ask for its command: clap finds no fault in them, and its matches are the texts and numbers that they
-- write. Here the forms with no option's number but a seed.
use Rattle.std.proofs.Common.{◌≡◌, ◌∙◌, ◌≤◌, ◌<◌, ◌+◌, ◌-◌, ◌^◌, ℕ, Bool, true, false, List, [], ◌∷◌, ◌++◌, codes, Option, Some, None, refl, ap, subst, min, arith}
use Rattle.std.specs.Prelude.{decimal, unwrap_or, option_map}
use Rattle.clap.specs.Lexer.{usize_max}
use Rattle.clap.specs.Values.{bool_text}
use Rattle.clap.specs.Walk.{Row, Text, first_of, one_of}
use Rattle.clap.specs.Simple.{Shape, built, filled}
use Rattle.clap.specs.Words.{matches_of}
use Rattle.clap.specs.Faults.{defaults_fault}
use Rattle.heap_model.specs.Geometry.{largest_capacity_fits}
use Rattle.super_block.proofs.ConstantLemmas.{largest_capacity_is}
use Rattle.super_block.specs.declared.layout.TheConstants.{LARGEST_CAPACITY, LAST_CLASS}
use Rattle.tool_command.specs.declared.trace_plan.TheConstants.{MOST_REQUESTS, GREATEST_SEED}
use Rattle.tool_command.specs.CommandLine.{format_app, show_app, drain_app, gen_app, replay_app, conservative_app, count_app, image_id, capacity_id, class_id, map_id, requests_id, trace_seed_id, seed_id, par_id, option_rule, flag_rule}
use Rattle.tool_command.specs.Command.{AsksToFormat, AsksToShow, AsksToDrain, AsksToGen, AsksToReplay, AsksToRecoverConservatively, AsksToCount}
use Rattle.tool_command.specs.Forms.{IsImageWord, IsFormatForm, IsShowForm, IsDrainForm, IsGenForm, IsReplayForm, IsConservativeForm, IsCountForm, number_words, flag_words}
use Rattle.tool_command.proofs.WalkingLemmas.{IsPositional, Given, in_place, AreTaken, ended}
use Rattle.tool_command.proofs.PlainWordLemmas.{text_is_plain, number_is_plain}
use Rattle.tool_command.proofs.WrittenLemmas.{IsPlainApp, IsWhole, flag_found, flag_given, flag_taken, image_fits, image_rule, is_taken, matched, number_at, number_fits, number_found, number_given, number_or_found, number_taken}

-- ---- the forms without options

abbrev pub image_given : Text → Given
image_given image = in_place image_rule image

-- an image's word is taken first
pub image_taken : (s : Shape) (image : Text) (rest : List Given) → IsPositional s 1 image_rule → IsImageWord image → AreTaken s 2 rest
    → AreTaken s 1 (image_given image ∷ rest)
image_taken s image rest is named taken = (is, text_is_plain image named.some named.no_option, image_fits s image, taken)

-- and a number
number_taken_at : (s : Shape) (position : ℕ) (id : Text) (least most n : ℕ) (rest : List Given)
    → IsPositional s position (number_at position id least most) → n < 2 ^ 64 → least ≤ n → n ≤ most
    → AreTaken s (min (position + 1) usize_max) rest → AreTaken s position (in_place (number_at position id least most) (decimal n) ∷ rest)
number_taken_at s position id least most n rest is fits low high taken =
    (is, number_is_plain n fits, number_fits s position id least most n fits low high, taken)

abbrev format_given : Text → ℕ → List Given
format_given image capacity = image_given image ∷ in_place (number_at 2 capacity_id 1 LARGEST_CAPACITY) (decimal capacity) ∷ []

pub format_asks : (words : List Text) (image : Text) (capacity : ℕ) → IsFormatForm words image capacity → AsksToFormat words image capacity
unfolding defaults_fault
format_asks words image capacity form =
    let s = (built format_app).top in
    let given = format_given image capacity in
    let most : capacity ≤ LARGEST_CAPACITY = omega (arith, largest_capacity_is, form.most) in
    let fits : capacity < 2 ^ 64 = omega (arith, form.most, largest_capacity_fits) in
    let plain : IsPlainApp format_app = record { leaf = refl; binary = refl } in
    let whole : IsWhole format_app given (image ∷ decimal capacity ∷ []) = record { words_are = refl; new = refl; defaults = refl; checks = refl } in
    let number = number_taken_at s 2 capacity_id 1 LARGEST_CAPACITY capacity []
    (record { here = refl; found = refl; single = refl; once = refl; closed = refl }) fits form.least most tt in
    let taken = image_taken s image (in_place (number_at 2 capacity_id 1 LARGEST_CAPACITY) (decimal capacity) ∷ [])
    (record { here = refl; found = refl; single = refl; once = refl; closed = refl }) form.named number in
    let matches = matched format_app given words (image ∷ decimal capacity ∷ []) plain form.words_are whole taken in
    record {
      taken = is_taken format_app given words (image ∷ decimal capacity ∷ []) plain form.words_are whole taken;
      named = ap (first_of image_id) matches;
      counted = number_found (matches_of format_app words) capacity_id capacity fits (ap (one_of capacity_id) matches);
      least = form.least;
      most = form.most;
    }

abbrev drain_given : Text → ℕ → List Given
drain_given image class = image_given image ∷ in_place (number_at 2 class_id 1 LAST_CLASS) (decimal class) ∷ []

pub drain_asks : (words : List Text) (image : Text) (class : ℕ) → IsDrainForm words image class → AsksToDrain words image class
unfolding defaults_fault
drain_asks words image class form =
    let s = (built drain_app).top in
    let given = drain_given image class in
    let fits : class < 2 ^ 64 = omega (arith, form.is_class.last) in
    let plain : IsPlainApp drain_app = record { leaf = refl; binary = refl } in
    let whole : IsWhole drain_app given (image ∷ decimal class ∷ []) = record { words_are = refl; new = refl; defaults = refl; checks = refl } in
    let number = number_taken_at s 2 class_id 1 LAST_CLASS class []
    (record { here = refl; found = refl; single = refl; once = refl; closed = refl }) fits form.is_class.some form.is_class.last tt in
    let taken = image_taken s image (in_place (number_at 2 class_id 1 LAST_CLASS) (decimal class) ∷ [])
    (record { here = refl; found = refl; single = refl; once = refl; closed = refl }) form.named number in
    let matches = matched drain_app given words (image ∷ decimal class ∷ []) plain form.words_are whole taken in
    record {
      taken = is_taken drain_app given words (image ∷ decimal class ∷ []) plain form.words_are whole taken;
      named = ap (first_of image_id) matches;
      counted = number_found (matches_of drain_app words) class_id class fits (ap (one_of class_id) matches);
      is_class = form.is_class;
    }

abbrev gen_given : ℕ → ℕ → List Given
gen_given requests seed = in_place (number_at 1 requests_id 0 MOST_REQUESTS) (decimal requests) ∷ in_place
    (number_at 2 trace_seed_id 0 GREATEST_SEED) (decimal seed) ∷ []

pub gen_asks : (words : List Text) (requests seed : ℕ) → IsGenForm words requests seed → AsksToGen words requests seed
unfolding defaults_fault
gen_asks words requests seed form =
    let s = (built gen_app).top in
    let given = gen_given requests seed in
    let fits : requests < 2 ^ 64 = omega (arith, form.few) in
    let seed_fits : seed < 2 ^ 64 = omega (arith, form.small) in
    let plain : IsPlainApp gen_app = record { leaf = refl; binary = refl } in
    let whole : IsWhole gen_app given (decimal requests ∷ decimal seed ∷ []) = record {
      words_are = refl;
      new = refl;
      defaults = refl;
      checks = refl;
    } in
    let number = number_taken_at s 2 trace_seed_id 0 GREATEST_SEED seed []
    (record { here = refl; found = refl; single = refl; once = refl; closed = refl }) seed_fits (omega arith) form.small tt in
    let taken = number_taken_at s 1 requests_id 0 MOST_REQUESTS requests
    (in_place (number_at 2 trace_seed_id 0 GREATEST_SEED) (decimal seed) ∷ [])
    (record { here = refl; found = refl; single = refl; once = refl; closed = refl }) fits (omega arith) form.few number in
    let matches = matched gen_app given words (decimal requests ∷ decimal seed ∷ []) plain form.words_are whole taken in
    record {
      taken = is_taken gen_app given words (decimal requests ∷ decimal seed ∷ []) plain form.words_are whole taken;
      counted = number_found (matches_of gen_app words) requests_id requests fits (ap (one_of requests_id) matches);
      few = form.few;
      seeded = number_found (matches_of gen_app words) trace_seed_id seed seed_fits (ap (one_of trace_seed_id) matches);
      small = form.small;
    }

-- ---- 'show IMAGE [--map] [--par]', 'conservative IMAGE [--map]' and 'count IMAGE [--map]'

abbrev pub map_given : Bool → List Given
map_given = flag_given (filled (flag_rule map_id)) (codes "--map") map_id

abbrev par_given : Bool → List Given
par_given = flag_given (filled (flag_rule par_id)) (codes "--par") par_id

abbrev show_given : Text → Bool → Bool → List Given
show_given image with_map in_parallel = image_given image ∷ (map_given with_map ++ (par_given in_parallel ++ []))

abbrev show_rows : Text → Bool → Bool → List Row
show_rows image with_map in_parallel = ended (built show_app).top (show_given image with_map in_parallel)

show_whole : (image : Text) (with_map in_parallel : Bool) → IsWhole show_app (show_given image with_map in_parallel)
    (image ∷ (flag_words (codes "--map") with_map ++ flag_words (codes "--par") in_parallel))
unfolding defaults_fault
show_whole image true true = record { words_are = refl; new = refl; defaults = refl; checks = refl }
show_whole image true false = record { words_are = refl; new = refl; defaults = refl; checks = refl }
show_whole image false true = record { words_are = refl; new = refl; defaults = refl; checks = refl }
show_whole image false false = record { words_are = refl; new = refl; defaults = refl; checks = refl }

show_found : (image : Text) (with_map in_parallel : Bool) → (first_of image_id (show_rows image with_map in_parallel) ≡ Some image)
    × (first_of map_id (show_rows image with_map in_parallel) ≡ Some (bool_text with_map))
    × (first_of par_id (show_rows image with_map in_parallel) ≡ Some (bool_text in_parallel))
show_found image true true = (refl, refl, refl)
show_found image true false = (refl, refl, refl)
show_found image false true = (refl, refl, refl)
show_found image false false = (refl, refl, refl)

pub show_asks : (words : List Text) (image : Text) (with_map in_parallel : Bool) → IsShowForm words image with_map in_parallel
    → AsksToShow words image with_map in_parallel
show_asks words image with_map in_parallel form =
    let s = (built show_app).top in
    let given = show_given image with_map in_parallel in
    let rest = image ∷ (flag_words (codes "--map") with_map ++ flag_words (codes "--par") in_parallel) in
    let plain : IsPlainApp show_app = record { leaf = refl; binary = refl } in
    let found = show_found image with_map in_parallel in
    let par_taken = flag_taken s 2 par_id (codes "--par") in_parallel [] (record { dashes = refl; long = refl; here = refl; bare = refl }) tt in
    let map_taken = flag_taken s 2 map_id (codes "--map") with_map (par_given in_parallel ++ [])
    (record { dashes = refl; long = refl; here = refl; bare = refl }) par_taken in
    let taken = image_taken s image (map_given with_map ++ (par_given in_parallel ++ []))
    (record { here = refl; found = refl; single = refl; once = refl; closed = refl }) form.named map_taken in
    let whole = show_whole image with_map in_parallel in
    let matches = matched show_app given words rest plain form.words_are whole taken in
    record {
      taken = is_taken show_app given words rest plain form.words_are whole taken;
      named = ap (first_of image_id) matches ∙ found.0;
      mapped = flag_found (matches_of show_app words) map_id with_map (ap (first_of map_id) matches ∙ found.1);
      parallel = flag_found (matches_of show_app words) par_id in_parallel (ap (first_of par_id) matches ∙ found.2);
    }

abbrev conservative_given : Text → Bool → List Given
conservative_given image with_map = image_given image ∷ (map_given with_map ++ [])

abbrev conservative_rows : Text → Bool → List Row
conservative_rows image with_map = ended (built conservative_app).top (conservative_given image with_map)

conservative_whole : (image : Text) (with_map : Bool) → IsWhole conservative_app (conservative_given image with_map)
    (image ∷ flag_words (codes "--map") with_map)
unfolding defaults_fault
conservative_whole image true = record { words_are = refl; new = refl; defaults = refl; checks = refl }
conservative_whole image false = record { words_are = refl; new = refl; defaults = refl; checks = refl }

conservative_found : (image : Text) (with_map : Bool) → (first_of image_id (conservative_rows image with_map) ≡ Some image)
    × (first_of map_id (conservative_rows image with_map) ≡ Some (bool_text with_map))
conservative_found image true = (refl, refl)
conservative_found image false = (refl, refl)

pub conservative_asks : (words : List Text) (image : Text) (with_map : Bool) → IsConservativeForm words image with_map
    → AsksToRecoverConservatively words image with_map
conservative_asks words image with_map form =
    let s = (built conservative_app).top in
    let given = conservative_given image with_map in
    let rest = image ∷ flag_words (codes "--map") with_map in
    let plain : IsPlainApp conservative_app = record { leaf = refl; binary = refl } in
    let found = conservative_found image with_map in
    let flag = flag_taken s 2 map_id (codes "--map") with_map [] (record { dashes = refl; long = refl; here = refl; bare = refl }) tt in
    let taken = image_taken s image (map_given with_map ++ []) (record { here = refl; found = refl; single = refl; once = refl; closed = refl })
    form.named flag in
    let whole = conservative_whole image with_map in
    let matches = matched conservative_app given words rest plain form.words_are whole taken in
    record {
      taken = is_taken conservative_app given words rest plain form.words_are whole taken;
      named = ap (first_of image_id) matches ∙ found.0;
      mapped = flag_found (matches_of conservative_app words) map_id with_map (ap (first_of map_id) matches ∙ found.1);
    }

abbrev count_given : Text → Bool → List Given
count_given image with_map = image_given image ∷ (map_given with_map ++ [])

abbrev count_rows : Text → Bool → List Row
count_rows image with_map = ended (built count_app).top (count_given image with_map)

count_whole : (image : Text) (with_map : Bool) → IsWhole count_app (count_given image with_map) (image ∷ flag_words (codes "--map") with_map)
unfolding defaults_fault
count_whole image true = record { words_are = refl; new = refl; defaults = refl; checks = refl }
count_whole image false = record { words_are = refl; new = refl; defaults = refl; checks = refl }

count_found : (image : Text) (with_map : Bool) → (first_of image_id (count_rows image with_map) ≡ Some image)
    × (first_of map_id (count_rows image with_map) ≡ Some (bool_text with_map))
count_found image true = (refl, refl)
count_found image false = (refl, refl)

pub count_asks : (words : List Text) (image : Text) (with_map : Bool) → IsCountForm words image with_map → AsksToCount words image with_map
count_asks words image with_map form =
    let s = (built count_app).top in
    let given = count_given image with_map in
    let rest = image ∷ flag_words (codes "--map") with_map in
    let plain : IsPlainApp count_app = record { leaf = refl; binary = refl } in
    let found = count_found image with_map in
    let flag = flag_taken s 2 map_id (codes "--map") with_map [] (record { dashes = refl; long = refl; here = refl; bare = refl }) tt in
    let taken = image_taken s image (map_given with_map ++ []) (record { here = refl; found = refl; single = refl; once = refl; closed = refl })
    form.named flag in
    let whole = count_whole image with_map in
    let matches = matched count_app given words rest plain form.words_are whole taken in
    record {
      taken = is_taken count_app given words rest plain form.words_are whole taken;
      named = ap (first_of image_id) matches ∙ found.0;
      mapped = flag_found (matches_of count_app words) map_id with_map (ap (first_of map_id) matches ∙ found.1);
    }

-- ---- 'replay IMAGE [--seed X]'

-- a number that is given is the one that is meant
pub bounded : (number : Option ℕ) (other n most : ℕ) → n ≡ unwrap_or number other → n < 2 ^ 64 → n ≤ most → (m : ℕ) → number ≡ Some m
    → (m < 2 ^ 64) × (m ≤ most)
bounded number other n most is fits high m given =
    let same : n ≡ m = is ∙ ap (λ o. unwrap_or o other) given in
    (subst (λ k. k < 2 ^ 64) same fits, subst (λ k. k ≤ most) same high)

abbrev pub seed_given : Option ℕ → List Given
seed_given = number_given (filled (option_rule seed_id 0 (2 ^ 64 - 1))) (codes "--seed") seed_id

abbrev replay_given : Text → Option ℕ → List Given
replay_given image seed = image_given image ∷ (seed_given seed ++ [])

abbrev replay_rows : Text → Option ℕ → List Row
replay_rows image seed = ended (built replay_app).top (replay_given image seed)

replay_whole : (image : Text) (seed : Option ℕ) → IsWhole replay_app (replay_given image seed) (image ∷ number_words (codes "--seed") seed)
unfolding defaults_fault
replay_whole image (Some x) = record { words_are = refl; new = refl; defaults = refl; checks = refl }
replay_whole image None = record { words_are = refl; new = refl; defaults = refl; checks = refl }

replay_found : (image : Text) (seed : Option ℕ) → (first_of image_id (replay_rows image seed) ≡ Some image)
    × (one_of seed_id (replay_rows image seed) ≡ option_map decimal seed) × (first_of seed_id (replay_rows image seed) ≡ option_map decimal seed)
replay_found image (Some x) = (refl, refl, refl)
replay_found image None = (refl, refl, refl)

pub replay_asks : (words : List Text) (image : Text) (seed : ℕ) → IsReplayForm words image seed → AsksToReplay words image seed
replay_asks words image seed form =
    let s = (built replay_app).top in
    let given = replay_given image form.seed in
    let rest = image ∷ number_words (codes "--seed") form.seed in
    let plain : IsPlainApp replay_app = record { leaf = refl; binary = refl } in
    let found = replay_found image form.seed in
    let number = number_taken s 2 seed_id (codes "--seed") (2 ^ 64 - 1) form.seed []
    (record { dashes = refl; long = refl; here = refl; found = refl; itself = refl; valued = refl; one = refl })
    (bounded form.seed 0 seed (2 ^ 64 - 1) form.seeded form.fits (omega (arith, form.fits))) tt in
    let taken = image_taken s image (seed_given form.seed ++ []) (record {
      here = refl;
      found = refl;
      single = refl;
      once = refl;
      closed = refl;
    }) form.named number in
    let whole = replay_whole image form.seed in
    let matches = matched replay_app given words rest plain form.words_are whole taken in
    record {
      taken = is_taken replay_app given words rest plain form.words_are whole taken;
      named = ap (first_of image_id) matches ∙ found.0;
      seeded = number_or_found (matches_of replay_app words) seed_id 0 seed form.seed form.fits form.seeded (ap (one_of seed_id) matches
          ∙ found.1) (ap (first_of seed_id) matches ∙ found.2);
      fits = form.fits;
    }
