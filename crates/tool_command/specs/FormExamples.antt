-- Worked examples: each form with all its options and without any, and words that are in none.
use Rattle.std.specs.Prelude.{[], ◌∷◌, codes, Some, None, true, false, refl}
use Rattle.std.specs.Fmt.{digits}
use Rattle.std.proofs.Common.{arith, lit<, lit≤}
use Rattle.heap_model.specs.Geometry.{largest_capacity}
use Rattle.image_run.specs.declared.options.TheConstants.{MOST_BUDGET}
use Rattle.tool_command.specs.Command.{format_image, show_image, drain_image, gen_trace, run_image, rebuild_image, replay_image, conservative_image, count_image}
use Rattle.tool_command.specs.Forms.{IsForm, IsImageWord}

named_h : IsImageWord (codes "h")
named_h = record { some = lit< tt; no_option = λ e. omega (arith, e) }

format_most : IsForm (codes "format" ∷ codes "h" ∷ codes "4096" ∷ []) (format_image (codes "h") 4096)
unfolding digits largest_capacity
format_most = record { words_are = refl; named = named_h; least = lit≤ tt; most = lit≤ tt }

show_without : IsForm (codes "show" ∷ codes "h" ∷ []) (show_image (codes "h") false false)
show_without = record { words_are = refl; named = named_h }

show_with : IsForm (codes "show" ∷ codes "h" ∷ codes "--map" ∷ codes "--par" ∷ []) (show_image (codes "h") true true)
show_with = record { words_are = refl; named = named_h }

drain_last : IsForm (codes "drain" ∷ codes "h" ∷ codes "20" ∷ []) (drain_image (codes "h") 20)
unfolding digits
drain_last = record { words_are = refl; named = named_h; is_class = record { some = lit≤ tt; last = lit≤ tt } }

gen_most : IsForm (codes "gen" ∷ codes "100000" ∷ codes "1000000" ∷ []) (gen_trace 100000 1000000)
unfolding digits
gen_most = record { words_are = refl; few = lit≤ tt; small = lit≤ tt }

run_without : IsForm (codes "run" ∷ codes "h" ∷ codes "--workers" ∷ codes "1" ∷ [])
    (run_image (codes "h") (record { workers = 1; budget = MOST_BUDGET; seed = 0; with_sum = false; with_map = false }))
unfolding digits
run_without = record {
  stop = None;
  seed = None;
  words_are = refl;
  named = named_h;
  some = lit≤ tt;
  few = lit≤ tt;
  within = refl;
  below = lit≤ tt;
  seeded = refl;
  fits = lit< tt;
}

run_with : IsForm (codes "run" ∷ codes "h" ∷ codes "--workers" ∷ codes "8" ∷ codes "--stop" ∷ codes "1099511627775"
    ∷ codes "--seed" ∷ codes "18446744073709551615" ∷ codes "--sum" ∷ codes "--map" ∷ [])
    (run_image (codes "h") (record { workers = 8; budget = 1099511627775; seed = 18446744073709551615; with_sum = true; with_map = true }))
unfolding digits
run_with = record {
  stop = Some 1099511627775;
  seed = Some 18446744073709551615;
  words_are = refl;
  named = named_h;
  some = lit≤ tt;
  few = lit≤ tt;
  within = refl;
  below = lit≤ tt;
  seeded = refl;
  fits = lit< tt;
}

rebuild_without : IsForm (codes "rebuild" ∷ codes "h" ∷ []) (rebuild_image (codes "h") MOST_BUDGET 0)
rebuild_without = record {
  stop = None;
  seed = None;
  words_are = refl;
  named = named_h;
  within = refl;
  below = lit≤ tt;
  seeded = refl;
  fits = lit< tt;
}

rebuild_with : IsForm (codes "rebuild" ∷ codes "h" ∷ codes "--stop" ∷ codes "7" ∷ codes "--seed" ∷ codes "5" ∷ [])
    (rebuild_image (codes "h") 7 5)
unfolding digits
rebuild_with = record {
  stop = Some 7;
  seed = Some 5;
  words_are = refl;
  named = named_h;
  within = refl;
  below = lit≤ tt;
  seeded = refl;
  fits = lit< tt;
}

replay_without : IsForm (codes "replay" ∷ codes "h" ∷ []) (replay_image (codes "h") 0)
replay_without = record { seed = None; words_are = refl; named = named_h; seeded = refl; fits = lit< tt }

replay_with : IsForm (codes "replay" ∷ codes "h" ∷ codes "--seed" ∷ codes "5" ∷ []) (replay_image (codes "h") 5)
unfolding digits
replay_with = record { seed = Some 5; words_are = refl; named = named_h; seeded = refl; fits = lit< tt }

conservative_without : IsForm (codes "conservative" ∷ codes "h" ∷ []) (conservative_image (codes "h") false)
conservative_without = record { words_are = refl; named = named_h }

conservative_with : IsForm (codes "conservative" ∷ codes "h" ∷ codes "--map" ∷ []) (conservative_image (codes "h") true)
conservative_with = record { words_are = refl; named = named_h }

count_without : IsForm (codes "count" ∷ codes "h" ∷ []) (count_image (codes "h") false)
count_without = record { words_are = refl; named = named_h }

count_with : IsForm (codes "count" ∷ codes "h" ∷ codes "--map" ∷ []) (count_image (codes "h") true)
count_with = record { words_are = refl; named = named_h }

-- no image's word: an option, and the empty word
option_word : IsImageWord (codes "--map") → ⊥
option_word is = is.no_option refl

empty_word : IsImageWord [] → ⊥
empty_word is = omega (arith, is.some)
