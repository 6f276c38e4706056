-- Worked examples: words, and what they ask for.
use Rattle.std.specs.Prelude.{◌≡◌, [], ◌∷◌, codes, true, false, refl}
use Rattle.std.proofs.Common.{inl, inr, lit<, lit≤}
use Rattle.clap.specs.Words.{fault_of}
use Rattle.clap.specs.declared.error.kind.ErrorKind.TheVariants.{ValueValidation, ArgumentConflict, DisplayHelp, MissingRequiredArgument, UnknownArgument}
use Rattle.clap.proofs.OnLiterals.{clap_on_literals}
use Rattle.heap_model.specs.Geometry.{largest_capacity}
use Rattle.image_run.specs.declared.options.TheConstants.{MOST_BUDGET}
use Rattle.tool_command.specs.Command.{Asks, format_image, show_image, drain_image, gen_trace, run_image, rebuild_image, replay_image, conservative_image, count_image}
use Rattle.tool_command.specs.CommandLine.{format_app, drain_app, show_app, gen_app, run_app, rebuild_app, conservative_app, count_app, IsNumber}

-- a leading zero changes nothing
number_one : IsNumber (codes "01") 1
number_one = record { digits = (lit< tt, (lit< tt, (lit< tt, tt))); value = refl }

format_one : Asks (codes "format" ∷ codes "h" ∷ codes "01" ∷ []) (format_image (codes "h") 1)
unfolding largest_capacity clap_on_literals
format_one = record {
  taken = record { named = refl; faultless = refl };
  named = refl;
  counted = record { text = codes "01"; given = refl; counted = number_one };
  least = lit≤ tt;
  most = lit≤ tt;
}

show_one : Asks (codes "show" ∷ codes "h" ∷ []) (show_image (codes "h") false false)
unfolding clap_on_literals
show_one = record {
  taken = record { named = refl; faultless = refl };
  named = refl;
  mapped = (λ e. cc, λ e. cc);
  parallel = (λ e. cc, λ e. cc);
}

-- options stand anywhere behind the command, in any order
show_map : Asks (codes "show" ∷ codes "--map" ∷ codes "h" ∷ []) (show_image (codes "h") true false)
unfolding clap_on_literals
show_map = record {
  taken = record { named = refl; faultless = refl };
  named = refl;
  mapped = (λ e. refl, λ e. refl);
  parallel = (λ e. cc, λ e. cc);
}

show_all : Asks (codes "show" ∷ codes "--par" ∷ codes "h" ∷ codes "--map" ∷ []) (show_image (codes "h") true true)
unfolding clap_on_literals
show_all = record {
  taken = record { named = refl; faultless = refl };
  named = refl;
  mapped = (λ e. refl, λ e. refl);
  parallel = (λ e. refl, λ e. refl);
}

drain_one : Asks (codes "drain" ∷ codes "h" ∷ codes "01" ∷ []) (drain_image (codes "h") 1)
unfolding clap_on_literals
drain_one = record {
  taken = record { named = refl; faultless = refl };
  named = refl;
  counted = record { text = codes "01"; given = refl; counted = number_one };
  is_class = record { some = lit≤ tt; last = lit≤ tt };
}

number_hundred_thousand : IsNumber (codes "100000") 100000
number_hundred_thousand = record { digits = (lit< tt, (lit< tt, (lit< tt, (lit< tt, (lit< tt, (lit< tt, (lit< tt, tt))))))); value = refl }

-- the greatest number of requests
gen_most : Asks (codes "gen" ∷ codes "100000" ∷ codes "01" ∷ []) (gen_trace 100000 1)
unfolding clap_on_literals
gen_most = record {
  taken = record { named = refl; faultless = refl };
  counted = record { text = codes "100000"; given = refl; counted = number_hundred_thousand };
  few = lit≤ tt;
  seeded = record { text = codes "01"; given = refl; counted = number_one };
  small = lit≤ tt;
}

-- options in any order, a number behind an equals sign or a space; two workers
run_all : Asks (codes "run" ∷ codes "--map" ∷ codes "--stop" ∷ codes "7" ∷ codes "h" ∷ codes "--workers=2" ∷ [])
    (run_image (codes "h") (record { workers = 2; budget = 7; seed = 0; with_sum = false; with_map = true }))
unfolding clap_on_literals
run_all = record {
  taken = record { named = refl; faultless = refl };
  named = refl;
  by = record { text = codes "2"; given = refl; counted = record { digits = (lit< tt, (lit< tt, tt)); value = refl } };
  some = lit≤ tt;
  few = lit≤ tt;
  within = inl (record { text = codes "7"; given = refl; counted = record { digits = (lit< tt, (lit< tt, tt)); value = refl } });
  below = lit≤ tt;
  seeded = inr (refl, refl);
  fits = lit< tt;
  summed = (λ e. cc, λ e. cc);
  mapped = (λ e. refl, λ e. refl);
}

-- recovery in place, with options and without
rebuild_within : Asks (codes "rebuild" ∷ codes "--seed=5" ∷ codes "h" ∷ codes "--stop" ∷ codes "9" ∷ []) (rebuild_image (codes "h") 9 5)
unfolding clap_on_literals
rebuild_within = record {
  taken = record { named = refl; faultless = refl };
  named = refl;
  within = inl (record { text = codes "9"; given = refl; counted = record { digits = (lit< tt, (lit< tt, tt)); value = refl } });
  below = lit≤ tt;
  seeded = inl (record { text = codes "5"; given = refl; counted = record { digits = (lit< tt, (lit< tt, tt)); value = refl } });
  fits = lit< tt;
}

rebuild_to_its_end : Asks (codes "rebuild" ∷ codes "h" ∷ []) (rebuild_image (codes "h") MOST_BUDGET 0)
unfolding clap_on_literals
rebuild_to_its_end = record {
  taken = record { named = refl; faultless = refl };
  named = refl;
  within = inr (refl, refl);
  below = lit≤ tt;
  seeded = inr (refl, refl);
  fits = lit< tt;
}

-- a replay, with a seed and without
replay_seeded : Asks (codes "replay" ∷ codes "h" ∷ codes "--seed" ∷ codes "5" ∷ []) (replay_image (codes "h") 5)
unfolding clap_on_literals
replay_seeded = record {
  taken = record { named = refl; faultless = refl };
  named = refl;
  seeded = inl (record { text = codes "5"; given = refl; counted = record { digits = (lit< tt, (lit< tt, tt)); value = refl } });
  fits = lit< tt;
}

replay_plain : Asks (codes "replay" ∷ codes "h" ∷ []) (replay_image (codes "h") 0)
unfolding clap_on_literals
replay_plain = record {
  taken = record { named = refl; faultless = refl };
  named = refl;
  seeded = inr (refl, refl);
  fits = lit< tt;
}

-- recovery with no filter
conservative_plain : Asks (codes "conservative" ∷ codes "h" ∷ []) (conservative_image (codes "h") false)
unfolding clap_on_literals
conservative_plain = record { taken = record { named = refl; faultless = refl }; named = refl; mapped = (λ e. cc, λ e. cc) }

conservative_map : Asks (codes "conservative" ∷ codes "--map" ∷ codes "h" ∷ []) (conservative_image (codes "h") true)
unfolding clap_on_literals
conservative_map = record { taken = record { named = refl; faultless = refl }; named = refl; mapped = (λ e. refl, λ e. refl) }

-- it has no threads
conservative_in_parallel : fault_of conservative_app (codes "conservative" ∷ codes "h" ∷ codes "--par" ∷ []) ≡ UnknownArgument ∷ []
unfolding clap_on_literals
conservative_in_parallel = refl

-- opening by an image's own anchors
count_plain : Asks (codes "count" ∷ codes "h" ∷ []) (count_image (codes "h") false)
unfolding clap_on_literals
count_plain = record { taken = record { named = refl; faultless = refl }; named = refl; mapped = (λ e. cc, λ e. cc) }

count_map : Asks (codes "count" ∷ codes "--map" ∷ codes "h" ∷ []) (count_image (codes "h") true)
unfolding clap_on_literals
count_map = record { taken = record { named = refl; faultless = refl }; named = refl; mapped = (λ e. refl, λ e. refl) }

-- it has no threads
count_in_parallel : fault_of count_app (codes "count" ∷ codes "h" ∷ codes "--par" ∷ []) ≡ UnknownArgument ∷ []
unfolding clap_on_literals
count_in_parallel = refl

-- no number of workers
workers_missing : fault_of run_app (codes "run" ∷ codes "h" ∷ []) ≡ MissingRequiredArgument ∷ []
unfolding clap_on_literals
workers_missing = refl

-- the first number past each range: of workers, seeds of traces, steps, and superblocks
nine_workers : fault_of run_app (codes "run" ∷ codes "h" ∷ codes "--workers" ∷ codes "9" ∷ []) ≡ ValueValidation ∷ []
unfolding clap_on_literals
nine_workers = refl

seed_past_the_last : fault_of gen_app (codes "gen" ∷ codes "1" ∷ codes "1000001" ∷ []) ≡ ValueValidation ∷ []
unfolding clap_on_literals
seed_past_the_last = refl

step_past_the_last : fault_of rebuild_app (codes "rebuild" ∷ codes "h" ∷ codes "--stop" ∷ codes "1099511627776" ∷ []) ≡ ValueValidation ∷ []
unfolding clap_on_literals
step_past_the_last = refl

superblock_past_the_last : fault_of format_app (codes "format" ∷ codes "h" ∷ codes "4097" ∷ []) ≡ ValueValidation ∷ []
unfolding clap_on_literals largest_capacity
superblock_past_the_last = refl

-- a request too many, a class that there isn't, an option given twice, and a wish for help
too_many_requests : fault_of gen_app (codes "gen" ∷ codes "100001" ∷ codes "0" ∷ []) ≡ ValueValidation ∷ []
unfolding clap_on_literals
too_many_requests = refl

class_past_the_last : fault_of drain_app (codes "drain" ∷ codes "h" ∷ codes "21" ∷ []) ≡ ValueValidation ∷ []
unfolding clap_on_literals
class_past_the_last = refl

map_twice : fault_of show_app (codes "show" ∷ codes "h" ∷ codes "--map" ∷ codes "--map" ∷ []) ≡ ArgumentConflict ∷ []
unfolding clap_on_literals
map_twice = refl

help_wanted : fault_of show_app (codes "show" ∷ codes "--help" ∷ []) ≡ DisplayHelp ∷ []
unfolding clap_on_literals
help_wanted = refl
