-- Worked examples: by which seed the chances of a command begin.
use Rattle.std.specs.Prelude.{◌≡◌, codes, Some, None, true, false, refl}
use Rattle.tool_command.specs.Command.{show_image, drain_image, gen_trace, run_image, rebuild_image, replay_image}
use Rattle.tool_run.specs.Seeding.{seed_of}

seed_of_a_run : seed_of (run_image (codes "h") (record { workers = 2; budget = 25; seed = 14; with_sum = false; with_map = false })) ≡ Some 14
seed_of_a_run = refl

seed_of_a_rebuild : seed_of (rebuild_image (codes "h") 25 14) ≡ Some 14
seed_of_a_rebuild = refl

seed_of_a_replay : seed_of (replay_image (codes "h") 14) ≡ Some 14
seed_of_a_replay = refl

-- a drain of a class begins by 0, whatever the class
seed_of_a_drain : seed_of (drain_image (codes "h") 4) ≡ Some 0
seed_of_a_drain = refl

-- the seed of a trace that is made is none of the chances'
no_seed : (seed_of (gen_trace 5 14) ≡ None) × (seed_of (show_image (codes "h") false true) ≡ None)
no_seed = (refl, refl)
