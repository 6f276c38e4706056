-- By which seed a command's chances begin.
use Rattle.std.specs.Prelude.{◌≡◌, ℕ, Option, Some, None}
use Rattle.tool_ports.specs.Chances.{ComesFromSeed}
use Rattle.tool_command.specs.Command.{Command, format_image, show_image, drain_image, gen_trace, run_image, rebuild_image, replay_image, conservative_image, count_image}

-- the seed by which the chances of a command begin: the one that it was given, and 0 of a drain; none where it asks nothing of chances
abbrev pub seed_of : Command → Option ℕ
seed_of (format_image image capacity) = None
seed_of (show_image image with_map in_parallel) = None
seed_of (drain_image image class) = Some 0
seed_of (gen_trace requests seed) = None
seed_of (run_image image options) = Some options.seed
seed_of (rebuild_image image budget seed) = Some seed
seed_of (replay_image image seed) = Some seed
seed_of (conservative_image image with_map) = None
seed_of (count_image image with_map) = None

-- the chances began anew by the seed, first of all and once, and come from that; where there is none they are as they were
abbrev pub BeginBy : {C One : Type 0} → (C → ℕ → C → Type 0) → (C → ℕ → One → C → Type 0) → (C → ℕ → C → Type 0) → Option ℕ → C → C → Type 0
BeginBy seed_gives chance_gives word_gives None old new = new ≡ old
BeginBy seed_gives chance_gives word_gives (Some seed) old new = ComesFromSeed seed_gives chance_gives word_gives old seed new
