-- What each command uses: the image that it names, its kinds, links and maps, and the source.
use Rattle.std.specs.Prelude.{◌⊎◌, ℕ, List, Option, Some, None}
use Rattle.dict_model.specs.Links.{kind_count}
use Rattle.tool_command.specs.Command.{Command, format_image, show_image, drain_image, gen_trace, run_image, rebuild_image, replay_image, conservative_image, count_image}
use Rattle.tool_run.specs.Making.{IsOrderlyIn}

-- the command gets the image that it names
abbrev pub GetsImage : Command → Type 0
GetsImage (format_image image capacity) = ⊥
GetsImage (show_image image with_map in_parallel) = Unit {0}
GetsImage (drain_image image class) = Unit {0}
GetsImage (gen_trace requests seed) = ⊥
GetsImage (run_image image options) = Unit {0}
GetsImage (rebuild_image image budget seed) = Unit {0}
GetsImage (replay_image image seed) = Unit {0}
GetsImage (conservative_image image with_map) = Unit {0}
GetsImage (count_image image with_map) = Unit {0}

-- the limit of the kinds of roots that the command checks the header of its image against, if it checks any
abbrev pub kinds_checked : Command → Option ℕ
kinds_checked (format_image image capacity) = None
kinds_checked (show_image image with_map in_parallel) = Some kind_count
kinds_checked (drain_image image class) = Some kind_count
kinds_checked (gen_trace requests seed) = None
kinds_checked (run_image image options) = Some kind_count
kinds_checked (rebuild_image image budget seed) = Some kind_count
kinds_checked (replay_image image seed) = Some kind_count
kinds_checked (conservative_image image with_map) = None
kinds_checked (count_image image with_map) = Some kind_count

-- the command follows the links of whatever image it names, as the filter lists them
abbrev pub FollowsLinks : Command → Type 0
FollowsLinks (format_image image capacity) = ⊥
FollowsLinks (show_image image with_map in_parallel) = Unit {0}
FollowsLinks (drain_image image class) = Unit {0}
FollowsLinks (gen_trace requests seed) = ⊥
FollowsLinks (run_image image options) = Unit {0}
FollowsLinks (rebuild_image image budget seed) = Unit {0}
FollowsLinks (replay_image image seed) = Unit {0}
FollowsLinks (conservative_image image with_map) = ⊥
FollowsLinks (count_image image with_map) = ⊥

-- a word that points outside refuses the command, in the image in these bytes: `count` follows links alone where anchors don't tell
abbrev pub RefusesOutside : Command → List ℕ → Type 0
RefusesOutside (format_image image capacity) bytes = ⊥
RefusesOutside (show_image image with_map in_parallel) bytes = Unit {0}
RefusesOutside (drain_image image class) bytes = Unit {0}
RefusesOutside (gen_trace requests seed) bytes = ⊥
RefusesOutside (run_image image options) bytes = Unit {0}
RefusesOutside (rebuild_image image budget seed) bytes = Unit {0}
RefusesOutside (replay_image image seed) bytes = Unit {0}
RefusesOutside (conservative_image image with_map) bytes = ⊥
RefusesOutside (count_image image with_map) bytes = ¬ (IsOrderlyIn bytes)

-- the command reads the maps of the image that it names
abbrev pub Reads : Command → Type 0
Reads (format_image image capacity) = ⊥
Reads (show_image image with_map in_parallel) = Unit {0}
Reads (drain_image image class) = ⊥
Reads (gen_trace requests seed) = ⊥
Reads (run_image image options) = Unit {0}
Reads (rebuild_image image budget seed) = ⊥
Reads (replay_image image seed) = ⊥
Reads (conservative_image image with_map) = ⊥
Reads (count_image image with_map) = ⊥

-- the command puts an image in the place of the one that it gets
abbrev pub PutsBack : Command → Type 0
PutsBack (format_image image capacity) = ⊥
PutsBack (show_image image with_map in_parallel) = ⊥
PutsBack (drain_image image class) = ⊥
PutsBack (gen_trace requests seed) = ⊥
PutsBack (run_image image options) = Unit {0}
PutsBack (rebuild_image image budget seed) = Unit {0}
PutsBack (replay_image image seed) = ⊥
PutsBack (conservative_image image with_map) = ⊥
PutsBack (count_image image with_map) = ⊥

-- the command runs a trace
abbrev pub RunsATrace : Command → Type 0
RunsATrace (format_image image capacity) = ⊥
RunsATrace (show_image image with_map in_parallel) = ⊥
RunsATrace (drain_image image class) = ⊥
RunsATrace (gen_trace requests seed) = ⊥
RunsATrace (run_image image options) = Unit {0}
RunsATrace (rebuild_image image budget seed) = ⊥
RunsATrace (replay_image image seed) = ⊥
RunsATrace (conservative_image image with_map) = ⊥
RunsATrace (count_image image with_map) = ⊥

-- the command replays a schedule
abbrev pub ReplaysASchedule : Command → Type 0
ReplaysASchedule (format_image image capacity) = ⊥
ReplaysASchedule (show_image image with_map in_parallel) = ⊥
ReplaysASchedule (drain_image image class) = ⊥
ReplaysASchedule (gen_trace requests seed) = ⊥
ReplaysASchedule (run_image image options) = ⊥
ReplaysASchedule (rebuild_image image budget seed) = ⊥
ReplaysASchedule (replay_image image seed) = Unit {0}
ReplaysASchedule (conservative_image image with_map) = ⊥
ReplaysASchedule (count_image image with_map) = ⊥

-- the command reads the source
abbrev pub ReadsSource : Command → Type 0
ReadsSource command = RunsATrace command ⊎ ReplaysASchedule command
