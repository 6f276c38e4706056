-- Which commands use the tool's filter: those that follow links, of each image or of some, check the kinds of roots too.
use Rattle.std.proofs.Common.{◌≡◌, ℕ, List, Some, refl}
use Rattle.dict_model.specs.Links.{kind_count}
use Rattle.tool_command.specs.Command.{Command, format_image, show_image, gen_trace, run_image, replay_image, conservative_image, count_image}
use Rattle.tool_run.specs.CommandUses.{GetsImage, FollowsLinks, RefusesOutside, Reads, RunsATrace, ReplaysASchedule, kinds_checked}

pub follows_gets : (command : Command) → FollowsLinks command → GetsImage command
follows_gets (format_image image capacity) follows = follows
follows_gets (gen_trace requests seed) follows = follows
follows_gets other follows = tt

pub follows_checks : (command : Command) → FollowsLinks command → kinds_checked command ≡ Some kind_count
follows_checks (format_image image capacity) follows = absurd follows
follows_checks (gen_trace requests seed) follows = absurd follows
follows_checks (conservative_image image with_map) follows = absurd follows
follows_checks (count_image image with_map) follows = absurd follows
follows_checks other follows = refl

pub follows_refuses : (command : Command) (bytes : List ℕ) → FollowsLinks command → RefusesOutside command bytes
follows_refuses (count_image image with_map) bytes follows = absurd follows
follows_refuses other bytes follows = follows

pub refuses_gets : (command : Command) (bytes : List ℕ) → RefusesOutside command bytes → GetsImage command
refuses_gets (format_image image capacity) bytes refuses = refuses
refuses_gets (gen_trace requests seed) bytes refuses = refuses
refuses_gets other bytes refuses = tt

pub refuses_checks : (command : Command) (bytes : List ℕ) → RefusesOutside command bytes → kinds_checked command ≡ Some kind_count
refuses_checks (format_image image capacity) bytes refuses = absurd refuses
refuses_checks (gen_trace requests seed) bytes refuses = absurd refuses
refuses_checks (conservative_image image with_map) bytes refuses = absurd refuses
refuses_checks other bytes refuses = refl

pub reads_follows : (command : Command) → Reads command → FollowsLinks command
reads_follows (show_image image with_map in_parallel) reads = tt
reads_follows (run_image image options) reads = tt
reads_follows other reads = absurd reads

pub runs_follows : (command : Command) → RunsATrace command → FollowsLinks command
runs_follows (run_image image options) runs = tt
runs_follows other runs = absurd runs

pub replays_follows : (command : Command) → ReplaysASchedule command → FollowsLinks command
replays_follows (replay_image image seed) replays = tt
replays_follows other replays = absurd replays
