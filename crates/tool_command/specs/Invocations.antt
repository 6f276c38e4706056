-- The command that an invocation stands for.
use Rattle.image_run.specs.Running.{options_of}
use Rattle.tool_command.specs.declared.command.Invocation.{Invocation}
use Rattle.tool_command.specs.declared.command.Invocation.TheVariants.{Format, Show, Drain, Gen, Run, Rebuild, Replay, Conservative, Count}
use Rattle.tool_command.specs.Command.{Command, format_image, show_image, drain_image, gen_trace, run_image, rebuild_image, replay_image, conservative_image, count_image}

-- the command that an invocation is
abbrev pub command_of : Invocation → Command
command_of (Format image layout) = format_image image.now layout.capacity
command_of (Show image with_map in_parallel) = show_image image.now with_map in_parallel
command_of (Drain image class) = drain_image image.now class.number
command_of (Gen plan) = gen_trace plan.requests plan.seed
command_of (Run image options) = run_image image.now (options_of options)
command_of (Rebuild image budget seed) = rebuild_image image.now budget seed
command_of (Replay image seed) = replay_image image.now seed
command_of (Conservative image with_map) = conservative_image image.now with_map
command_of (Count image with_map) = count_image image.now with_map
