use Rattle.std.proofs.Common.{◌^◌, ◌-◌}
use Rattle.clap.specs.Words.{App, with_rule}
use Rattle.image_run.specs.declared.options.TheConstants.{MOST_BUDGET}
use Rattle.tool_command.specs.CommandLine.{stop_id, seed_id, option_rule}
use Rattle.tool_command.proofs.RuleLemmas.{told_twice}
use Rattle.tool_command.proofs.command_line.with_limits.Goals as goal

pub returns : goal.returns
returns c =
    told_twice (λ (a : App). with_rule a (option_rule stop_id 0 MOST_BUDGET)) (λ (a : App). with_rule a (option_rule seed_id 0 (2 ^ 64 - 1))) _ _ _
    c.with_option-command.ensures c.with_option.ensures
