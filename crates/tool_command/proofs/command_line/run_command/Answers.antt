use Rattle.std.proofs.Common.{Ok, codes}
use Rattle.clap.specs.Words.{App, new_app, with_rule}
use Rattle.image_run.specs.declared.options.TheConstants.{MOST_WORKERS}
use Rattle.tool_command.specs.CommandLine.{flag_rule, image_id, map_id, needed_option_rule, sum_id, with_limits, word_rule, workers_id}
use Rattle.tool_command.proofs.RuleLemmas.{told_with}
use Rattle.tool_command.proofs.command_line.run_command.Goals as goal

pub returns : goal.returns
returns c =
    let named = told_with (λ (a : App). with_rule a (word_rule image_id)) (new_app (codes "run"))
    (Ok c.new.result) _ c.new.ensures.app c.with_word-command.ensures in
    let worked = told_with (λ (a : App). with_rule a (needed_option_rule workers_id 1 MOST_WORKERS)) _ _ _ named c.with_needed_option-command.ensures in
    let limited = told_with with_limits _ _ _ worked c.with_limits-command.ensures in
    let summed = told_with (λ (a : App). with_rule a (flag_rule sum_id)) _ _ _ limited c.with_flag-command.ensures in
    told_with (λ (a : App). with_rule a (flag_rule map_id)) _ _ _ summed c.with_flag.ensures
