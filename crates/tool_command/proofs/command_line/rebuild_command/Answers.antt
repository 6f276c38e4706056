use Rattle.std.proofs.Common.{Ok, codes}
use Rattle.clap.specs.Words.{App, new_app, with_rule}
use Rattle.tool_command.specs.CommandLine.{image_id, with_limits, word_rule}
use Rattle.tool_command.proofs.RuleLemmas.{told_with}
use Rattle.tool_command.proofs.command_line.rebuild_command.Goals as goal

pub returns : goal.returns
returns c =
    let named = told_with (λ (a : App). with_rule a (word_rule image_id)) (new_app (codes "rebuild"))
    (Ok c.new.result) _ c.new.ensures.app c.with_word-command.ensures in
    told_with with_limits _ _ _ named c.with_limits.ensures
