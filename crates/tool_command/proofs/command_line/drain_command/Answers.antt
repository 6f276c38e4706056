use Rattle.std.proofs.Common.{Ok, codes}
use Rattle.clap.specs.Words.{App, new_app, with_rule}
use Rattle.super_block.specs.declared.layout.TheConstants.{LAST_CLASS}
use Rattle.tool_command.specs.CommandLine.{class_id, image_id, number_rule, word_rule}
use Rattle.tool_command.proofs.RuleLemmas.{told_with}
use Rattle.tool_command.proofs.command_line.drain_command.Goals as goal

pub returns : goal.returns
returns c =
    let named = told_with (λ (a : App). with_rule a (word_rule image_id)) (new_app (codes "drain"))
    (Ok c.new.result) _ c.new.ensures.app c.with_word-command.ensures in
    told_with (λ (a : App). with_rule a (number_rule class_id 1 LAST_CLASS)) _ _ _ named c.with_number.ensures
