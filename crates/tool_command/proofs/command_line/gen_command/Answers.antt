use Rattle.std.proofs.Common.{Ok, codes}
use Rattle.clap.specs.Words.{App, new_app, with_rule}
use Rattle.tool_command.specs.declared.trace_plan.TheConstants.{GREATEST_SEED, MOST_REQUESTS}
use Rattle.tool_command.specs.CommandLine.{number_rule, requests_id, trace_seed_id}
use Rattle.tool_command.proofs.RuleLemmas.{told_with}
use Rattle.tool_command.proofs.command_line.gen_command.Goals as goal

pub returns : goal.returns
returns c =
    let counted = told_with (λ (a : App). with_rule a (number_rule requests_id 0 MOST_REQUESTS)) (new_app (codes "gen"))
    (Ok c.new.result) _ c.new.ensures.app c.with_number-command.ensures in
    told_with (λ (a : App). with_rule a (number_rule trace_seed_id 0 GREATEST_SEED)) _ _ _ counted c.with_number.ensures
