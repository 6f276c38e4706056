use Rattle.std.proofs.Common.{◌≡◌, Ok, rules}
use Rattle.clap.specs.Words.{new_rule}
use Rattle.tool_command.proofs.RuleLemmas.{IsTold, rule_added, named, acting}
use Rattle.tool_command.proofs.command_line.with_flag.Goals as goal

pub returns : goal.returns
returns c =
    let built : c.args.command ≡ Ok c.in_ok-command.command = search rules in
    let fresh : IsTold c.new.result (new_rule c.args.id.now) = record { own = c.new.ensures.optional.1; is = c.new.ensures.rule } in
    let option = named _ _ _ fresh _ c.long.ensures in
    rule_added _ _ _ _ _ built c.arg.ensures (acting _ _ _ option _ c.action-flag.ensures)
