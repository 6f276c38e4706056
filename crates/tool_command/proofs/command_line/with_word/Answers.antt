use Rattle.std.proofs.Common.{◌≡◌, Ok, rules}
use Rattle.clap.specs.Words.{new_rule}
use Rattle.tool_command.proofs.RuleLemmas.{IsTold, rule_added, needed}
use Rattle.tool_command.proofs.command_line.with_word.Goals as goal

pub returns : goal.returns
returns c =
    let built : c.args.command ≡ Ok c.in_ok-command.command = search rules in
    let fresh : IsTold c.new.result (new_rule c.args.id.now) = record { own = c.new.ensures.optional.1; is = c.new.ensures.rule } in
    rule_added _ _ _ _ _ built c.arg.ensures (needed _ _ _ fresh c.required.ensures)
