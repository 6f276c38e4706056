use Rattle.std.proofs.Common.{◌≡◌, Some, rules, Ok}
use Rattle.clap.specs.Words.{new_rule}
use Rattle.clap.specs.declared.builder.value_parser.ValueParser.TheVariants as parser
use Rattle.tool_command.proofs.RuleLemmas.{IsTold, rule_added, named, parsed}
use Rattle.tool_command.proofs.command_line.with_option.Goals as goal

pub returns : goal.returns
returns c =
    let built : c.args.command ≡ Ok c.in_ok-command.command = search rules in
    let fresh : IsTold c.new.result (new_rule c.args.id.now) = record { own = c.new.ensures.optional.1; is = c.new.ensures.rule } in
    let number : c.value_parser.result.value_parser ≡ Some (parser.Unsigned c.args.least c.args.most) = search rules in
    let option = named _ _ _ fresh _ c.long.ensures in
    rule_added _ _ _ _ _ built c.arg.ensures (parsed _ _ _ option _ c.value_parser.ensures.others number)
