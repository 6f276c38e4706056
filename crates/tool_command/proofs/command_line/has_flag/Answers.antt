use Rattle.std.proofs.Common.{◌≡◌, ◌∙◌, Some, ap, sym, option_map, rules}
use Rattle.clap.specs.Words.{first_of, rows_of, found_of}
use Rattle.tool_command.proofs.CommandLemmas.{text_in_rows}
use Rattle.tool_command.proofs.command_line.has_flag.Goals as goal

pub returns-in-Some : goal.returns-in-Some
returns-in-Some c =
    let f = found_of c.args.matches.now in
    let given : Some c.in-Some.text.now ≡ first_of c.args.id.now (rows_of f) =
    sym (ap (option_map (λ text. text.now)) c.in-Some.is) ∙ c.get_str.ensures ∙ text_in_rows f c.args.id.now in
    rw (← given) (search rules)
