use Rattle.std.proofs.Common.{◌≡◌, true, refl, rules, IsErrOf}
use Rattle.clap.specs.Words.{is_simple, is_simple_and_free}
use Rattle.tool_command.specs.Command.{texts}
use Rattle.tool_command.specs.CommandLine.{show_app}
use Rattle.tool_command.specs.declared.command_line.Refusal.TheVariants.{Usage}
use Rattle.tool_command.proofs.CommandLemmas.{taken_as, faulty_as, told_has}
use Rattle.tool_command.proofs.parsing.parse_show.Goals as goal

pub match_words-requires-clause-simple : goal.match_words-requires-clause-simple
match_words-requires-clause-simple c = told_has show_app (λ app. is_simple app ≡ true) _ c.show_command.ensures refl

pub match_words-requires-clause-free : goal.match_words-requires-clause-free
match_words-requires-clause-free c = told_has show_app (λ app. is_simple_and_free app ≡ true) _ c.show_command.ensures refl

pub read_show-requires : goal.read_show-requires
read_show-requires c =
    let taken = taken_as show_app _ _ _ c.in_ok-matches.ensures.ok c.show_command.ensures c.requires in
    (texts c.args.words.now, taken.0, taken.1)

pub returns-in_err-matches-clause-err : goal.returns-in_err-matches-clause-err
returns-in_err-matches-clause-err c is =
    let refused : IsErrOf c.match_words.result Usage = search rules in
    faulty_as show_app _ _ (c.match_words.ensures.err refused) c.show_command.ensures

pub returns-clause-ok : goal.returns-clause-ok
returns-clause-ok c =
    let taken = taken_as show_app _ _ _ c.in_ok-matches.ensures.ok c.show_command.ensures c.requires in
    c.read_show.ensures _ taken.0 taken.1
