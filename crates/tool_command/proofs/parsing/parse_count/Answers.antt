use Rattle.std.proofs.Common.{◌≡◌, true, refl, rules, IsErrOf}
use Rattle.clap.specs.Words.{is_simple, is_simple_and_free}
use Rattle.tool_command.specs.Command.{texts}
use Rattle.tool_command.specs.CommandLine.{count_app}
use Rattle.tool_command.specs.declared.command_line.Refusal.TheVariants.{Usage}
use Rattle.tool_command.proofs.CommandLemmas.{taken_as, faulty_as, told_has}
use Rattle.tool_command.proofs.parsing.parse_count.Goals as goal

pub match_words-requires-clause-simple : goal.match_words-requires-clause-simple
match_words-requires-clause-simple c = told_has count_app (λ app. is_simple app ≡ true) _ c.count_command.ensures refl

pub match_words-requires-clause-free : goal.match_words-requires-clause-free
match_words-requires-clause-free c = told_has count_app (λ app. is_simple_and_free app ≡ true) _ c.count_command.ensures refl

pub read_count-requires : goal.read_count-requires
read_count-requires c =
    let taken = taken_as count_app _ _ _ c.in_ok-matches.ensures.ok c.count_command.ensures c.requires in
    (texts c.args.words.now, taken.0, taken.1)

pub returns-in_err-matches-clause-err : goal.returns-in_err-matches-clause-err
returns-in_err-matches-clause-err c is =
    let refused : IsErrOf c.match_words.result Usage = search rules in
    faulty_as count_app _ _ (c.match_words.ensures.err refused) c.count_command.ensures

pub returns-clause-ok : goal.returns-clause-ok
returns-clause-ok c =
    let taken = taken_as count_app _ _ _ c.in_ok-matches.ensures.ok c.count_command.ensures c.requires in
    c.read_count.ensures _ taken.0 taken.1
