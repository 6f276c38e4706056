use Rattle.tool_command.specs.Command.{IsUsage, texts}
use Rattle.tool_command.specs.Invocations.{command_of}
use Rattle.tool_command.proofs.CommandLemmas.{no_texts, usage_none}
use Rattle.tool_command.proofs.TakenLemmas.{faultless_if_ok, usage_faulty}
use Rattle.tool_command.proofs.parsing.parse.Goals as goal

pub returns-in-len1-up-clause-faultless : goal.returns-in-len1-up-clause-faultless
returns-in-len1-up-clause-faultless c = faultless_if_ok (texts c.args.words.now) command_of c.parse_command.result c.parse_command.ensures.ok

pub returns-in-len1-up-clause-faulty : goal.returns-in-len1-up-clause-faulty
returns-in-len1-up-clause-faulty c is = usage_faulty (texts c.args.words.now) (c.parse_command.ensures.err is)

pub returns-in-empty-clause-faulty : goal.returns-in-empty-clause-faulty
returns-in-empty-clause-faulty c is =
    let none : IsUsage (texts c.args.words.now) = usage_none (texts c.args.words.now) (no_texts c.args.words.now c.in-empty.len_below) in
    usage_faulty (texts c.args.words.now) none
