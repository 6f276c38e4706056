use Rattle.std.proofs.Common.{sym, ◌∙◌}
use Rattle.filter_trace.proofs.MarksLemmas.{same_named, names_itself, named_same}
use Rattle.filter_trace.proofs.marks.is_block.Goals as goal

pub returns-in-Some-name-clause-yes : goal.returns-in-Some-name-clause-yes
returns-in-Some-name-clause-yes c l described same = same_named l c.in-Some.offset c.in-Some-name.named c.args.block
    (c.in-Some-name.ensures.some l described) (sym c.eq.ensures ∙ same)

pub returns-in-Some-name-clause-no : goal.returns-in-Some-name-clause-no
returns-in-Some-name-clause-no c l described low is =
    c.eq.ensures ∙ named_same l c.in-Some.offset c.in-Some-name.named c.args.block (c.in-Some-name.ensures.some l described) c.in-Some.ensures.1 is

pub returns-in-None-clause-no : goal.returns-in-None-clause-no
returns-in-None-clause-no c l described low is = absurd (c.in-None.ensures.none l described c.args.block
    (names_itself l c.in-Some.offset c.args.block c.in-Some.ensures.1 is))
