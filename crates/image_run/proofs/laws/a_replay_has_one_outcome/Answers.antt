use Rattle.image_run.proofs.OutcomeLemmas.{one_answers, one_tickets, left_in_each, one_text, never_both}
use Rattle.image_run.proofs.laws.a_replay_has_one_outcome.Goals as goal

pub returns-clause-answers : goal.returns-clause-answers
returns-clause-answers c words held seats lines answers again tickets drawn left other is too = (
  one_answers words held seats lines answers again tickets drawn left other is too,
  one_tickets words held seats lines answers again tickets drawn left other is too,
)

pub returns-clause-outside : goal.returns-clause-outside
returns-clause-outside c = left_in_each

pub returns-clause-text : goal.returns-clause-text
returns-clause-text c = one_text

pub returns-clause-never_both : goal.returns-clause-never_both
returns-clause-never_both c = never_both
