use Rattle.std.proofs.Common.{refl, ◌∙◌}
use Rattle.tool_run.specs.Lines.{Explains}
use Rattle.tool_program.proofs.EndingLemmas.{status_by, store_by, source_by, chances_by, complete_by}
use Rattle.tool_program.proofs.ending.run_line.Goals as goal

pub returns-clause-status : goal.returns-clause-status
returns-clause-status g c =
    status_by _ _ _ _ _ _ refl (c.from.ensures ∙ c.code.ensures)
    (Explains g.H.Sink.faults g.H.Sink.taken c.args.help.now c.answer-status.new.help) c.answer-status.ensures.status

pub returns-clause-store : goal.returns-clause-store
returns-clause-store g c = store_by _ _ _ _ _ _ refl (c.from.ensures ∙ c.code.ensures) c.answer-status.ensures.store

pub returns-clause-source : goal.returns-clause-source
returns-clause-source g c =
    source_by _ _ _ _ _ _ refl (c.from.ensures ∙ c.code.ensures) g.T.Source.has_ended c.args.trace.now c.answer-status.new.trace
    c.answer-status.ensures.source

pub returns-clause-chances : goal.returns-clause-chances
returns-clause-chances g c =
    chances_by _ _ _ _ _ _ refl (c.from.ensures ∙ c.code.ensures)
    g.C.Chances.seed_gives g.C.Chances.chance_gives g.C.One.Chance.draw_gives g.C.Chances.word_gives c.args.chances.now c.answer-status.new.chances
    c.answer-status.ensures.chances

pub returns-clause-complete : goal.returns-clause-complete
returns-clause-complete g c = complete_by _ _ _ _ _ _ refl (c.from.ensures ∙ c.code.ensures) c.answer-status.ensures.complete
