use Rattle.std.proofs.Common.{refl, ap, ◌∙◌, arith}
use Rattle.tool_command.specs.Command.{texts}
use Rattle.tool_run.specs.Lines.{Explains}
use Rattle.tool_run.proofs.IdleLemmas.{for_memory, idle_status, idle_store, idle_source, idle_chances, idle_complete}
use Rattle.tool_program.proofs.EndingLemmas.{status_by, store_by, source_by, chances_by, complete_by, explained_since, help_since}
use Rattle.tool_program.proofs.ending.answer.Goals as goal

pub returns-in-Ok-clause-status : goal.returns-in-Ok-clause-status
returns-in-Ok-clause-status g c =
    status_by _ _ _ _ _ _ (ap texts c.deref.ensures.value ∙ c.in-Ok.ensures.ok) refl _
    (explained_since g.H.Sink.faults g.H.Sink.taken c.args.help.now c.run_tool-status.new.help c.tell_help.new.help _ _ _ _
    (λ ten. c.tell_help.ensures.other (λ two. absurd (omega (arith, ten, two)))) c.run_tool-status.ensures.status)

pub returns-in-Err-clause-status : goal.returns-in-Err-clause-status
returns-in-Err-clause-status g c =
    idle_status _ _ _ (Explains g.H.Sink.faults g.H.Sink.taken c.args.help.now c.args.help.now) _
    (for_memory c.tell_out_of_memory.ensures.status c.tell_out_of_memory.ensures.line)

pub returns-in-Ok-clause-store : goal.returns-in-Ok-clause-store
returns-in-Ok-clause-store g c =
    store_by _ _ _ _ _ _ (ap texts c.deref.ensures.value ∙ c.in-Ok.ensures.ok) refl c.run_tool-status.ensures.store

pub returns-in-Err-clause-store : goal.returns-in-Err-clause-store
returns-in-Err-clause-store g c =
    idle_store _ _ _ _ (for_memory c.tell_out_of_memory.ensures.status c.tell_out_of_memory.ensures.line)
    (record { contents = refl; calls = refl; store_faults = refl; left = refl; source_faults = refl })

pub returns-in-Ok-clause-source : goal.returns-in-Ok-clause-source
returns-in-Ok-clause-source g c =
    source_by _ _ _ _ _ _ (ap texts c.deref.ensures.value ∙ c.in-Ok.ensures.ok) refl g.T.Source.has_ended c.args.trace.now
    c.run_tool-status.new.trace c.run_tool-status.ensures.source

pub returns-in-Err-clause-source : goal.returns-in-Err-clause-source
returns-in-Err-clause-source g c =
    idle_source _ _ _ g.T.Source.has_ended c.args.trace.now _
    (for_memory c.tell_out_of_memory.ensures.status c.tell_out_of_memory.ensures.line)
    (record { contents = refl; calls = refl; store_faults = refl; left = refl; source_faults = refl })

pub returns-in-Ok-clause-chances : goal.returns-in-Ok-clause-chances
returns-in-Ok-clause-chances g c =
    chances_by _ _ _ _ _ _ (ap texts c.deref.ensures.value ∙ c.in-Ok.ensures.ok) refl
    g.C.Chances.seed_gives g.C.Chances.chance_gives g.C.One.Chance.draw_gives g.C.Chances.word_gives c.args.chances.now c.run_tool-status.new.chances
    c.run_tool-status.ensures.chances

pub returns-in-Err-clause-chances : goal.returns-in-Err-clause-chances
returns-in-Err-clause-chances g c =
    idle_chances g.C.Chances.seed_gives g.C.Chances.chance_gives g.C.One.Chance.draw_gives g.C.Chances.word_gives _ _ _ c.args.chances.now _
    (for_memory c.tell_out_of_memory.ensures.status c.tell_out_of_memory.ensures.line)

pub returns-in-Ok-clause-complete : goal.returns-in-Ok-clause-complete
returns-in-Ok-clause-complete g c =
    complete_by _ _ _ _ _ _ (ap texts c.deref.ensures.value ∙ c.in-Ok.ensures.ok) refl c.run_tool-status.ensures.complete

pub returns-in-Err-clause-complete : goal.returns-in-Err-clause-complete
returns-in-Err-clause-complete g c =
    idle_complete _ _ _ _ (for_memory c.tell_out_of_memory.ensures.status c.tell_out_of_memory.ensures.line)

pub returns-in-Ok-clause-help : goal.returns-in-Ok-clause-help
returns-in-Ok-clause-help g c two =
    help_since g.H.Sink.faults g.H.Sink.taken c.args.help.now c.run_tool-status.new.help c.tell_help.new.help
    (c.run_tool-status.ensures.unexplained (λ ten. absurd (omega (arith, two, ten)))) (c.tell_help.ensures.usage two)

pub returns-in-Ok-clause-no_help : goal.returns-in-Ok-clause-no_help
returns-in-Ok-clause-no_help g c not_usage not_bad = c.tell_help.ensures.other not_usage ∙ c.run_tool-status.ensures.unexplained not_bad
