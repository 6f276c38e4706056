use Rattle.std.proofs.Common.{refl, rules}
use Rattle.tool_run.specs.Lines.{Explains}
use Rattle.tool_run.specs.declared.fault.Fault.TheVariants.{ReadFault, WriteFault}
use Rattle.tool_run.proofs.CarriedLemmas.{carried_status, carried_store, carried_source, carried_chances, carried_complete}
use Rattle.tool_run.proofs.IdleLemmas.{for_memory, for_usage, idle_status, idle_store, idle_source, idle_chances, idle_complete}
use Rattle.tool_run.proofs.ReadingLemmas.{not_err, not_told}
use Rattle.tool_run.proofs.StoppedLemmas.{stopped_status, stopped_store, stopped_source, stopped_chances, stopped_complete}
use Rattle.tool_run.proofs.StatusLemmas.{unexplained}
use Rattle.tool_run.proofs.run.run_tool.Goals as goal

-- the words ask for nothing
pub returns-in-Err-Usage-clause-status : goal.returns-in-Err-Usage-clause-status
returns-in-Err-Usage-clause-status g c =
    idle_status _ _ _ (Explains g.H.Sink.faults g.H.Sink.taken c.args.help.now c.args.help.now) _ (for_usage c.tell.ensures.status (c.parse.ensures.err (search rules)) c.tell.ensures.told)

pub returns-in-Err-Usage-clause-store : goal.returns-in-Err-Usage-clause-store
returns-in-Err-Usage-clause-store g c =
    idle_store _ _ _ _ (for_usage c.tell.ensures.status (c.parse.ensures.err (search rules)) c.tell.ensures.told)
    (record { contents = refl; calls = refl; store_faults = refl; left = refl; source_faults = refl })

pub returns-in-Err-Usage-clause-source : goal.returns-in-Err-Usage-clause-source
returns-in-Err-Usage-clause-source g c =
    idle_source _ _ _ g.T.Source.has_ended c.args.trace.now _
    (for_usage c.tell.ensures.status (c.parse.ensures.err (search rules)) c.tell.ensures.told)
    (record { contents = refl; calls = refl; store_faults = refl; left = refl; source_faults = refl })

pub returns-in-Err-Usage-clause-chances : goal.returns-in-Err-Usage-clause-chances
returns-in-Err-Usage-clause-chances g c =
    idle_chances g.C.Chances.seed_gives g.C.Chances.chance_gives g.C.One.Chance.draw_gives g.C.Chances.word_gives _ _ _ c.args.chances.now _
    (for_usage c.tell.ensures.status (c.parse.ensures.err (search rules)) c.tell.ensures.told)

pub returns-in-Err-Usage-clause-complete : goal.returns-in-Err-Usage-clause-complete
returns-in-Err-Usage-clause-complete g c =
    idle_complete _ _ _ _ (for_usage c.tell.ensures.status (c.parse.ensures.err (search rules)) c.tell.ensures.told)

-- memory ran out before there was a command
pub returns-in-Err-Memory-clause-status : goal.returns-in-Err-Memory-clause-status
returns-in-Err-Memory-clause-status g c =
    idle_status _ _ _ (Explains g.H.Sink.faults g.H.Sink.taken c.args.help.now c.args.help.now) _ (for_memory c.tell-in-Err-Memory.ensures.status c.tell-in-Err-Memory.ensures.told)

pub returns-in-Err-Memory-clause-store : goal.returns-in-Err-Memory-clause-store
returns-in-Err-Memory-clause-store g c =
    idle_store _ _ _ _ (for_memory c.tell-in-Err-Memory.ensures.status c.tell-in-Err-Memory.ensures.told)
    (record { contents = refl; calls = refl; store_faults = refl; left = refl; source_faults = refl })

pub returns-in-Err-Memory-clause-source : goal.returns-in-Err-Memory-clause-source
returns-in-Err-Memory-clause-source g c =
    idle_source _ _ _ g.T.Source.has_ended c.args.trace.now _
    (for_memory c.tell-in-Err-Memory.ensures.status c.tell-in-Err-Memory.ensures.told)
    (record { contents = refl; calls = refl; store_faults = refl; left = refl; source_faults = refl })

pub returns-in-Err-Memory-clause-chances : goal.returns-in-Err-Memory-clause-chances
returns-in-Err-Memory-clause-chances g c =
    idle_chances g.C.Chances.seed_gives g.C.Chances.chance_gives g.C.One.Chance.draw_gives g.C.Chances.word_gives _ _ _ c.args.chances.now _
    (for_memory c.tell-in-Err-Memory.ensures.status c.tell-in-Err-Memory.ensures.told)

pub returns-in-Err-Memory-clause-complete : goal.returns-in-Err-Memory-clause-complete
returns-in-Err-Memory-clause-complete g c =
    idle_complete _ _ _ _ (for_memory c.tell-in-Err-Memory.ensures.status c.tell-in-Err-Memory.ensures.told)

-- the command was carried out
pub returns-in-Ok-carry_out-clause-status : goal.returns-in-Ok-carry_out-clause-status
returns-in-Ok-carry_out-clause-status g c =
    carried_status _ _ _ _ _ c.new.ensures c.in-Ok.ensures.ok (Explains g.H.Sink.faults g.H.Sink.taken c.args.help.now c.args.help.now)
    c.in-Ok-carry_out.ensures.ok
    (c.in-Ok-carry_out.ensures.sink_steady (not_err _ _))

pub returns-in-Ok-carry_out-clause-store : goal.returns-in-Ok-carry_out-clause-store
returns-in-Ok-carry_out-clause-store g c =
    carried_store _ _ _ _ _ c.new.ensures c.in-Ok.ensures.ok c.in-Ok-carry_out.ensures.calls
    (c.in-Ok-carry_out.ensures.store_steady (not_err _ _) (not_err _ _))

pub returns-in-Ok-carry_out-clause-source : goal.returns-in-Ok-carry_out-clause-source
returns-in-Ok-carry_out-clause-source g c =
    carried_source _ _ _ _ _ c.new.ensures c.in-Ok.ensures.ok g.T.Source.has_ended c.args.trace.now c.carry_out.new.trace
    c.carry_out.ensures.no_source c.carry_out.ensures.image_first c.in-Ok-carry_out.ensures.end c.in-Ok-carry_out.ensures.ended
    c.carry_out.ensures.at_most (c.in-Ok-carry_out.ensures.steady (not_err _ _))

pub returns-in-Ok-carry_out-clause-chances : goal.returns-in-Ok-carry_out-clause-chances
returns-in-Ok-carry_out-clause-chances g c =
    carried_chances _ _ _ _ _ c.new.ensures c.in-Ok.ensures.ok
    g.C.Chances.seed_gives g.C.Chances.chance_gives g.C.One.Chance.draw_gives g.C.Chances.word_gives c.args.chances.now c.carry_out.new.chances
    c.in-Ok-carry_out.ensures.seeded c.in-Ok-carry_out.ensures.asked c.carry_out.ensures.never_asked

pub returns-in-Ok-carry_out-clause-complete : goal.returns-in-Ok-carry_out-clause-complete
returns-in-Ok-carry_out-clause-complete g c = carried_complete _ _ _ _ _ c.new.ensures c.in-Ok.ensures.ok c.in-Ok-carry_out.ensures.ok

-- it was stopped
pub returns-in-Err-clause-status : goal.returns-in-Err-clause-status
returns-in-Err-clause-status g c =
    stopped_status _ _ _ _ _ _ _ c.in-Err.fault c.in-Ok.ensures.ok c.tell-in-Err.ensures.status c.in-Err.ensures.err
    (Explains g.H.Sink.faults g.H.Sink.taken c.args.help.now c.explain.new.help) _ c.image.ensures c.explain.ensures c.tell-in-Err.ensures.told
    c.carry_out.ensures.later_sink c.tell-in-Err.ensures.later
    (λ other. c.in-Err.ensures.sink_steady (not_told _ _ c.in-Err.fault WriteFault c.tell-in-Err.ensures.status other))

pub returns-in-Err-clause-store : goal.returns-in-Err-clause-store
returns-in-Err-clause-store g c =
    stopped_store _ _ _ _ _ _ _ c.in-Err.fault c.in-Ok.ensures.ok c.tell-in-Err.ensures.status c.in-Err.ensures.err c.in-Err.ensures.calls_err
    (λ read write. c.in-Err.ensures.store_steady (not_told _ _ c.in-Err.fault ReadFault c.tell-in-Err.ensures.status read)
    (not_told _ _ c.in-Err.fault WriteFault c.tell-in-Err.ensures.status write))
    c.carry_out.ensures.one_failed

pub returns-in-Err-clause-source : goal.returns-in-Err-clause-source
returns-in-Err-clause-source g c =
    stopped_source _ _ _ _ _ _ _ c.in-Err.fault c.in-Ok.ensures.ok c.tell-in-Err.ensures.status c.in-Err.ensures.err
    g.T.Source.has_ended c.args.trace.now c.carry_out.new.trace
    c.carry_out.ensures.no_source c.in-Err.ensures.unread c.carry_out.ensures.image_first c.carry_out.ensures.at_most
    (λ other. c.in-Err.ensures.steady (not_told _ _ c.in-Err.fault ReadFault c.tell-in-Err.ensures.status other))

pub returns-in-Err-clause-chances : goal.returns-in-Err-clause-chances
returns-in-Err-clause-chances g c =
    stopped_chances _ _ _ _ _ _ _ c.in-Err.fault c.in-Ok.ensures.ok c.tell-in-Err.ensures.status c.in-Err.ensures.err
    g.C.Chances.seed_gives g.C.Chances.chance_gives g.C.One.Chance.draw_gives g.C.Chances.word_gives c.args.chances.now c.carry_out.new.chances
    _ c.tell-in-Err.ensures.told c.in-Err.ensures.seeded_err c.in-Err.ensures.asked_cut_off c.in-Err.ensures.no_chance
    c.carry_out.ensures.never_asked

pub returns-in-Err-clause-complete : goal.returns-in-Err-clause-complete
returns-in-Err-clause-complete g c =
    stopped_complete _ _ _ _ _ _ _ c.in-Err.fault c.in-Ok.ensures.ok c.tell-in-Err.ensures.status c.in-Err.ensures.err c.tell-in-Err.ensures.later

pub returns-in-Err-clause-unexplained : goal.returns-in-Err-clause-unexplained
returns-in-Err-clause-unexplained g c other =
    unexplained g.H.Sink.faults g.H.Sink.taken c.args.help.now c.explain.new.help _ c.in-Err.fault c.tell-in-Err.ensures.status c.explain.ensures other
