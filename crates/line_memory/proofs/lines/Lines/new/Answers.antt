use Rattle.std.proofs.Common.{◌∙◌}
use Rattle.line_memory.proofs.LineStepLemmas.{opened_is}
use Rattle.line_memory.proofs.lines.Lines.new.Goals as goal

pub returns : goal.returns
returns c =
    opened_is c.args.words.items c.in_ok-durable.durable.items c.in_ok-pending.pending c.in_ok-recent.recent c.args.budget _
    (c.in_ok-durable.ensures.items ∙ c.as_slice.ensures.value) c.in_ok-pending.ensures c.in_ok-recent.ensures
