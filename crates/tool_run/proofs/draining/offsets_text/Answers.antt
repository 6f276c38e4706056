use Rattle.tool_run.specs.Making.{class_line, offset_line}
use Rattle.tool_run.proofs.OffsetLemmas.{lines_more}
use Rattle.tool_run.proofs.draining.offsets_text.Goals as goal

pub loop-offset-preserved : goal.loop-offset-preserved
loop-offset-preserved c =
    lines_more offset_line c.args.offsets.now c.loop-offset.offset-index
    (class_line c.args.class.number c.args.offsets.now) _ _ 0 c.loop-offset-test.true
    c.loop-offset.invariant c.in_ok-writeln-2.ensures.bytes
