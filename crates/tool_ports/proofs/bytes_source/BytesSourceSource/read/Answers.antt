use Rattle.std.proofs.Common.{arith}
use Rattle.std.proofs.lemmas.Grind.{common_steps}
use Rattle.tool_ports.proofs.SourceLeftLemmas.{copied_front}
use Rattle.tool_ports.proofs.bytes_source.BytesSourceSource.read.Goals as goal

pub returns-clause-ok : goal.returns-clause-ok
returns-clause-ok c =
    copied_front c.args.self.now.bytes.items c.args.buf.now c.copy_from_slice.new.self c.args.self.now.given c.min-count.result
    (grind (arith, common_steps)) (grind (arith, common_steps)) (grind (arith, common_steps))
