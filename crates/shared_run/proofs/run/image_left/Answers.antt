use Rattle.tool_ports.specs.Chances.{unasked}
use Rattle.shared_run.proofs.run.image_left.Goals as goal

pub returns-else-stopped-clause-chances : goal.returns-else-stopped-clause-chances
returns-else-stopped-clause-chances g c = unasked
