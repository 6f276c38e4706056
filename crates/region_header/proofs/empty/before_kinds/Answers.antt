use Rattle.std.proofs.lemmas.Grind.{common_steps}
use Rattle.std.proofs.Common.{arith}
use Rattle.region_header.proofs.FormatLemmas.{filled_before}
use Rattle.region_header.proofs.empty.before_kinds.Goals as goal

pub returns : goal.returns
returns c = filled_before c.args.capacity c.resize.new.self.items (grind (arith, common_steps))
