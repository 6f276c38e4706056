use Rattle.std.proofs.Common.{rules}
use Rattle.trace_faults.proofs.LineFaultLemmas.{no_key}
use Rattle.trace_faults.proofs.line.fault_behind.Goals as goal

pub fault_of_one-requires-clause-outside : goal.fault_of_one-requires-clause-outside
fault_of_one-requires-clause-outside c = no_key c.args.verb c.args.behind.now (search rules) c.requires.outside
