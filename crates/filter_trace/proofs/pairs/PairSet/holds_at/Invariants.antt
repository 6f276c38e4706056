use Rattle.std.proofs.Common.{◌≡◌, ℕ, ◌+◌, ◌*◌, ◌<◌, false, slice_index_or}
use Rattle.filter_trace.proofs.pairs.PairSet.holds_at.Given as goal

abbrev pub invariant-loop-kind : goal.invariant-loop-kind
invariant-loop-kind l = (k : ℕ) → k < l.kind → slice_index_or l.self.marks (l.fn.word * l.self.kinds + k) false ≡ false
