use Rattle.mixed_trace.proofs.LawLemmas.{not_outside}
use Rattle.mixed_trace.proofs.laws.nothing_is_refused_without_filters.Goals as goal

pub returns : goal.returns
returns c = not_outside
