use Rattle.heap_model.proofs.HeaderLemmas.{good_header, no_fault}
use Rattle.heap_model.proofs.laws.a_header_is_good_or_has_a_fault.Goals as goal

pub returns : goal.returns
returns c limit bytes image = (good_header limit bytes image, no_fault limit bytes image)
