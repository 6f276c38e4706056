use Rattle.std.proofs.Common.{suc, slice_index}
use Rattle.heap_model.specs.Geometry.{link_word}
use Rattle.heap_recover.specs.Roles.{number_at}
use Rattle.heap_recover.proofs.WritingLemmas.{AreWritten}
use Rattle.heap_recover.proofs.chain_links.link_list.Given as goal

abbrev pub invariant-loop-i : goal.invariant-loop-i
invariant-loop-i l = AreWritten (λ j. link_word (slice_index l.ds j)) (λ j. number_at l.ds (suc j)) l.initial.words l.words l.i
