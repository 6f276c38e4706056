use Rattle.std.proofs.Common.{slice_index}
use Rattle.heap_at_rest.specs.Orderly.{IsHeldByAnchors}
use Rattle.quick_dictionary.proofs.OneWayLemmas.{one_held, one_free, one_words}
use Rattle.quick_dictionary.proofs.laws.an_image_is_opened_quickly_in_one_way.Goals as goal

pub returns-clause-held : goal.returns-clause-held
returns-clause-held c words = one_held words (IsHeldByAnchors (slice_index words))

pub returns-clause-free : goal.returns-clause-free
returns-clause-free c words = one_free words (IsHeldByAnchors (slice_index words))

pub returns-clause-words : goal.returns-clause-words
returns-clause-words c words = one_words words (IsHeldByAnchors (slice_index words))
