use Rattle.std.proofs.Common.{ℕ, List, get_or, ap, ◌∙◌}
use Rattle.bit_marks.proofs.MarkLemmas.{none_marked, zero_at}
use Rattle.bit_marks.proofs.marks.BitMarks.new.Goals as goal

pub returns : goal.returns
returns c = none_marked c.in_ok-words.words.items 0 c.args.length
    (λ k. ap (λ (l : List ℕ). get_or l k 0) (c.in_ok-words.ensures.items_if_clones_equal (λ y same. same)) ∙ zero_at c.div_ceil.result k)
