use Rattle.std.proofs.Common.{◌≡◌, ℕ, ◌<◌, List, slice_index, sym, subst, ◌∙◌, arith}
use Rattle.std.proofs.lemmas.Result.{IfOk-weaker}
use Rattle.heap_model.specs.Geometry.{roots, root_word}
use Rattle.heap_model.specs.Header.{kinds_of}
use Rattle.first_filter.proofs.Opened.{opened_holds}
use Rattle.first_filter.proofs.run.open.Goals as goal

pub returns : goal.returns
returns c =
    let words = c.new-heap.result.words in
    let stay = c.fixed_words_stay.ensures in
    let same = sym c.new-heap.ensures.words in
    let null = subst (λ (l : List ℕ). (i : ℕ) → i < roots → slice_index l (root_word i) ≡ 0) same c.in_ok-image.ensures.null in
    let kind = subst (λ (l : List ℕ). kinds_of (slice_index l) 0 ≡ 1) same (c.in_ok-image.ensures.kinds 0) in
    IfOk-weaker c.new-2.result _ _
    (λ s opened. opened_holds words c.new-heap.result.held 1000000 s opened
    (stay.kinds words c.new-heap.result.held 1000000 s s opened (stay.none s) 0 (omega arith) ∙ kind) null)
    c.new-2.ensures
