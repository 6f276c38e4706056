use Rattle.std.proofs.Common.{◌≡◌, ◌∙◌, length, get_or, replicate, ap, arith}
use Rattle.std.specs.Prelude.{slice_index}
use Rattle.heap_model.specs.Geometry.{lists, head_word, used_word}
use Rattle.line_memory.specs.View.{opened}
use Rattle.block_heap.specs.MediumView.{medium_view}
use Rattle.block_heap.specs.Opening.{IsHeldOf, opened_look}
use Rattle.block_heap.proofs.OpenedLemmas.{no_cache, used_there, opens_with}
use Rattle.block_heap.proofs.arena.Arena.new.Goals as goal

pub returns : goal.returns
returns g c =
    let words = c.args.ready.words in
    let same = c.into_parts-words.ensures.words in
    let caches : c.in_ok-vec.field-0.items ≡ replicate lists no_cache = c.in_ok-vec.ensures.items_if_clones_equal (λ y same. same) in
    let count : length c.loop-list.head_looks.items ≡ c.loop-list.list = c.loop-list.invariant.long in
    let past = c.loop-list-test.false in
    let most = c.loop-list.auto.list-end in
    let looks : length c.loop-list.head_looks.items ≡ lists = omega arith in
    let view : medium_view c.in_ok-new.field-0 ≡ opened words c.args.budget = c.in_ok-new.ensures ∙ ap (λ ws. opened ws c.args.budget) same in
    let used : c.index.result.now ≡ slice_index words used_word =
    c.index.ensures ∙ ap (λ ws. get_or ws used_word c.index.result.now) same
    ∙ used_there words c.args.ready.held c.index.result.now c.into_parts-words.ensures.ready in
    let is : IsHeldOf words c.args.ready.held c.in_ok-held.held = c.in_ok-held.ensures in
    opens_with words c.args.ready.held c.args.budget c.in_ok-held.held c.in_ok-vec.field-0.items c.opening_look-used_look.result
    c.loop-list.head_looks.items
    c.into_parts-words.ensures.ready c.requires is caches looks
    (c.opening_look-used_look.ensures ∙ ap opened_look used)
    (λ list less. c.loop-list.invariant.each list (omega arith) ∙ ap (λ ws. opened_look (slice_index ws (head_word list))) same)
    (medium_view c.in_ok-new.field-0) c.geometry-geometry.result.capacity view c.geometry-geometry.ensures
