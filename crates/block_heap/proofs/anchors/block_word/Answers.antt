use Rattle.std.proofs.Common.{◌≡◌, ℕ, ◌+◌, ◌*◌, Fits, w64, sym, ap, subst, arith}
use Rattle.heap_model.specs.Geometry.{start_word, largest_capacity_fits}
use Rattle.heap_model.specs.Sizes.{words_of_class}
use Rattle.block_heap.proofs.AnchorLemmas.{short_product}
use Rattle.block_heap.proofs.anchors.block_word.Goals as goal

pub overflow_mul-result : goal.overflow_mul-result
overflow_mul-result c =
    let e = c.block_words.ensures.words in
    let short = short_product c.args.class.number c.args.index c.args.class.is c.requires.index in
    subst (λ (words : ℕ). Fits w64 (c.args.index * words)) (sym e) (omega arith)

pub overflow_add-result : goal.overflow_add-result
overflow_add-result c =
    let e = c.block_words.ensures.words in
    let short = short_product c.args.class.number c.args.index c.args.class.is c.requires.index in
    let small = c.args.geometry.small in
    let start = c.start.ensures in
    subst (λ (words : ℕ). Fits w64 (c.start.result + c.args.index * words)) (sym e) (omega (arith, largest_capacity_fits))

pub returns : goal.returns
returns c =
    let e = c.block_words.ensures.words in
    subst (λ (words : ℕ). c.start.result + c.args.index * words ≡ start_word c.args.geometry.capacity c.args.d + c.args.index * words_of_class
    c.args.class.number) (sym e)
    (ap (λ (start : ℕ). start + c.args.index * words_of_class c.args.class.number) c.start.ensures)
