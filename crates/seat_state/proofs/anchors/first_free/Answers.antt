use Rattle.std.proofs.Common.{◌≡◌, ◌+◌, ◌*◌, ap₂, arith}
use Rattle.std.proofs.lemmas.Nat.{mul-le}
use Rattle.heap_model.proofs.SizeLemmas.{few_words}
use Rattle.heap_model.specs.Geometry.{largest_capacity_fits}
use Rattle.heap_model.specs.Sizes.{words_of_class}
use Rattle.seat_state.proofs.anchors.first_free.Goals as goal

pub overflow_mul-result : goal.overflow_mul-result
overflow_mul-result c = let w : c.block_words.result ≡ words_of_class c.args.class.number = c.block_words.ensures.words in
    let f = few_words c.args.class.number c.args.class.is in let a = c.anchor_first.ensures in
    let m = mul-le c.anchor_first.result c.block_words.result 2147483648 1792 (omega arith) (omega arith) in omega arith

pub overflow_add-result : goal.overflow_add-result
overflow_add-result c = let w : c.block_words.result ≡ words_of_class c.args.class.number = c.block_words.ensures.words in
    let f = few_words c.args.class.number c.args.class.is in let a = c.anchor_first.ensures in
    let m = mul-le c.anchor_first.result c.block_words.result 2147483648 1792 (omega arith) (omega arith) in let b = c.start.ensures in
    let d = c.requires in let small = c.args.geometry.small in let fits = largest_capacity_fits in omega arith

pub returns : goal.returns
returns c = ap₂ (λ a b. a + b) c.start.ensures (ap₂ (λ a b. a * b) c.anchor_first.ensures c.block_words.ensures.words)
