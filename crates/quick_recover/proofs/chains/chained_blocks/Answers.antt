use Rattle.std.proofs.Common.{◌≡◌, ◌+◌, ◌*◌, ◌≤◌, false, get_or, replicate, slice_index, refl, ap, sym, subst, ◌∙◌, arith}
use Rattle.std.proofs.Math.Nat.{mul-le-mul_right}
use Rattle.std.proofs.lemmas.Bool.{false≢true}
use Rattle.heap_model.specs.Geometry.{largest_capacity_fits}
use Rattle.heap_model.specs.Header.{used_of}
use Rattle.heap_model.proofs.SizeLemmas.{few_words}
use Rattle.quick_recover.specs.Anchored.{block_word, IsChainTo}
use Rattle.quick_recover.proofs.ChainLemmas.{one_index, block_inside, chain_none, chain_push, chain_never, chain_end}
use Rattle.quick_recover.proofs.chains.chained_blocks.Goals as goal

pub overflow_mul-next : goal.overflow_mul-next
overflow_mul-next c =
    let few = few_words c.args.class.number c.args.class.is in
    let size = c.block_words.ensures.words in
    let short : c.args.anchor.now.first ≤ 2147483648 = let first = c.requires.first in omega arith in
    let most = mul-le-mul_right c.block_words.result short in
    omega arith

pub overflow_add-next : goal.overflow_add-next
overflow_add-next c =
    let few = few_words c.args.class.number c.args.class.is in
    let size = c.block_words.ensures.words in
    let short : c.args.anchor.now.first ≤ 2147483648 = let first = c.requires.first in omega arith in
    let most = mul-le-mul_right c.block_words.result short in
    let start = c.start.ensures in
    let small = c.args.geometry.now.small in
    let less = c.requires.superblock in
    omega (arith, largest_capacity_fits)

pub loop-count-init : goal.loop-count-init
loop-count-init c =
    let class = c.args.class.number in
    let from = block_word c.args.geometry.now.capacity class c.args.d c.args.anchor.now.first in
    let from_is : from ≡ c.start.result + c.args.anchor.now.first * c.block_words.result =
    let start = c.start.ensures in let size = ap (λ n. c.args.anchor.now.first * n) c.block_words.ensures.words in omega arith in
    subst (λ t. IsChainTo (slice_index c.args.words.now) c.args.geometry.now.capacity class c.args.d from 0 t c.in_ok-marks.marks) from_is
    (chain_none (slice_index c.args.words.now) c.args.geometry.now.capacity class c.args.d from c.args.class.is c.in_ok-marks.marks
    (c.in_ok-marks.ensures ∙ ap (λ n. replicate n false) c.blocks_of-blocks.ensures))

pub returns-in_default : goal.returns-in_default
returns-in_default c =
    let class = c.args.class.number in
    let from = block_word c.args.geometry.now.capacity class c.args.d c.args.anchor.now.first in
    record {
      ok = chain_never (slice_index c.args.words.now) c.args.geometry.now.capacity class c.args.d from c.args.class.is c.args.anchor.now.first
          c.loop-count._count c.loop-count.next c.args.anchor.now.count c.loop-count.marks
          refl c.loop-count.invariant c.loop-count-test.true (λ index below at unmarked. c.in_default.ensures.none index below at);
    }

pub returns-then-get : goal.returns-then-get
returns-then-get c =
    let class = c.args.class.number in
    let capacity = c.args.geometry.now.capacity in
    let from = block_word capacity class c.args.d c.args.anchor.now.first in
    let here = c.in-Some.ensures.some in
    record {
      ok = chain_never (slice_index c.args.words.now) capacity class c.args.d from c.args.class.is c.args.anchor.now.first c.loop-count._count
          c.loop-count.next c.args.anchor.now.count c.loop-count.marks
          refl c.loop-count.invariant c.loop-count-test.true (λ index below at unmarked.
          let same = one_index capacity class c.args.d index c.in-Some.index c.args.class.is (sym at ∙ here.1) in
          false≢true (sym unmarked ∙ ap (λ k. get_or c.loop-count.marks k false) same ∙ sym c.get.ensures ∙ c.if-get.true));
    }

pub bounds-words-next : goal.bounds-words-next
bounds-words-next c =
    let here = c.in-Some.ensures.some in
    let inside = block_inside c.args.words.now c.args.geometry.now.capacity
    (used_of (slice_index c.args.words.now)) c.args.class.number c.args.d c.in-Some.index c.requires.readable c.args.class.is
    c.requires.superblock here.0 in
    let at = here.1 in
    let low = inside.0 in
    omega arith

pub offset_bounds-words-next : goal.offset_bounds-words-next
offset_bounds-words-next c =
    let here = c.in-Some.ensures.some in
    let inside = block_inside c.args.words.now c.args.geometry.now.capacity
    (used_of (slice_index c.args.words.now)) c.args.class.number c.args.d c.in-Some.index c.requires.readable c.args.class.is
    c.requires.superblock here.0 in
    let at = here.1 in
    let low = inside.1 in
    omega arith

pub loop-count-preserved : goal.loop-count-preserved
loop-count-preserved c =
    let class = c.args.class.number in
    let from = block_word c.args.geometry.now.capacity class c.args.d c.args.anchor.now.first in
    let here = c.in-Some.ensures.some in
    chain_push (slice_index c.args.words.now) c.args.geometry.now.capacity class c.args.d from c.args.class.is c.loop-count._count
    c.loop-count.next c.in-Some.index
    (slice_index c.args.words.now c.loop-count.next) c.loop-count.marks c.set.new.self c.loop-count.invariant here.0 here.1 (sym c.get.ensures
    ∙ c.if-get.false) c.set.ensures refl

pub returns : goal.returns
returns c =
    let class = c.args.class.number in
    let from = block_word c.args.geometry.now.capacity class c.args.d c.args.anchor.now.first in
    let some = c.if-anchor-eq0.false in
    let fewer = c.if-anchor-blocks.false in
    let blocks = c.blocks_of-blocks.ensures in
    record {
      ok = chain_end (slice_index c.args.words.now) c.args.geometry.now.capacity class c.args.d from c.args.class.is c.args.anchor.now.first
          c.loop-count._count c.loop-count.next c.args.anchor.now.count c.loop-count.marks
          refl c.loop-count.invariant (omega arith) (omega arith) (omega arith);
    }
