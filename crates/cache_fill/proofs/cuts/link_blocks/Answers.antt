use Rattle.std.proofs.Common.{◌≡◌, ◌<◌, ◌+◌, ◌-◌, ◌*◌, ◌∙◌, inl, ap, sym, subst, arith}
use Rattle.heap_model.specs.Geometry.{start_word, largest_capacity_fits}
use Rattle.heap_model.specs.Sizes.{blocks_of, words_of_class}
use Rattle.heap_model.proofs.SizeLemmas.{four_blocks}
use Rattle.seat_costs.specs.Costs.{no_costs}
use Rattle.heap_rule.proofs.RawLemmas.{raw_inside}
use Rattle.seat_costs.proofs.AskedLemmas.{asked_none, asked_then}
use Rattle.seat_costs.proofs.RowLemmas.{marks_behind, view_row_within}
use Rattle.cache_fill.specs.Cuts.{HasLink}
use Rattle.cache_fill.proofs.LinkLemmas.{Linking, link_end, link_next, link_raw, link_until, linking_begins, linking_on, linking_row}
use Rattle.cache_fill.proofs.cuts.link_blocks.Goals as goal

pub start-block-requires : goal.start-block-requires
start-block-requires g c = subst (λ n. c.args.d < n) (sym (c.new.ensures ∙ c.capacity.ensures))
    (raw_inside c.args.seat.now.view c.recall_soundness.ensures c.args.d c.requires.claimed)

pub loop-i-init : goal.loop-i-init
loop-i-init g c = record {
  linking = linking_begins c.args.seat.now.view c.args.d c.args.class.number c.requires.going c.requires.info;
  place = (let a = c.new.ensures in let b = c.capacity.ensures in let s = c.start-block.ensures in omega arith);
  few = (let four = four_blocks c.args.class.number c.args.class.is in omega arith);
  marks = λ k held marked. inl marked;
  asked = asked_none c.args.seat.now.view c.args.chance.now;
  is_of = c.requires.seat;
}

pub overflow_add-block : goal.overflow_add-block
overflow_add-block g c =
    let v = c.args.seat.now.view in
    let below : c.loop-i._i - 1 < blocks_of c.args.class.number = omega arith in
    let end = link_end v c.loop-i.seat.view c.recall_soundness.ensures c.args.d c.args.class.number
    (c.loop-i._i - 1) c.args.class.is c.requires.claimed c.loop-i.invariant.linking c.loop-i.block below c.loop-i.invariant.place in
    let less = raw_inside v c.recall_soundness.ensures c.args.d c.requires.claimed in let s = c.block_words-words.ensures.words in
    let a = c.new.ensures in let b = c.capacity.ensures in let small = c.new.result.small in let fits = largest_capacity_fits in omega arith

pub link_block-requires-clause-until : goal.link_block-requires-clause-until
link_block-requires-clause-until g c = let below : c.loop-i._i - 1 < blocks_of c.args.class.number = omega arith in
    link_until c.args.seat.now.view c.loop-i.seat.view c.recall_soundness.ensures c.args.d c.args.class.number
    (c.loop-i._i - 1) c.args.class.is c.requires.claimed c.loop-i.invariant.linking c.loop-i.block below c.loop-i.invariant.place

pub link_block-requires-clause-claimed : goal.link_block-requires-clause-claimed
link_block-requires-clause-claimed g c = let below : c.loop-i._i - 1 < blocks_of c.args.class.number = omega arith in
    link_raw c.args.seat.now.view c.loop-i.seat.view c.recall_soundness.ensures c.args.d c.args.class.number
    (c.loop-i._i - 1) c.args.class.is c.requires.claimed c.loop-i.invariant.linking c.loop-i.block below c.loop-i.invariant.place

pub returns-in_err-link_block-clause-row : goal.returns-in_err-link_block-clause-row
returns-in_err-link_block-clause-row g c = record {
  view = linking_row c.args.seat.now.view c.loop-i.seat.view c.recall_soundness.ensures c.args.d c.args.class.number
      (c.loop-i._i - 1) c.args.class.is c.requires.claimed c.loop-i.invariant.linking c.link_block.new.seat.view c.link_block.ensures.row.view
      (omega arith);
  marks = marks_behind c.args.seat.now c.loop-i.seat c.link_block.new.seat c.loop-i.invariant.linking.row c.loop-i.invariant.marks
      c.link_block.ensures.row;
}

pub overflow_add-block-in-loop-i : goal.overflow_add-block-in-loop-i
overflow_add-block-in-loop-i g c =
    let v = c.args.seat.now.view in
    let below : c.loop-i._i - 1 < blocks_of c.args.class.number = omega arith in
    let end = link_end v c.loop-i.seat.view c.recall_soundness.ensures c.args.d c.args.class.number
    (c.loop-i._i - 1) c.args.class.is c.requires.claimed c.loop-i.invariant.linking c.loop-i.block below c.loop-i.invariant.place in
    let less = raw_inside v c.recall_soundness.ensures c.args.d c.requires.claimed in let s = c.block_words-words.ensures.words in
    let a = c.new.ensures in let b = c.capacity.ensures in let small = c.new.result.small in let fits = largest_capacity_fits in omega arith

pub loop-i-preserved : goal.loop-i-preserved
loop-i-preserved g c =
    let v = c.args.seat.now.view in let t = c.loop-i.seat.view in let w = c.link_block.new.seat.view in let n = c.loop-i._i - 1 in
    let below : n < blocks_of c.args.class.number = omega arith in
    let next : n + 1 ≡ c.loop-i._i + 1 - 1 = omega arith in
    let s : c.loop-i.block + words_of_class c.args.class.number ≡ c.loop-i.block + c.block_words-words.result =
    (let e = c.block_words-words.ensures.words in omega arith) in record {
      linking = subst (λ m. Linking c.args.d c.args.class.number m v w) next
          (linking_on v t c.recall_soundness.ensures c.args.d c.args.class.number n c.args.class.is c.requires.claimed
          c.loop-i.invariant.linking c.loop-i.block below c.loop-i.invariant.place w
          (subst (λ value. HasLink c.loop-i.block value t w) (sym s) c.in_ok-link_block.ensures.linked) c.link_block.ensures.row.view);
      place = sym s ∙ link_next v t c.recall_soundness.ensures c.args.d c.args.class.number n c.args.class.is c.requires.claimed
          c.loop-i.invariant.linking c.loop-i.block below c.loop-i.invariant.place
          ∙ ap (λ m. start_word v.setup.capacity c.args.d + m * words_of_class c.args.class.number) next;
      few = omega arith;
      marks = marks_behind c.args.seat.now c.loop-i.seat c.link_block.new.seat c.loop-i.invariant.linking.row c.loop-i.invariant.marks
          c.link_block.ensures.row;
      asked = asked_then c.loop-i.invariant.asked c.link_block.ensures.asked;
      is_of = c.link_block.ensures.seat;
    }

pub returns-clause-row : goal.returns-clause-row
returns-clause-row g c = let few = c.loop-i.invariant.few in record {
  view = view_row_within (record no_costs { draws = blocks_of c.args.class.number - 1 }) c.args.seat.now.view c.loop-i.seat.view
      (record { draws = omega arith; wins = omega arith; gives = omega arith; cuts = omega arith; taken = omega arith; moves = omega arith })
      c.loop-i.invariant.linking.row;
  marks = c.loop-i.invariant.marks;
}

pub returns-in_err-link_block-clause-asked : goal.returns-in_err-link_block-clause-asked
returns-in_err-link_block-clause-asked g c = asked_then c.loop-i.invariant.asked c.link_block.ensures.asked
