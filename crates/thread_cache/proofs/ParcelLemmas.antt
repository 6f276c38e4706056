-- A seat that has drawn a ticket may offer and accept.
use Rattle.std.proofs.Common.{◌*◌, ap, sym, subst, ◌∙◌}
use Rattle.heap_model.specs.declared.block.Block.{Block}
use Rattle.heap_model.specs.Geometry.{start_word, superblock_words}
use Rattle.heap_model.specs.Sizes.{words_of_class}
use Rattle.core_model.specs.Carriers.{MayHand}
use Rattle.core_model.specs.Held.{IsHeld, a_small, a_large}
use Rattle.core_model.specs.View.{View, one_if_some}
use Rattle.heap_table.specs.Plays.{HasSoundState}
use Rattle.seat_costs.specs.Rows.{HasDrawn}

pub may_hand : (v w : View) → HasDrawn v w → HasSoundState w → MayHand w
may_hand v w drawn has = record {
  seat = has.is_seat;
  going = ap one_if_some (ap (λ (x : View). x.stopped) drawn.left ∙ drawn.went);
  ticket = ap (λ (x : View). one_if_some x.ticket) drawn.left;
}

pub holds_still : (v w : View) (b : Block) → HasDrawn v w → IsHeld v b → IsHeld w b
holds_still v w b drawn (a_small class first there) = subst (λ (x : View). IsHeld x
    (record { first_word = first; words = words_of_class class })) (sym drawn.left) (a_small class first there)
holds_still v w b drawn (a_large d n some is) = subst (λ (x : View). IsHeld x
    (record { first_word = start_word v.setup.capacity d; words = superblock_words * n })) (sym drawn.left) (a_large d n some is)
