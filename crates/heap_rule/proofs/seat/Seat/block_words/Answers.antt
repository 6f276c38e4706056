use Rattle.std.proofs.Common.{◌≡◌, sym, subst}
use Rattle.heap_model.specs.declared.block.Block.{Block}
use Rattle.core_model.specs.Held.{IsHeld}
use Rattle.heap_table.specs.SeatViews.{view_in}
use Rattle.heap_rule.specs.Seated.{SeatView}
use Rattle.heap_rule.proofs.SeatLemmas.{index_of}
use Rattle.heap_rule.proofs.seat.Seat.block_words.Goals as goal

pub block_words-requires : goal.block_words-requires
block_words-requires c = (
  view_in c.self.inside.table_seat.me.0,
  index_of _ _ _ _ _ _ c.self.invariant,
  (
    c.requires.0,
    subst (λ (s : SeatView). IsHeld s.view c.requires.0) (sym c.self.view_is) c.requires.1,
    c.requires.2,
  ),
)

pub returns : goal.returns
returns c = subst (λ (s : SeatView). (b : Block) → IsHeld s.view b → c.args.first_word ≡ b.first_word → b.words ≡ c.block_words.result)
    c.self.view_is (c.block_words.ensures (view_in c.self.inside.table_seat.me.0) (index_of _ _ _ _ _ _ c.self.invariant))
