use Rattle.std.proofs.Common.{[], ◌∷◌, sym, subst}
use Rattle.atomic_table.specs.Table.{Splits}
use Rattle.heap_model.specs.declared.block.Block.{Block}
use Rattle.core_model.specs.Carriers.{carrier_of, offered}
use Rattle.core_model.specs.Held.{IsHeld}
use Rattle.core_model.specs.View.{View}
use Rattle.heap_table.specs.Rule.{Holds}
use Rattle.heap_table.proofs.HandingLemmas.{offers}
use Rattle.heap_table.proofs.TableStepLemmas.{the_view}
use Rattle.heap_table.proofs.handing.split_as.Goals as goal

pub split_seat-requires : goal.split_seat-requires
split_seat-requires g c = let b = g.J.ProofBlock.block in let s = c.requires.single in (
  c.requires.table,
  c.requires.some,
  subst (λ (v : View). Splits (Holds c.args.shared.now.key) c.args.seat.now.id c.args.seat.now.me.0 (offered v b.first_word ∷ [])
      (carrier_of v b.first_word ∷ []))
      (sym (the_view c.args.seat.now.me.0 s.0 s.1))
      (offers c.args.shared.now.key c.args.seat.now.id c.args.seat.now.me.0 s.0 b s.1 s.2
      (subst (λ (x : Block). IsHeld s.0 x) (sym c.requires.told) s.3)),
)
