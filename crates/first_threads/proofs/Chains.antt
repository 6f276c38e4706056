-- What a seat holds behind the calls that build a chain.
use Rattle.std.proofs.Common.{◌≡◌, ◌≢◌, ◌<◌, ℕ, zero, suc, List, [], ◌∷◌, get_or, ◌∙◌, subst, arith}
use Rattle.std.specs.Prelude.{Contains}
use Rattle.heap_model.specs.declared.block.Block.{Block}
use Rattle.heap_seat.specs.Alloc.{Adds}
use Rattle.heap_seat.specs.View.{View}
use Rattle.heap_seat.proofs.CallerLemmas.{held_in, not_new}

-- a block that was added is added still, where the same blocks are held
pub adds_then : (b : Block) (v u w : View) → Adds b v u → w.held ≡ u.held → w.roots ≡ u.roots → Adds b v w
adds_then b v u w adds held roots = record {
  new = adds.new;
  has = held_in u w b held adds.has;
  keeps = λ a there. held_in u w a held (adds.keeps a there);
  only = λ a there. adds.only a (subst (λ (bs : List Block). Contains bs a) held there);
  roots = roots ∙ adds.roots;
}

-- what is so of each of three blocks
pub each_of : (P : Block → Type 0) (x y z : Block) → P x → P y → P z → (b : Block) → Contains (x ∷ y ∷ z ∷ []) b → P b
each_of P x y z p q r b there = by_index there.0 there.1 there.2 where
  by_index : (i : ℕ) → i < 3 → get_or (x ∷ y ∷ z ∷ []) i b ≡ b → P b
  by_index zero less at = subst P at p
  by_index (suc zero) less at = subst P at q
  by_index (suc (suc zero)) less at = subst P at r
  by_index (suc (suc (suc i))) less at = absurd (omega (arith, less))

-- a block that was held before the last one was added is held still, and is another
pub held_beside : (a last : Block) (v w : View) → Adds last v w → Contains v.held a → Contains w.held a × (a ≢ last)
held_beside a last v w adds held = (adds.keeps a held, not_new v a last held adds.new)
