-- Each held block has one holder, a seat or a carrier.
use Rattle.std.proofs.Common.{◌≡◌, ◌⊎◌, ℕ, ◌≤◌, inl, inr, refl, ap, arith, List}
use Rattle.std.proofs.lemmas.Bool.{cases_eq}
use Rattle.heap_model.specs.declared.block.Block.{Block}
use Rattle.heap_model.specs.Blocks.{layout_of}
use Rattle.heap_model.specs.Counting.{times, total}
use Rattle.heap_model.proofs.BlockLemmas.{block_words}
use Rattle.core_model.specs.Carriers.{AreSeatsAndCarriers, IsCarrier, IsEmptied}
use Rattle.core_model.specs.Effects.{span_count}
use Rattle.core_model.specs.Held.{AreApart, IsHeld, IsHeldBy, a_small, a_large, durable_image}
use Rattle.core_model.specs.Sound.{Sound}
use Rattle.core_model.specs.View.{Setup, View}
use Rattle.core_model.proofs.HeldLemmas.{firm}
use Rattle.core_model.proofs.HeldOnceLemmas.{held_once}
use Rattle.core_model.proofs.OwnerLemmas.{in_lists_total}
use Rattle.heap_table.specs.Plays.{AreInOneState}
use Rattle.heap_rule.specs.Held.{IsHeldByOne}

-- a carrier whose block was accepted holds none
holds_none : (v : View) (b : Block) → IsEmptied v → IsHeld v b → ⊥
holds_none v b emptied (a_small class first there) = let t = in_lists_total first class v.small there in
    let z = ap (total (times first)) emptied.held.0 in omega arith
holds_none v b emptied (a_large d n some is) = let z = ap (span_count d) emptied.held.1 in omega arith

module _ (k : Setup) (words : List ℕ) (views : List View) (sound : Sound k words views) (counted : AreSeatsAndCarriers k views) (b : Block)
    (held : IsHeldBy views b) where
  has_words : 1 ≤ b.words
  has_words = let two = block_words (layout_of (durable_image k.capacity words)) b
      ((firm k words views sound).each (durable_image k.capacity words) (record { each = λ word. inr refl }) b held).block in omega arith

  pub one_holder : IsHeldByOne views b
  one_holder = record {
    holder = held.seat;
    view = held.view;
    below = held.below;
    at = held.at;
    holds = held.holds;
    is = elim (counted.each held.view (held.seat, held.below, held.at)) [
      | inl seat ↦ inl seat
      | inr other ↦ elim other as (λ _. (held.view.carries ≡ 0) ⊎ IsCarrier held.view)
          [ inl carrier ↦ inr carrier | inr emptied ↦ absurd (holds_none held.view b emptied held.holds) ]
    ];
    alone = λ j u below at holds. elim (cases_eq j held.seat) as (λ _. j ≡ held.seat) [
      | inl same ↦ same
      | inr other ↦ elim ((held_once k words views sound).by_two held.seat j held.view u other held.below held.at below at b b held.holds holds)
          as (λ _. j ≡ held.seat) [
            | inl before ↦ absurd (let some = has_words in omega arith)
            | inr behind ↦ absurd (let some = has_words in omega arith)
          ]
    ];
  }

-- blocks of two views that stand in one state
pub blocks_apart : (v u : View) → AreInOneState v u → (a b : Block) → IsHeld v a → IsHeld u b → AreApart a b
blocks_apart v u s a b = (held_once v.setup s.words s.views s.sound).by_two s.one s.other v u s.apart s.below s.at s.other_below s.other_at a b
