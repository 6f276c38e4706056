-- What an offer and an accept make of a state, and what they answer. A carrier stands behind all views that were there
-- when it was made, and stays when its block was accepted.
use Rattle.std.specs.Prelude.{◌≡◌, ℕ, ◌<◌, List, [], ◌∷◌, ◌++◌, get_or, length, set, None, Some}
use Rattle.heap_model.specs.declared.block.Block.{Block}
use Rattle.core_model.specs.declared.answer.StepAnswer.{StepAnswer}
use Rattle.core_model.specs.declared.answer.StepAnswer.TheVariants.{Done, Stopped, NotNow}
use Rattle.core_model.specs.Carriers.{IsCarrier, MayHand, accepted, carrier_of, emptied, offered}
use Rattle.core_model.specs.Held.{IsHeld}
use Rattle.core_model.specs.Steps.{TableState}
use Rattle.core_model.specs.View.{View}

-- a block is held that begins at the word
pub record HoldsAt (v : View) (word : ℕ) : Type 0 where
  pub block : Block
  pub holds : IsHeld v block
  pub at : block.first_word ≡ word

-- the seat may offer the block that begins at the word: it holds it
pub record MayOffer (v : View) (word : ℕ) : Type 0 where
  pub may : MayHand v
  pub held : HoldsAt v word

-- view u, at the index, is a carrier
pub record MayAccept (views : List View) (v : View) (j : ℕ) (u : View) : Type 0 where
  pub may : MayHand v
  pub below : j < length views
  pub at : get_or views j u ≡ u
  pub carrier : IsCarrier u

-- after seat i offered it: the carrier comes behind all views
abbrev pub after_offer : TableState → ℕ → View → ℕ → TableState
after_offer s i v word = record { words = s.words; views = set s.views i (offered v word) ++ carrier_of v word ∷ [] }

-- after seat i accepted what the carrier at index j has
abbrev pub after_accept : TableState → ℕ → ℕ → View → View → TableState
after_accept s i j v u = record { words = s.words; views = set (set s.views i (accepted v u)) j (emptied u) }

-- seat i offers the block that begins at the word; it may not do so now, or has stopped, and nothing changes
pub data OffersTo (s : TableState) (i word : ℕ) : StepAnswer → TableState → Type 0 where
  is_offered : (v : View) → get_or s.views i v ≡ v → MayOffer v word → OffersTo s i word Done (after_offer s i v word)
  offers_not : (v : View) → get_or s.views i v ≡ v → v.stopped ≡ None → (MayOffer v word → ⊥) → OffersTo s i word NotNow s
  offers_stopped : (v : View) (step : ℕ) → get_or s.views i v ≡ v → v.stopped ≡ Some step → OffersTo s i word (Stopped step) s

-- seat i accepts what the carrier at index j has; it may not do so now, or has stopped, and nothing changes
pub data AcceptsTo (s : TableState) (i j : ℕ) : StepAnswer → TableState → Type 0 where
  is_accepted : (v u : View) → get_or s.views i v ≡ v → MayAccept s.views v j u → AcceptsTo s i j Done (after_accept s i j v u)
  accepts_not : (v : View) → get_or s.views i v ≡ v → v.stopped ≡ None → ((u : View) → MayAccept s.views v j u → ⊥) → AcceptsTo s i j NotNow s
  accepts_stopped : (v : View) (step : ℕ) → get_or s.views i v ≡ v → v.stopped ≡ Some step → AcceptsTo s i j (Stopped step) s
