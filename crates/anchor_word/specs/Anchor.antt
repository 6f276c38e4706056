-- The word of an anchor, and two worked examples.
use Rattle.std.specs.Prelude.{◌≡◌, ℕ, ◌<◌, ◌^◌, refl}
use Rattle.heap_model.specs.Words.{anchor_of, anchor_state, anchor_first, anchor_count, empty_state, partial_state, full_state}
use Rattle.anchor_word.specs.declared.anchor.State.{State}
use Rattle.anchor_word.specs.declared.anchor.State.TheVariants.{Empty, Partial, Full}
use Rattle.anchor_word.specs.declared.anchor.Anchor.{Anchor}

-- the number of a state
abbrev pub state_number : State → ℕ
state_number Empty = empty_state
state_number Partial = partial_state
state_number Full = full_state

-- the anchor's numbers fit into their bits
pub record IsPackable (anchor : Anchor) : Type 0 where
  pub first : anchor.first < 2 ^ 31
  pub count : anchor.count < 2 ^ 31

-- the word of an anchor
abbrev pub word_of : Anchor → ℕ
word_of anchor = anchor_of (state_number anchor.state) anchor.first anchor.count

-- the anchor has the parts of the word
pub record HasParts (word : ℕ) (anchor : Anchor) : Type 0 where
  pub state : state_number anchor.state ≡ anchor_state word
  pub first : anchor.first ≡ anchor_first word
  pub count : anchor.count ≡ anchor_count word

-- five blocks are free, from block 3 on
pub partial_word : word_of (record { state = Partial; first = 3; count = 5 }) ≡ 42949672973
partial_word = refl

-- none is free
pub full_word : word_of (record { state = Full; first = 0; count = 0 }) ≡ 2
full_word = refl
