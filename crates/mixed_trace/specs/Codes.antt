-- How the set of pairs tells modes: the kinds by themselves, and the mode of no filter by the first number above.
use Rattle.std.specs.Prelude.{◌≡◌, ◌↔◌, ℕ, List, Contains}
use Rattle.heap_model.specs.declared.block.Block.{Block}
use Rattle.heap_model.specs.Image.{Image}
use Rattle.heap_model.specs.Reach.{Links}
use Rattle.filter_trace.specs.declared.fault.TraceFault.{TraceFault}
use Rattle.filter_trace.specs.declared.fault.TraceFault.TheVariants.{Outside, Memory}
use Rattle.mixed_trace.specs.declared.mode.Mode.{Mode}
use Rattle.mixed_trace.specs.declared.mode.Mode.TheVariants.{Kind, All}
use Rattle.mixed_trace.specs.Reach.{FitsBelow, ReachMixed, IsOutsideMixed}

-- a mode as a number: a kind is itself, and the mode without a filter the limit of kinds
abbrev pub code : ℕ → Mode → ℕ
code limit (Kind kind) = kind
code limit All = limit

-- the block is marked as one of the mode, the filter's kinds being below the limit
pub record HasMode (limit : ℕ) (pairs : List (Block × ℕ)) (b : Block) (mode : Mode) : Type 0 where
  pub fits : FitsBelow limit mode
  pub pair : Contains pairs (b, code limit mode)

-- the marks are exactly those of what is reached
pub record AreReachedMixed (image : Image) (modes : ℕ → Mode) (links : Links) (limit : ℕ) (pairs : List (Block × ℕ)) : Type 0 where
  pub each : (b : Block) (mode : Mode) → HasMode limit pairs b mode ↔ ReachMixed image modes links b mode
  pub codes : (b : Block) (number : ℕ) → Contains pairs (b, number) → (mode : Mode) × FitsBelow limit mode × (number ≡ code limit mode)

-- the fault tells a word that is outside, and its value; of want of memory nothing is said
abbrev pub TellsOutsideMixed : Image → (ℕ → Mode) → Links → TraceFault → Type 0
TellsOutsideMixed image modes links (Outside at value) = IsOutsideMixed image modes links at × (value ≡ image at)
TellsOutsideMixed image modes links Memory = Unit {0}
