-- What is reached with no filter at all.
use Rattle.std.specs.Prelude.{◌≡◌, ℕ, ◌*◌, ◌<◌, ◌^◌, List, [], length, replicate, slice_index, Some, None}
use Rattle.std.proofs.Common.{arith}
use Rattle.heap_model.specs.declared.block.Block.{Block}
use Rattle.heap_model.specs.Geometry.{roots}
use Rattle.heap_model.specs.Image.{Image}
use Rattle.heap_model.specs.Header.{header_fault}
use Rattle.heap_model.specs.Reach.{Links, AreInside}
use Rattle.heap_recover.specs.declared.fault.RecoverFault.{RecoverFault}
use Rattle.heap_recover.specs.declared.fault.RecoverFault.TheVariants.{Header, Outside, Memory}
use Rattle.mixed_trace.specs.declared.mode.Mode.TheVariants.{All}
use Rattle.mixed_trace.specs.Reach.{IsReachedMixed}
use Rattle.mixed_trace.specs.Recovery.{words_by_modes}

-- a filter of no kinds
abbrev pub no_links : Links
no_links kind words = []

pub no_links-inside : AreInside 0 no_links
no_links-inside = record {
  position = λ kind words at to here. let none = here.1 in absurd (omega arith);
  kind = λ kind words at to here. let none = here.1 in absurd (omega arith);
}

pub no_links-few : (kind : ℕ) (words : List ℕ) → length words < 2 ^ 32 → length (no_links kind words) < 2 ^ 64
no_links-few kind words short = omega arith

-- the roots, and every word from there that names a block, reach the block
abbrev pub IsReachedByWords : Image → Block → Type 0
IsReachedByWords image = IsReachedMixed image (λ root. All) no_links

-- the words of an image in the new version: one of the old version gets the kind 0 for each root
abbrev pub current_without_kinds : List ℕ → List ℕ
current_without_kinds words = words_by_modes words (replicate roots All)

-- The first cause, but of a kind, that makes the header of the words bad; of want of memory nothing is said, and nothing else is told.
abbrev pub TellsHeader : List ℕ → RecoverFault → Type 0
TellsHeader words (Header cause) = header_fault None (8 * length words) (slice_index words) ≡ Some cause
TellsHeader words (Outside at value) = ⊥
TellsHeader words Memory = Unit {0}
