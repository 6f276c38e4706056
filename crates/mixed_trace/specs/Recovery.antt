-- What recovery by modes tells, and with which kinds it migrates an image of the old version.
use Rattle.std.specs.Prelude.{◌≡◌, ℕ, ◌*◌, List, length, slice_index, map, Some, None}
use Rattle.heap_model.specs.Image.{Image}
use Rattle.heap_model.specs.Header.{header_fault}
use Rattle.heap_model.specs.Reach.{Links}
use Rattle.region_header.specs.Migration.{current_words}
use Rattle.heap_recover.specs.declared.fault.RecoverFault.{RecoverFault}
use Rattle.heap_recover.specs.declared.fault.RecoverFault.TheVariants.{Header, Outside, Memory}
use Rattle.mixed_trace.specs.declared.mode.Mode.{Mode}
use Rattle.mixed_trace.specs.declared.mode.Mode.TheVariants.{Kind, All}
use Rattle.mixed_trace.specs.Reach.{IsOutsideMixed}

-- the kind that an image stores for a root of the mode: 0 where it has none
abbrev pub stored_kind : Mode → ℕ
stored_kind (Kind kind) = kind
stored_kind All = 0

-- the words of an image in the new version: as they are, or migrated with the kinds of the modes
abbrev pub words_by_modes : List ℕ → List Mode → List ℕ
words_by_modes words modes = current_words words (map stored_kind modes)

-- A word of an image of this version that is outside, and its value. Of want of memory nothing is said, and a header is not told.
abbrev pub TellsOutsideHere : Image → (ℕ → Mode) → Links → RecoverFault → Type 0
TellsOutsideHere image modes links (Header cause) = ⊥
TellsOutsideHere image modes links (Outside at value) = IsOutsideMixed image modes links at × (value ≡ image at)
TellsOutsideHere image modes links Memory = Unit {0}

-- The first cause, but of a kind, that makes the header of the words bad; or, where it is good, a word that is outside
-- in the current words, and its value. Of want of memory nothing is said.
abbrev pub TellsMixedFault : List ℕ → List ℕ → (ℕ → Mode) → Links → RecoverFault → Type 0
TellsMixedFault words current modes links (Header cause) = header_fault None (8 * length words) (slice_index words) ≡ Some cause
TellsMixedFault words current modes links (Outside at value) =
    (header_fault None (8 * length words) (slice_index words) ≡ None) × IsOutsideMixed (slice_index current) modes links at
    × (value ≡ slice_index current at)
TellsMixedFault words current modes links Memory = Unit {0}
