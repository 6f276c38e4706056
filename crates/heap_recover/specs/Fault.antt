-- What a fault of recovery tells.
use Rattle.std.specs.Prelude.{◌≡◌, refl, ℕ, ◌*◌, List, [], length, slice_index, Option, Some, None}
use Rattle.std.proofs.Common.{arith, inl}
use Rattle.heap_model.specs.Image.{Image}
use Rattle.heap_model.specs.declared.header.BadHeader.{BadHeader}
use Rattle.heap_model.specs.declared.header.BadHeader.TheVariants.{Short, Version}
use Rattle.heap_model.specs.Header.{header_fault, has_fault, IsWellFormed, IsOldWellFormed, HasKindsBelow}
use Rattle.heap_model.specs.Examples.{of_old_version}
use Rattle.heap_model.specs.Reach.{Links, IsOutsideIn}
use Rattle.filter_trace.specs.declared.fault.TraceFault.{TraceFault}
use Rattle.filter_trace.specs.declared.fault.TraceFault.TheVariants.{Outside as OutsideTraced, Memory as MemoryTraced}
use Rattle.heap_recover.specs.declared.fault.RecoverFault.{RecoverFault}
use Rattle.heap_recover.specs.declared.fault.RecoverFault.TheVariants.{Header, Outside, Memory}

-- the fault of a trace
abbrev pub of_trace : TraceFault → RecoverFault
of_trace (OutsideTraced at value) = Outside at value
of_trace MemoryTraced = Memory

-- A word of an image of this version that is outside, and its value. Of want of memory nothing is said, and a header is not told.
abbrev pub TellsOutsideIn : Image → Links → RecoverFault → Type 0
TellsOutsideIn image links (Header cause) = ⊥
TellsOutsideIn image links (Outside at value) = IsOutsideIn image links at × (value ≡ image at)
TellsOutsideIn image links Memory = Unit {0}

-- The first cause that makes the header of the words bad; or, where it is good, a word that is outside in the current
-- words, and its value. Of want of memory nothing is said.
abbrev pub TellsFault : Option ℕ → List ℕ → List ℕ → Links → RecoverFault → Type 0
TellsFault limit words current links (Header cause) = header_fault limit (8 * length words) (slice_index words) ≡ Some cause
TellsFault limit words current links (Outside at value) =
    (header_fault limit (8 * length words) (slice_index words) ≡ None) × IsOutsideIn (slice_index current) links at × (value ≡ slice_index current at)
TellsFault limit words current links Memory = Unit {0}

-- Why a header is refused where no kinds are given: the first cause that makes it bad; or its version, where it is a good
-- one of the old version, which stores no kinds.
pub data IsRefusedFor (limit : Option ℕ) (bytes : ℕ) (image : Image) : BadHeader → Type 0 where
  is_bad : (cause : BadHeader) → header_fault limit bytes image ≡ Some cause → IsRefusedFor limit bytes image cause
  is_old : IsOldWellFormed bytes image → IsRefusedFor limit bytes image Version

-- Such a cause; or, of an image of this version whose header is good, a word that is outside, and its value. Of want of
-- memory nothing is said.
abbrev pub TellsStoredFault : Option ℕ → List ℕ → Links → RecoverFault → Type 0
TellsStoredFault limit words links (Header cause) = IsRefusedFor limit (8 * length words) (slice_index words) cause
TellsStoredFault limit words links (Outside at value) =
    IsWellFormed (8 * length words) (slice_index words) × HasKindsBelow limit (slice_index words)
    × IsOutsideIn (slice_index words) links at × (value ≡ slice_index words at)
TellsStoredFault limit words links Memory = Unit {0}

-- worked examples: an empty file, and a good image of the old version
empty_file : IsRefusedFor (Some 3) 0 (λ _. 0) Short
unfolding header_fault has_fault
empty_file = is_bad Short refl

good_of_old : IsRefusedFor (Some 3) 74112 (of_old_version 1 []) Version
good_of_old = is_old (record {
  magic_is = refl;
  version_is = refl;
  some = omega arith;
  small = omega arith;
  length_is = refl;
  state = inl refl;
  used = omega arith;
})
