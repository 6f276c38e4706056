-- Which headers recovery refuses where no kinds are given.
use Rattle.std.proofs.Common.{◌≡◌, ◌≢◌, ℕ, inl, inr, Option, Some, refl, arith}
use Rattle.heap_model.specs.declared.header.BadHeader.{BadHeader}
use Rattle.heap_model.specs.declared.header.BadHeader.TheVariants.{Version}
use Rattle.heap_model.specs.Geometry.{old_version, version_word}
use Rattle.heap_model.specs.Image.{Image}
use Rattle.heap_model.specs.Header.{header_fault, IsWellFormed, IsOldWellFormed, HasKindsBelow, HasGoodHeader}
use Rattle.heap_model.proofs.HeaderLemmas.{no_fault}
use Rattle.heap_recover.specs.Fault.{IsRefusedFor, is_bad, is_old}

module _ (limit : Option ℕ) (bytes : ℕ) (image : Image) where
  -- a good header, by its version
  pub good_old : HasGoodHeader limit bytes image → image version_word ≡ old_version → IsOldWellFormed bytes image
  good_old (inl formed) is = formed
  good_old (inr (formed, below)) is = let two = formed.version_is in absurd (omega arith)

  pub good_new : HasGoodHeader limit bytes image → image version_word ≢ old_version → IsWellFormed bytes image × HasKindsBelow limit image
  good_new (inl formed) new = absurd (new formed.version_is)
  good_new (inr both) new = both

  -- a bad header is refused for its first cause
  pub refused_bad : (first cause : BadHeader) → header_fault limit bytes image ≡ Some first → IsRefusedFor limit bytes image cause → cause ≡ first
  refused_bad first _ fault (is_bad cause other) = cc
  refused_bad first _ fault (is_old old) = let none = no_fault limit bytes image (inl old) in absurd (cc)

  -- a good one of the old version for its version
  pub refused_old : (cause : BadHeader) → IsOldWellFormed bytes image → IsRefusedFor limit bytes image cause → cause ≡ Version
  refused_old _ old (is_bad cause fault) = let none = no_fault limit bytes image (inl old) in absurd (cc)
  refused_old _ old (is_old same) = refl

  -- and a good one of this version is not
  pub not_refused : (cause : BadHeader) → IsWellFormed bytes image → HasKindsBelow limit image → IsRefusedFor limit bytes image cause → ⊥
  not_refused _ formed below (is_bad cause fault) = let none = no_fault limit bytes image (inr (formed, below)) in absurd (cc)
  not_refused _ formed below (is_old old) = let one = old.version_is in let two = formed.version_is in absurd (omega arith)
