-- What opening gives back, by the way that was taken.
use Rattle.std.proofs.Common.{◌≡◌, ℕ, ◌*◌, ◌<◌, inr, Option, Some, None, List, length, slice_index, refl, ap, sym, subst, ◌∙◌}
use Rattle.heap_model.specs.declared.block.Block.{Block}
use Rattle.heap_model.specs.declared.header.BadHeader.{BadHeader}
use Rattle.heap_model.specs.Geometry.{clean, kind_word}
use Rattle.heap_model.specs.Image.{Image}
use Rattle.heap_model.specs.Header.{IsWellFormed, HasGoodHeader, HasKindsBelow, header_fault, capacity_of, kinds_of, state_of}
use Rattle.heap_model.specs.Reach.{Links, IsReachedIn, IsOutsideIn}
use Rattle.heap_model.specs.Recovery.{is_kind}
use Rattle.heap_model.proofs.HeaderLemmas.{no_fault}
use Rattle.heap_at_rest.proofs.RecoveredLemmas.{same_capacity}
use Rattle.heap_at_rest.specs.Orderly.{IsOrderly, IsHeldByAnchors}
use Rattle.heap_recover.specs.declared.answer.Recovered.{Recovered}
use Rattle.heap_recover.specs.declared.roles.Role.{Role}
use Rattle.heap_recover.specs.Answer.{IsMadeOf}
use Rattle.quick_recover.specs.declared.open.Path.TheVariants.{Quick as ByAnchors, Traced}
use Rattle.quick_recover.specs.Anchored.{TellsAll}
use Rattle.quick_recover.specs.Reopened.{IsReopened, IsReopenedAs}
use Rattle.quick_recover.specs.Opened.{IsOpenedAs}

-- the two ways are two
not_traced : ByAnchors ≡ Traced → ⊥
not_traced same = absurd (cc)

-- a good header is not refused
pub not_refused : (cause : BadHeader) (limit : Option ℕ) (bytes : ℕ) (image : Image) → HasGoodHeader limit bytes image
    → Some cause ≡ header_fault limit bytes image → ⊥
not_refused cause limit bytes image good told = let same : Some cause ≡ None = told ∙ no_fault limit bytes image good in absurd (cc)

-- the kinds of the roots stay
below_left : (limit : Option ℕ) (old new : Image) (kept : Block → Type 0) → IsReopened old new kept → HasKindsBelow limit old → HasKindsBelow limit new
below_left None old new kept left below = tt
below_left (Some most) old new kept left below = λ i less.
    let capacity = same_capacity old new left.same in
    let kind : kinds_of new i ≡ kinds_of old i = ap (λ c. new (kind_word c i)) capacity
    ∙ left.same (kind_word (capacity_of old) i) (is_kind i (kind_word (capacity_of old) i) less refl) in
    subst (λ k. k < most) (sym kind) (below i less)

-- by its anchors
pub opened_quick : (limit : Option ℕ) (words : List ℕ) (links : Links) (held : List Block) (roles : List Role) (recovered : Recovered)
    → IsWellFormed (8 * length words) (slice_index words)
    → HasKindsBelow limit (slice_index words) → state_of (slice_index words) ≡ clean → TellsAll (slice_index words) held roles
    → IsReopenedAs words (IsHeldByAnchors (slice_index words)) recovered
    → IsOpenedAs limit words links (record { recovered = recovered; path = ByAnchors })
opened_quick limit words links held roles recovered formed below closed told reopened = record {
  path_is = (λ is. told.orderly limit (8 * length words) (inr (formed, below)) closed, λ orderly. refl);
  quick = λ is. reopened;
  traced = λ is. absurd (not_traced is);
  was = (λ is. closed, λ is. reopened.was);
  below = below_left limit (slice_index words) (slice_index recovered.heap.words) (IsHeldByAnchors (slice_index words)) reopened.reopened below;
  none = λ is. absurd (not_traced is);
}

-- by a trace
pub opened_traced : (limit : Option ℕ) (words : List ℕ) (links : Links) (recovered : Recovered)
    → (IsOrderly limit (8 * length words) (slice_index words) → ⊥)
    → IsMadeOf words (IsReachedIn (slice_index words) links) recovered → HasKindsBelow limit (slice_index recovered.heap.words)
    → ((at : ℕ) → IsOutsideIn (slice_index words) links at → ⊥)
    → IsOpenedAs limit words links (record { recovered = recovered; path = Traced })
opened_traced limit words links recovered disorderly made below none = record {
  path_is = (λ is. absurd (not_traced (sym is)), λ orderly. absurd (disorderly orderly));
  quick = λ is. absurd (not_traced (sym is));
  traced = λ is. made;
  was = made.was;
  below = below;
  none = λ is. none;
}
