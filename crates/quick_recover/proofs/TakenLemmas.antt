-- The superblocks that have been taken, read one after the other; and what all of them tell.
use Rattle.std.proofs.Common.{◌≡◌, ℕ, ◌+◌, ◌<◌, ◌⊎◌, inl, inr, Bool, List, [], ◌∷◌, ◌++◌, slice_index_or, Contains, refl, ap, sym, subst, ◌∙◌, arith, length-append}
use Rattle.std.proofs.Math.ListN.{get_or-append}
use Rattle.std.proofs.Math.Seq.{get_or-append_seam}
use Rattle.std.proofs.lemmas.Bool.{cases_lt}
use Rattle.heap_model.specs.declared.block.Block.{Block}
use Rattle.heap_model.specs.Geometry.{start_word}
use Rattle.heap_model.specs.Image.{Image}
use Rattle.heap_model.specs.Header.{capacity_of, used_of}
use Rattle.heap_model.specs.Blocks.{layout_of}
use Rattle.heap_model.proofs.BlockLemmas.{block_inside, block_words}
use Rattle.heap_at_rest.specs.Orderly.{IsOrderlyOutside, IsHeldByAnchors}
use Rattle.heap_recover.specs.declared.roles.Role.{Role}
use Rattle.heap_recover.specs.declared.roles.Role.TheVariants.{Large}
use Rattle.heap_recover.specs.declared.surveys.Survey.{Survey}
use Rattle.heap_recover.specs.Marked.{IsKeptIn, IsKeptBelow}
use Rattle.heap_recover.proofs.AscendingLemmas.{ascending_none, ascending_append, ascending_same}
use Rattle.heap_recover.proofs.PassLemmas.{goes_on_none}
use Rattle.quick_recover.specs.Anchored.{IsDisorderly, HasFreeList, IsReadIn, IsReadAs, AreRead, AreUntouched, TellsAll}
use Rattle.quick_recover.proofs.HoldLemmas.{keeps}

-- none yet
pub read_none : (image : Image) (held : List Block) (roles : List Role) → held ≡ [] → roles ≡ [] → AreRead image 0 0 held roles
read_none image held roles no_held no_roles = subst (λ hs. AreRead image 0 0 hs roles) (sym no_held)
    (subst (AreRead image 0 0 []) (sym no_roles) (record {
      long = refl;
      each = λ e below. absurd (omega arith);
      orderly = λ free e listed below outside. absurd (omega arith);
      in_order = ascending_none (λ (b : Block). b.first_word) (IsKeptBelow (capacity_of image) (IsHeldByAnchors image) 0)
          (λ b is. let inside = block_inside (layout_of image) b ((keeps image).each b is.is_kept) in let below = is.below in omega (arith, inside.0));
      goes_on = goes_on_none (layout_of image) (IsHeldByAnchors image) (keeps image);
    }))

-- the next one
pub read_next : (image : Image) (d end : ℕ) (held : List Block) (roles : List Role) (survey : Survey) → AreRead image d end held roles
    → IsReadAs image d survey
    → AreRead image (d + 1) survey.end (held ++ survey.held.items) (roles ++ survey.role ∷ [])
read_next image d end held roles survey before here = record {
  long = length-append roles (survey.role ∷ []) ∙ ap (λ n. n + 1) before.long;
  each = each;
  orderly = λ free e listed below outside. elim (cases_lt e d) as (λ _. IsOrderlyOutside image free e) [
    | inl lower ↦ before.orderly free e listed lower outside
    | inr past ↦ let same : d ≡ e = omega arith in subst (IsOrderlyOutside image free) same
        (here.orderly free listed (subst (λ k. Contains free k → ⊥) (sym same) outside))
  ];
  in_order = ascending_append (λ (b : Block). b.first_word) (IsKeptBelow (capacity_of image) (IsHeldByAnchors image) d)
      (IsKeptIn (capacity_of image) (IsHeldByAnchors image) d)
      (IsKeptBelow (capacity_of image) (IsHeldByAnchors image) (d + 1)) held survey.held.items before.in_order here.surveyed.in_order
      (λ a b lower in_d. let low = lower.below in let from = in_d.from in omega arith)
      (λ b lower. record { is_kept = lower.is_kept; below = (let low = lower.below in omega arith) })
      (λ b in_d. record { is_kept = in_d.is_kept; below = in_d.until })
      (λ b is. elim (cases_lt b.first_word (start_word (capacity_of image) d)) as
      (λ _. IsKeptBelow (capacity_of image) (IsHeldByAnchors image) d b ⊎ IsKeptIn (capacity_of image) (IsHeldByAnchors image) d b) [
        | inl lower ↦ inl (record { is_kept = is.is_kept; below = lower })
        | inr in_d ↦ inr (record { is_kept = is.is_kept; from = in_d; until = is.below })
      ]);
  goes_on = here.surveyed.goes_on;
} where
  each : (e : ℕ) → e < d + 1 → IsReadIn image e (slice_index_or (roles ++ survey.role ∷ []) e Large)
  each e less = elim (cases_lt e d) as (λ _. IsReadIn image e (slice_index_or (roles ++ survey.role ∷ []) e Large)) [
    | inl lower ↦ subst (IsReadIn image e) (sym (get_or-append roles (survey.role ∷ []) Large e (let long = before.long in omega arith)))
        (before.each e lower)
    | inr past ↦ let same : d ≡ e = omega arith in
        let seam : slice_index_or (roles ++ survey.role ∷ []) e Large ≡ survey.role =
        subst (λ i. slice_index_or (roles ++ survey.role ∷ []) i Large ≡ survey.role) (before.long ∙ same)
        (get_or-append_seam roles survey.role [] Large) in
        subst (IsReadIn image e) (sym seam) (subst (λ i. IsReadIn image i survey.role) same
        (record { spares = survey.spares.items; has_role = here.surveyed.role; fits = here.fits }))
  ]

-- all of them
pub read_all : (image : Image) (d end : ℕ) (held : List Block) (roles : List Role) (marks : List Bool) → d ≡ used_of image
    → HasFreeList image marks → AreUntouched image (capacity_of image)
    → AreRead image d end held roles → TellsAll image held roles
read_all image d end held roles marks all list untouched read = record {
  orderly = λ limit bytes good closed. record {
    header = good;
    closed = closed;
    free = list.free;
    listed = list.is.listed;
    free_are = λ e p. let is = list.is.each e p in (is.taken, is.empty);
    others = λ e taken outside. read.orderly list.free e list.is.listed (omega arith) outside;
    untaken = untouched.each;
  };
  have = record { long = read.long ∙ all; each = λ e taken. read.each e (omega arith) };
  in_order = ascending_same (λ (b : Block). b.first_word) (IsKeptBelow (capacity_of image) (IsHeldByAnchors image) d)
      (IsHeldByAnchors image) held (λ b is. is.is_kept)
      (λ b is. record {
        is_kept = is;
        below = (let inside = block_inside (layout_of image) b ((keeps image).each b is) in
            let some = block_words (layout_of image) b ((keeps image).each b is) in omega (arith, inside.1));
      })
      read.in_order;
}

-- an image with a descriptor that was touched is not orderly
pub touched : (image : Image) → (AreUntouched image (capacity_of image) → ⊥) → IsDisorderly image
touched image none = record { never = λ limit bytes orderly. none (record { each = orderly.untaken }) }
