-- The pass over the superblocks: what is done stays done while the next one is rebuilt.
use Rattle.std.proofs.Common.{◌≡◌, ℕ, ◌+◌, ◌*◌, ◌<◌, ◌≤◌, ◌⊎◌, inl, inr, List, [], ◌∷◌, ◌++◌, slice_index_or, refl, ap, sym, subst, ◌∙◌, arith, length-append}
use Rattle.std.proofs.Math.ListN.{get_or-append}
use Rattle.std.proofs.Math.Seq.{get_or-append_seam}
use Rattle.std.proofs.lemmas.Bool.{cases_lt}
use Rattle.heap_model.specs.declared.block.Block.{Block}
use Rattle.heap_model.specs.Geometry.{info_word, anchor_word, link_word, start_word, capacity_word}
use Rattle.heap_model.specs.Header.{capacity_of}
use Rattle.heap_model.specs.Image.{Image}
use Rattle.heap_model.specs.Sizes.{words_of_class}
use Rattle.heap_model.specs.Blocks.{Layout, layout_of}
use Rattle.heap_model.specs.Recovered.{AreAscending}
use Rattle.heap_model.specs.Recovery.{HasInfoAndAnchor, in_header as header_kept}
use Rattle.heap_model.specs.Chains.{Walks}
use Rattle.heap_model.proofs.BlockLemmas.{block_inside}
use Rattle.heap_recover.specs.declared.roles.Role.{Role}
use Rattle.heap_recover.specs.declared.roles.Role.TheVariants.{Free, Partial, Full, Large}
use Rattle.heap_recover.specs.Marked.{KeepsBlocks, IsKeptIn, IsKeptBelow, GoOnTo}
use Rattle.heap_recover.specs.Roles.{IsRole, is_free, is_partial, is_full, is_large}
use Rattle.heap_recover.specs.Rebuilt.{IsOf, is_info, is_anchor, is_link, is_inside, HasSpares, HasInfo, IsDescribed, KeepsInside, IsRebuiltAs, IsRebuiltInRole, AreDone, AreCleared}
use Rattle.heap_recover.proofs.AscendingLemmas.{ascending_none, ascending_append}
use Rattle.heap_at_rest.proofs.ListLemmas.{walks_same}
use Rattle.heap_recover.proofs.SuperblockLemmas.{spares_inside}
use Rattle.heap_recover.proofs.OwnerLemmas.{one_owner, kept_apart}

-- a superblock of the role has spares that can be chained
pub role_spares : (old : Image) (kept : Block → Type 0) (d : ℕ) (role : Role) (spares : List ℕ) → IsRole (layout_of old) kept d role spares
    → HasSpares (capacity_of old) d spares role × HasInfo (old (info_word d)) role
role_spares old kept d _ _ (is_free free) = (refl, tt)
role_spares old kept d _ _ (is_partial class spares partial chained) = (
  record {
    some = (let has = chained.complete partial.spare.0 partial.spare.1 in let below = has.1 in omega arith);
    ascending = chained.ascending;
    blocks = λ w has. let spare = chained.sound w has in (
      spare.index,
      record {
        below = spare.is_block.below;
        at = sym spare.first ∙ spare.is_block.at;
        size = refl;
      },
    );
  },
  partial.info_is,
)
role_spares old kept d _ _ (is_full class full) = (refl, tt)
role_spares old kept d _ _ (is_large large) = (refl, tt)

-- the images agree on info, anchor and blocks of superblock d
pub record SameIn (image other : Image) (capacity d : ℕ) : Type 0 where
  pub info : other (info_word d) ≡ image (info_word d)
  pub anchor : other (anchor_word d) ≡ image (anchor_word d)
  pub inside : (word : ℕ) → start_word capacity d ≤ word → word < start_word capacity (d + 1) → other word ≡ image word

-- so a superblock that is rebuilt in one is rebuilt in the other
described_same : (old new other : Image) (d : ℕ) (spares : List ℕ) (role : Role) → HasSpares (capacity_of old) d spares role
    → SameIn new other (capacity_of old) d
    → IsDescribed old new d spares role → IsDescribed old other d spares role
described_same old new other d spares Free has same is = record { info_is = same.info ∙ is.info_is; anchor_is = same.anchor ∙ is.anchor_is }
described_same old new other d spares (Partial class) has same is = record {
  first = is.first;
  words = record { info_is = same.info ∙ is.words.info_is; anchor_is = same.anchor ∙ is.words.anchor_is };
  walks = walks_same new other (start_word (capacity_of old) d + is.first * words_of_class class.number) spares
      (λ b here. let inside = spares_inside (capacity_of old) d spares (Partial class) has b here in same.inside b inside.0 inside.1) is.walks;
}
described_same old new other d spares (Full class) has same is = record { info_is = same.info ∙ is.info_is; anchor_is = same.anchor ∙ is.anchor_is }
described_same old new other d spares Large has same is = record { info_is = same.info ∙ is.info_is; anchor_is = same.anchor ∙ is.anchor_is }

pub done_same : (old new other : Image) (kept : Block → Type 0) (d : ℕ) (role : Role) → SameIn new other (capacity_of old) d
    → IsRebuiltInRole old new kept d role → IsRebuiltInRole old other kept d role
done_same old new other kept d role same is = record {
  spares = is.spares;
  has_role = is.has_role;
  described = described_same old new other d is.spares role (role_spares old kept d role is.spares is.has_role).0 same is.described;
  inside = record { each = λ word low high unlinked. same.inside word low high ∙ is.inside.each word low high unlinked };
}

-- the same info and capacity to begin with
described_from : (old mid new : Image) (d : ℕ) (spares : List ℕ) (role : Role) → mid (info_word d) ≡ old (info_word d)
    → capacity_of mid ≡ capacity_of old
    → IsDescribed mid new d spares role → IsDescribed old new d spares role
described_from old mid new d spares Free info capacity is = is
described_from old mid new d spares (Partial class) info capacity is = record {
  first = is.first;
  words = is.words;
  walks = subst (λ n. Walks new (start_word n d + is.first * words_of_class class.number) spares) capacity is.walks;
}
described_from old mid new d spares (Full class) info capacity is = record { info_is = is.info_is ∙ info; anchor_is = is.anchor_is }
described_from old mid new d spares Large info capacity is = record { info_is = is.info_is ∙ info; anchor_is = is.anchor_is }

-- nothing is done yet
pub done_none : (old : Image) (kept : Block → Type 0) → KeepsBlocks (layout_of old) kept → AreDone old old kept 0 [] []
done_none old kept blocks = record {
  long = refl;
  each = λ e below. absurd (omega arith);
  links = λ e below. absurd (omega arith);
  in_order = ascending_none (λ (b : Block). b.first_word) (IsKeptBelow (capacity_of old) kept 0)
      (λ b is. let inside = block_inside (layout_of old) b (blocks.each b is.is_kept) in let below = is.below in omega (arith, inside.0));
  others = λ word outside. refl;
}

pub goes_on_none : (l : Layout) (kept : Block → Type 0) → KeepsBlocks l kept → GoOnTo l kept 0 0
goes_on_none l kept blocks = record {
  inside = λ e low high. absurd (omega arith);
  ends = λ b e is_kept before low past. absurd (let inside = block_inside l b (blocks.each b is_kept) in omega (arith, inside.0));
}

-- the next superblock is rebuilt
pub done_next : (old mid new : Image) (kept : Block → Type 0) (d : ℕ) (held more : List Block) (roles : List Role) (role : Role)
    (spares : List ℕ) → d < capacity_of old
    → AreDone old mid kept d held roles → IsRole (layout_of old) kept d role spares
    → AreAscending (λ (b : Block). b.first_word) (IsKeptIn (capacity_of old) kept d) more
    → IsRebuiltAs mid new (capacity_of old) d role spares → AreDone old new kept (d + 1) (held ++ more) (roles ++ role ∷ [])
done_next old mid new kept d held more roles role spares below first has_role in_d rebuilt = record {
  long = length-append roles (role ∷ []) ∙ ap (λ n. n + 1) first.long;
  each = each;
  links = links;
  in_order = ascending_append (λ (b : Block). b.first_word) (IsKeptBelow capacity kept d) (IsKeptIn capacity kept d)
      (IsKeptBelow capacity kept (d + 1)) held more first.in_order in_d
      (λ a b lower here. let low = lower.below in let from = here.from in omega arith)
      (λ b lower. record { is_kept = lower.is_kept; below = (let low = lower.below in omega arith) })
      (λ b here. record { is_kept = here.is_kept; below = here.until })
      (λ b is. elim (cases_lt b.first_word (start_word capacity d)) as (λ _. IsKeptBelow capacity kept d b ⊎ IsKeptIn capacity kept d b) [
        | inl lower ↦ inl (record { is_kept = is.is_kept; below = lower })
        | inr here ↦ inr (record { is_kept = is.is_kept; from = here; until = is.below })
      ]);
  others = λ word outside. rebuilt.others word (outside d (omega arith)) ∙ first.others word (λ e less. outside e (omega arith));
} where
  capacity : ℕ
  capacity = capacity_of old

  -- a word of this superblock is as it was
  fresh : (word : ℕ) → IsOf (capacity_of old) d word → mid word ≡ old word
  fresh word owned = first.others word (λ e less other. let same = one_owner (capacity_of old) e d word (omega arith) below other owned in omega arith)

  -- a word of a lower one stays
  stays : (e word : ℕ) → e < d → IsOf (capacity_of old) e word → new word ≡ mid word
  stays e word less owned = rebuilt.others word (λ other. let same = one_owner (capacity_of old) e d word (omega arith) below owned other in
      omega arith)

  here_done : IsRebuiltInRole old new kept d role
  here_done = record {
    spares = spares;
    has_role = has_role;
    described = described_from old mid new d spares role (fresh (info_word d) (is_info (info_word d) refl))
        (first.others capacity_word (λ e less owned. kept_apart (capacity_of old) e capacity_word (omega arith)
        (header_kept capacity_word (inr (inr (inl refl)))) owned)) rebuilt.described;
    inside = record { each = λ word low high unlinked. rebuilt.inside.each word low high unlinked ∙ fresh word (is_inside word low high) };
  }

  each : (e : ℕ) → e < d + 1 → IsRebuiltInRole old new kept e (slice_index_or (roles ++ role ∷ []) e Large)
  each e less = elim (cases_lt e d) as (λ _. IsRebuiltInRole old new kept e (slice_index_or (roles ++ role ∷ []) e Large)) [
    | inl lower ↦ subst (λ r. IsRebuiltInRole old new kept e r) (sym (get_or-append roles (role ∷ []) Large e (let long = first.long in omega arith)))
        (done_same old mid new kept e (slice_index_or roles e Large) (record {
          info = stays e (info_word e) lower (is_info (info_word e) refl);
          anchor = stays e (anchor_word e) lower (is_anchor (anchor_word e) refl);
          inside = λ word low high. stays e word lower (is_inside word low high);
        }) (first.each e lower))
    | inr past ↦ let same : d ≡ e = omega arith in
        let seam : slice_index_or (roles ++ role ∷ []) e Large ≡ role =
        subst (λ i. slice_index_or (roles ++ role ∷ []) i Large ≡ role) (first.long ∙ same) (get_or-append_seam roles role [] Large) in
        subst (λ r. IsRebuiltInRole old new kept e r) (sym seam) (subst (λ i. IsRebuiltInRole old new kept i role) same here_done)
  ]

  links : (e : ℕ) → e < d + 1 → new (link_word e) ≡ 0
  links e less = elim (cases_lt e d) as (λ _. new (link_word e) ≡ 0) [
    | inl lower ↦ stays e (link_word e) lower (is_link (link_word e) refl) ∙ first.links e lower
    | inr past ↦ let same : d ≡ e = omega arith in subst (λ i. new (link_word i) ≡ 0) same rebuilt.link
  ]

-- nothing is cleared yet
pub cleared_none : (old : Image) (capacity used : ℕ) → AreCleared old old capacity used used
cleared_none old capacity used = record {
  each = λ e low high. absurd (omega arith);
  links = λ e low high. absurd (omega arith);
  inside = λ e low high. absurd (omega arith);
  others = λ word outside. refl;
}

-- the next superblock is cleared
pub cleared_next : (old mid new : Image) (capacity used d : ℕ) → used ≤ d → d < capacity → AreCleared old mid capacity used d
    → IsRebuiltAs mid new capacity d Free [] → AreCleared old new capacity used (d + 1)
cleared_next old mid new capacity used d from below first rebuilt = record { each = each; links = links; inside = inside; others = others } where
  stays : (e word : ℕ) → e < d → IsOf capacity e word → new word ≡ mid word
  stays e word less owned = rebuilt.others word (λ other. let same = one_owner capacity e d word (omega arith) below owned other in omega arith)

  fresh : (word : ℕ) → IsOf capacity d word → mid word ≡ old word
  fresh word owned = first.others word (λ e low less other. let same = one_owner capacity e d word (omega arith) below other owned in omega arith)

  each : (e : ℕ) → used ≤ e → e < d + 1 → HasInfoAndAnchor new e 0 0
  each e low less = elim (cases_lt e d) as (λ _. HasInfoAndAnchor new e 0 0) [
    | inl lower ↦ let was = first.each e low lower in record {
      info_is = stays e (info_word e) lower (is_info (info_word e) refl) ∙ was.info_is;
      anchor_is = stays e (anchor_word e) lower (is_anchor (anchor_word e) refl) ∙ was.anchor_is;
    }
    | inr past ↦ let same : d ≡ e = omega arith in subst (λ i. HasInfoAndAnchor new i 0 0) same rebuilt.described
  ]

  links : (e : ℕ) → used ≤ e → e < d + 1 → new (link_word e) ≡ 0
  links e low less = elim (cases_lt e d) as (λ _. new (link_word e) ≡ 0) [
    | inl lower ↦ stays e (link_word e) lower (is_link (link_word e) refl) ∙ first.links e low lower
    | inr past ↦ let same : d ≡ e = omega arith in subst (λ i. new (link_word i) ≡ 0) same rebuilt.link
  ]

  inside : (e : ℕ) → used ≤ e → e < d + 1 → KeepsInside old new capacity e []
  inside e low less = record {
    each = λ word from until unlinked. elim (cases_lt e d) as (λ _. new word ≡ old word) [
      | inl lower ↦ stays e word lower (is_inside word from until) ∙ (first.inside e low lower).each word from until unlinked
      | inr past ↦ let same : e ≡ d = omega arith in rebuilt.inside.each word (omega arith) (omega arith) unlinked
          ∙ fresh word (is_inside word (omega arith) (omega arith))
    ];
  }

  others : (word : ℕ) → ((e : ℕ) → used ≤ e → e < d + 1 → IsOf capacity e word → ⊥) → new word ≡ old word
  others word outside = rebuilt.others word (outside d from (omega arith)) ∙ first.others word (λ e low less. outside e low (omega arith))

-- the capacity, and the next info, are as they were
pub done_capacity : (old new : Image) (kept : Block → Type 0) (d : ℕ) (held : List Block) (roles : List Role) → d ≤ capacity_of old
    → AreDone old new kept d held roles → capacity_of new ≡ capacity_of old
done_capacity old new kept d held roles below done = done.others capacity_word
    (λ e less owned. kept_apart (capacity_of old) e capacity_word (omega arith) (header_kept capacity_word (inr (inr (inl refl)))) owned)

pub done_info : (old new : Image) (kept : Block → Type 0) (d : ℕ) (held : List Block) (roles : List Role) → d < capacity_of old
    → AreDone old new kept d held roles → new (info_word d) ≡ old (info_word d)
done_info old new kept d held roles below done =
    done.others (info_word d) (λ e less owned. let same = one_owner (capacity_of old) e d (info_word d) (omega arith) below owned
    (is_info (info_word d) refl) in omega arith)
