-- What the passes leave: every word of the image, from the kept blocks.
use Rattle.std.proofs.Common.{◌≡◌, ◌≢◌, ℕ, ◌+◌, ◌-◌, ◌/◌, ◌<◌, ◌≤◌, ◌⊎◌, inl, inr, List, slice_index_or, refl, subst, ◌∙◌, arith}
use Rattle.std.specs.List.{Contains}
use Rattle.std.proofs.lemmas.Bool.{cases_lt}
use Rattle.heap_model.specs.declared.block.Block.{Block}
use Rattle.heap_model.specs.Geometry.{info_word, anchor_word, link_word, start_word, state_word, dirty, lists}
use Rattle.heap_model.specs.Header.{capacity_of, used_of}
use Rattle.heap_model.specs.Image.{Image}
use Rattle.heap_model.specs.Sizes.{IsClass}
use Rattle.heap_model.specs.Blocks.{layout_of}
use Rattle.heap_model.specs.Recovered.{AreAscending}
use Rattle.heap_model.specs.Recovery.{IsPartial, IsSpare, but_last, IsRechained, IsRecovered}
use Rattle.heap_model.proofs.BlockLemmas.{block_inside, block_words}
use Rattle.heap_recover.specs.declared.roles.Role.{Role}
use Rattle.heap_recover.specs.declared.roles.Role.TheVariants.{Free, Partial, Full, Large}
use Rattle.heap_recover.specs.Marked.{KeepsBlocks, IsKeptBelow}
use Rattle.heap_recover.specs.Roles.{IsRole, is_free, is_partial, is_full, is_large}
use Rattle.heap_recover.specs.Rebuilt.{IsOf, is_info, is_anchor, is_link, is_inside, IsDescribed, IsRebuiltInRole, AreDone, AreCleared, AreListed, IsRebuild}
use Rattle.heap_recover.proofs.AscendingLemmas.{ascending_same}
use Rattle.heap_recover.proofs.SurveyLemmas.{none_of}
use Rattle.heap_recover.proofs.PassLemmas.{done_same}
use Rattle.heap_recover.proofs.OwnerLemmas.{one_owner, no_lower, kept_apart}
use Rattle.heap_recover.proofs.RoleLemmas.{partial_role, member_listed, listed_member}
use Rattle.heap_recover.proofs.LinkedLemmas.{list_below, AreLinked, IsSettled, AreSettled, AreUntaken, info_left, anchor_left, inside_left, kept_left, members_at, members_in_order, head_left, links_left, link_left, free_left, full_left, large_left}

-- in which superblock a word lies
superblock_of : (capacity word : ℕ) → start_word capacity 0 ≤ word → (d : ℕ) × (start_word capacity d ≤ word) × (word < start_word capacity (d + 1))
superblock_of capacity word low = ((word - start_word capacity 0) / 8192, omega arith, omega arith)

-- the images, one pass after the other: of the taken superblocks, of the others, of the lists, of the state
module _ (old done cleared listed new : Image) (kept : Block → Type 0) (held : List Block) (roles : List Role)
    (blocks : KeepsBlocks (layout_of old) kept) (fits : used_of old ≤ capacity_of old)
    (are_done : AreDone old done kept (used_of old) held roles)
    (are_cleared : AreCleared done cleared (capacity_of old) (used_of old) (capacity_of old))
    (are_listed : AreListed cleared listed (capacity_of old) roles lists)
    (state_is : new state_word ≡ dirty)
    (others : (word : ℕ) → word ≢ state_word → new word ≡ listed word) where
  linked : AreLinked old cleared new kept roles
  linked = record {
    fits = fits;
    roles_are = record {
      long = are_done.long;
      each = λ d below. let here = are_done.each d below in
          record { spares = here.spares; is = here.has_role };
    };
    listed = listed;
    are_listed = are_listed;
    state = state_is;
    others = others;
  }

  -- what the first pass left of a taken superblock stays
  taken_left : (d word : ℕ) → d < used_of old → IsOf (capacity_of old) d word → cleared word ≡ done word
  taken_left d word below owned = are_cleared.others word (λ e low high other. let same =
      one_owner (capacity_of old) d e word (omega arith) high owned other in omega arith)

  abbrev role_of : ℕ → Role
  role_of d = slice_index_or roles d Large

  taken_done : (d : ℕ) → d < used_of old → IsRebuiltInRole old new kept d (slice_index_or roles d Large)
  taken_done d below = done_same old done new kept d (slice_index_or roles d Large) (record {
    info = info_left old cleared new kept roles linked d ∙ taken_left d (info_word d) below (is_info (info_word d) refl);
    anchor = anchor_left old cleared new kept roles linked d ∙ taken_left d (anchor_word d) below (is_anchor (anchor_word d) refl);
    inside = λ word low high. inside_left old cleared new kept roles linked word (omega arith) ∙ taken_left d word below (is_inside word low high);
  }) (are_done.each d below)

  -- so each descriptor is as its role wants it
  settled_as : (d : ℕ) (role : Role) (spares : List ℕ) → IsDescribed old new d spares role → IsSettled old new d role
  settled_as d Free spares is = is
  settled_as d (Partial class) spares is = tt
  settled_as d (Full class) spares is = is
  settled_as d Large spares is = is

  settled : AreSettled old new roles
  settled = λ d below. let here = taken_done d below in settled_as d (slice_index_or roles d Large) here.spares here.described

  -- a link that no list has written
  unlinked : (d : ℕ) → d < capacity_of old → cleared (link_word d) ≡ 0
  unlinked d below = elim (cases_lt d (used_of old)) as (λ _. cleared (link_word d) ≡ 0) [
    | inl taken ↦ taken_left d (link_word d) taken (is_link (link_word d) refl) ∙ are_done.links d taken
    | inr past ↦ are_cleared.links d past below
  ]

  untaken_left : AreUntaken old new
  untaken_left = λ d past below. let was = are_cleared.each d past below in
      record {
        info_is = info_left old cleared new kept roles linked d ∙ was.info_is;
        anchor_is = anchor_left old cleared new kept roles linked d ∙ was.anchor_is;
      }

  -- the chain of each superblock
  abbrev chain_at : (d : ℕ) → (d < used_of old) ⊎ (used_of old ≤ d) → List ℕ
  chain_at = list_below (used_of old) (λ d below. (taken_done d below).spares)

  -- the chain of a partial superblock
  chain_in_order : (class d : ℕ) → IsClass class → IsPartial (layout_of old) kept class d → (which : (d < used_of old) ⊎ (used_of old ≤ d))
      → AreAscending (λ w. w) (IsSpare (layout_of old) kept class d) (chain_at d which)
  chain_in_order class d is partial (inl below) = let here = taken_done d below in
      (partial_role (layout_of old) kept d (record { number = class; is = is }) (role_of d) here.spares here.has_role partial).1
  chain_in_order class d is partial (inr past) = absurd (let taken = partial.taken in omega arith)

  rechained : (class d : ℕ) → IsClass class → IsPartial (layout_of old) kept class d → (which : (d < used_of old) ⊎ (used_of old ≤ d))
      → IsRechained old new class d (chain_at d which)
  rechained class d is partial (inl below) = let here = taken_done d below in
      subst (λ r. IsDescribed old new d here.spares r) (partial_role (layout_of old) kept d (record { number = class; is = is })
      (role_of d) here.spares here.has_role partial).0 here.described
  rechained class d is partial (inr past) = absurd (let taken = partial.taken in omega arith)

  -- a chained word of a superblock that is not chained
  unlinked_in : (d word : ℕ) (role : Role) (spares : List ℕ) → IsRole (layout_of old) kept d role spares
      → ((class : ℕ) → IsClass class → IsPartial (layout_of old) kept class d → Contains (but_last spares) word → ⊥)
      → Contains (but_last spares) word → ⊥
  unlinked_in d word _ _ (is_free free) away linked = none_of refl linked
  unlinked_in d word _ _ (is_partial class spares partial chained) away linked = away class.number class.is partial linked
  unlinked_in d word _ _ (is_full class full) away linked = none_of refl linked
  unlinked_in d word _ _ (is_large large) away linked = none_of refl linked

  -- the words of the superblocks
  words_left : (word : ℕ) → start_word (capacity_of old) 0 ≤ word
      → ((class d : ℕ) → IsClass class → IsPartial (layout_of old) kept class d
      → Contains (but_last (chain_at d (cases_lt d (used_of old)))) word → ⊥) → new word ≡ old word
  words_left word low away =
      let d = (superblock_of (capacity_of old) word low).0 in
      let from = (superblock_of (capacity_of old) word low).1 in
      let until = (superblock_of (capacity_of old) word low).2 in
      in_superblock d from until (cases_lt d (used_of old)) (λ class. away class d)
    where
      in_superblock : (d : ℕ) → start_word (capacity_of old) d ≤ word → word < start_word (capacity_of old) (d + 1)
          → (which : (d < used_of old) ⊎ (used_of old ≤ d))
          → ((class : ℕ) → IsClass class → IsPartial (layout_of old) kept class d → Contains (but_last (chain_at d which)) word → ⊥)
          → new word ≡ old word
      in_superblock d from until (inl below) away' = let here = taken_done d below in
          here.inside.each word from until (unlinked_in d word (role_of d) here.spares here.has_role away')
      in_superblock d from until (inr past) away' = inside_left old cleared new kept roles linked word low
          ∙ elim (cases_lt d (capacity_of old)) as (λ _. cleared word ≡ old word) [
            | inl below ↦ (are_cleared.inside d past below).each word from until (λ linked. none_of refl linked) ∙ untouched d past from
            | inr beyond ↦ are_cleared.others word (λ e low less owned. no_lower (capacity_of old) d e word (omega arith) less from owned)
                ∙ untouched d past from
          ] where
            untouched : (d : ℕ) → used_of old ≤ d → start_word (capacity_of old) d ≤ word → done word ≡ old word
            untouched d past from = are_done.others word (λ e taken owned. no_lower (capacity_of old) d e word (omega arith) (omega arith) from owned)

  -- the whole image
  pub recovered : IsRecovered old new kept
  recovered = record {
    descriptors = λ list. members_at old cleared new kept roles linked list (cases_lt list lists);
    chains = λ d. chain_at d (cases_lt d (used_of old));
    listed = λ list few. members_in_order old cleared new kept roles linked list few (cases_lt list lists);
    chained = λ class d is partial. chain_in_order class d is partial (cases_lt d (used_of old));
    state = state_is;
    same = λ word is. kept_left old cleared new kept roles linked word is
        ∙ are_cleared.others word (λ e low below owned. kept_apart (capacity_of old) e word below is owned)
        ∙ are_done.others word (λ e below owned. kept_apart (capacity_of old) e word (omega arith) is owned);
    heads = λ list few. head_left old cleared new kept roles linked list few (cases_lt list lists);
    links = λ list few. links_left old cleared new kept roles linked list few (cases_lt list lists);
    unlisted = λ d below. link_left old cleared new kept roles linked d (unlinked d below);
    free = free_left old cleared new kept roles linked settled;
    partial = λ class d is partial. rechained class d is partial (cases_lt d (used_of old));
    full = full_left old cleared new kept roles linked settled;
    in_large = large_left old cleared new kept roles linked settled;
    untaken = untaken_left;
    inside = words_left;
  }

  -- the held blocks and the free superblocks
  pub rebuild : IsRebuild old new kept held roles
  rebuild = record {
    recovered = recovered;
    long = are_done.long;
    in_order = ascending_same (λ (b : Block). b.first_word) (IsKeptBelow (capacity_of old) kept (used_of old)) kept held (λ b is. is.is_kept)
        (λ b is_kept. record {
          is_kept = is_kept;
          below = (let inside = block_inside (layout_of old) b (blocks.each b is_kept) in
              let some = block_words (layout_of old) b (blocks.each b is_kept) in omega (arith, inside.1));
        })
        are_done.in_order;
    free = λ d. (
      member_listed (layout_of old) kept roles linked.roles_are 0 d,
      listed_member (layout_of old) kept roles linked.roles_are 0 d (omega arith),
    );
  }
