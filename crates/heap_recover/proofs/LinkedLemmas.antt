-- What is left once the lists are linked and the state is written: lists and links for the kept blocks, and the
-- descriptor of each superblock by its role.
use Rattle.std.proofs.Common.{◌≡◌, ◌≢◌, ℕ, ◌<◌, ◌≤◌, ◌⊎◌, inl, inr, List, [], slice_index_or, subst, ◌∙◌, arith}
use Rattle.std.specs.List.{Contains}
use Rattle.std.proofs.lemmas.Bool.{cases_lt}
use Rattle.heap_model.specs.declared.block.Block.{Block}
use Rattle.heap_model.specs.Geometry.{info_word, anchor_word, link_word, head_word, start_word, state_word, dirty, lists}
use Rattle.heap_model.specs.Header.{capacity_of, used_of}
use Rattle.heap_model.specs.Image.{Image}
use Rattle.heap_model.specs.Sizes.{IsClass}
use Rattle.heap_model.specs.Words.{full_anchor}
use Rattle.heap_model.specs.Blocks.{layout_of}
use Rattle.heap_model.specs.Recovered.{IsFreeSuperblock, AreAscending}
use Rattle.heap_model.specs.Recovery.{IsFullyKept, IsInLarge, IsListed, first_number, IsKeptWord, HasInfoAndAnchor}
use Rattle.heap_model.specs.Chains.{Follows}
use Rattle.heap_at_rest.proofs.ListLemmas.{follows_same}
use Rattle.heap_recover.specs.declared.roles.Role.{Role}
use Rattle.heap_recover.specs.declared.roles.Role.TheVariants.{Free, Partial, Full, Large}
use Rattle.heap_recover.specs.Roles.{IsMember}
use Rattle.heap_recover.specs.Rebuilt.{is_link, AreListed}
use Rattle.heap_recover.proofs.AscendingLemmas.{ascending_same}
use Rattle.heap_recover.proofs.OwnerLemmas.{kept_no_state, kept_no_head, kept_apart}
use Rattle.heap_recover.proofs.RoleLemmas.{free_role, full_role, large_role, AreRoles, member_below, member_listed, listed_member}

-- the list of each number below n, and none from n on
abbrev pub list_below : (n : ℕ) (f : (i : ℕ) → i < n → List ℕ) (i : ℕ) → (i < n) ⊎ (n ≤ i) → List ℕ
list_below n f i (inl below) = f i below
list_below n f i (inr past) = []

-- of an image whose descriptors are written, the lists of superblocks with these roles are linked, and then the state is written
pub record AreLinked (old written new : Image) (kept : Block → Type 0) (roles : List Role) : Type 0 where
  pub fits : used_of old ≤ capacity_of old
  pub roles_are : AreRoles (layout_of old) kept roles
  pub listed : Image
  pub are_listed : AreListed written listed (capacity_of old) roles lists
  pub state : new state_word ≡ dirty
  pub others : (word : ℕ) → word ≢ state_word → new word ≡ listed word

-- info and anchor of a superblock of the role; of a partial one nothing is said
abbrev pub IsSettled : Image → Image → ℕ → Role → Type 0
IsSettled old new d Free = HasInfoAndAnchor new d 0 0
IsSettled old new d (Partial class) = Unit {0}
IsSettled old new d (Full class) = HasInfoAndAnchor new d (old (info_word d)) full_anchor
IsSettled old new d Large = HasInfoAndAnchor new d (old (info_word d)) full_anchor

-- each superblock that has been taken is so
abbrev pub AreSettled : Image → Image → List Role → Type 0
AreSettled old new roles = (d : ℕ) → d < used_of old → IsSettled old new d (slice_index_or roles d Large)

-- of one that has not, info and anchor are 0
abbrev pub AreUntaken : Image → Image → Type 0
AreUntaken old new = (d : ℕ) → used_of old ≤ d → d < capacity_of old → HasInfoAndAnchor new d 0 0

module _ (old written new : Image) (kept : Block → Type 0) (roles : List Role) (linked : AreLinked old written new kept roles) where
  -- a word that is no state, head or link of a listed superblock is as it was written
  after_lists : (word : ℕ) → word ≢ state_word → ((j : ℕ) → j < lists → word ≢ head_word j)
      → ((d j : ℕ) → j < lists → IsMember roles j d → word ≢ link_word d) → new word ≡ written word
  after_lists word no_state no_head no_link = linked.others word no_state ∙ linked.are_listed.others word no_head no_link

  pub info_left : (d : ℕ) → new (info_word d) ≡ written (info_word d)
  info_left d = after_lists (info_word d) (λ same. omega arith) (λ j few same. omega arith) (λ e j few is same. omega arith)

  pub anchor_left : (d : ℕ) → new (anchor_word d) ≡ written (anchor_word d)
  anchor_left d = after_lists (anchor_word d) (λ same. omega arith) (λ j few same. omega arith) (λ e j few is same. omega arith)

  pub inside_left : (word : ℕ) → start_word (capacity_of old) 0 ≤ word → new word ≡ written word
  inside_left word low = after_lists word (λ same. omega arith) (λ j few same. omega arith)
      (λ e j few is same. let below = member_below (layout_of old) kept roles linked.roles_are j e is in let fits = linked.fits in omega arith)

  -- the words that recovery leaves alone
  pub kept_left : (word : ℕ) → IsKeptWord (capacity_of old) word → new word ≡ written word
  kept_left word is = after_lists word (kept_no_state (capacity_of old) word is) (kept_no_head (capacity_of old) word is)
      (λ d j few member same. kept_apart (capacity_of old) d word (let below =
      member_below (layout_of old) kept roles linked.roles_are j d member in let fits = linked.fits in omega arith) is (is_link word same))

  -- the descriptors of each list
  abbrev pub members_at : (list : ℕ) → (list < lists) ⊎ (lists ≤ list) → List ℕ
  members_at = list_below lists (λ list few. (linked.are_listed.each list few).members)

  pub members_in_order : (list : ℕ) → list < lists → (which : (list < lists) ⊎ (lists ≤ list))
      → AreAscending (λ d. d) (IsListed (layout_of old) kept list) (members_at list which)
  members_in_order list few (inl few') = ascending_same (λ d. d) (IsMember roles list) (IsListed (layout_of old) kept list)
      (linked.are_listed.each list few').members
      (member_listed (layout_of old) kept roles linked.roles_are list)
      (λ d is. listed_member (layout_of old) kept roles linked.roles_are list d few is) (linked.are_listed.each list few').are_members
  members_in_order list few (inr past) = absurd (omega arith)

  pub head_left : (list : ℕ) → list < lists → (which : (list < lists) ⊎ (lists ≤ list)) → new (head_word list) ≡ first_number (members_at list which)
  head_left list few (inl few') = linked.others (head_word list) (λ same. omega arith) ∙ (linked.are_listed.each list few').head
  head_left list few (inr past) = absurd (omega arith)

  pub links_left : (list : ℕ) → list < lists → (which : (list < lists) ⊎ (lists ≤ list))
      → Follows (λ d. new (link_word d)) (capacity_of old) (first_number (members_at list which)) (members_at list which)
  links_left list few (inl few') = let is_list = linked.are_listed.each list few' in
      follows_same (λ d. linked.listed (link_word d)) (λ d. new (link_word d)) (capacity_of old) (first_number is_list.members) is_list.members
      (λ d has. linked.others (link_word d) (λ same. omega arith)) is_list.follows
  links_left list few (inr past) = absurd (omega arith)

  in_members : (list d : ℕ) (few : list < lists) (which : (list < lists) ⊎ (lists ≤ list)) → IsMember roles list d → Contains (members_at list which) d
  in_members list d few (inl few') is = (linked.are_listed.each list few').are_members.complete d is
  in_members list d few (inr past) is = absurd (omega arith)

  -- the link of a superblock in no list
  pub link_left : (d : ℕ) → written (link_word d) ≡ 0 → ((list : ℕ) → list < lists → Contains (members_at list (cases_lt list lists)) d → ⊥)
      → new (link_word d) ≡ 0
  link_left d none away =
      after_lists (link_word d) (λ same. omega arith) (λ j few same. omega arith)
      (λ e j few is same. let is_d : e ≡ d = omega arith in away j few (in_members j d few (cases_lt j lists) (subst (IsMember roles j) is_d is)))
      ∙ none

  -- the superblocks that are free, full, or in a large block
  module _ (settled : AreSettled old new roles) where
    pub free_left : (d : ℕ) → IsFreeSuperblock (layout_of old) kept d → HasInfoAndAnchor new d 0 0
    free_left d free = let here = linked.roles_are.each d free.taken in
        subst (IsSettled old new d) (free_role (layout_of old) kept d (slice_index_or roles d Large) here.spares here.is free) (settled d free.taken)

    pub full_left : (class d : ℕ) → IsClass class → IsFullyKept (layout_of old) kept class d → HasInfoAndAnchor new d class full_anchor
    full_left class d is full = let here = linked.roles_are.each d full.taken in
        let left : HasInfoAndAnchor new d (old (info_word d)) full_anchor =
        subst (IsSettled old new d) (full_role (layout_of old) kept d (record { number = class; is = is })
        (slice_index_or roles d Large) here.spares here.is full) (settled d full.taken) in
        record { info_is = left.info_is ∙ full.info_is; anchor_is = left.anchor_is }

    pub large_left : (d : ℕ) → IsInLarge (layout_of old) kept d → HasInfoAndAnchor new d (old (info_word d)) full_anchor
    large_left d large = let here = linked.roles_are.each d large.taken in
        subst (IsSettled old new d) (large_role (layout_of old) kept d (slice_index_or roles d Large) here.spares here.is large) (settled d large.taken)
