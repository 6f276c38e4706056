-- What is left of an orderly image once descriptors, lists and the state are written.
use Rattle.std.proofs.Common.{◌≡◌, ◌≢◌, ℕ, zero, suc, ◌<◌, ◌≤◌, List, [], ◌∷◌, length, slice_index_or, refl, subst, ◌∙◌, arith}
use Rattle.std.proofs.lemmas.Bool.{cases_lt}
use Rattle.std.proofs.lemmas.List.{get_or_default}
use Rattle.heap_model.specs.declared.block.Block.{Block}
use Rattle.heap_model.specs.Geometry.{anchor_word, state_word, dirty, lists}
use Rattle.heap_model.specs.Image.{Image}
use Rattle.heap_model.specs.Header.{capacity_of, used_of}
use Rattle.heap_model.specs.Sizes.{IsClass}
use Rattle.heap_model.specs.Blocks.{layout_of}
use Rattle.heap_model.specs.Recovered.{IsFreeSuperblock}
use Rattle.heap_model.specs.Recovery.{IsPartial, HasInfoAndAnchor}
use Rattle.heap_recover.specs.declared.roles.Role.{Role}
use Rattle.heap_recover.specs.declared.roles.Role.TheVariants.{Free, Partial, Full, Large}
use Rattle.heap_recover.specs.Roles.{IsMember}
use Rattle.heap_recover.specs.Rebuilt.{is_info, is_anchor, is_link, AreListed}
use Rattle.heap_recover.proofs.OwnerLemmas.{kept_apart}
use Rattle.heap_recover.proofs.RoleLemmas.{partial_role, AreRoles, member_listed, listed_member}
use Rattle.heap_recover.proofs.LinkedLemmas.{AreLinked, IsSettled, AreSettled, AreUntaken, info_left, anchor_left, inside_left, kept_left, members_at, members_in_order, head_left, links_left, link_left, free_left, full_left, large_left}
use Rattle.heap_at_rest.specs.Orderly.{IsHeldByAnchors}
use Rattle.quick_recover.specs.Anchored.{HaveRoles}
use Rattle.quick_recover.specs.Reopened.{IsReopened}
use Rattle.quick_recover.specs.Written.{IsWritten, AreWritten}

-- the roles that anchors give are roles for the blocks that they hold
roles_by_anchors : (old : Image) (roles : List Role) → HaveRoles old roles → AreRoles (layout_of old) (IsHeldByAnchors old) roles
roles_by_anchors old roles have = record {
  long = have.long;
  each = λ d taken. let here = have.each d taken in
      record { spares = here.spares; is = here.has_role };
}

module _ (old written listed new : Image) (roles : List Role) (fits : used_of old ≤ capacity_of old) (have : HaveRoles old roles)
    (are_written : AreWritten old written roles (capacity_of old)) (are_listed : AreListed written listed (capacity_of old) roles lists)
    (state_is : new state_word ≡ dirty) (others : (word : ℕ) → word ≢ state_word → new word ≡ listed word) where
  abbrev kept : Block → Type 0
  kept = IsHeldByAnchors old

  linked : AreLinked old written new (IsHeldByAnchors old) roles
  linked = record {
    fits = fits;
    roles_are = roles_by_anchors old roles have;
    listed = listed;
    are_listed = are_listed;
    state = state_is;
    others = others;
  }

  -- the role of a superblock, however it is looked up
  same_role : (d : ℕ) → d < used_of old → slice_index_or roles d Free ≡ slice_index_or roles d Large
  same_role d below = get_or_default roles d Free Large (let long = have.long in omega arith)

  is_written : (d : ℕ) → d < used_of old → IsWritten old written d (slice_index_or roles d Large)
  is_written d below = subst (IsWritten old written d) (same_role d below) (are_written.each d (omega arith))

  -- info and anchor, by the role
  words_free : (d : ℕ) → IsWritten old written d Free → HasInfoAndAnchor new d 0 0
  words_free d is = record {
    info_is = info_left old written new kept roles linked d ∙ is.info;
    anchor_is = anchor_left old written new kept roles linked d ∙ is.anchor;
  }

  settled_as : (d : ℕ) (role : Role) → IsWritten old written d role → IsSettled old new d role
  settled_as d Free is = words_free d is
  settled_as d (Partial class) is = tt
  settled_as d (Full class) is = record {
    info_is = info_left old written new kept roles linked d ∙ is.info;
    anchor_is = anchor_left old written new kept roles linked d ∙ is.anchor;
  }
  settled_as d Large is = record {
    info_is = info_left old written new kept roles linked d ∙ is.info;
    anchor_is = anchor_left old written new kept roles linked d ∙ is.anchor;
  }

  settled : AreSettled old new roles
  settled = λ d below. settled_as d (slice_index_or roles d Large) (is_written d below)

  partial_left : (class d : ℕ) → IsClass class → IsPartial (layout_of old) kept class d → HasInfoAndAnchor new d class (old (anchor_word d))
  partial_left class d is part = let here = have.each d part.taken in
      let left = subst (IsWritten old written d) (partial_role (layout_of old) kept d (record { number = class; is = is })
      (slice_index_or roles d Large) here.spares here.has_role part).0 (is_written d part.taken) in
      record {
        info_is = info_left old written new kept roles linked d ∙ left.info ∙ part.info_is;
        anchor_is = anchor_left old written new kept roles linked d ∙ left.anchor;
      }

  no_role : (d : ℕ) (rs : List Role) → length rs ≤ d → slice_index_or rs d Free ≡ Free
  no_role d [] past = refl
  no_role zero (r ∷ rs) past = absurd (omega arith)
  no_role (suc d) (r ∷ rs) past = no_role d rs (omega arith)

  untaken_words : AreUntaken old new
  untaken_words = λ d past below. words_free d (subst (IsWritten old written d) (no_role d roles (let long = have.long in omega arith))
      (are_written.each d below))

  pub reopened : IsReopened old new (IsHeldByAnchors old)
  reopened = record {
    descriptors = λ list. members_at old written new kept roles linked list (cases_lt list lists);
    listed = λ list few. members_in_order old written new kept roles linked list few (cases_lt list lists);
    state = state_is;
    same = λ word is. kept_left old written new kept roles linked word is
        ∙ are_written.others word (record {
          no = λ e less. (
            (λ same. kept_apart (capacity_of old) e word less is (is_info word same)),
            (λ same. kept_apart (capacity_of old) e word less is (is_anchor word same)),
            (λ same. kept_apart (capacity_of old) e word less is (is_link word same)),
          );
        });
    heads = λ list few. head_left old written new kept roles linked list few (cases_lt list lists);
    links = λ list few. links_left old written new kept roles linked list few (cases_lt list lists);
    unlisted = λ d below. link_left old written new kept roles linked d (are_written.each d below).link;
    free = free_left old written new kept roles linked settled;
    partial = partial_left;
    full = full_left old written new kept roles linked settled;
    in_large = large_left old written new kept roles linked settled;
    untaken = untaken_words;
    inside = λ word low. inside_left old written new kept roles linked word low
        ∙ are_written.others word (record { no = λ e less. ((λ same. omega arith), (λ same. omega arith), (λ same. omega arith)) });
  }

-- which superblocks are free
pub free_of : (old : Image) (roles : List Role) → HaveRoles old roles → (d : ℕ)
    → (IsMember roles 0 d → IsFreeSuperblock (layout_of old) (IsHeldByAnchors old) d)
    × (IsFreeSuperblock (layout_of old) (IsHeldByAnchors old) d → IsMember roles 0 d)
free_of old roles have d = (
  member_listed (layout_of old) (IsHeldByAnchors old) roles (roles_by_anchors old roles have) 0 d,
  listed_member (layout_of old) (IsHeldByAnchors old) roles (roles_by_anchors old roles have) 0 d (omega arith),
)
