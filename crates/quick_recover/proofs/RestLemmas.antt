-- What is left of an orderly image is a heap at rest.
use Rattle.std.proofs.Common.{◌≡◌, ◌≢◌, ℕ, ◌+◌, ◌*◌, ◌<◌, ◌≤◌, ◌⊎◌, inl, inr, nat_eq, List, [], ◌∷◌, length, slice_index, slice_index_or, Contains, ap, sym, subst, ◌∙◌, arith}
use Rattle.std.specs.Prelude.{AllPairs}
use Rattle.std.proofs.lemmas.Bool.{cases_lt, eq-eqb, eqb-true, cases_eq}
use Rattle.heap_model.specs.declared.block.Block.{Block}
use Rattle.heap_model.specs.Geometry.{anchor_word, start_word}
use Rattle.heap_model.specs.Image.{Image}
use Rattle.heap_model.specs.Header.{IsWellFormed, capacity_of, used_of}
use Rattle.heap_model.specs.Sizes.{IsClass, words_of_class}
use Rattle.heap_model.specs.Words.{anchor_state, anchor_first, anchor_count}
use Rattle.heap_model.specs.Blocks.{layout_of}
use Rattle.heap_model.specs.Recovered.{AreAscending}
use Rattle.heap_model.specs.Recovery.{IsPartial}
use Rattle.heap_model.specs.Chains.{IsChain}
use Rattle.heap_model.specs.Counting.{times}
use Rattle.heap_model.specs.Rest.{IsAnchored, IsReady}
use Rattle.heap_model.proofs.MemberLemmas.{in_none, head_or_rest, order_head, order_rest}
use Rattle.heap_model.proofs.CountingLemmas.{times_none, one_if_true, one_if_false}
use Rattle.heap_at_rest.proofs.RecoveryLeftLemmas.{HasSpares, LeavesHeap, full_not_partial}
use Rattle.heap_at_rest.proofs.RecoveredLemmas.{same_capacity}
use Rattle.heap_at_rest.proofs.ReadyLemmas.{left_ready}
use Rattle.heap_recover.specs.declared.roles.Role.{Role}
use Rattle.heap_recover.specs.declared.roles.Role.TheVariants.{Free, Partial, Full, Large}
use Rattle.heap_recover.specs.Roles.{IsRole, is_free, is_partial, is_full, is_large}
use Rattle.heap_recover.proofs.RoleLemmas.{not_free}
use Rattle.heap_recover.proofs.LinkedLemmas.{list_below}
use Rattle.heap_at_rest.proofs.ListLemmas.{walks_same}
use Rattle.heap_at_rest.specs.Orderly.{HasPartialChain, IsHeldByAnchors}
use Rattle.heap_at_rest.proofs.AnchorHeldLemmas.{held_block}
use Rattle.quick_recover.specs.Anchored.{FitsAnchor, HaveRoles}
use Rattle.quick_recover.specs.Reopened.{IsReopened}

-- a member of different numbers stands there once
times_different : (n : ℕ) (xs : List ℕ) → AllPairs (λ a b. a ≢ b) xs → Contains xs n → times n xs ≡ 1
times_different n [] pairs p = absurd (in_none n p)
times_different n (x ∷ xs) pairs p = elim (cases_eq x n) as (λ _. times n (x ∷ xs) ≡ 1) [
  | inl same ↦
      let here = one_if_true (nat_eq x n) (eq-eqb x n same) in
      let rest = times_none n xs (λ q. order_head (λ a b. a ≢ b) x n xs pairs q same) in
      omega arith
  | inr other ↦ elim (head_or_rest x n xs p) as (λ _. times n (x ∷ xs) ≡ 1) [
    | inl same ↦ absurd (other same)
    | inr later ↦
        let here = one_if_false (nat_eq x n) (λ is. other (eqb-true x n is)) in
        let rest = times_different n xs (order_rest (λ a b. a ≢ b) x xs pairs) later in
        omega arith
  ]
]

-- the chain of a superblock of the role
abbrev chain_of : (image : Image) (d : ℕ) (spares : List ℕ) (role : Role) → FitsAnchor image d spares role → List ℕ
chain_of image d spares Free fits = []
chain_of image d spares (Partial class) fits = fits.chain
chain_of image d spares (Full class) fits = []
chain_of image d spares Large fits = []

-- that of a partial one has its spare blocks
record HasChained (image : Image) (class d : ℕ) (ws : List ℕ) : Type 0 where
  spares : HasSpares (layout_of image) (IsHeldByAnchors image) class d ws
  has : HasPartialChain image class d ws

chained : (image : Image) (class d : ℕ) (role : Role) (spares : List ℕ)
    (has_role : IsRole (layout_of image) (IsHeldByAnchors image) d role spares) (fits : FitsAnchor image d spares role)
    → IsClass class → IsPartial (layout_of image) (IsHeldByAnchors image) class d → HasChained image class d (chain_of image d spares role fits)
chained image class d _ _ (is_free free) fits is part = absurd (not_free (layout_of image) (IsHeldByAnchors image) d part.holds free)
chained image class d _ _ (is_partial c spares part' in_order) fits is part =
    let same : c.number ≡ class = sym part'.info_is ∙ part.info_is in
    subst (λ n. HasChained image n d fits.chain) same (record {
      spares = record {
        sound = λ w p. in_order.sound w (fits.from w p);
        once = λ w spare. times_different w fits.chain fits.has.different (fits.to w (in_order.complete w spare));
      };
      has = fits.has;
    })
chained image class d _ _ (is_full c full) fits is part =
    absurd (full_not_partial (layout_of image) (IsHeldByAnchors image) c.number class d full part)
chained image class d _ _ (is_large large) fits is part = absurd (large.no_class (subst IsClass (sym part.info_is) is))

module _ (old new : Image) (roles : List Role) (have : HaveRoles old roles) (left : IsReopened old new (IsHeldByAnchors old)) where
  abbrev chain_at : (d : ℕ) → (d < used_of old) ⊎ (used_of old ≤ d) → List ℕ
  chain_at = list_below (used_of old) (λ d taken. let here = have.each d taken in chain_of old d here.spares (slice_index_or roles d Large) here.fits)

  chained_at : (class d : ℕ) (which : (d < used_of old) ⊎ (used_of old ≤ d)) → IsClass class
      → IsPartial (layout_of old) (IsHeldByAnchors old) class d → HasChained old class d (chain_at d which)
  chained_at class d (inl taken) is part = let here = have.each d taken in
      chained old class d (slice_index_or roles d Large) here.spares here.has_role here.fits is part
  chained_at class d (inr past) is part = absurd (let taken = part.taken in omega arith)

  -- the anchor of a partial superblock is that of its chain
  anchored : (class d : ℕ) (ws : List ℕ) → IsClass class → IsPartial (layout_of old) (IsHeldByAnchors old) class d → HasChained old class d ws
      → IsAnchored new class d ws
  anchored class d ws is part chain =
      let anchor = (left.partial class d is part).anchor_is in
      let has = chain.has in
      let state : anchor_state (new (anchor_word d)) ≡ 1 = ap anchor_state anchor ∙ has.state in
      record {
        linked = subst (λ c. IsChain new c class d (start_word c d + anchor_first (new (anchor_word d)) * words_of_class class) ws)
            (sym (same_capacity old new left.same))
            (subst (λ a. IsChain new (capacity_of old) class d (start_word (capacity_of old) d + anchor_first a * words_of_class class) ws)
            (sym anchor) (record {
              walks = walks_same old new (start_word (capacity_of old) d + anchor_first (old (anchor_word d)) * words_of_class class) ws
                  (λ b p. left.inside b (let at = (has.linked.blocks b p).1.at in omega arith)) has.linked.walks;
              blocks = has.linked.blocks;
            }));
        count = ap anchor_count anchor ∙ has.count;
        empty = (λ none. absurd (omega arith), λ all. absurd (let fewer = has.not_all in omega arith));
        full = (
          λ is_full. absurd (let wrong : anchor_state (new (anchor_word d)) ≡ 2 = ap anchor_state is_full in omega arith),
          λ none. absurd (let some = has.some in omega arith),
        );
        partial = λ some fewer. state;
      }

  pub heap_left : LeavesHeap old new (IsHeldByAnchors old)
  heap_left = record {
    descriptors = left.descriptors;
    chains = λ d. chain_at d (cases_lt d (used_of old));
    listed = left.listed;
    chained = λ class d is part. (chained_at class d (cases_lt d (used_of old)) is part).spares;
    state = left.state;
    same = left.same;
    heads = left.heads;
    links = left.links;
    unlisted = left.unlisted;
    free = left.free;
    partial = λ class d is part. (
      (left.partial class d is part).info_is,
      anchored class d (chain_at d (cases_lt d (used_of old))) is part (chained_at class d (cases_lt d (used_of old)) is part),
    );
    full = left.full;
    in_large = left.in_large;
    untaken = left.untaken;
  }

-- so it is a heap at rest
pub reopened_ready : (old new : List ℕ) (held : List Block) (roles : List Role) → IsWellFormed (8 * length old) (slice_index old)
    → length new ≡ length old
    → HaveRoles (slice_index old) roles → AreAscending (λ (b : Block). b.first_word) (IsHeldByAnchors (slice_index old)) held
    → IsReopened (slice_index old) (slice_index new) (IsHeldByAnchors (slice_index old)) → IsReady new held
reopened_ready old new held roles formed long have in_order left =
    left_ready old new (IsHeldByAnchors (slice_index old)) held formed long (held_block (slice_index old)) in_order
    (heap_left (slice_index old) (slice_index new) roles have left)
