-- A superblock has one role, and the role tells its list.
use Rattle.std.proofs.Math.Bridge.{le_prop}
use Rattle.std.proofs.Common.{◌≡◌, ℕ, zero, suc, ◌<◌, Some, List, length, slice_index_or, refl, ap, sym, subst, ◌∙◌, arith}
use Rattle.heap_model.specs.declared.block.Block.{Block}
use Rattle.heap_model.specs.Geometry.{lists}
use Rattle.heap_model.specs.Sizes.{IsClass}
use Rattle.heap_model.specs.Blocks.{Layout}
use Rattle.heap_model.specs.Recovered.{IsFreeSuperblock, AreAscending}
use Rattle.heap_model.specs.Recovery.{HoldsKept, IsSpare, IsPartial, IsFullyKept, IsInLarge, IsListed}
use Rattle.size_table.specs.declared.size_class.SizeClass.{SizeClass}
use Rattle.heap_recover.specs.declared.roles.Role.{Role}
use Rattle.heap_recover.specs.declared.roles.Role.TheVariants.{Free, Partial, Full, Large}
use Rattle.heap_recover.specs.Roles.{IsRole, is_free, is_partial, is_full, is_large, list_of, IsMember}
use Rattle.heap_at_rest.proofs.RecoveryLeftLemmas.{full_holds, full_not_partial, partial_listed}

-- classes of one number are one
same_class : (a b : SizeClass) → a.number ≡ b.number → a ≡ b
same_class a b same = subst (λ n. (is : IsClass n) → a ≡ record { number = n; is = is }) same one b.is where
  one : (is : IsClass a.number) → a ≡ record { number = a.number; is = is }
  one is = λ i. record { number = a.number; is = record { some = le_prop a.is.some is.some i; last = le_prop a.is.last is.last i } }

module _ (l : Layout) (kept : Block → Type 0) (d : ℕ) where
  -- a superblock that holds a part of a kept block is not free
  pub not_free : HoldsKept l kept d → IsFreeSuperblock l kept d → ⊥
  not_free holds free = free.empty holds.block holds.is_kept holds.part

  -- a free one has the role of a free one
  pub free_role : (role : Role) (spares : List ℕ) → IsRole l kept d role spares → IsFreeSuperblock l kept d → role ≡ Free
  free_role _ _ (is_free free') free = refl
  free_role _ _ (is_partial class spares partial chained) free = absurd (not_free partial.holds free)
  free_role _ _ (is_full class full) free = absurd (not_free (full_holds l kept class.number d class.is full) free)
  free_role _ _ (is_large large) free = absurd (not_free large.holds free)

  -- a partial one that of a partial one, with all its spares
  pub partial_role : (class : SizeClass) (role : Role) (spares : List ℕ) → IsRole l kept d role spares → IsPartial l kept class.number d
      → (role ≡ Partial class) × AreAscending (λ w. w) (IsSpare l kept class.number d) spares
  partial_role class _ _ (is_free free) partial = absurd (not_free partial.holds free)
  partial_role class _ _ (is_partial other spares partial' chained) partial =
      let same : other ≡ class = same_class other class (sym partial'.info_is ∙ partial.info_is) in
      (ap Partial same, subst (λ (c : SizeClass). AreAscending (λ w. w) (IsSpare l kept c.number d) spares) same chained)
  partial_role class _ _ (is_full other full) partial =
      absurd (full_not_partial l kept other.number class.number d full partial)
  partial_role class _ _ (is_large large) partial = absurd (large.no_class (subst IsClass (sym partial.info_is) class.is))

  -- a fully kept one that of a full one
  pub full_role : (class : SizeClass) (role : Role) (spares : List ℕ) → IsRole l kept d role spares → IsFullyKept l kept class.number d
      → role ≡ Full class
  full_role class _ _ (is_free free) full = absurd (not_free (full_holds l kept class.number d class.is full) free)
  full_role class _ _ (is_partial other spares partial chained) full =
      absurd (full_not_partial l kept class.number other.number d full partial)
  full_role class _ _ (is_full other full') full = ap Full (same_class other class (sym full'.info_is ∙ full.info_is))
  full_role class _ _ (is_large large) full = absurd (large.no_class (subst IsClass (sym full.info_is) class.is))

  -- one in a large block that of such a one
  pub large_role : (role : Role) (spares : List ℕ) → IsRole l kept d role spares → IsInLarge l kept d → role ≡ Large
  large_role _ _ (is_free free) large = absurd (not_free large.holds free)
  large_role _ _ (is_partial class spares partial chained) large = absurd (large.no_class (subst IsClass (sym partial.info_is) class.is))
  large_role _ _ (is_full class full) large = absurd (large.no_class (subst IsClass (sym full.info_is) class.is))
  large_role _ _ (is_large large') large = refl

  -- the role puts it into a list
  pub role_listed : (list : ℕ) (role : Role) (spares : List ℕ) → IsRole l kept d role spares → list_of role ≡ Some list → IsListed l kept list d
  role_listed list _ _ (is_free free) same = let zeroth : 0 ≡ list = cc in subst (λ n. IsListed l kept n d) zeroth free
  role_listed list _ _ (is_partial class spares partial chained) same =
      let is_list : class.number ≡ list = cc in subst (λ n. IsListed l kept n d) is_list (partial_listed l kept class.number d class.is partial)
  role_listed list _ _ (is_full class full) same = absurd (cc)
  role_listed list _ _ (is_large large) same = absurd (cc)

  -- and that is the list that it is in
  pub listed_role : (list : ℕ) (role : Role) (spares : List ℕ) → list < lists → IsRole l kept d role spares → IsListed l kept list d
      → list_of role ≡ Some list
  listed_role zero role spares few has listed = ap list_of (free_role role spares has listed)
  listed_role (suc c) role spares few has listed = ap list_of (partial_role
      (record { number = suc c; is = record { some = omega arith; last = omega arith } }) role spares has listed).0

  -- a superblock in a list has been taken
  pub listed_taken : (list : ℕ) → IsListed l kept list d → d < l.used
  listed_taken zero listed = listed.taken
  listed_taken (suc c) listed = listed.taken

-- a role of superblock d
pub record HasRole (l : Layout) (kept : Block → Type 0) (d : ℕ) (role : Role) : Type 0 where
  pub spares : List ℕ
  pub is : IsRole l kept d role spares

-- the superblocks that have been taken have these roles
pub record AreRoles (l : Layout) (kept : Block → Type 0) (roles : List Role) : Type 0 where
  pub long : length roles ≡ l.used
  pub each : (d : ℕ) → d < l.used → HasRole l kept d (slice_index_or roles d Large)

-- so a superblock is a member of a list exactly where it is listed there
module _ (l : Layout) (kept : Block → Type 0) (roles : List Role) (are : AreRoles l kept roles) where
  pub member_below : (list d : ℕ) → IsMember roles list d → d < l.used
  member_below list d is = let below = is.below in let long = are.long in omega arith

  pub member_listed : (list d : ℕ) → IsMember roles list d → IsListed l kept list d
  member_listed list d is = let here = are.each d (member_below list d is) in
      role_listed l kept d list (slice_index_or roles d Large) here.spares here.is is.in_list

  pub listed_member : (list d : ℕ) → list < lists → IsListed l kept list d → IsMember roles list d
  listed_member list d few is =
      let taken = listed_taken l kept d list is in
      let here = are.each d taken in
      record {
        below = (let long = are.long in omega arith);
        in_list =
            listed_role l kept d list (slice_index_or roles d Large) here.spares few here.is is;
      }
