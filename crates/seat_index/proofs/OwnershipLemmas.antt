-- What a seat owns of each superblock, after a claim came, went or was cut.
use Rattle.std.proofs.Common.{◌≡◌, ◌≢◌, ℕ, zero, suc, ◌+◌, ◌<◌, ◌≤◌, inl, inr, nat_eq, List, ◌∷◌, ◌++◌, get_or, set, length, refl, sym, subst, ◌∙◌, eq-eqb, arith}
use Rattle.std.proofs.lemmas.Bool.{cases_eq}
use Rattle.std.proofs.lemmas.List.{get_or-set_same, get_or-set_other}
use Rattle.heap_model.specs.Counting.{times, without}
use Rattle.core_model.specs.View.{times_classed, times_large}
use Rattle.core_model.specs.Effects.{steps, without_claim, claim_class}
use Rattle.core_model.proofs.CountLemmas.{times_without_claim, class_without}
use Rattle.core_model.proofs.FrameLemmas.{times_append}
use Rattle.core_model.proofs.PlaceLemmas.{pick, skip, not-eq}
use Rattle.core_model.proofs.RangeLemmas.{times_range, range_is, range_not, cases_range}
use Rattle.core_model.proofs.TotalLemmas.{eq-eqb-one, ne-eqb-none}
use Rattle.heap_model.proofs.ListLemmas.{without_at}
use Rattle.seat_state.proofs.CountLemmas.{without_off, class_absent}
use Rattle.seat_index.specs.declared.owned.Ownership.{Ownership}
use Rattle.seat_index.specs.declared.owned.Ownership.TheVariants as ownership
use Rattle.seat_index.specs.Owned.{listed, OwnedParts, IsOwnership, HaveOwnership}

-- what is owned of all superblocks, after that of superblock d has become another
pub ownership_at : (ownerships : List Ownership) (p q : OwnedParts) (d : ℕ) (x : Ownership) → d < length ownerships
    → ((e : ℕ) → IsOwnership e (get_or ownerships e ownership.Nothing) p) → IsOwnership d x q
    → ((e : ℕ) (y : Ownership) → e ≢ d → IsOwnership e y p → IsOwnership e y q) → (e : ℕ)
    → IsOwnership e (get_or (set ownerships d x) e ownership.Nothing) q
ownership_at ownerships p q d x less old here others e = elim (cases_eq e d) as
    (λ _. IsOwnership e (get_or (set ownerships d x) e ownership.Nothing) q) [
      | inl same ↦ subst (λ n. IsOwnership n (get_or (set ownerships d x) n ownership.Nothing) q) (sym same)
          (subst (λ y. IsOwnership d y q) (sym (get_or-set_same ownerships d x ownership.Nothing less)) here)
      | inr other ↦ subst (λ y. IsOwnership e y q) (sym (get_or-set_other ownerships d e x ownership.Nothing other))
          (others e (get_or ownerships e ownership.Nothing) other (old e))
    ]

-- the same of a range
pub ownerships_in : (old new : List Ownership) (p q : OwnedParts) (from n : ℕ) (x : Ownership) → HaveOwnership old new from n x
    → ((e : ℕ) → IsOwnership e (get_or old e ownership.Nothing) p)
    → ((e : ℕ) → from ≤ e → e < from + n → IsOwnership e x q) → ((e : ℕ) (y : Ownership) → (from ≤ e → e < from + n → ⊥) → IsOwnership e y p
    → IsOwnership e y q)
    → (e : ℕ) → IsOwnership e (get_or new e ownership.Nothing) q
ownerships_in old new p q from n x owning before inside outside e =
    elim (cases_range from n e) as (λ _. IsOwnership e (get_or new e ownership.Nothing) q) [
      | inl here ↦ subst (λ y. IsOwnership e y q) (sym (owning.inside e here.0 here.1)) (inside e here.0 here.1)
      | inr out ↦ subst (λ y. IsOwnership e y q) (sym (owning.outside e out)) (outside e (get_or old e ownership.Nothing) out (before e))
    ]

-- nothing is there
pub no_ownership : (d : ℕ) (x : Ownership) (p : OwnedParts) → IsOwnership d x p → times d p.raw + times d p.split + times d p.cutting ≡ 0
    → times_classed d p.classed ≡ 0 → times_large d p.large ≡ 0 → x ≡ ownership.Nothing
no_ownership d ownership.Nothing p is a b e = refl
no_ownership d ownership.Unclassed p is a b e = absurd (let n = is.unclassed in omega arith)
no_ownership d (ownership.Classed class) p is a b e = absurd (let n = is.is_classed in omega arith)
no_ownership d (ownership.Large count) p is a b e = absurd (let n = is.is_large in omega arith)

-- a claim without a class has no other part of the superblock
pub unclassed_only : (d : ℕ) (x : Ownership) (p : OwnedParts) → IsOwnership d x p → 0 < times d p.raw + times d p.split + times d p.cutting
    → x ≡ ownership.Unclassed
unclassed_only d ownership.Nothing p is some = absurd (let n = is.unclassed in omega arith)
unclassed_only d ownership.Unclassed p is some = refl
unclassed_only d (ownership.Classed class) p is some = absurd (let n = is.unclassed in omega arith)
unclassed_only d (ownership.Large count) p is some = absurd (let n = is.unclassed in omega arith)

-- superblocks that were never taken, and are claimed
pub fresh_ownerships : (old new : List Ownership) (p : OwnedParts) (u n : ℕ) → HaveOwnership old new u n ownership.Unclassed
    → ((e : ℕ) → IsOwnership e (get_or old e ownership.Nothing) p)
    → ((e : ℕ) → u ≤ e → e < u + n → (times e p.raw + times e p.split + times e p.cutting ≡ 0) × (times_classed e p.classed ≡ 0)
    × (times_large e p.large ≡ 0))
    → (e : ℕ) → IsOwnership e (get_or new e ownership.Nothing) (record p { raw = p.raw ++ steps u 1 n })
fresh_ownerships old new p u n owning before none = ownerships_in old new p
    (record p { raw = p.raw ++ steps u 1 n }) u n ownership.Unclassed owning before
    (λ e low high. let z = none e low high in let o = subst (λ y. IsOwnership e y p)
    (no_ownership e (get_or old e ownership.Nothing) p (before e) z.0 z.1 z.2) (before e) in record {
      unclassed = (let a = times_append e p.raw (steps u 1 n) in let b = times_range e u n in let r = range_is u n e low high in
          let s = o.unclassed in omega arith);
      is_classed = o.is_classed;
      class = o.class;
      is_large = o.is_large;
      count = o.count;
    })
    (λ e y out o. record {
      unclassed = (let a = times_append e p.raw (steps u 1 n) in let b = times_range e u n in let r = range_not u n e out in
          let s = o.unclassed in omega arith);
      is_classed = o.is_classed;
      class = o.class;
      is_large = o.is_large;
      count = o.count;
    })

-- what becomes of the parts with a claim of a superblock from a list
abbrev pub with_claim : OwnedParts → ℕ → ℕ → OwnedParts
with_claim p d zero = record p { raw = d ∷ p.raw }
with_claim p d (suc class) = record p { classed = record { descriptor = d; class = suc class } ∷ p.classed }

pub claim_ownerships : (ownerships : List Ownership) (p : OwnedParts) (d list : ℕ) (x : Ownership) → x ≡ listed list → d < length ownerships
    → ((e : ℕ) → IsOwnership e (get_or ownerships e ownership.Nothing) p)
    → (times d p.raw + times d p.split + times d p.cutting ≡ 0) × (times_classed d p.classed ≡ 0) × (times_large d p.large ≡ 0)
    → (e : ℕ) → IsOwnership e (get_or (set ownerships d x) e ownership.Nothing) (with_claim p d list)
claim_ownerships ownerships p d list x is less before none = by list x is where
  o : IsOwnership d ownership.Nothing p
  o = subst (λ y. IsOwnership d y p) (no_ownership d (get_or ownerships d ownership.Nothing) p (before d) none.0 none.1 none.2) (before d)

  by : (list : ℕ) (x : Ownership) → x ≡ listed list → (e : ℕ) → IsOwnership e (get_or (set ownerships d x) e ownership.Nothing) (with_claim p d list)
  by zero x is = ownership_at ownerships p (record p { raw = d ∷ p.raw }) d x less before
      (subst (λ y. IsOwnership d y (record p { raw = d ∷ p.raw })) (sym is) (record {
        unclassed = (let n = o.unclassed in let one = eq-eqb-one d d refl in omega arith);
        is_classed = o.is_classed;
        class = o.class;
        is_large = o.is_large;
        count = o.count;
      }))
      (λ e y other b. record {
        unclassed = (let n = b.unclassed in let z = ne-eqb-none d e (λ h. other (sym h)) in omega arith);
        is_classed = b.is_classed;
        class = b.class;
        is_large = b.is_large;
        count = b.count;
      })
  by (suc class) x is = ownership_at ownerships p (with_claim p d (suc class)) d x less before
      (subst (λ y. IsOwnership d y (with_claim p d (suc class))) (sym is) (record {
        unclassed = o.unclassed;
        is_classed = (let n = o.is_classed in let one = eq-eqb-one d d refl in omega arith);
        class = pick (nat_eq d d) (suc class) (claim_class d p.classed) (eq-eqb d d refl);
        is_large = o.is_large;
        count = o.count;
      }))
      (λ e y other b. record {
        unclassed = b.unclassed;
        is_classed = (let n = b.is_classed in let z = ne-eqb-none d e (λ h. other (sym h)) in omega arith);
        class = skip (nat_eq d e) (suc class) (claim_class e p.classed) (not-eq d e (λ h. other (sym h))) ∙ b.class;
        is_large = b.is_large;
        count = b.count;
      })

-- a claim without a class that is given up
pub raw_ownerships : (ownerships : List Ownership) (p : OwnedParts) (d : ℕ) → d < length ownerships → 0 < times d p.raw + times d p.split
    → ((e : ℕ) → IsOwnership e (get_or ownerships e ownership.Nothing) p)
    → (e : ℕ) → IsOwnership e (get_or (set ownerships d ownership.Nothing) e ownership.Nothing)
    (record p { raw = without d p.raw; split = without d p.split })
raw_ownerships ownerships p d less some before =
    let o = subst (λ y. IsOwnership d y p) (unclassed_only d (get_or ownerships d ownership.Nothing) p (before d) (omega arith)) (before d) in
    ownership_at ownerships p (record p { raw = without d p.raw; split = without d p.split }) d ownership.Nothing less before
    (record {
      unclassed = (let n = o.unclassed in let a = without_at d p.raw (omega arith) in let b = without_at d p.split (omega arith) in omega arith);
      is_classed = o.is_classed;
      class = o.class;
      is_large = o.is_large;
      count = o.count;
    })
    (λ e y other b. record {
      unclassed = (let n = b.unclassed in let r = without_off e d p.raw other in let s = without_off e d p.split other in omega arith);
      is_classed = b.is_classed;
      class = b.class;
      is_large = b.is_large;
      count = b.count;
    })

-- a claim whose blocks were made, that is given up
pub cut_ownerships : (ownerships : List Ownership) (p : OwnedParts) (d : ℕ) → d < length ownerships → 0 < times d p.cutting
    → ((e : ℕ) → IsOwnership e (get_or ownerships e ownership.Nothing) p)
    → (e : ℕ) → IsOwnership e (get_or (set ownerships d ownership.Nothing) e ownership.Nothing) (record p { cutting = without d p.cutting })
cut_ownerships ownerships p d less some before =
    let o = subst (λ y. IsOwnership d y p) (unclassed_only d (get_or ownerships d ownership.Nothing) p (before d) (omega arith)) (before d) in
    ownership_at ownerships p (record p { cutting = without d p.cutting }) d ownership.Nothing less before
    (record {
      unclassed = (let n = o.unclassed in let a = without_at d p.cutting (omega arith) in omega arith);
      is_classed = o.is_classed;
      class = o.class;
      is_large = o.is_large;
      count = o.count;
    })
    (λ e y other b. record {
      unclassed = (let n = b.unclassed in let r = without_off e d p.cutting other in omega arith);
      is_classed = b.is_classed;
      class = b.class;
      is_large = b.is_large;
      count = b.count;
    })

-- a claim with a class that is given up
pub classed_ownerships : (ownerships : List Ownership) (p : OwnedParts) (d : ℕ) → d < length ownerships → 0 < times_classed d p.classed
    → ((e : ℕ) → IsOwnership e (get_or ownerships e ownership.Nothing) p)
    → (e : ℕ) → IsOwnership e (get_or (set ownerships d ownership.Nothing) e ownership.Nothing) (record p { classed = without_claim d p.classed })
classed_ownerships ownerships p d less some before =
    ownership_at ownerships p q d ownership.Nothing less before (gone (get_or ownerships d ownership.Nothing) (before d))
    (λ e y other b. record {
      unclassed = b.unclassed;
      is_classed = (let n = times_without_claim e d p.classed some in let z = ne-eqb-none d e (λ h. other (sym h)) in let a = b.is_classed in
          omega arith);
      class = class_without e d p.classed (λ h. other (sym h)) ∙ b.class;
      is_large = b.is_large;
      count = b.count;
    }) where
      q : OwnedParts
      q = record p { classed = without_claim d p.classed }

      gone : (x : Ownership) → IsOwnership d x p → IsOwnership d ownership.Nothing q
      gone ownership.Nothing o = absurd (let a = o.is_classed in omega arith)
      gone ownership.Unclassed o = absurd (let a = o.is_classed in omega arith)
      gone (ownership.Large count) o = absurd (let a = o.is_classed in omega arith)
      gone (ownership.Classed class) o = record {
        unclassed = o.unclassed;
        is_classed = none;
        class = class_absent d (without_claim d p.classed) none;
        is_large = o.is_large;
        count = o.count;
      } where
        none : times_classed d (without_claim d p.classed) ≡ 0
        none = let n = times_without_claim d d p.classed some in let one = eq-eqb-one d d refl in let a = o.is_classed in omega arith
