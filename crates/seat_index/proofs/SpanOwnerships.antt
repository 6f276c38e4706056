-- What a seat owns of each superblock, after a large block was made, split, lost or gained.
use Rattle.std.proofs.Common.{◌≡◌, ◌≢◌, ℕ, ◌+◌, ◌<◌, ◌≤◌, inl, inr, nat_eq, List, ◌∷◌, ◌++◌, get_or, set, length, refl, ap, sym, subst, ◌∙◌, eq-eqb, arith}
use Rattle.std.proofs.lemmas.Bool.{cases_eq}
use Rattle.std.proofs.lemmas.List.{get_or-set_same, get_or-set_other}
use Rattle.heap_model.specs.Counting.{times}
use Rattle.core_model.specs.View.{Span, times_classed, times_large}
use Rattle.core_model.specs.Effects.{steps, without_range, without_span, claim_class, span_count}
use Rattle.core_model.proofs.FrameLemmas.{times_append}
use Rattle.core_model.proofs.LinkFrameLemmas.{span_covers}
use Rattle.core_model.proofs.PlaceLemmas.{pick, skip, not-eq}
use Rattle.core_model.proofs.RangeLemmas.{times_range, without_span_is, span_other, range_is, range_not, without_range_in, without_range_out, cases_range, in_range}
use Rattle.seat_state.proofs.CountLemmas.{no_span}
use Rattle.seat_index.specs.declared.owned.Ownership.{Ownership}
use Rattle.seat_index.specs.declared.owned.Ownership.TheVariants as ownership
use Rattle.seat_index.specs.Owned.{OwnedParts, IsOwnership, HaveOwnership}
use Rattle.seat_index.proofs.OwnershipLemmas.{no_ownership, ownerships_in, unclassed_only}

-- claims that become a large block
pub large_ownerships : (old new : List Ownership) (p : OwnedParts) (d n : ℕ) → 1 ≤ n → d < length new
    → HaveOwnership old new d n (ownership.Large 0) → ((e : ℕ) → IsOwnership e (get_or old e ownership.Nothing) p)
    → ((e : ℕ) → d ≤ e → e < d + n → 0 < times e p.raw + times e p.split)
    → (e : ℕ) → IsOwnership e (get_or (set new d (ownership.Large n)) e ownership.Nothing)
    (record p { large = record { first = d; count = n } ∷ p.large; raw = without_range d n p.raw; split = without_range d n p.split })
large_ownerships old new p d n some less owning before claimed e =
    elim (cases_eq e d) as (λ _. IsOwnership e (get_or (set new d (ownership.Large n)) e ownership.Nothing) q) [
      | inl same ↦ subst (λ m. IsOwnership m (get_or (set new d (ownership.Large n)) m ownership.Nothing) q) (sym same)
          (subst (λ y. IsOwnership d y q) (sym (get_or-set_same new d (ownership.Large n) ownership.Nothing less))
          (inside d n (omega arith) (omega arith) (pick (nat_eq d d) n (span_count d p.large) (eq-eqb d d refl))))
      | inr other ↦ subst (λ y. IsOwnership e y q) (sym (get_or-set_other new d e (ownership.Large n) ownership.Nothing other)) (rest e other)
    ] where
      span : Span
      span = record { first = d; count = n }

      q : OwnedParts
      q = record p { large = span ∷ p.large; raw = without_range d n p.raw; split = without_range d n p.split }

      mine : (e : ℕ) → d ≤ e → e < d + n → IsOwnership e ownership.Unclassed p
      mine e low high = subst (λ y. IsOwnership e y p) (unclassed_only e (get_or old e ownership.Nothing) p (before e)
          (let c = claimed e low high in omega arith)) (before e)

      inside : (e count : ℕ) → d ≤ e → e < d + n → span_count e (span ∷ p.large) ≡ count → IsOwnership e (ownership.Large count) q
      inside e count low high is = let o = mine e low high in record {
        unclassed = (let a = without_range_in e d n p.raw low high in let b = without_range_in e d n p.split low high in
            let c = claimed e low high in let u = o.unclassed in omega arith);
        is_classed = o.is_classed;
        class = o.class;
        is_large = (let r = range_is d n e low high in let l = o.is_large in omega arith);
        count = is;
      }

      apart : (e : ℕ) → e ≢ d → span_count e (span ∷ p.large) ≡ span_count e p.large
      apart e other = skip (nat_eq d e) n (span_count e p.large) (not-eq d e (λ h. other (sym h)))

      rest : (e : ℕ) → e ≢ d → IsOwnership e (get_or new e ownership.Nothing) q
      rest e other = elim (cases_range d n e) [
        | inl here ↦ subst (λ y. IsOwnership e y q) (sym (owning.inside e here.0 here.1))
            (inside e 0 here.0 here.1 (apart e other ∙ (mine e here.0 here.1).count))
        | inr out ↦ subst (λ y. IsOwnership e y q) (sym (owning.outside e out)) (let o = before e in record {
          unclassed = (let a = without_range_out e d n p.raw out in let b = without_range_out e d n p.split out in let u = o.unclassed in omega arith);
          is_classed = o.is_classed;
          class = o.class;
          is_large = (let r = range_not d n e out in let l = o.is_large in omega arith);
          count = apart e other ∙ o.count;
        })
      ]

large_only : (d : ℕ) (x : Ownership) (p : OwnedParts) → IsOwnership d x p → 0 < times_large d p.large
    → (times d p.raw + times d p.split + times d p.cutting ≡ 0) × (times_classed d p.classed ≡ 0) × (claim_class d p.classed ≡ 0)
    × (times_large d p.large ≡ 1)
large_only d ownership.Nothing p is some = absurd (let n = is.is_large in omega arith)
large_only d ownership.Unclassed p is some = absurd (let n = is.is_large in omega arith)
large_only d (ownership.Classed class) p is some = absurd (let n = is.is_large in omega arith)
large_only d (ownership.Large count) p is some = (is.unclassed, is.is_classed, is.class, is.is_large)

-- a large block that is split
pub split_ownerships : (old new : List Ownership) (p : OwnedParts) (d n : ℕ) → n ≡ span_count d p.large → 1 ≤ n
    → HaveOwnership old new d n ownership.Unclassed → ((e : ℕ) → IsOwnership e (get_or old e ownership.Nothing) p)
    → (e : ℕ) → IsOwnership e (get_or new e ownership.Nothing) (record p { large = without_span d p.large; split = p.split ++ steps d 1 n })
split_ownerships old new p d n n_is some owning before = ownerships_in old new p
    (record p { large = without_span d p.large; split = p.split ++ steps d 1 n }) d n ownership.Unclassed owning before
    (λ e low high.
    let z = large_only e (get_or old e ownership.Nothing) p (before e) (span_covers d e p.large (omega arith) low (omega arith)) in
    let z0 = z.0 in let z3 = z.3 in
    let w = without_span_is e d p.large (omega arith) in let r = range_is d n e low high in
    let same : span_count d p.large ≡ n = sym n_is in
    let w_n : times_large e (without_span d p.large) + in_n (span_count d p.large) e ≡ times_large e p.large = w in
    let r_n : in_n (span_count d p.large) e ≡ 1 = ap (λ m. in_n m e) same ∙ r in
    let gone : times_large e (without_span d p.large) ≡ 0 = omega arith in record {
      unclassed = (let a = times_append e p.split (steps d 1 n) in let b = times_range e d n in omega arith);
      is_classed = z.1;
      class = z.2;
      is_large = gone;
      count = no_span e (without_span d p.large) gone;
    })
    (λ e y out o. let w = without_span_is e d p.large (omega arith) in let r = range_not d n e out in
    let same : span_count d p.large ≡ n = sym n_is in
    let w_n : times_large e (without_span d p.large) + in_n (span_count d p.large) e ≡ times_large e p.large = w in
    let r_n : in_n (span_count d p.large) e ≡ 0 = ap (λ m. in_n m e) same ∙ r in record {
      unclassed = (let a = times_append e p.split (steps d 1 n) in let b = times_range e d n in let u = o.unclassed in omega arith);
      is_classed = o.is_classed;
      class = o.class;
      is_large = (let l = o.is_large in omega arith);
      count = span_other e d p.large (λ here. out (omega (arith, here)) (omega (arith, here, some))) ∙ o.count;
    }) where
      in_n : ℕ → ℕ → ℕ
      in_n m e = in_range d m e

-- a large block that is given off
pub lost_ownerships : (old new : List Ownership) (p : OwnedParts) (d n : ℕ) → n ≡ span_count d p.large → 1 ≤ n
    → HaveOwnership old new d n ownership.Nothing → ((e : ℕ) → IsOwnership e (get_or old e ownership.Nothing) p)
    → (e : ℕ) → IsOwnership e (get_or new e ownership.Nothing) (record p { large = without_span d p.large })
lost_ownerships old new p d n n_is some owning before = ownerships_in old new p
    (record p { large = without_span d p.large }) d n ownership.Nothing owning before
    (λ e low high.
    let z = large_only e (get_or old e ownership.Nothing) p (before e) (span_covers d e p.large (omega arith) low (omega arith)) in
    let z3 = z.3 in
    let w = without_span_is e d p.large (omega arith) in let r = range_is d n e low high in
    let same : span_count d p.large ≡ n = sym n_is in
    let w_n : times_large e (without_span d p.large) + in_range d (span_count d p.large) e ≡ times_large e p.large = w in
    let r_n : in_range d (span_count d p.large) e ≡ 1 = ap (λ m. in_range d m e) same ∙ r in
    let gone : times_large e (without_span d p.large) ≡ 0 = omega arith in record {
      unclassed = z.0;
      is_classed = z.1;
      class = z.2;
      is_large = gone;
      count = no_span e (without_span d p.large) gone;
    })
    (λ e y out o. let w = without_span_is e d p.large (omega arith) in let r = range_not d n e out in
    let same : span_count d p.large ≡ n = sym n_is in
    let w_n : times_large e (without_span d p.large) + in_range d (span_count d p.large) e ≡ times_large e p.large = w in
    let r_n : in_range d (span_count d p.large) e ≡ 0 = ap (λ m. in_range d m e) same ∙ r in record {
      unclassed = o.unclassed;
      is_classed = o.is_classed;
      class = o.class;
      is_large = (let l = o.is_large in omega arith);
      count = span_other e d p.large (λ here. out (omega (arith, here)) (omega (arith, here, some))) ∙ o.count;
    })

-- a large block that comes where nothing is owned
pub gained_ownerships : (old new : List Ownership) (p : OwnedParts) (d n : ℕ) → 1 ≤ n → d < length new
    → HaveOwnership old new d n (ownership.Large 0) → ((e : ℕ) → IsOwnership e (get_or old e ownership.Nothing) p)
    → ((e : ℕ) → d ≤ e → e < d + n → (times e p.raw + times e p.split + times e p.cutting ≡ 0) × (times_classed e p.classed ≡ 0)
    × (times_large e p.large ≡ 0))
    → (e : ℕ) → IsOwnership e (get_or (set new d (ownership.Large n)) e ownership.Nothing)
    (record p { large = record { first = d; count = n } ∷ p.large })
gained_ownerships old new p d n some less owning before none e =
    elim (cases_eq e d) as (λ _. IsOwnership e (get_or (set new d (ownership.Large n)) e ownership.Nothing) q) [
      | inl same ↦ subst (λ m. IsOwnership m (get_or (set new d (ownership.Large n)) m ownership.Nothing) q) (sym same)
          (subst (λ y. IsOwnership d y q) (sym (get_or-set_same new d (ownership.Large n) ownership.Nothing less))
          (inside d n (omega arith) (omega arith) (pick (nat_eq d d) n (span_count d p.large) (eq-eqb d d refl))))
      | inr other ↦ subst (λ y. IsOwnership e y q) (sym (get_or-set_other new d e (ownership.Large n) ownership.Nothing other)) (rest e other)
    ] where
      span : Span
      span = record { first = d; count = n }

      q : OwnedParts
      q = record p { large = span ∷ p.large }

      mine : (e : ℕ) → d ≤ e → e < d + n → IsOwnership e ownership.Nothing p
      mine e low high = let z = none e low high in subst (λ y. IsOwnership e y p)
          (no_ownership e (get_or old e ownership.Nothing) p (before e) z.0 z.1 z.2) (before e)

      inside : (e count : ℕ) → d ≤ e → e < d + n → span_count e (span ∷ p.large) ≡ count → IsOwnership e (ownership.Large count) q
      inside e count low high is = let o = mine e low high in record {
        unclassed = o.unclassed;
        is_classed = o.is_classed;
        class = o.class;
        is_large = (let r = range_is d n e low high in let l = o.is_large in omega arith);
        count = is;
      }

      apart : (e : ℕ) → e ≢ d → span_count e (span ∷ p.large) ≡ span_count e p.large
      apart e other = skip (nat_eq d e) n (span_count e p.large) (not-eq d e (λ h. other (sym h)))

      rest : (e : ℕ) → e ≢ d → IsOwnership e (get_or new e ownership.Nothing) q
      rest e other = elim (cases_range d n e) [
        | inl here ↦ subst (λ y. IsOwnership e y q) (sym (owning.inside e here.0 here.1))
            (inside e 0 here.0 here.1 (apart e other ∙ (mine e here.0 here.1).count))
        | inr out ↦ subst (λ y. IsOwnership e y q) (sym (owning.outside e out)) (let o = before e in record {
          unclassed = o.unclassed;
          is_classed = o.is_classed;
          class = o.class;
          is_large = (let r = range_not d n e out in let l = o.is_large in omega arith);
          count = apart e other ∙ o.count;
        })
      ]
