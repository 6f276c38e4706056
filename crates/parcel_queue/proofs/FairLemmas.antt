-- Each step of a pass keeps the rule, and what the pass with all parts learns.
use Rattle.std.proofs.Common.{◌≡◌, ℕ, ◌<◌, List, [], ◌∷◌, ◌++◌, set, refl, ap, sym, ◌∙◌, append_assoc, append-nil, All, arith}
use Rattle.std.specs.Prelude.{flat_map}
use Rattle.std.specs.List.Sorted.{IsPermutation}
use Rattle.std.proofs.lemmas.List.Elements.{All-push, All-set, All-head, All-tail, All-weaker}
use Rattle.std.proofs.lemmas.List.Concat.{flat_map-append}
use Rattle.std.proofs.lemmas.List.Sums.{sum_by_push}
use Rattle.std.proofs.lemmas.List.Sorted.{IsPermutation-sym, IsPermutation-append_left}
use mathlib.Core.Option.{some}
use lib.ListN.{get_elem?}
use Rattle.crossbeam_queue.specs.Fifo.{Pushes, Pops, Forks, Merges, Learns}
use Rattle.parcel_queue.specs.Account.{Account, all_parts, unused, less_a_part, with_put, with_taken, joined}
use Rattle.parcel_queue.specs.Rule.{all_taken, IsIdle, IsFair}
use Rattle.parcel_queue.proofs.OrderLemmas.{from, upto, follow}
use Rattle.parcel_queue.proofs.PieceLemmas.{unchanged, grown, merged}
use Rattle.parcel_queue.proofs.ShareLemmas.{sum_set, alone}

module _ {T : Type 0} where
  abbrev parts_of : Account T → ℕ
  parts_of a = a.parts

  abbrev put_of : Account T → List T
  put_of a = a.put

  abbrev taken_of : Account T → List T
  taken_of a = a.taken

  -- a pass with a part may have an account
  has_part : (a : Account T) → 0 < a.parts → IsIdle a
  has_part a part = record { put = λ none. absurd (omega (arith, none, part)); taken = λ none. absurd (omega (arith, none, part)) }

  is_unused : (parts : ℕ) → IsIdle (unused {T = T} parts)
  is_unused parts = record { put = λ _. refl; taken = λ _. refl }

  idle_set : (views : List (Account T)) (id : ℕ) (w : Account T) → 0 < w.parts → All IsIdle views → All IsIdle (set views id w)
  idle_set views id w part = All-set IsIdle views id w (has_part w part)

  pub puts : (fact : T → Type 0) (n id : ℕ) (v : Account T) (x : T) → 0 < v.parts → fact x
      → Pushes (IsFair fact) n id v x (λ w. w ≡ with_put v x)
  puts fact n id v x part of items views room fair at = let w = with_put v x in (
    w,
    record {
      parts = (let s = sum_set parts_of views id v w at in let p = fair.parts in omega arith);
      same = follow (grown put_of views id v w (x ∷ []) at refl)
          (upto (IsPermutation-append_left (x ∷ []) _ _ fair.same)
          (append_assoc (all_taken views) items (x ∷ [])
          ∙ ap (λ ys. ys ++ (items ++ x ∷ [])) (sym (unchanged taken_of views id v w at refl))));
      idle = idle_set views id w part fair.idle;
      each = All-push fact items x fair.each of;
    },
    refl,
  )

  pub takes : (fact : T → Type 0) (id : ℕ) (v : Account T) → 0 < v.parts
      → Pops (IsFair fact) id v (λ x w. fact x × (w ≡ with_taken v x))
  takes fact id v part x items views fair at = let w = with_taken v x in (
    w,
    record {
      parts = (let s = sum_set parts_of views id v w at in let p = fair.parts in omega arith);
      same = from (unchanged put_of views id v w at refl)
          (follow (upto fair.same (sym (append_assoc (all_taken views) (x ∷ []) items)))
          (IsPermutation-append_left items _ _ (IsPermutation-sym _ _ (grown taken_of views id v w (x ∷ []) at refl))));
      idle = idle_set views id w part fair.idle;
      each = All-tail fact x items fair.each;
    },
    (All-head fact x items fair.each, refl),
  )

  -- the lists as they were, once a pass gave a part to a new one
  forked : (f : Account T → List T) (views : List (Account T)) (id : ℕ) (v : Account T) → get_elem? views id ≡ some v
      → f (less_a_part v) ≡ f v → f (unused 1) ≡ [] → flat_map f (set views id (less_a_part v) ++ unused 1 ∷ []) ≡ flat_map f views
  forked f views id v at same none = flat_map-append f (set views id (less_a_part v)) (unused 1 ∷ [])
      ∙ ap (λ (ys : List T). flat_map f (set views id (less_a_part v)) ++ (ys ++ [])) none
      ∙ append-nil _ ∙ unchanged f views id v (less_a_part v) at same

  pub forks : (fact : T → Type 0) (id : ℕ) (v : Account T) → 1 < v.parts → Forks (IsFair fact) id v (less_a_part v) (unused 1)
  forks fact id v part items views fair at = let w = less_a_part v in record {
    parts = (let s = sum_set parts_of views id v w at in let a = sum_by_push parts_of (set views id w) (unused 1) in
        let p = fair.parts in omega arith);
    same = from (forked put_of views id v at refl refl)
        (upto fair.same (ap (λ ys. ys ++ items) (sym (forked taken_of views id v at refl refl))));
    idle = All-push IsIdle _ (unused 1) (idle_set views id w (omega (arith, part)) fair.idle) (is_unused 1);
    each = fair.each;
  }

  pub merges : (fact : T → Type 0) (id : ℕ) (v : Account T) (other : ℕ) (u : Account T) → 0 < v.parts
      → Merges (IsFair fact) id v other u (joined v u) (unused 0)
  merges fact id v other u part items views fair at apart there = let w = joined v u in record {
    parts = (let s = sum_set parts_of views id v w at in
        let t = sum_set parts_of (set views id w) other u (unused 0) there in let p = fair.parts in omega arith);
    same = follow (merged put_of views id other v u w (unused 0) apart at there refl refl)
        (follow fair.same
        (IsPermutation-append_left items _ _ (IsPermutation-sym _ _ (merged taken_of views id other v u w (unused 0) apart at there refl refl))));
    idle = All-set IsIdle _ other (unused 0) (is_unused 0) (idle_set views id w (omega (arith, part)) fair.idle);
    each = fair.each;
  }

  -- with all parts a pass sees the whole
  pub learns : (fact : T → Type 0) (id : ℕ) (v : Account T)
      → Learns (IsFair fact) id v (λ items. v.parts ≡ all_parts → IsPermutation v.put (v.taken ++ items))
  learns fact id v items views fair at every = let whole = fair.parts ∙ sym every in
      from (sym (alone parts_of put_of views id v at whole (All-weaker IsIdle _ (λ a i. i.put) views fair.idle)))
      (upto fair.same (ap (λ ys. ys ++ items) (alone parts_of taken_of views id v at whole (All-weaker IsIdle _ (λ a i. i.taken) views fair.idle))))
