-- What is kept of the caches once one of them is another.
use Rattle.std.proofs.Common.{◌≡◌, ◌<◌, ◌≤◌, ℕ, inl, inr, List, get_or, set, length, ap, sym, subst, ◌∙◌, length-set, arith}
use Rattle.std.proofs.lemmas.Bool.{cases_eq}
use Rattle.std.proofs.lemmas.List.{get_or-set_same, get_or-set_other}
use Rattle.heap_model.specs.Geometry.{lists}
use Rattle.core_model.specs.Effects.{first_of}
use Rattle.core_model.proofs.BlockLemmas.{of_class_same, of_class_other}
use Rattle.seat_state.specs.declared.notes.Cache.{Cache}
use Rattle.seat_state.specs.Notes.{HasCaches}

pub cache_set : (kept : List Cache) (caches : List (List ℕ)) (class : ℕ) (bs : List ℕ) (new : Cache) → HasCaches kept caches → class < lists
    → class < length caches
    → (1 ≤ length bs → first_of bs ≡ new.first) → length bs ≡ new.count → HasCaches (set kept class new) (set caches class bs)
cache_set kept caches class bs new has less long first_is count_is = record {
  long = length-set kept class new ∙ has.long;
  first = λ n x at_x less_n some. elim (cases_eq n class) [
    | inl here ↦ let same = of_class_same caches class bs n here long in
        ap first_of same ∙ first_is (subst (λ l. 1 ≤ length l) same some) ∙ ap (λ (y : Cache). y.first) (new_at n x at_x here)
    | inr other ↦ let same = of_class_other caches class bs n other in
        ap first_of same ∙ has.first n x (sym (get_or-set_other kept class n new x other) ∙ at_x) less_n (subst (λ l. 1 ≤ length l) same some)
  ];
  count = λ n x at_x less_n. elim (cases_eq n class) [
    | inl here ↦ ap length (of_class_same caches class bs n here long) ∙ count_is ∙ ap (λ (y : Cache). y.count) (new_at n x at_x here)
    | inr other ↦ ap length (of_class_other caches class bs n other) ∙ has.count n x (sym (get_or-set_other kept class n new x other) ∙ at_x) less_n
  ];
} where
  new_at : (n : ℕ) (x : Cache) → get_or (set kept class new) n x ≡ x → n ≡ class → new ≡ x
  new_at n x at_x here = sym (get_or-set_same kept class new x (let l = has.long in let b = less in omega arith))
      ∙ subst (λ m. get_or (set kept class new) m x ≡ x) here at_x
