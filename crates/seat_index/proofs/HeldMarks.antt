-- The marks of a seat's small blocks, as the held blocks of a heap at rest are gone through.
use Rattle.std.proofs.Common.{◌≡◌, ℕ, suc, ◌+◌, ◌<◌, inl, inr, Bool, true, false, nat_eq, ◌&&◌, List, get_or, set, length, ap, sym, subst, ◌∙◌, add-one, eq-eqb, eqb-true, true≢false, refl}
use Rattle.std.proofs.lemmas.Bool.{cases_eq}
use Rattle.std.proofs.lemmas.List.{get_or-set_same, get_or-set_other}
use Rattle.heap_model.specs.declared.block.Block.{Block}
use Rattle.heap_model.specs.Counting.{one_if}
use Rattle.heap_model.specs.Rest.{IsReady}
use Rattle.core_model.specs.Opening.{is_small}
use Rattle.core_model.proofs.PlaceLemmas.{and_both, and_is}
use Rattle.seat_state.proofs.HeldSoFar.{held_so_far, large_more, mine_elsewhere, mine_here, more_theirs}

-- each number is marked as often as the seat has, of the first held blocks, a small one that begins there
abbrev pub MarksFirst : List Block → List ℕ → ℕ → ℕ → List Bool → Type 0
MarksFirst held owners i seat marks = (n : ℕ) → one_if (get_or marks n false) ≡ held_so_far held owners i seat n

module _ (words : List ℕ) (held : List Block) (owners : List ℕ) (ready : IsReady words held) (long : length owners ≡ length held) (i : ℕ)
    (p : Block) (o : ℕ) (below : i < length held)
    (at : get_or held i p ≡ p) (at_o : get_or owners i o ≡ o) (seat : ℕ) (marks : List Bool) (before : MarksFirst held owners i seat marks) where
  pub marks_more : is_small p && nat_eq o seat ≡ true → p.first_word < length marks → MarksFirst held owners (i + 1) seat (set marks p.first_word true)
  marks_more both inside n = subst (λ k. one_if (get_or (set marks p.first_word true) n false) ≡ held_so_far held owners k seat n) (sym (add-one i))
      (elim (cases_eq n p.first_word) as (λ _. one_if (get_or (set marks p.first_word true) n false) ≡ held_so_far held owners (suc i) seat n) [
        | inl here ↦ ap (λ k. one_if (get_or (set marks p.first_word true) k false)) here
            ∙ ap one_if (get_or-set_same marks p.first_word true false inside)
            ∙ sym (subst (λ j. held_so_far held owners (suc i) j p.first_word ≡ 1) seat_is
            (mine_here words held owners ready long i p o below at at_o parts.0)) ∙ ap (held_so_far held owners (suc i) seat) (sym here)
        | inr other ↦ ap one_if (get_or-set_other marks p.first_word n true false other) ∙ before n
            ∙ sym (subst (λ j. held_so_far held owners (suc i) j n ≡ held_so_far held owners i j n) seat_is
            (mine_elsewhere words held owners ready long i p o below at at_o parts.0 n other))
      ]) where
        parts : (is_small p ≡ true) × (nat_eq o seat ≡ true)
        parts = and_both (is_small p) (nat_eq o seat) both

        seat_is : o ≡ seat
        seat_is = eqb-true o seat parts.1

  pub marks_same : is_small p && nat_eq o seat ≡ false → MarksFirst held owners (i + 1) seat marks
  marks_same not n = subst (λ k. one_if (get_or marks n false) ≡ held_so_far held owners k seat n) (sym (add-one i)) (before n
      ∙ sym (by_size (is_small p) refl)) where
        by_size : (small : Bool) → is_small p ≡ small → held_so_far held owners (suc i) seat n ≡ held_so_far held owners i seat n
        by_size false large = large_more words held owners ready long i p o below at at_o large seat n
        by_size true small = more_theirs words held owners ready long i p o below at at_o seat n
            (λ same. true≢false (sym (and_is (is_small p) (nat_eq o seat) small (eq-eqb o seat (sym same))) ∙ not))
