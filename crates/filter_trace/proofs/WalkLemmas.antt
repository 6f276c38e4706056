-- Facts on lists that grow at their end while their entries are followed.
use Rattle.std.proofs.Common.{◌≡◌, ℕ, ◌+◌, ◌≤◌, List, [], ◌∷◌, ◌++◌, length, take, sym, subst, ◌∙◌, ap, arith, append_assoc, append-nil, inl, inr}
use Rattle.std.specs.Prelude.{Contains, Some, None}
use Rattle.std.specs.List.{slice_get, All}
use Rattle.std.proofs.lemmas.Option.{slice_get_within, get_or_from_slice_get, slice_get-get_or}
use Rattle.std.proofs.lemmas.Bool.{cases_lt}
use Rattle.std.proofs.lemmas.List.{take_more, take-append-le}
use Rattle.std.proofs.lemmas.List.Elements.{All-push, All-weaker, Contains-append_left}
use Rattle.filter_trace.specs.Walks.{IsExtended}

module _ {X : Type 0} where
  -- nothing more
  pub no_more : (old new : List X) → new ≡ old → IsExtended old new
  no_more old new same = record { more = []; is = same ∙ sym (append-nil old) }

  pub more_and_more : (old mid new : List X) → IsExtended old mid → IsExtended mid new → IsExtended old new
  more_and_more old mid new one two = record {
    more = one.more ++ two.more;
    is = two.is ∙ ap (λ xs. xs ++ two.more) one.is ∙ append_assoc old one.more two.more;
  }

  -- what was there is there
  pub kept : (old new : List X) (x : X) → IsExtended old new → Contains old x → Contains new x
  kept old new x grown here = subst (λ xs. Contains xs x) (sym grown.is) (Contains-append_left old grown.more x here)

  -- an entry that is given is one of the list
  pub given_here : (xs : List X) (at : ℕ) (x : X) → slice_get xs at ≡ Some x → Contains xs x
  given_here xs at x given = (at, slice_get_within xs at x given, get_or_from_slice_get xs at x x given)

  -- where none is given, the list ends
  pub none_past : (xs : List X) (at : ℕ) → slice_get xs at ≡ None → length xs ≤ at
  none_past [] at none = omega arith
  none_past (x ∷ xs) at none =
      elim (cases_lt at (length (x ∷ xs))) as (λ _. length (x ∷ xs) ≤ at) [
        | inl below ↦ absurd (let some = slice_get-get_or (x ∷ xs) at x below in cc)
        | inr past ↦ past
      ]

  -- one more entry has been followed: those before it are followed still
  pub one_more_followed : (P Q : X → Type 0) (old new : List X) (next : ℕ) (x : X) → All P (take next old) → slice_get old next ≡ Some x
      → IsExtended old new → ((y : X) → P y → Q y) → Q x → All Q (take (next + 1) new)
  one_more_followed P Q old new next x was given grown still this =
      let below = slice_get_within old next x given in
      let front : take (next + 1) new ≡ take next old ++ x ∷ [] =
      ap (λ xs. take (next + 1) xs) grown.is
      ∙ take-append-le (next + 1) old grown.more (omega arith)
      ∙ take_more old next x below
      ∙ ap (λ y. take next old ++ y ∷ []) (get_or_from_slice_get old next x x given) in
      subst (All Q) (sym front) (All-push Q (take next old) x (All-weaker P Q still (take next old) was) this)
