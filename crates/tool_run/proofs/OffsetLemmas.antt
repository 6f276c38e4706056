-- Offsets in ascending order, and their lines one after the other.
use Rattle.std.proofs.Common.{◌≡◌, ◌≢◌, ℕ, ◌+◌, ◌<◌, ◌≤◌, List, [], ◌∷◌, ◌++◌, length, take, get_or, Result, Ok, Err, IfOk, sym, ap, ◌∙◌, arith, inl, inr, append_assoc, add-one}
use Rattle.std.specs.Prelude.{Contains, AllPairs}
use Rattle.std.specs.List.{flat_map}
use Rattle.std.specs.List.Sorted.{IsPermutation, IsNonDecreasing}
use Rattle.std.proofs.Math.Seq.{take-suc}
use Rattle.std.proofs.lemmas.Bool.{cases_eq}
use Rattle.std.proofs.lemmas.Grind.{flat_map-append}
use Rattle.std.proofs.lemmas.List.{append-nil}
use Rattle.std.proofs.lemmas.List.Sorted.{Contains-permutation, IsPermutation-sym}
use Rattle.heap_model.specs.declared.block.Block.{Block}
use Rattle.heap_model.specs.Recovered.{AreAscending}
use Rattle.region_header.specs.declared.byte_list.Bytes.{Bytes}
use Rattle.image_run.proofs.EntryLemmas.{still_once}
use Rattle.tool_run.specs.Making.{drained_text}
use Rattle.tool_run.specs.Recovering.{IsOffsetGiven, AreGiven, IsGivenText}

-- exactly the numbers of which a property holds, each once, once they are sorted
pub ascending : (of : ℕ → Type 0) (xs ys : List ℕ) → IsPermutation xs ys → IsNonDecreasing ys
    → ((x : ℕ) → Contains xs x → of x) → ((x : ℕ) → of x → Contains xs x) → AllPairs (λ x y. x ≢ y) xs → AreAscending (λ x. x) of ys
ascending of xs ys moved rising sound complete once = record {
  sound = λ x has. sound x (Contains-permutation ys xs x (IsPermutation-sym xs ys moved) has);
  complete = λ x holds. Contains-permutation xs ys x moved (complete x holds);
  ascending = λ i j d before within.
      let low : get_or ys i d ≤ get_or ys j d = rising i j d (omega arith) within in
      let other : get_or ys i d ≢ get_or ys j d = still_once xs ys moved once i j d before within in
      elim (cases_eq (get_or ys i d) (get_or ys j d)) as (λ _. get_or ys i d < get_or ys j d) [
        | inl same ↦ absurd (other same)
        | inr differ ↦ omega (arith, differ)
      ];
}

-- the line of one more element
pub lines_more : (f : ℕ → List ℕ) (xs : List ℕ) (i : ℕ) (start old new : List ℕ) (d : ℕ) → i < length xs
    → old ≡ start ++ flat_map f (take i xs) → new ≡ old ++ f (get_or xs i d) → new ≡ start ++ flat_map f (take (i + 1) xs)
lines_more f xs i start old new d below before written =
    let one : flat_map f (take (i + 1) xs) ≡ flat_map f (take i xs) ++ f (get_or xs i d) =
    ap (λ n. flat_map f (take n xs)) (add-one i) ∙ ap (flat_map f) (take-suc xs i d below) ∙ flat_map-append f (take i xs) (get_or xs i d ∷ [])
    ∙ ap (λ (l : List ℕ). flat_map f (take i xs) ++ l) (append-nil (f (get_or xs i d))) in
    written ∙ ap (λ (l : List ℕ). l ++ f (get_or xs i d)) before
    ∙ append_assoc start (flat_map f (take i xs)) (f (get_or xs i d))
    ∙ ap (λ (l : List ℕ). start ++ l) (sym one)

-- the text on what a heap gives, from offsets in any order and the text on these once they are sorted
pub given_text : {E : Type 0} (words : List ℕ) (held : List Block) (class : ℕ) (offsets sorted shown : List ℕ) (result : Result Bytes E)
    → AreGiven words held class offsets
    → IsPermutation offsets sorted → IsNonDecreasing sorted → shown ≡ sorted → IfOk result (λ text. text ≡ drained_text class shown)
    → IfOk result (IsGivenText words held class)
given_text words held class offsets sorted shown (Err e) given moved rising are text_is = tt
given_text words held class offsets sorted shown (Ok text) given moved rising are text_is = record {
  offsets = sorted;
  given = ascending (IsOffsetGiven words held class) offsets sorted moved rising given.sound given.complete given.once;
  text_is = text_is ∙ ap (drained_text class) are;
}
