-- Worked examples: in which order chances are dealt, and what a run may not ask of them. Of two workers the second one
-- is given its chance first, and no worker none. A run that was closed takes no word, and one that was stopped takes
-- each.
use Rattle.std.specs.Prelude.{◌≡◌, ℕ, ◌+◌, Bool, List, [], ◌∷◌, length, map, slice_index, true, false, refl}
use Rattle.std.proofs.Common.{arith, ap, ◌∙◌}
use Rattle.heap_model.specs.Image.{Image}
use Rattle.crash_image.specs.Crash.{GivesAll, transient_words}
use Rattle.shared_run.specs.Dealt.{AreDealt, DealsThenScrambles}

two_are_dealt : {C One : Type 0} (gives : C → ℕ → One → C → Type 0) (old next new : C) (second first : One) → gives old 1 second next
    → gives next 0 first new
    → AreDealt gives old 2 new
two_are_dealt gives old next new second first of_one of_zero = (second, next, of_one, (first, new, of_zero, refl))

none_is_dealt : {C One : Type 0} (gives : C → ℕ → One → C → Type 0) (old new : C) → AreDealt gives old 0 new → new ≡ old
none_is_dealt gives old new dealt = dealt

-- chances that note what they are asked for, the last one in front: for a worker its number
abbrev notes_worker : (One : Type 0) → List ℕ → ℕ → One → List ℕ → Type 0
notes_worker One old worker chance new = new ≡ worker ∷ old

-- for a word what it gets
abbrev notes_word : List ℕ → ℕ → List ℕ → Type 0
notes_word old word new = new ≡ word ∷ old

-- what a run of so many workers over one superblock asks for, which leaves this image
abbrev asks : (One : Type 0) → ℕ → Bool → Image → List ℕ → List ℕ → Type 0
asks One workers stopped left old new = DealsThenScrambles (notes_worker One) notes_word workers stopped 1 left old new

-- each is noted once
two_are_noted : (One : Type 0) (new : List ℕ) → AreDealt (notes_worker One) [] 2 new → new ≡ 0 ∷ 1 ∷ []
two_are_noted One new dealt = dealt.3.3 ∙ dealt.3.2 ∙ ap (λ old. 0 ∷ old) dealt.2

all_are_noted : (words old new : List ℕ) → GivesAll notes_word old words new → length new ≡ length old + length words
all_are_noted [] old new same = let e = ap length same in omega (arith, e)
all_are_noted (word ∷ words) old new gives =
    let one = ap length gives.1 in let rest = all_are_noted words gives.0 new gives.2 in omega (arith, one, rest)

module _ {One : Type 0} (chance : One) (left : Image) where
  -- one that isn't stopped asks for two workers' chances, and for nothing else
  closed : asks One 2 false left [] (0 ∷ 1 ∷ [])
  closed = record {
    dealt = 0 ∷ 1 ∷ [];
    workers_first = two_are_dealt (notes_worker One) [] (1 ∷ []) (0 ∷ 1 ∷ []) chance chance refl refl;
    then_nothing = λ going. refl;
    then_words = λ stops. let e : false ≡ true = stops in absurd (cc);
  }

  -- it takes no word, and leaves no worker out; nor is the first one given its chance first
  closed_takes_a_word : (word : ℕ) → asks One 1 false left [] (word ∷ 0 ∷ []) → ⊥
  closed_takes_a_word word is =
      let all : word ∷ 0 ∷ [] ≡ 0 ∷ [] = is.then_nothing refl ∙ is.workers_first.3 ∙ is.workers_first.2 in
      let n : 2 ≡ 1 = ap length all in omega (arith, n)

  leaves_one_out : asks One 2 false left [] (0 ∷ []) → ⊥
  leaves_one_out is =
      let all = is.then_nothing refl ∙ two_are_noted One is.dealt is.workers_first in
      let n : 1 ≡ 2 = ap length all in omega (arith, n)

  first_one_first : asks One 2 false left [] (1 ∷ 0 ∷ []) → ⊥
  first_one_first is =
      let all = is.then_nothing refl ∙ two_are_noted One is.dealt is.workers_first in
      let n : 1 ≡ 0 = ap (λ numbers. slice_index numbers 0) all in omega (arith, n)

  -- one that is stopped takes words behind that
  stopped_takes_none : asks One 1 true left [] (0 ∷ []) → ⊥
  stopped_takes_none is =
      let dealt : is.dealt ≡ 0 ∷ [] = is.workers_first.3 ∙ is.workers_first.2 in
      let before = ap length dealt in
      let behind : 1 ≡ length is.dealt + 23 = all_are_noted (map left (transient_words 1)) is.dealt (0 ∷ []) (is.then_words refl) in
      omega (arith, before, behind)
