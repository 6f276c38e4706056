-- What a sink has taken of a text that is printed in parts.
use Rattle.std.proofs.Common.{◌≡◌, ℕ, ◌+◌, ◌<◌, List, ◌++◌, length, take, Option, Result, Ok, Err, OnErr, OnOk, sym, ap, ◌∙◌, subst, arith, append_assoc, length-append}
use Rattle.std.proofs.lemmas.List.{take-append-le}
use Rattle.std.proofs.Math.Seq.{take-append-add}
use Rattle.tool_ports.specs.Taken.{taken_with, TakesPart}
use Rattle.tool_ports.proofs.Written.{taken_with_twice}

-- two texts, one after the other
pub both_taken : (a b : List ℕ) (old mid new : Option (List ℕ)) → mid ≡ taken_with old a → new ≡ taken_with mid b → new ≡ taken_with old (a ++ b)
both_taken a b old mid new first second = second ∙ ap (λ (o : Option (List ℕ)). taken_with o b) first ∙ taken_with_twice old a b

-- a part of the first text is a part of both
pub part_of_first : (text rest : List ℕ) (old new : Option (List ℕ)) → TakesPart text old new → TakesPart (text ++ rest) old new
part_of_first text rest old new part =
    let short : part.0 < length text = part.1 in
    let whole = length-append text rest in
    (part.0, omega (arith, whole, short), part.2 ∙ ap (λ (l : List ℕ). taken_with old l) (sym (take-append-le part.0 text rest (omega (arith, short)))))

-- the first text, and a part of the next
pub part_of_next : (text rest : List ℕ) (old mid new : Option (List ℕ)) → mid ≡ taken_with old text → TakesPart rest mid new
    → TakesPart (text ++ rest) old new
part_of_next text rest old mid new first part =
    let short : part.0 < length rest = part.1 in
    let whole = length-append text rest in (
      length text + part.0,
      omega (arith, whole, short),
      both_taken text (take part.0 rest) old mid new first part.2
          ∙ ap (λ (l : List ℕ). taken_with old l) (sym (take-append-add text rest part.0)),
    )

-- what follows at an error
pub at_error : {T E P Q : Type 0} (result : Result T E) → OnErr result P → (P → Q) → OnErr result Q
at_error (Ok x) p next = tt
at_error (Err e) p next = next p

-- the same text under another name
pub same_part : (a b : List ℕ) (old new : Option (List ℕ)) → a ≡ b → TakesPart a old new → TakesPart b old new
same_part a b old new same part = subst (λ (l : List ℕ). TakesPart l old new) same part

-- two texts, each the same as another
pub same_both : (a b c d : List ℕ) → a ≡ c → b ≡ d → a ++ b ≡ c ++ d
same_both a b c d first second = ap (λ (l : List ℕ). l ++ b) first ∙ ap (λ (l : List ℕ). c ++ l) second

-- a line that is written as two pairs of texts and an end
module _ (p d q v h w lf : List ℕ) (old mid late new : Option (List ℕ)) (number_is : q ≡ d) (word_is : w ≡ h) where
  whole_line : (p ++ d) ++ ((v ++ h) ++ lf) ≡ p ++ d ++ v ++ h ++ lf
  whole_line = sym (append_assoc (p ++ d) (v ++ h) lf) ∙ ap (λ (l : List ℕ). l ++ lf) (sym (append_assoc (p ++ d) v h))

  -- where the first pair was cut off
  pub in_first_pair : TakesPart (p ++ q) old new → TakesPart (p ++ d ++ v ++ h ++ lf) old new
  in_first_pair part =
      same_part ((p ++ d) ++ ((v ++ h) ++ lf)) _ old new whole_line (part_of_first (p ++ d) ((v ++ h) ++ lf) old new
      (same_part (p ++ q) (p ++ d) old new (ap (λ (l : List ℕ). p ++ l) number_is) part))

  -- where the second pair was
  pub in_second_pair : mid ≡ taken_with old (p ++ q) → TakesPart (v ++ w) mid new → TakesPart (p ++ d ++ v ++ h ++ lf) old new
  in_second_pair first part =
      let started : mid ≡ taken_with old (p ++ d) = first ∙ ap (λ (l : List ℕ). taken_with old (p ++ l)) number_is in
      same_part ((p ++ d) ++ ((v ++ h) ++ lf)) _ old new whole_line
      (part_of_next (p ++ d) ((v ++ h) ++ lf) old mid new started (part_of_first (v ++ h) lf mid new
      (same_part (v ++ w) (v ++ h) mid new (ap (λ (l : List ℕ). v ++ l) word_is) part)))

  -- where the end was
  pub in_end : mid ≡ taken_with old (p ++ q) → late ≡ taken_with mid (v ++ w) → TakesPart lf late new → TakesPart (p ++ d ++ v ++ h ++ lf) old new
  in_end first second part =
      let started : mid ≡ taken_with old (p ++ d) = first ∙ ap (λ (l : List ℕ). taken_with old (p ++ l)) number_is in
      let followed : late ≡ taken_with mid (v ++ h) = second ∙ ap (λ (l : List ℕ). taken_with mid (v ++ l)) word_is in
      same_part ((p ++ d) ++ ((v ++ h) ++ lf)) _ old new whole_line
      (part_of_next (p ++ d) ((v ++ h) ++ lf) old mid new started (part_of_next (v ++ h) lf mid late new followed part))

  -- where all was written
  pub all_taken : mid ≡ taken_with old (p ++ q) → late ≡ taken_with mid (v ++ w) → new ≡ taken_with late lf
      → new ≡ taken_with old (p ++ d ++ v ++ h ++ lf)
  all_taken first second third =
      let started : mid ≡ taken_with old (p ++ d) = first ∙ ap (λ (l : List ℕ). taken_with old (p ++ l)) number_is in
      let followed : late ≡ taken_with mid (v ++ h) = second ∙ ap (λ (l : List ℕ). taken_with mid (v ++ l)) word_is in
      both_taken (p ++ d) ((v ++ h) ++ lf) old mid new started (both_taken (v ++ h) lf mid late new followed third) ∙ ap (taken_with old) whole_line

-- what follows at an Ok
pub at_ok : {T E P Q : Type 0} (result : Result T E) → OnOk result P → (P → Q) → OnOk result Q
at_ok (Ok x) p next = next p
at_ok (Err e) p next = tt
