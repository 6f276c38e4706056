-- What has been taken of the bytes of a `write_all`.
use Rattle.std.proofs.Common.{◌≡◌, ◌<◌, ◌≤◌, ◌+◌, ℕ, List, [], ◌++◌, length, take, drop, Option, Some, None, Ok, Err, refl, sym, ◌∙◌, ap, arith, append_assoc, length-append, length-drop, Result, OnErr}
use Rattle.std.proofs.lemmas.List.{take-append-drop, take_at, take_all, append-nil}
use Rattle.tool_ports.specs.Taken.{taken_with, TakesPart}

-- the first part of the bytes was taken, and the rest is left
pub record Written (bytes rest : List ℕ) (before now : Option (List ℕ)) : Type 0 where
  pub done : List ℕ
  pub split : done ++ rest ≡ bytes
  pub taken : now ≡ taken_with before done

-- nothing is taken yet
pub started : (bytes : List ℕ) (before : Option (List ℕ)) → Written bytes bytes before before
started bytes None = record { done = []; split = refl; taken = refl }
started bytes (Some taken) = record { done = []; split = refl; taken = ap (λ (l : List ℕ). Some l) (sym (append-nil taken)) }

-- two pieces, one after the other
pub taken_with_twice : (before : Option (List ℕ)) (a b : List ℕ) → taken_with (taken_with before a) b ≡ taken_with before (a ++ b)
taken_with_twice None a b = refl
taken_with_twice (Some taken) a b = ap (λ (l : List ℕ). Some l) (append_assoc taken a b)

-- one more piece is taken
pub goes_on : (bytes rest : List ℕ) (n : ℕ) (before now next : Option (List ℕ)) → Written bytes rest before now
    → next ≡ taken_with now (take n rest) → Written bytes (drop n rest) before next
goes_on bytes rest n before now next so_far takes = record {
  done = so_far.done ++ take n rest;
  split = append_assoc so_far.done (take n rest) (drop n rest) ∙ ap (λ (l : List ℕ). so_far.done ++ l) (take-append-drop n rest) ∙ so_far.split;
  taken = takes ∙ ap (λ (o : Option (List ℕ)). taken_with o (take n rest)) so_far.taken ∙ taken_with_twice before so_far.done (take n rest);
}

-- the same, where what is left is read as a range of the rest
pub goes_on_range : (bytes rest : List ℕ) (m n : ℕ) (before now next : Option (List ℕ)) → length rest ≤ m + n → Written bytes rest before now
    → next ≡ taken_with now (take n rest) → Written bytes (take m (drop n rest)) before next
goes_on_range bytes rest m n before now next long so_far takes =
    let whole : take m (drop n rest) ≡ drop n rest = take_all m (drop n rest) (omega (arith, length-drop n rest)) in
    rw whole (goes_on bytes rest n before now next so_far takes)

-- nothing is left
pub all_written : (bytes rest : List ℕ) (before now : Option (List ℕ)) → Written bytes rest before now → rest ≡ [] → now ≡ taken_with before bytes
all_written bytes rest before now so_far none =
    so_far.taken ∙ ap (λ (l : List ℕ). taken_with before l) (sym (append-nil so_far.done) ∙ ap (λ (l : List ℕ). so_far.done ++ l) (sym none)
    ∙ so_far.split)

-- something is left
pub part_written : (bytes rest : List ℕ) (before now next : Option (List ℕ)) → Written bytes rest before now → 0 < length rest → next ≡ now
    → TakesPart bytes before next
part_written bytes rest before now next so_far left same = (
  length so_far.done,
  omega (arith, ap length so_far.split, length-append so_far.done rest),
  same ∙ so_far.taken ∙ ap (λ (l : List ℕ). taken_with before l) (sym (take_at so_far.done rest (length so_far.done) refl)
      ∙ ap (λ (l : List ℕ). take (length so_far.done) l) so_far.split),
)

-- while something is left, there was something to write
pub some_bytes : (bytes rest : List ℕ) (before now : Option (List ℕ)) → Written bytes rest before now → 0 < length rest → bytes ≡ [] → ⊥
some_bytes bytes rest before now so_far left none = omega (arith, ap length so_far.split, length-append so_far.done rest, ap length none)

-- what holds at every answer holds at an error
pub at_err : {T E P : Type 0} (result : Result T E) → P → OnErr result P
at_err (Ok x) p = tt
at_err (Err e) p = p
