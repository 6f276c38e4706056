-- Arguments as a form writes them: what clap takes for them, what its matches say of them, and a whole command line.
use Rattle.std.proofs.Common.{◌≡◌, ◌∙◌, ◌≤◌, ◌<◌, ◌^◌, ℕ, Bool, true, false, List, [], ◌∷◌, ◌++◌, codes, Option, Some, None, refl, sym, ap, true≢false, slice_index, inl, inr, arith}
use Rattle.std.specs.Prelude.{decimal, unwrap_or, option_map, if◌then◌else◌, slice_get}
use Rattle.clap.specs.Values.{bool_text}
use Rattle.clap.specs.Walk.{Rule, Row, Text, first_of, one_of}
use Rattle.clap.specs.Simple.{App, Shape, built, filled, with_index}
use Rattle.clap.specs.Words.{fault_of, matches_of}
use Rattle.clap.specs.Faults.{defaults_fault, check_fault}
use Rattle.tool_command.specs.CommandLine.{image_id, word_rule, number_rule, option_rule, needed_option_rule, flag_rule, HasNumber, HasNumberOr, HasFlag, IsTaken}
use Rattle.tool_command.proofs.WalkingLemmas.{IsOption, IsFlag, Fits, Given, by_name, alone_by_name, words_of, AreTaken, are_new, ended, rows_with, no_fault, matches_are}
use Rattle.tool_command.proofs.PlainWordLemmas.{number_is_plain, number_is_read, number_passes}

-- ---- arguments, and what they take

abbrev pub image_rule : Rule
image_rule = with_index 1 (filled (word_rule image_id))

abbrev pub number_at : ℕ → Text → ℕ → ℕ → Rule
number_at position id least most = with_index position (filled (number_rule id least most))

pub image_fits : (s : Shape) (image : Text) → Fits s image_rule (image ∷ [])
image_fits s image rows new = rw new refl

pub number_fits : (s : Shape) (position : ℕ) (id : Text) (least most n : ℕ) → n < 2 ^ 64 → least ≤ n → n ≤ most
    → Fits s (number_at position id least most) (decimal n ∷ [])
number_fits s position id least most n fits low high rows new = rw (new, number_passes least most n fits low high) refl

option_fits : (s : Shape) (id : Text) (least most n : ℕ) → n < 2 ^ 64 → least ≤ n → n ≤ most
    → Fits s (filled (option_rule id least most)) (decimal n ∷ [])
option_fits s id least most n fits low high rows new = rw (new, number_passes least most n fits low high) refl

pub needed_option_fits : (s : Shape) (id : Text) (least most n : ℕ) → n < 2 ^ 64 → least ≤ n → n ≤ most
    → Fits s (filled (needed_option_rule id least most)) (decimal n ∷ [])
needed_option_fits s id least most n fits low high rows new = rw (new, number_passes least most n fits low high) refl

flag_fits : (s : Shape) (id : Text) → Fits s (filled (flag_rule id)) []
flag_fits s id rows new = rw new refl

-- ---- what is given where it need not be

-- an option with a number, or nothing
abbrev pub number_given : Rule → Text → Text → Option ℕ → List Given
number_given a option_word name None = []
number_given a option_word name (Some n) = by_name a option_word name (decimal n) ∷ []

-- an option without a value, or nothing
abbrev pub flag_given : Rule → Text → Text → Bool → List Given
flag_given a option_word name given = if given then alone_by_name a option_word name ∷ [] else []

pub number_taken : (s : Shape) (position : ℕ) (id option_word : Text) (most : ℕ) (number : Option ℕ) (rest : List Given)
    → IsOption s (filled (option_rule id 0 most)) option_word id
    → ((n : ℕ) → number ≡ Some n → (n < 2 ^ 64) × (n ≤ most)) → AreTaken s position rest
    → AreTaken s position (number_given (filled (option_rule id 0 most)) option_word id number ++ rest)
number_taken s position id option_word most None rest is bounds taken = taken
number_taken s position id option_word most (Some n) rest is bounds taken =
    let bound = bounds n refl in
    (is, number_is_plain n bound.0, option_fits s id 0 most n bound.0 (omega arith) bound.1, taken)

pub flag_taken : (s : Shape) (position : ℕ) (id option_word : Text) (given : Bool) (rest : List Given) → IsFlag s (filled (flag_rule id)) option_word id
    → AreTaken s position rest → AreTaken s position (flag_given (filled (flag_rule id)) option_word id given ++ rest)
flag_taken s position id option_word true rest is taken = (is, flag_fits s id, taken)
flag_taken s position id option_word false rest is taken = taken

-- ---- what the matches say

-- a number that was given
pub number_found : (rows : List Row) (id : Text) (n : ℕ) → n < 2 ^ 64 → one_of id rows ≡ Some (decimal n) → HasNumber rows id n
number_found rows id n fits given = record { text = decimal n; given = given; counted = number_is_read n fits }

-- a number that was given, or the one that stands for it
pub number_or_found : (rows : List Row) (id : Text) (other n : ℕ) (number : Option ℕ) → n < 2 ^ 64 → n ≡ unwrap_or number other
    → one_of id rows ≡ option_map decimal number → first_of id rows ≡ option_map decimal number → HasNumberOr rows id other n
number_or_found rows id other n None fits is one first = inr (first, is)
number_or_found rows id other n (Some m) fits is one first = inl (number_found rows id n fits (one ∙ ap (λ k. Some (decimal k)) (sym is)))

-- whether an option was given
pub flag_found : (rows : List Row) (id : Text) (flag : Bool) → first_of id rows ≡ Some (bool_text flag) → HasFlag rows id flag
flag_found rows id true found = (λ e. found, λ e. refl)
flag_found rows id false found = (λ e. absurd (true≢false (sym e)), λ e. absurd (false_is_not_true (sym found ∙ e)))
  where
    false_is_not_true : Some (codes "false") ≡ Some (codes "true") → ⊥
    false_is_not_true e =
        let first : 102 ≡ 116 = ap (λ o. slice_index (unwrap_or o []) 0) e in
        omega (arith, first)

-- ---- a whole command line

-- what is computed of it: the words behind the name are those of the form, each argument is given once, and nothing is missing
pub record IsWhole (app : App) (given : List Given) (words : List Text) : Type 0 where
  pub words_are : words_of given ≡ words
  pub new : are_new [] given ≡ true
  pub defaults : defaults_fault (rows_with [] given) (built app).top.rules ≡ []
  pub checks : check_fault (built app).top (ended (built app).top given) false ≡ []

-- the command is one of ours: it has no commands below it, and its name comes first
pub record IsPlainApp (app : App) : Type 0 where
  pub leaf : (built app).subs ≡ []
  pub binary : app.top.no_binary_name ≡ false

module _ (app : App) (given : List Given) (words rest : List Text) (plain : IsPlainApp app) (are : words ≡ app.top.name ∷ rest)
    (whole : IsWhole app given rest) (taken : AreTaken (built app).top 1 given) where
  words_given : words ≡ app.top.name ∷ words_of given
  words_given = are ∙ ap (λ w. app.top.name ∷ w) (sym whole.words_are)

  pub is_taken : IsTaken app words
  is_taken = record {
    named = ap (λ w. slice_get w 0) words_given;
    faultless = ap (fault_of app) words_given ∙ no_fault app app.top.name given plain.leaf plain.binary taken whole.new whole.defaults whole.checks;
  }

  pub matched : matches_of app words ≡ ended (built app).top given
  matched = ap (matches_of app) words_given ∙ matches_are app app.top.name given plain.leaf plain.binary taken whole.new
