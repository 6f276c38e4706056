-- Numbers as words.
use Rattle.std.proofs.Common.{◌≡◌, ◌≢◌, ℕ, zero, suc, ◌<◌, ◌≤◌, List, [], ◌∷◌, get_or, decimal, Result, Ok, Err, refl, sym, ◌∙◌, arith}
use Rattle.std.proofs.lemmas.Fmt.{decimal_is_IsNumeral, decimal-digits_value, first_decimal, parse-decimal, IsAscii-decimal, decimal_injective}
use Rattle.std.proofs.lemmas.Str.{IsUtf8-from_ascii}
use Rattle.std.proofs.lemmas.Str.Parse.{IsNumeralModel, numerals_by_value, tells_digits, parse_plain, digit_at}
use Rattle.std.proofs.lemmas.List.{get_or_default}
use Rattle.std.specs.Fmt.{digits}
use Rattle.std.specs.List.{All}
use Rattle.std.specs.Result.{result_ok}
use Rattle.std.specs.Str.{IsUtf8}
use Rattle.std.specs.Str.Parse.{AllDigits, digits_value, ParsesUnsigned}
use Rattle.trace_text.specs.Lines.{IsReadAs}
use Rattle.trace_text.specs.Numbers.{IsNumber}

-- words of digits are numerals, and have the values that std gives them
pub decimal_numerals : IsNumeralModel (AllDigits 10) (digits_value 10)
decimal_numerals = numerals_by_value (AllDigits 10) tells_digits

-- the number 0 has one digit
pub zero_is_number : IsNumber (48 ∷ []) 0
unfolding digits
zero_is_number = (omega arith, refl)

-- another one begins with a digit from 1 on
pub number_begins : (word : List ℕ) (number : ℕ) → IsNumber word number → word ≢ 48 ∷ [] → (48 < get_or word 0 0) × (get_or word 0 0 ≤ 57)
number_begins word zero is other = absurd (other (is.1 ∙ sym zero_is_number.1))
number_begins word (suc number) is other =
    let first = first_decimal (suc number) (omega arith) is.0 in
    let numeral = (decimal_is_IsNumeral (suc number) is.0).0 in
    let digit = digit_at (decimal (suc number)) 0 numeral.1 numeral.0 in
    rw is.1 (first, digit.1)

-- a text that begins so is read as the number that it writes
pub number_reading : (E : Type 0) (word text : List ℕ) (r : Result ℕ E) → text ≡ word → 48 < get_or word 0 0 → ParsesUnsigned 64 10 text r
    → IsReadAs IsNumber word (result_ok r)
number_reading E word text (Ok number) same begins parsed =
    let numeral = parse_plain decimal_numerals {E = E} 64 word (Ok number) (rw same at parsed) (λ plus. absurd (omega arith)) in
    let value : decimal (digits_value 10 word) ≡ word =
    decimal-digits_value decimal_numerals word numeral.0.0 numeral.0.1 (λ begins_0. absurd (omega arith)) numeral.0.2 in
    rw numeral.1 (numeral.0.2, sym value)
number_reading E word text (Err e) same begins parsed = λ number is. cc (parse-decimal 64 number text (Err e) is.0 is.0 (same ∙ is.1) parsed)

-- a number is text
pub number_is_text : (word : List ℕ) (number : ℕ) → IsNumber word number → IsUtf8 word
number_is_text word number is = rw is.1 (IsUtf8-from_ascii (decimal number) (IsAscii-decimal number is.0))

-- no byte of a number is below the digits
pub number_has_no : (s : ℕ) (word : List ℕ) (number : ℕ) → s < 48 → IsNumber word number → All (λ b. b ≢ s) word
number_has_no s word number low is =
    let digit = (decimal_is_IsNumeral number is.0).0.1 in
    rw is.1 (λ k d below found. let at = digit_at (decimal number) k digit below in let same = get_or_default (decimal number) k d 0 below in
    absurd (omega arith))

-- a word writes one number
pub one_number : (word : List ℕ) (m n : ℕ) → IsNumber word m → IsNumber word n → m ≡ n
one_number word m n is_m is_n = decimal_injective m n is_m.0 is_n.0 (sym is_m.1 ∙ is_n.1)
