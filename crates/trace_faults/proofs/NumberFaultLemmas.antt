-- Which digits write a number of 64 bits.
use Rattle.std.proofs.Common.{◌≡◌, ℕ, zero, suc, ◌<◌, ◌^◌, List, get_or, length, Ok, Err, refl, sym, subst, ◌∙◌, arith}
use Rattle.std.proofs.lemmas.Fmt.{decimal-digits_value, parse-decimal}
use Rattle.std.proofs.lemmas.Int.Digits.{digits_value-lt}
use Rattle.std.specs.Str.Parse.{digits_value, ParsesUnsigned}
use Rattle.trace_text.specs.Numbers.{IsNumber}
use Rattle.trace_text.proofs.NumberLemmas.{decimal_numerals}
use Rattle.trace_faults.specs.Faults.{IsNumeral}

-- digits without a leading zero whose number has 64 bits write it
pub numeral_number : (word : List ℕ) → IsNumeral word → (get_or word 0 0 ≡ 48 → length word ≡ 1) → digits_value 10 word < 2 ^ 64
    → IsNumber word (digits_value 10 word)
numeral_number word is alone fits = (fits, sym (decimal-digits_value decimal_numerals word is.digits is.some alone fits))

-- one digit always does
pub digit_fits : (word : List ℕ) → IsNumeral word → length word ≡ 1 → digits_value 10 word < 2 ^ 64
digit_fits word is one =
    let below : digits_value 10 word < 10 ^ 1 = subst (λ n. digits_value 10 word < 10 ^ n) one (digits_value-lt 10 word is.digits) in
    omega (arith, below)

-- no error comes of a number
pub number_parsed : (E : Type 0) (word text : List ℕ) (e : E) (number : ℕ) → text ≡ word → ParsesUnsigned 64 10 text (Err e) → IsNumber word number → ⊥
number_parsed E word text e number same parsed is =
    let read : Err e ≡ Ok number = parse-decimal 64 number text (Err e) is.0 is.0 (same ∙ is.1) parsed in
    cc

-- a length that is neither 0 nor more than 1
pub one_long : (n : ℕ) → 0 < n → ¬ (1 < n) → n ≡ 1
one_long zero some short = absurd (omega (arith, some))
one_long (suc zero) some short = refl
one_long (suc (suc n)) some short = absurd (short (omega arith))
