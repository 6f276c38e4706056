-- Texts and numbers that clap takes for no options, and numbers that an argument takes.
use Rattle.std.proofs.Common.{◌≡◌, ◌≢◌, ◌<◌, ◌≤◌, ◌^◌, ℕ, true, false, [], ◌∷◌, None, refl, arith, slice_index, length}
use Rattle.std.specs.Prelude.{decimal}
use Rattle.std.specs.Str.{bytes_eq}
use Rattle.std.specs.Str.Parse.{IsNumeral, without_leading_plus}
use Rattle.std.proofs.lemmas.Str.Parse.{digit_from_value}
use Rattle.std.proofs.lemmas.Fmt.{decimal_is_IsNumeral}
use Rattle.std.proofs.lemmas.Bool.{ne_eqb}
use Rattle.tool_command.specs.CommandLine.{IsNumber}
use Rattle.clap.specs.Lexer.{long_of, short_of}
use Rattle.clap.specs.ValueTests.{accepts}
use Rattle.clap.proofs.ValueTestLemmas.{Accepts-accepts}
use Rattle.clap.specs.declared.builder.value_parser.ValueParser.TheVariants as parser
use Rattle.clap.specs.Walk.{Text}

-- ---- words that are no options

-- a word that clap takes for a text: it is no option, and not the word that ends options
pub record IsPlain (word : Text) : Type 0 where
  pub dashes : bytes_eq word (45 ∷ 45 ∷ []) ≡ false
  pub long : long_of word ≡ None
  pub short : short_of word ≡ None

begins_otherwise : (x : ℕ) (xs : Text) → x ≢ 45 → IsPlain (x ∷ xs)
begins_otherwise x xs other =
    let no = ne_eqb x 45 other in
    record { dashes = rw no refl; long = rw no refl; short = rw no refl }

-- a text that does not begin with a hyphen is such a word
pub text_is_plain : (word : Text) → 0 < length word → slice_index word 0 ≢ 45 → IsPlain word
text_is_plain [] some other = absurd (omega arith)
text_is_plain (x ∷ xs) some other = begins_otherwise x xs other

numeral_is_plain : (word : Text) → IsNumeral 10 word → IsPlain word
numeral_is_plain [] is = absurd (omega (arith, is.0))
numeral_is_plain (x ∷ xs) is =
    let digit = digit_from_value x is.1.0 in
    begins_otherwise x xs (λ e. omega (arith, digit))

-- a number is such a word
pub number_is_plain : (n : ℕ) → n < 2 ^ 64 → IsPlain (decimal n)
number_is_plain n fits = numeral_is_plain (decimal n) (decimal_is_IsNumeral n fits).0

numeral_has_no_plus : (word : Text) → IsNumeral 10 word → without_leading_plus word ≡ word
numeral_has_no_plus [] is = refl
numeral_has_no_plus (x ∷ xs) is =
    let digit = digit_from_value x is.1.0 in
    rw (ne_eqb x 43 (λ e. omega (arith, digit))) refl

-- its digits are read as the number
pub number_is_read : (n : ℕ) → n < 2 ^ 64 → IsNumber (decimal n) n
number_is_read n fits =
    let is = decimal_is_IsNumeral n fits in
    let same = numeral_has_no_plus (decimal n) is.0 in
    record { digits = rw same is.0; value = rw same is.1 }

-- a number within the bounds of an argument passes
pub number_passes : (least most n : ℕ) → n < 2 ^ 64 → least ≤ n → n ≤ most → accepts false (parser.Unsigned least most) (decimal n) ≡ true
number_passes least most n fits low high =
    let read = number_is_read n fits in
    let value = read.value in
    Accepts-accepts false (parser.Unsigned least most) (decimal n) (read.digits, rw value fits, rw value low, rw value high)
