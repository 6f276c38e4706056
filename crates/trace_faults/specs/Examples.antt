-- Worked examples: why lines of a trace ask for nothing, one for each kind of cause.
use Rattle.std.specs.Prelude.{◌≡◌, ◌≢◌, ℕ, ◌*◌, ◌<◌, List, [], ◌∷◌, ◌++◌, length, codes, Contains, refl}
use Rattle.std.proofs.Common.{get_or, lit<, ap, subst, arith}
use Rattle.std.specs.Fmt.{digits}
use Rattle.hex.specs.Hex.{decode_pairs}
use Rattle.trace_faults.specs.declared.fault.LineFault.TheVariants.{Empty, CarriageReturn, Tab, Space, UnknownWord, TooFewWords, TooManyWords, Key, SecondKey, Value}
use Rattle.trace_faults.specs.declared.fault.NumberFault.TheVariants.{NotDecimal, LeadingZero, TooLarge}
use Rattle.trace_faults.specs.declared.fault.ValueFault.TheVariants.{TooLong, OddDigits, NotHexadecimal}
use Rattle.trace_faults.specs.declared.verb.Verb.TheVariants.{Put, Get, Del, Move}
use Rattle.trace_faults.specs.Faults.{Has, words_of, IsLineFault, IsWordsFault, IsNumberFault, IsValueFault}
use Rattle.trace_faults.specs.Texts.{fault_text}

-- a line with no byte, and one that ends as on other systems
no_byte : IsLineFault [] Empty
no_byte = refl

other_ending : IsLineFault (codes "get 1" ++ 13 ∷ []) CarriageReturn
other_ending = record { before = codes "get 1"; after = []; line_is = refl }

-- a byte that no byte of a line is stands nowhere in it
abbrev IsFree : ℕ → List ℕ → Type 0
IsFree byte [] = Unit {0}
IsFree byte (c ∷ rest) = (c ≢ byte) × IsFree byte rest

no_place : (byte : ℕ) (before after : List ℕ) → IsFree byte (before ++ byte ∷ after) → ⊥
no_place byte [] after free = free.0 refl
no_place byte (c ∷ before) after free = no_place byte before after free.1

nowhere : (byte : ℕ) (line : List ℕ) → IsFree byte line → ¬ (Has byte line)
nowhere byte line free has = no_place byte has.before has.after (subst (λ (l : List ℕ). IsFree byte l) has.line_is free)

-- a tab parts no words, so it stands in one
a_tab : IsLineFault (codes "get" ++ 9 ∷ codes "1") Tab
a_tab = (
  record { before = codes "get"; after = codes "1"; line_is = refl },
  nowhere 13 (codes "get" ++ 9 ∷ codes "1")
      (λ e. omega (arith, e), (λ e. omega (arith, e), (λ e. omega (arith, e), (λ e. omega (arith, e), (λ e. omega (arith, e), tt))))),
)

one_word : words_of (codes "get" ++ 9 ∷ codes "1") ≡ (codes "get" ++ 9 ∷ codes "1") ∷ []
one_word = refl

-- a space too many makes an empty word: at the end, in front, and as one of two
space_at_the_end : IsLineFault (codes "del ") Space
space_at_the_end = (
  λ e. let none : 4 ≡ 0 = ap (λ (l : List ℕ). length l) e in omega (arith, none),
  nowhere 13 (codes "del ") (λ e. omega (arith, e), (λ e. omega (arith, e), (λ e. omega (arith, e), (λ e. omega (arith, e), tt)))),
  nowhere 9 (codes "del ") (λ e. omega (arith, e), (λ e. omega (arith, e), (λ e. omega (arith, e), (λ e. omega (arith, e), tt)))),
  (1, lit< tt, refl),
)

space_in_front : Contains (words_of (codes " get 1")) []
space_in_front = (0, lit< tt, refl)

two_spaces : Contains (words_of (codes "get  1")) []
two_spaces = (1, lit< tt, refl)

-- a first word in capitals
abbrev first_byte : List (List ℕ) → ℕ
first_byte words = get_or (get_or words 0 []) 0 0

capitals : IsWordsFault (words_of (codes "GET 1")) UnknownWord
capitals Put behind begins = let same : 71 ≡ 112 = ap first_byte begins in omega (arith, same)
capitals Get behind begins = let same : 71 ≡ 103 = ap first_byte begins in omega (arith, same)
capitals Del behind begins = let same : 71 ≡ 100 = ap first_byte begins in omega (arith, same)
capitals Move behind begins = let same : 71 ≡ 109 = ap first_byte begins in omega (arith, same)

-- a word too few, and one too many
no_value : IsWordsFault (words_of (codes "put 1")) TooFewWords
no_value = (Put, codes "1" ∷ [], refl, omega arith)

two_keys : IsWordsFault (words_of (codes "get 1 2")) TooManyWords
two_keys = (Get, codes "1" ∷ codes "2" ∷ [], refl, omega arith)

-- a sign is no digit
a_sign : IsWordsFault (words_of (codes "del -1")) (Key NotDecimal)
a_sign = (Del, codes "-1", [], refl, refl, λ is. omega (arith, is.digits.0))

-- a zero in front of a key that a move leads to
zero_in_front : IsWordsFault (words_of (codes "move 1 01")) (SecondKey LeadingZero)
unfolding digits
zero_in_front = (
  codes "1",
  codes "01",
  1,
  refl,
  (omega arith, refl),
  (record { some = omega arith; digits = (omega arith, (omega arith, tt)) }, refl, omega arith),
)

-- the first number of more than 64 bits
too_large : IsNumberFault (codes "18446744073709551616") TooLarge
too_large =
    let below : (0 < 10) × (1 < 10) × (3 < 10) × (4 < 10) = (omega arith, omega arith, omega arith, omega arith) in
    let five : 5 < 10 = omega arith in
    let six : 6 < 10 = omega arith in
    let seven : 7 < 10 = omega arith in
    let eight : 8 < 10 = omega arith in
    let nine : 9 < 10 = omega arith in (
      record {
        some = omega arith;
        digits = (
          below.1,
          (
            eight,
            (
              below.3,
              (
                below.3,
                (
                  six,
                  (
                    seven,
                    (
                      below.3,
                      (
                        below.3,
                        (
                          below.0,
                          (
                            seven,
                            (
                              below.2,
                              (
                                seven,
                                (
                                  below.0,
                                  (
                                    nine,
                                    (
                                      five,
                                      (five, (below.1, (six, (below.1, (six, tt))))),
                                    ),
                                  ),
                                ),
                              ),
                            ),
                          ),
                        ),
                      ),
                    ),
                  ),
                ),
              ),
            ),
          ),
        );
      },
      λ e. omega (arith, e),
      omega arith,
    )

-- an odd number of digits, and a byte that is none
odd_digit : IsWordsFault (words_of (codes "put 1 fff")) (Value OddDigits)
unfolding digits
odd_digit = (codes "1", codes "fff", 1, refl, (omega arith, refl), (omega arith, refl))

no_digit : IsWordsFault (words_of (codes "put 1 0x")) (Value NotHexadecimal)
unfolding digits decode_pairs
no_digit = (codes "1", codes "0x", 1, refl, (omega arith, refl), (omega arith, refl, λ value is. cc))

-- a value of a byte more than the longest
one_byte_more : (word : List ℕ) → length word ≡ 2 * 131073 → IsValueFault word TooLong
one_byte_more word long = omega (arith, long)

-- what is said of one
said : fault_text (Key LeadingZero) ≡ codes "its key begins with a zero"
said = refl
