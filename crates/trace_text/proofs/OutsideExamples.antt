-- Worked examples of lines that are outside the grammars of schedules and traces.
use Rattle.std.proofs.Common.{◌≡◌, [], ◌∷◌, codes, Some, refl, ap, sym, ◌∙◌, arith}
use Rattle.std.proofs.lemmas.Fmt.{decimal_is_IsNumeral}
use Rattle.std.specs.Fmt.{digits}
use Rattle.std.specs.Str.Parse.{digits_value}
use Rattle.trace_text.specs.Lines.{WritesNothing}
use Rattle.trace_text.specs.Numbers.{IsNumber}
use Rattle.trace_text.specs.Schedule.{parts_of, IsEventWords, IsStepLine, IsSeatsLine}
use Rattle.trace_text.specs.Trace.{IsOutside}
use Rattle.trace_text.proofs.EventLemmas.{is_word, word_passes, alone, one_number_behind}
use Rattle.trace_text.proofs.NumberLemmas.{number_begins, number_has_no, one_number}
use Rattle.trace_text.proofs.PieceLemmas.{has_separator}
use Rattle.trace_text.proofs.ScheduleLemmas.{event_by, find, of_none, of_one, found}
use Rattle.trace_text.proofs.ParseStepLemmas.{step_parts, seats_number}
use Rattle.trace_text.proofs.WordLemmas.{move_has_space, move_words}

-- more than 8 seats
nine : IsNumber (codes "9") 9
unfolding digits
nine = (omega arith, refl)

nine_seats : WritesNothing IsSeatsLine (codes "seats 9")
nine_seats seats is =
    let same = one_number (codes "9") seats 9 (seats_number (codes "seats 9") (codes "9") seats refl is) nine in
    omega (arith, same, is.at_most_8)

-- a leading zero
leading_zero : WritesNothing IsSeatsLine (codes "seats 08")
leading_zero seats is =
    let begins = number_begins (codes "08") seats (seats_number (codes "seats 08") (codes "08") seats refl is) (λ same. cc) in
    omega (arith, begins.0)

-- a seat as high as the number of seats
two : IsNumber (codes "2") 2
unfolding digits
two = (omega arith, refl)

seat_too_high : WritesNothing (IsStepLine 2) (codes "2 pop")
unfolding is_word
seat_too_high step is =
    let parts = step_parts 2 (codes "2 pop") (codes "2") (codes "pop") step (omega arith) refl (word_passes (codes "2") refl) is in
    let same = one_number (codes "2") step.0 2 parts.1 two in
    omega (arith, same, parts.0)

-- a second blank
second_blank : WritesNothing IsEventWords (codes " pop")
unfolding is_word
second_blank event is =
    let parts = one_number_behind (codes " pop") [] (codes "pop") event refl (word_passes [] refl) (word_passes (codes "pop") refl) is in
    let begins = number_begins (codes "pop") parts.0 parts.3 (λ same. cc) in
    omega (arith, begins.1)

-- a number behind a verb that has none, and a verb of no event
number_too_many : WritesNothing IsEventWords (codes "pop 5")
unfolding is_word event_by find of_one
number_too_many event is =
    let parts = one_number_behind (codes "pop 5") (codes "pop") (codes "5") event refl (word_passes (codes "pop") refl)
    (word_passes (codes "5") refl) is in
    let by : event_by (codes "pop") (parts.0 ∷ []) ≡ Some event = ap (λ v. event_by v (parts.0 ∷ [])) parts.1
    ∙ ap (λ n. event_by (parts_of event).0 n) parts.2 ∙ found event in
    cc

other_verb : WritesNothing IsEventWords (codes "jump")
unfolding is_word event_by find of_none
other_verb event is =
    let parts = alone (parts_of event).0 (parts_of event).1 (codes "jump") is.words_are (word_passes (codes "jump") refl) in
    let by : event_by (codes "jump") [] ≡ Some event = ap (λ v. event_by v []) parts.0 ∙ ap (λ n. event_by (parts_of event).0 n) (sym parts.1)
    ∙ found event in
    cc

-- 2 ^ 64 is no number of 64 bits
too_large : WritesNothing IsNumber (codes "18446744073709551616")
too_large number is =
    let same : digits_value 10 (codes "18446744073709551616") ≡ number = ap (digits_value 10) is.1 ∙ (decimal_is_IsNumeral number is.0).1 in
    omega (arith, same, is.0)

-- a move to no key
one_key : IsOutside (codes "move 5")
unfolding is_word
one_key = move_has_space (codes "5") (word_passes (codes "5") refl)

-- a word too many, and a blank at the end
third_word : IsOutside (codes "move 5 6 7")
unfolding is_word
third_word request is =
    let parts = move_words (codes "5 6 7") (codes "5") (codes "6 7") request refl (word_passes (codes "5") refl) is in
    has_separator 32 (codes "6") (codes "7") (number_has_no 32 (codes "6 7") parts.1 (omega arith) parts.3)

blank_at_the_end : IsOutside (codes "move 5 6 ")
unfolding is_word
blank_at_the_end request is =
    let parts = move_words (codes "5 6 ") (codes "5") (codes "6 ") request refl (word_passes (codes "5") refl) is in
    has_separator 32 (codes "6") [] (number_has_no 32 (codes "6 ") parts.1 (omega arith) parts.3)

-- two blanks, behind the verb and between the keys
blank_before_the_keys : IsOutside (codes "move  5 6")
unfolding is_word
blank_before_the_keys request is =
    let parts = move_words (codes " 5 6") [] (codes "5 6") request refl (word_passes [] refl) is in
    let begins = number_begins [] parts.0 parts.2 (λ same. cc) in
    omega (arith, begins.0)

blank_between_the_keys : IsOutside (codes "move 5  6")
unfolding is_word
blank_between_the_keys request is =
    let parts = move_words (codes "5  6") (codes "5") (codes " 6") request refl (word_passes (codes "5") refl) is in
    let begins = number_begins (codes " 6") parts.1 parts.3 (λ same. cc) in
    omega (arith, begins.0)

-- a leading zero of either key
key_with_zero : IsOutside (codes "move 05 6")
unfolding is_word
key_with_zero request is =
    let parts = move_words (codes "05 6") (codes "05") (codes "6") request refl (word_passes (codes "05") refl) is in
    let begins = number_begins (codes "05") parts.0 parts.2 (λ same. cc) in
    omega (arith, begins.0)

second_key_with_zero : IsOutside (codes "move 5 06")
unfolding is_word
second_key_with_zero request is =
    let parts = move_words (codes "5 06") (codes "5") (codes "06") request refl (word_passes (codes "5") refl) is in
    let begins = number_begins (codes "06") parts.1 parts.3 (λ same. cc) in
    omega (arith, begins.0)

-- a key of more than 64 bits
first_key_too_large : IsOutside (codes "move 18446744073709551616 5")
unfolding is_word
first_key_too_large request is =
    let parts = move_words (codes "18446744073709551616 5") (codes "18446744073709551616") (codes "5") request refl
    (word_passes (codes "18446744073709551616") refl) is in
    too_large parts.0 parts.2

second_key_too_large : IsOutside (codes "move 5 18446744073709551616")
unfolding is_word
second_key_too_large request is =
    let parts = move_words (codes "5 18446744073709551616") (codes "5") (codes "18446744073709551616") request refl (word_passes (codes "5") refl) is in
    too_large parts.1 parts.3
