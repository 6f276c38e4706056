-- From what stands behind a verb to why the line asks for nothing.
use Rattle.std.proofs.Common.{◌≡◌, ◌≢◌, ℕ, ◌*◌, ◌<◌, ◌≤◌, List, [], ◌∷◌, ◌++◌, length, codes, Contains, Ok, inr, lit<, refl, ap, arith}
use Rattle.hex.specs.Hex.{decode_of}
use Rattle.hex.proofs.HexLemmas.{decode_of-ok}
use Rattle.trace_text.specs.Numbers.{IsNumber}
use Rattle.trace_text.specs.declared.request.Request.TheVariants.{Put as PutRequest, Get as GetRequest, Del as DelRequest, Move as MoveRequest}
use Rattle.trace_text.specs.Trace.{IsOutside, IsValue, longest_value}
use Rattle.trace_text.proofs.WordLemmas.{put_line, move_line}
use Rattle.trace_faults.specs.Verbs.{word_of, words_taken}
use Rattle.trace_faults.specs.Faults.{words_of, IsCut, IsLineFault, IsWordsFault}
use Rattle.trace_faults.specs.declared.fault.LineFault.{LineFault}
use Rattle.trace_faults.specs.declared.fault.LineFault.TheVariants.{Empty, CarriageReturn, Tab, Space, UnknownWord, TooFewWords, TooManyWords, Key, SecondKey, Value}
use Rattle.trace_faults.specs.declared.verb.Verb.{Verb}
use Rattle.trace_faults.specs.declared.verb.Verb.TheVariants.{Put, Get, Del, Move}

-- a word that is none of the four
pub no_verb : (word : List ℕ) → word ≢ codes "put" → word ≢ codes "get" → word ≢ codes "del" → word ≢ codes "move" → (verb : Verb) → word ≢ word_of verb
no_verb word put get del move Put = put
no_verb word put get del move Get = get
no_verb word put get del move Del = del
no_verb word put get del move Move = move

-- begins no request
pub unknown : (word : List ℕ) (behind : List (List ℕ)) → ((verb : Verb) → word ≢ word_of verb) → IsWordsFault (word ∷ behind) UnknownWord
unknown word behind none verb rest begins = none verb (let b = begins in cc)

-- every verb takes a word
pub takes_one : (verb : Verb) → 0 < words_taken verb
takes_one Put = omega arith
takes_one Get = omega arith
takes_one Del = omega arith
takes_one Move = omega arith

-- a verb alone
pub verb_alone : (word : List ℕ) (verb : Verb) → word ≡ word_of verb → IsWordsFault (word ∷ []) TooFewWords
verb_alone word verb is = (verb, [], ap (λ (w : List ℕ). w ∷ []) is, takes_one verb)

-- what stands behind a verb that takes one word is no key
pub no_key : (verb : Verb) (behind : List ℕ) → words_taken verb ≡ 1 → IsOutside (word_of verb ++ 32 ∷ behind) → (key : ℕ) → IsNumber behind key → ⊥
no_key Put behind one outside key is = absurd (omega (arith, one))
no_key Get behind one outside key is = outside (GetRequest key) (record { word = behind; line_is = refl; key_is = is })
no_key Del behind one outside key is = outside (DelRequest key) (record { word = behind; line_is = refl; key_is = is })
no_key Move behind one outside key is = absurd (omega (arith, one))

-- behind a key of a put is no value
pub no_value : (behind key last : List ℕ) (number : ℕ) → behind ≡ key ++ 32 ∷ last → IsNumber key number → IsOutside (codes "put" ++ 32 ∷ behind)
    → (value : List ℕ) → IsValue last value → ⊥
no_value behind key last number cut is outside value is_value = outside (PutRequest number value) (put_line behind key last number value cut is is_value)

-- and behind one of a move no key
pub no_second : (behind key last : List ℕ) (number : ℕ) → behind ≡ key ++ 32 ∷ last → IsNumber key number → IsOutside (codes "move" ++ 32 ∷ behind)
    → (to : ℕ) → IsNumber last to → ⊥
no_second behind key last number cut is outside to is_to = outside (MoveRequest number to) (move_line behind key last number to cut is is_to)

-- a verb that takes two words and is no put is a move
pub is_move : (verb : Verb) → words_taken verb ≡ 2 → verb ≢ Put → verb ≡ Move
is_move Put two other = absurd (other refl)
is_move Get two other = absurd (omega (arith, two))
is_move Del two other = absurd (omega (arith, two))
is_move Move two other = refl

-- the last of two words that are not empty
pub last_some : (key last : List ℕ) → ¬ (Contains (key ∷ last ∷ []) []) → 0 < length last
last_some key [] none = absurd (none (1, lit< tt, refl))
last_some key (c ∷ last) none = omega arith

-- digits in pairs that write no value are decoded to nothing
pub not_decoded : (word : List ℕ) → 0 < length word → length word ≤ 2 * longest_value → ((value : List ℕ) → IsValue word value → ⊥)
    → (value : List ℕ) → decode_of word ≢ Ok value
not_decoded word some short none value is =
    let twice = (decode_of-ok word value is).2 in
    none value (inr (is, omega (arith, twice, some), omega (arith, twice, short)))

-- what is wrong in the words of a line that is cut as the grammar has it
pub of_words : (line : List ℕ) (fault : LineFault) → IsCut line → IsWordsFault (words_of line) fault → IsLineFault line fault
of_words line Empty cut why = absurd why
of_words line CarriageReturn cut why = absurd why
of_words line Tab cut why = absurd why
of_words line Space cut why = absurd why
of_words line UnknownWord cut why = (cut, why)
of_words line TooFewWords cut why = (cut, why)
of_words line TooManyWords cut why = (cut, why)
of_words line (Key fault) cut why = (cut, why)
of_words line (SecondKey fault) cut why = (cut, why)
of_words line (Value fault) cut why = (cut, why)
