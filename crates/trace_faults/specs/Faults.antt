-- Why a line of a trace asks for nothing: each cause, exactly where it is told.
use Rattle.std.specs.Prelude.{◌≡◌, ◌≢◌, ℕ, ◌*◌, ◌%◌, ◌<◌, ◌≤◌, ◌^◌, ◌==◌, if◌then◌else◌, List, [], ◌∷◌, ◌++◌, length, Contains, Ok, slice_index}
use Rattle.std.specs.List.{onto_first}
use Rattle.std.specs.Str.Parse.{AllDigits, digits_value}
use Rattle.hex.specs.Hex.{decode_of}
use Rattle.trace_faults.specs.declared.fault.LineFault.{LineFault}
use Rattle.trace_faults.specs.declared.fault.LineFault.TheVariants.{Empty, CarriageReturn, Tab, Space, UnknownWord, TooFewWords, TooManyWords, Key, SecondKey, Value}
use Rattle.trace_faults.specs.declared.fault.NumberFault.{NumberFault}
use Rattle.trace_faults.specs.declared.fault.NumberFault.TheVariants.{NotDecimal, LeadingZero, TooLarge}
use Rattle.trace_faults.specs.declared.fault.ValueFault.{ValueFault}
use Rattle.trace_faults.specs.declared.fault.ValueFault.TheVariants.{TooLong, OddDigits, NotHexadecimal}
use Rattle.trace_faults.specs.declared.verb.Verb.{Verb}
use Rattle.trace_faults.specs.declared.verb.Verb.TheVariants.{Put, Move}
use Rattle.trace_faults.specs.Verbs.{word_of, words_taken}
use Rattle.trace_text.specs.Numbers.{IsNumber}
use Rattle.trace_text.specs.Trace.{IsFirstOutside, longest_value}

-- the words of a line: what stands between its spaces
abbrev pub words_of : List ℕ → List (List ℕ)
words_of [] = [] ∷ []
words_of (c ∷ rest) = if c == 32 then [] ∷ words_of rest else onto_first c (words_of rest)

-- the byte stands somewhere in the line
pub record Has (byte : ℕ) (line : List ℕ) : Type 0 where
  pub before : List ℕ
  pub after : List ℕ
  pub line_is : line ≡ before ++ byte ∷ after

-- decimal digits, one or more
pub record IsNumeral (word : List ℕ) : Type 0 where
  pub some : 0 < length word
  pub digits : AllDigits 10 word

-- why a word is no key
abbrev pub IsNumberFault : List ℕ → NumberFault → Type 0
IsNumberFault word NotDecimal = ¬ (IsNumeral word)
IsNumberFault word LeadingZero = IsNumeral word × (slice_index word 0 ≡ 48) × (1 < length word)
IsNumberFault word TooLarge = IsNumeral word × (slice_index word 0 ≢ 48) × (2 ^ 64 ≤ digits_value 10 word)

-- why a word is no value: it is too long, or else has an odd number of digits, or else is decoded to nothing
abbrev pub IsValueFault : List ℕ → ValueFault → Type 0
IsValueFault word TooLong = 2 * longest_value < length word
IsValueFault word OddDigits = (length word ≤ 2 * longest_value) × (length word % 2 ≡ 1)
IsValueFault word NotHexadecimal =
    (length word ≤ 2 * longest_value) × (length word % 2 ≡ 0) × ((value : List ℕ) → decode_of word ≢ Ok value)

-- the words are a verb and these behind it
abbrev pub Begins : List (List ℕ) → Verb → List (List ℕ) → Type 0
Begins words verb behind = words ≡ word_of verb ∷ behind

-- Why words ask for nothing, of which none is empty. A key is looked at before what stands behind it.
abbrev pub IsWordsFault : List (List ℕ) → LineFault → Type 0
IsWordsFault words UnknownWord = (verb : Verb) (behind : List (List ℕ)) → ¬ (Begins words verb behind)
IsWordsFault words TooFewWords = (verb : Verb) × (behind : List (List ℕ)) × Begins words verb behind × (length behind < words_taken verb)
IsWordsFault words TooManyWords = (verb : Verb) × (behind : List (List ℕ)) × Begins words verb behind × (words_taken verb < length behind)
IsWordsFault words (Key fault) =
    (verb : Verb) × (key : List ℕ) × (behind : List (List ℕ)) × Begins words verb (key ∷ behind) × (length (key ∷ behind) ≡ words_taken verb)
    × IsNumberFault key fault
IsWordsFault words (SecondKey fault) =
    (key : List ℕ) × (to : List ℕ) × (number : ℕ) × Begins words Move (key ∷ to ∷ []) × IsNumber key number × IsNumberFault to fault
IsWordsFault words (Value fault) =
    (key : List ℕ) × (value : List ℕ) × (number : ℕ) × Begins words Put (key ∷ value ∷ []) × IsNumber key number × IsValueFault value fault
IsWordsFault words other = ⊥

-- the line is cut into words as the grammar has it: it has bytes, no carriage return, no tab and no space too many
pub record IsCut (line : List ℕ) : Type 0 where
  pub some : line ≢ []
  pub no_return : ¬ (Has 13 line)
  pub no_tab : ¬ (Has 9 line)
  pub no_space : ¬ (Contains (words_of line) [])

-- why a line asks for nothing
abbrev pub IsLineFault : List ℕ → LineFault → Type 0
IsLineFault line Empty = line ≡ []
IsLineFault line CarriageReturn = Has 13 line
IsLineFault line Tab = Has 9 line × ¬ (Has 13 line)
IsLineFault line Space = (line ≢ []) × ¬ (Has 13 line) × ¬ (Has 9 line) × Contains (words_of line) []
IsLineFault line fault = IsCut line × IsWordsFault (words_of line) fault

-- the line of this number, counted from 1, is the first that asks for nothing, and this is why
pub record IsFirstFault (lines : List (List ℕ)) (number : ℕ) (fault : LineFault) : Type 0 where
  pub first : IsFirstOutside lines number
  pub why : IsLineFault first.outside fault
