-- Request traces: texts of lines, and the request that each line asks for.
use Rattle.std.specs.Prelude.{◌≡◌, ℕ, ◌^◌, ◌≤◌, ◌⊎◌, List, [], ◌++◌, length, codes, Ok}
use Rattle.hex.specs.Hex.{decode_of}
use Rattle.trace_text.specs.declared.request.Request.{Request}
use Rattle.trace_text.specs.declared.request.Request.TheVariants.{Put, Get, Del, Move}
use Rattle.trace_text.specs.declared.request.TraceError.{TraceError}
use Rattle.trace_text.specs.declared.request.TraceError.TheVariants.{BadLine, Memory}
use Rattle.trace_text.specs.Lines.{AreWritten, WritesNothing, IsFirstOutsideOf}
use Rattle.trace_text.specs.Numbers.{IsNumber}
pub use Rattle.trace_text.specs.Lines.{lines_of}

-- the most bytes of a value
abbrev pub longest_value : ℕ
longest_value = 2 ^ 17

-- a value as a word: a hyphen for no byte at all, else two hexadecimal digits of either case for each byte
abbrev pub IsValue : List ℕ → List ℕ → Type 0
IsValue word value =
    ((word ≡ codes "-") × (value ≡ []))
    ⊎ ((decode_of word ≡ Ok value) × (1 ≤ length value) × (length value ≤ longest_value))

-- the line is a word for what is to be done, a space, and a key
pub record IsKeyLine (what line : List ℕ) (key : ℕ) : Type 0 where
  pub word : List ℕ
  pub line_is : line ≡ what ++ codes " " ++ word
  pub key_is : IsNumber word key

-- the line is `put`, a key and a value, with one space between two of them
pub record IsPutLine (line : List ℕ) (key : ℕ) (value : List ℕ) : Type 0 where
  pub key_word : List ℕ
  pub value_word : List ℕ
  pub line_is : line ≡ codes "put " ++ key_word ++ codes " " ++ value_word
  pub key_is : IsNumber key_word key
  pub value_is : IsValue value_word value

-- the line is `move` and two keys, with one space between words
pub record IsMoveLine (line : List ℕ) (key to : ℕ) : Type 0 where
  pub key_word : List ℕ
  pub to_word : List ℕ
  pub line_is : line ≡ codes "move " ++ key_word ++ codes " " ++ to_word
  pub key_is : IsNumber key_word key
  pub to_is : IsNumber to_word to

-- the line asks for the request
abbrev pub IsLine : List ℕ → Request → Type 0
IsLine line (Put key value) = IsPutLine line key value
IsLine line (Get key) = IsKeyLine (codes "get") line key
IsLine line (Del key) = IsKeyLine (codes "del") line key
IsLine line (Move key to) = IsMoveLine line key to

-- the line asks for nothing
abbrev pub IsOutside : List ℕ → Type 0
IsOutside line = WritesNothing IsLine line

-- the lines ask for the requests, each for one
abbrev pub AreLines : List (List ℕ) → List Request → Type 0
AreLines lines requests = AreWritten IsLine lines requests

-- the line of this number, counted from 1, is the first that asks for nothing
abbrev pub IsFirstOutside : List (List ℕ) → ℕ → Type 0
IsFirstOutside lines number = IsFirstOutsideOf IsLine lines number

-- why a trace can't be read
abbrev pub IsWhyNot : List ℕ → TraceError → Type 0
IsWhyNot text (BadLine line) = IsFirstOutside (lines_of text) line
IsWhyNot text Memory = Unit {0}
