-- The words of lines that put a value or move one.
use Rattle.std.proofs.Common.{◌≡◌, ◌≢◌, ℕ, ◌*◌, ◌<◌, ◌≤◌, inl, inr, List, [], ◌∷◌, ◌++◌, length, codes, sym, ap, ◌∙◌, arith, append_assoc}
use Rattle.std.specs.List.{All}
use Rattle.hex.proofs.HexLemmas.{decode_of-ok}
use Rattle.trace_text.specs.declared.request.Request.{Request}
use Rattle.trace_text.specs.declared.request.Request.TheVariants.{Put, Get, Del, Move}
use Rattle.trace_text.specs.Numbers.{IsNumber}
use Rattle.trace_text.specs.Trace.{IsValue, IsPutLine, IsMoveLine, IsLine, IsOutside, longest_value}
use Rattle.trace_text.proofs.NumberLemmas.{number_has_no}
use Rattle.trace_text.proofs.PieceLemmas.{same_parts, has_separator, heads_differ}

-- an empty word and one that is too long write no value
pub value_fits : (word value : List ℕ) → IsValue word value → (0 < length word) × (length word ≤ 2 * longest_value)
value_fits word value (inl none) = rw none.0 (omega arith, omega arith)
value_fits word value (inr some) =
    let twice = (decode_of-ok word value some.0).2 in
    (omega arith, omega arith)

-- the words behind `put ` are a key, a space and a value
put_parts : (words key_word value_word : List ℕ) → codes "put " ++ words ≡ codes "put " ++ key_word ++ codes " " ++ value_word
    → words ≡ key_word ++ 32 ∷ value_word
put_parts words key_word value_word same =
    let rest : words ≡ (key_word ++ 32 ∷ []) ++ value_word = cc in
    rest ∙ append_assoc key_word (32 ∷ []) value_word

-- so there is a space
pub put_has_space : (words : List ℕ) → All (λ b. b ≢ 32) words → IsOutside (codes "put " ++ words)
put_has_space words free (Put key value) is =
    has_separator 32 is.key_word is.value_word (rw (put_parts words is.key_word is.value_word is.line_is) at free)
put_has_space words free (Get key) is = absurd (heads_differ 112 103 _ _ is.line_is (λ same. absurd (omega arith)))
put_has_space words free (Del key) is = absurd (heads_differ 112 100 _ _ is.line_is (λ same. absurd (omega arith)))
put_has_space words free (Move key to) is = absurd (heads_differ 112 109 _ _ is.line_is (λ same. absurd (omega arith)))

-- and what is before the first space is the key, what is behind it the value
pub put_words : (words first rest : List ℕ) (request : Request) → words ≡ first ++ 32 ∷ rest → All (λ b. b ≢ 32) first
    → IsLine (codes "put " ++ words) request
    → (key : ℕ) × (value : List ℕ) × IsNumber first key × IsValue rest value
put_words words first rest (Put key value) cut free is =
    let parts = put_parts words is.key_word is.value_word is.line_is in
    let same = same_parts 32 first is.key_word rest is.value_word free (number_has_no 32 is.key_word key (omega arith) is.key_is) (sym cut ∙ parts) in
    (key, value, rw same.0 is.key_is, rw same.1 is.value_is)
put_words words first rest (Get key) cut free is = absurd (heads_differ 112 103 _ _ is.line_is (λ same. absurd (omega arith)))
put_words words first rest (Del key) cut free is = absurd (heads_differ 112 100 _ _ is.line_is (λ same. absurd (omega arith)))
put_words words first rest (Move key to) cut free is = absurd (heads_differ 112 109 _ _ is.line_is (λ same. absurd (omega arith)))

-- the line of a key and a value
pub put_line : (words first rest : List ℕ) (key : ℕ) (value : List ℕ) → words ≡ first ++ 32 ∷ rest → IsNumber first key → IsValue rest value
    → IsPutLine (codes "put " ++ words) key value
put_line words first rest key value cut is_key is_value = record {
  key_word = first;
  value_word = rest;
  line_is = ap (λ (l : List ℕ). codes "put " ++ l) (cut ∙ sym (append_assoc first (32 ∷ []) rest));
  key_is = is_key;
  value_is = is_value;
}

-- the words behind `move ` are two keys with a space between them
move_parts : (words key_word to_word : List ℕ) → codes "move " ++ words ≡ codes "move " ++ key_word ++ codes " " ++ to_word
    → words ≡ key_word ++ 32 ∷ to_word
move_parts words key_word to_word same =
    let rest : words ≡ (key_word ++ 32 ∷ []) ++ to_word = cc in
    rest ∙ append_assoc key_word (32 ∷ []) to_word

-- so there is a space
pub move_has_space : (words : List ℕ) → All (λ b. b ≢ 32) words → IsOutside (codes "move " ++ words)
move_has_space words free (Put key value) is = absurd (heads_differ 109 112 _ _ is.line_is (λ same. absurd (omega arith)))
move_has_space words free (Get key) is = absurd (heads_differ 109 103 _ _ is.line_is (λ same. absurd (omega arith)))
move_has_space words free (Del key) is = absurd (heads_differ 109 100 _ _ is.line_is (λ same. absurd (omega arith)))
move_has_space words free (Move key to) is =
    has_separator 32 is.key_word is.to_word (rw (move_parts words is.key_word is.to_word is.line_is) at free)

-- and the keys are what is before the first space and what is behind it
pub move_words : (words first rest : List ℕ) (request : Request) → words ≡ first ++ 32 ∷ rest → All (λ b. b ≢ 32) first
    → IsLine (codes "move " ++ words) request
    → (key : ℕ) × (to : ℕ) × IsNumber first key × IsNumber rest to
move_words words first rest (Put key value) cut free is = absurd (heads_differ 109 112 _ _ is.line_is (λ same. absurd (omega arith)))
move_words words first rest (Get key) cut free is = absurd (heads_differ 109 103 _ _ is.line_is (λ same. absurd (omega arith)))
move_words words first rest (Del key) cut free is = absurd (heads_differ 109 100 _ _ is.line_is (λ same. absurd (omega arith)))
move_words words first rest (Move key to) cut free is =
    let parts = move_parts words is.key_word is.to_word is.line_is in
    let same = same_parts 32 first is.key_word rest is.to_word free (number_has_no 32 is.key_word key (omega arith) is.key_is) (sym cut ∙ parts) in
    (key, to, rw same.0 is.key_is, rw same.1 is.to_is)

-- the line of two keys
pub move_line : (words first rest : List ℕ) (key to : ℕ) → words ≡ first ++ 32 ∷ rest → IsNumber first key → IsNumber rest to
    → IsMoveLine (codes "move " ++ words) key to
move_line words first rest key to cut is_key is_to = record {
  key_word = first;
  to_word = rest;
  line_is = ap (λ (l : List ℕ). codes "move " ++ l) (cut ∙ sym (append_assoc first (32 ∷ []) rest));
  key_is = is_key;
  to_is = is_to;
}
