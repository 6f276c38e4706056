-- A trace is read in one way.
use Rattle.std.proofs.Common.{◌≡◌, ℕ, inl, inr, List, [], ◌∷◌, ◌++◌, length, codes, sym, ap, ◌∙◌, arith, append_assoc}
use Rattle.hex.proofs.HexLemmas.{decode_of-ok, decode_of-same}
use Rattle.trace_text.specs.declared.request.Request.{Request}
use Rattle.trace_text.specs.declared.request.Request.TheVariants.{Put, Get, Del, Move}
use Rattle.trace_text.specs.Trace.{IsValue, IsPutLine, IsMoveLine, IsKeyLine, IsLine, AreLines, IsFirstOutside}
use Rattle.trace_text.proofs.NumberLemmas.{number_has_no, one_number}
use Rattle.trace_text.proofs.PieceLemmas.{same_parts, heads_differ}
use Rattle.trace_text.proofs.WrittenLemmas.{one_list, written_or_outside, one_outside}

-- a word writes one value
one_value : (word v w : List ℕ) → IsValue word v → IsValue word w → v ≡ w
one_value word v w (inl none_v) (inl none_w) = none_v.1 ∙ sym none_w.1
one_value word v w (inl none_v) (inr some_w) =
    let twice = (decode_of-ok word w some_w.0).2 in
    let one : length word ≡ 1 = ap length none_v.0 in
    absurd (omega arith)
one_value word v w (inr some_v) (inl none_w) =
    let twice = (decode_of-ok word v some_v.0).2 in
    let one : length word ≡ 1 = ap length none_w.0 in
    absurd (omega arith)
one_value word v w (inr some_v) (inr some_w) = decode_of-same word v w some_v.0 some_w.0

-- lines of a key with the same verb
one_key_line : (what line : List ℕ) (k m : ℕ) → ((a b : List ℕ) → what ++ codes " " ++ a ≡ what ++ codes " " ++ b → a ≡ b)
    → IsKeyLine what line k → IsKeyLine what line m → k ≡ m
one_key_line what line k m split a b =
    let word : a.word ≡ b.word = split a.word b.word (sym a.line_is ∙ b.line_is) in
    one_number b.word k m (rw word at a.key_is) b.key_is

-- lines of a key and a value
put_same : (line : List ℕ) (k m : ℕ) (v w : List ℕ) → IsPutLine line k v → IsPutLine line m w → Put k v ≡ Put m w
put_same line k m v w a b =
    let whole : codes "put " ++ a.key_word ++ codes " " ++ a.value_word ≡ codes "put " ++ b.key_word ++ codes " " ++ b.value_word =
    sym a.line_is ∙ b.line_is in
    let rest : (a.key_word ++ 32 ∷ []) ++ a.value_word ≡ (b.key_word ++ 32 ∷ []) ++ b.value_word = cc in
    let cut = sym (append_assoc a.key_word (32 ∷ []) a.value_word) ∙ rest ∙ append_assoc b.key_word (32 ∷ []) b.value_word in
    let parts = same_parts 32 a.key_word b.key_word a.value_word b.value_word (number_has_no 32 a.key_word k (omega arith) a.key_is)
    (number_has_no 32 b.key_word m (omega arith) b.key_is) cut in
    let key = one_number b.key_word k m (rw parts.0 at a.key_is) b.key_is in
    let value = one_value b.value_word v w (rw parts.1 at a.value_is) b.value_is in
    ap (λ n. Put n v) key ∙ ap (λ l. Put m l) value

-- lines of two keys
move_same : (line : List ℕ) (k m l n : ℕ) → IsMoveLine line k l → IsMoveLine line m n → Move k l ≡ Move m n
move_same line k m l n a b =
    let whole : codes "move " ++ a.key_word ++ codes " " ++ a.to_word ≡ codes "move " ++ b.key_word ++ codes " " ++ b.to_word = sym a.line_is
    ∙ b.line_is in
    let rest : (a.key_word ++ 32 ∷ []) ++ a.to_word ≡ (b.key_word ++ 32 ∷ []) ++ b.to_word = cc in
    let cut = sym (append_assoc a.key_word (32 ∷ []) a.to_word) ∙ rest ∙ append_assoc b.key_word (32 ∷ []) b.to_word in
    let parts = same_parts 32 a.key_word b.key_word a.to_word b.to_word (number_has_no 32 a.key_word k (omega arith) a.key_is)
    (number_has_no 32 b.key_word m (omega arith) b.key_is) cut in
    let key = one_number b.key_word k m (rw parts.0 at a.key_is) b.key_is in
    let to = one_number b.to_word l n (rw parts.1 at a.to_is) b.to_is in
    ap (λ i. Move i l) key ∙ ap (λ i. Move m i) to

-- a line asks for one request
pub one_request : (line : List ℕ) (a b : Request) → IsLine line a → IsLine line b → a ≡ b
one_request line (Put k v) (Put m w) is_a is_b = put_same line k m v w is_a is_b
one_request line (Put k v) (Get m) is_a is_b = absurd (heads_differ 112 103 _ _ (sym is_a.line_is ∙ is_b.line_is) (λ same. absurd (omega arith)))
one_request line (Put k v) (Del m) is_a is_b = absurd (heads_differ 112 100 _ _ (sym is_a.line_is ∙ is_b.line_is) (λ same. absurd (omega arith)))
one_request line (Put k v) (Move m n) is_a is_b = absurd (heads_differ 112 109 _ _ (sym is_a.line_is ∙ is_b.line_is) (λ same. absurd (omega arith)))
one_request line (Get k) (Put m w) is_a is_b = absurd (heads_differ 103 112 _ _ (sym is_a.line_is ∙ is_b.line_is) (λ same. absurd (omega arith)))
one_request line (Get k) (Get m) is_a is_b = ap Get (one_key_line (codes "get") line k m (λ a b same. cc) is_a is_b)
one_request line (Get k) (Del m) is_a is_b = absurd (heads_differ 103 100 _ _ (sym is_a.line_is ∙ is_b.line_is) (λ same. absurd (omega arith)))
one_request line (Get k) (Move m n) is_a is_b = absurd (heads_differ 103 109 _ _ (sym is_a.line_is ∙ is_b.line_is) (λ same. absurd (omega arith)))
one_request line (Del k) (Put m w) is_a is_b = absurd (heads_differ 100 112 _ _ (sym is_a.line_is ∙ is_b.line_is) (λ same. absurd (omega arith)))
one_request line (Del k) (Get m) is_a is_b = absurd (heads_differ 100 103 _ _ (sym is_a.line_is ∙ is_b.line_is) (λ same. absurd (omega arith)))
one_request line (Del k) (Del m) is_a is_b = ap Del (one_key_line (codes "del") line k m (λ a b same. cc) is_a is_b)
one_request line (Del k) (Move m n) is_a is_b = absurd (heads_differ 100 109 _ _ (sym is_a.line_is ∙ is_b.line_is) (λ same. absurd (omega arith)))
one_request line (Move k l) (Put m w) is_a is_b = absurd (heads_differ 109 112 _ _ (sym is_a.line_is ∙ is_b.line_is) (λ same. absurd (omega arith)))
one_request line (Move k l) (Get m) is_a is_b = absurd (heads_differ 109 103 _ _ (sym is_a.line_is ∙ is_b.line_is) (λ same. absurd (omega arith)))
one_request line (Move k l) (Del m) is_a is_b = absurd (heads_differ 109 100 _ _ (sym is_a.line_is ∙ is_b.line_is) (λ same. absurd (omega arith)))
one_request line (Move k l) (Move m n) is_a is_b = move_same line k m l n is_a is_b

-- so lines ask for one list of requests
pub one_reading : (lines : List (List ℕ)) (xs ys : List Request) → AreLines lines xs → AreLines lines ys → xs ≡ ys
one_reading lines xs ys are_a are_b = one_list IsLine one_request lines xs ys are_a are_b

-- lines that ask for requests have none that is outside the grammar
pub read_or_outside : (lines : List (List ℕ)) (asks : List Request) (number : ℕ) → AreLines lines asks → IsFirstOutside lines number → ⊥
read_or_outside lines asks number are is = written_or_outside IsLine lines asks number are is

-- and only one line is the first outside
pub one_first_outside : (lines : List (List ℕ)) (m n : ℕ) → IsFirstOutside lines m → IsFirstOutside lines n → m ≡ n
one_first_outside lines m n a b = one_outside IsLine lines m n a b
