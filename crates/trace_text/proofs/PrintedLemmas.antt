-- What is printed of requests is read again.
use Rattle.std.proofs.Common.{◌≡◌, ◌≢◌, ℕ, zero, suc, ◌+◌, ◌*◌, ◌/◌, ◌%◌, ◌<◌, ◌^◌, ◌≤◌, ◌==◌, nat_le, inl, inr, Bool, true, false, cond, List, [], ◌∷◌, ◌++◌, length, get_or, map, codes, decimal, refl, sym, ap, subst, ◌∙◌, arith, append_assoc}
use Rattle.std.proofs.lemmas.List.Elements.{All-nil, All-cons, All-append, All-head, All-tail, All-map}
use Rattle.std.proofs.lemmas.List.Folds.{flat_map-map}
use Rattle.std.proofs.lemmas.List.FromFn.{length-map-range_with_len}
use Rattle.std.specs.List.{All, flat_map, range_with_len}
use Rattle.std.specs.Prelude.{slice_index}
use Rattle.hex.specs.Hex.{IsBytes, is_hex_digit, encode_lower}
use Rattle.hex.proofs.HexLemmas.{decode_of-ok, decode_of-encode_lower}
use Rattle.trace_text.specs.declared.request.Request.{Request}
use Rattle.trace_text.specs.declared.request.Request.TheVariants.{Put, Get, Del, Move}
use Rattle.trace_text.specs.Generated.{request_line, value_of, made_request, made_trace, IsWithinBounds}
use Rattle.trace_text.specs.Trace.{lines_of, longest_value, IsValue, IsLine, AreLines}
use Rattle.trace_text.specs.Values.{value_word}
use Rattle.trace_text.proofs.LineLemmas.{lines_of-ended}
use Rattle.trace_text.proofs.NumberLemmas.{number_has_no}
use Rattle.trace_text.proofs.WordLemmas.{put_line, move_line}

-- a text in one line
abbrev IsPlain : List ℕ → Type 0
IsPlain text = All (λ b. b ≢ 10) text

verb_plain : (a b c d : ℕ) → a ≢ 10 → b ≢ 10 → c ≢ 10 → d ≢ 10 → IsPlain (a ∷ b ∷ c ∷ d ∷ [])
verb_plain a b c d p q r s =
    All-cons (λ n. n ≢ 10) a (b ∷ c ∷ d ∷ []) p (All-cons (λ n. n ≢ 10) b (c ∷ d ∷ []) q
    (All-cons (λ n. n ≢ 10) c (d ∷ []) r (All-cons (λ n. n ≢ 10) d [] s (All-nil (λ n. n ≢ 10)))))

hex_plain : (c : ℕ) → is_hex_digit c ≡ true → c ≢ 10
hex_plain c is feed = let yes : is_hex_digit 10 ≡ true = subst (λ n. is_hex_digit n ≡ true) feed is in cc yes

value_plain : (value : List ℕ) → IsBytes value → IsPlain (value_word value)
value_plain [] bytes = All-cons (λ n. n ≢ 10) 45 [] (λ same. absurd (omega arith)) (All-nil (λ n. n ≢ 10))
value_plain (b ∷ value) bytes =
    let digits = (decode_of-ok (encode_lower (b ∷ value)) (b ∷ value) (decode_of-encode_lower (b ∷ value) bytes)).1 in
    λ k d below feed. hex_plain (get_or (encode_lower (b ∷ value)) k d) (digits k d below) feed

-- a value is read as it is printed
value_read : (value : List ℕ) → IsBytes value → length value ≤ longest_value → IsValue (value_word value) value
value_read [] bytes fits = inl (refl, refl)
value_read (b ∷ value) bytes fits = inr (decode_of-encode_lower (b ∷ value) bytes, omega arith, fits)

-- a request without the line feed
abbrev body : Request → List ℕ
body (Put key value) = codes "put " ++ decimal key ++ codes " " ++ value_word value
body (Get key) = codes "get " ++ decimal key
body (Del key) = codes "del " ++ decimal key
body (Move key to) = codes "move " ++ decimal key ++ codes " " ++ decimal to

line_is_body : (request : Request) → request_line request ≡ body request ++ 10 ∷ []
line_is_body (Put key value) = refl
line_is_body (Get key) = refl
line_is_body (Del key) = refl
line_is_body (Move key to) = refl

-- it is one line that asks for the request
body_plain : (request : Request) → IsWithinBounds request → IsPlain (body request)
body_plain (Put key value) fits =
    All-append (λ n. n ≢ 10) (codes "put ") (decimal key ++ codes " " ++ value_word value)
    (verb_plain 112 117 116 32 (λ s. absurd (omega arith)) (λ s. absurd (omega arith)) (λ s. absurd (omega arith)) (λ s. absurd (omega arith)))
    (All-append (λ n. n ≢ 10) (decimal key ++ codes " ") (value_word value)
    (All-append (λ n. n ≢ 10) (decimal key) (codes " ") (number_has_no 10 (decimal key) key (omega arith) (fits.0, refl))
    (All-cons (λ n. n ≢ 10) 32 [] (λ s. absurd (omega arith)) (All-nil (λ n. n ≢ 10))))
    (value_plain value fits.1))
body_plain (Get key) fits =
    All-append (λ n. n ≢ 10) (codes "get ") (decimal key)
    (verb_plain 103 101 116 32 (λ s. absurd (omega arith)) (λ s. absurd (omega arith)) (λ s. absurd (omega arith)) (λ s. absurd (omega arith)))
    (number_has_no 10 (decimal key) key (omega arith) (fits, refl))
body_plain (Del key) fits =
    All-append (λ n. n ≢ 10) (codes "del ") (decimal key)
    (verb_plain 100 101 108 32 (λ s. absurd (omega arith)) (λ s. absurd (omega arith)) (λ s. absurd (omega arith)) (λ s. absurd (omega arith)))
    (number_has_no 10 (decimal key) key (omega arith) (fits, refl))
body_plain (Move key to) fits =
    All-append (λ n. n ≢ 10) (codes "move ") (decimal key ++ codes " " ++ decimal to)
    (All-cons (λ n. n ≢ 10) 109 (codes "ove ") (λ s. absurd (omega arith))
    (verb_plain 111 118 101 32 (λ s. absurd (omega arith)) (λ s. absurd (omega arith)) (λ s. absurd (omega arith)) (λ s. absurd (omega arith))))
    (All-append (λ n. n ≢ 10) (decimal key ++ codes " ") (decimal to)
    (All-append (λ n. n ≢ 10) (decimal key) (codes " ") (number_has_no 10 (decimal key) key (omega arith) (fits.0, refl))
    (All-cons (λ n. n ≢ 10) 32 [] (λ s. absurd (omega arith)) (All-nil (λ n. n ≢ 10))))
    (number_has_no 10 (decimal to) to (omega arith) (fits.1, refl)))

body_read : (request : Request) → IsWithinBounds request → IsLine (body request) request
body_read (Put key value) fits =
    put_line (decimal key ++ codes " " ++ value_word value) (decimal key) (value_word value) key value
    (append_assoc (decimal key) (32 ∷ []) (value_word value))
    (fits.0, refl) (value_read value fits.1 fits.2)
body_read (Get key) fits = record { word = decimal key; line_is = refl; key_is = (fits, refl) }
body_read (Del key) fits = record { word = decimal key; line_is = refl; key_is = (fits, refl) }
body_read (Move key to) fits =
    move_line (decimal key ++ codes " " ++ decimal to) (decimal key) (decimal to) key to (append_assoc (decimal key) (32 ∷ []) (decimal to))
    (fits.0, refl) (fits.1, refl)

-- so requests are read as they are printed
pub read_again : (requests : List Request) → All IsWithinBounds requests → AreLines (lines_of (flat_map request_line requests)) requests
read_again [] fit = tt
read_again (r ∷ requests) fit =
    let fits = All-head IsWithinBounds r requests fit in
    let rest = flat_map request_line requests in
    let first : request_line r ++ rest ≡ body r ++ 10 ∷ rest = ap (λ (l : List ℕ). l ++ rest) (line_is_body r) ∙ append_assoc (body r) (10 ∷ []) rest in
    let cut : lines_of (request_line r ++ rest) ≡ body r ∷ lines_of rest = ap lines_of first ∙ lines_of-ended (body r) rest (body_plain r fits) in
    subst (λ (l : List (List ℕ)). AreLines l (r ∷ requests)) (sym cut) (body_read r fits, read_again requests (All-tail IsWithinBounds r requests fit))

-- what counts up from a number are bytes
bytes_of_map : (f : ℕ → ℕ) (js : List ℕ) (i : ℕ) → ((j : ℕ) → f j < 256) → slice_index (map f js) i < 256
bytes_of_map f [] zero small = omega arith
bytes_of_map f [] (suc i) small = omega arith
bytes_of_map f (j ∷ js) zero small = small j
bytes_of_map f (j ∷ js) (suc i) small = bytes_of_map f js i small

-- a request that is made is within bounds
made_within : (is_put is_get : Bool) (number : ℕ) → number < 2 ^ 16
    → IsWithinBounds (cond is_put (Put (number / 16) (value_of number)) (cond is_get (Get (number / 16)) (Del (number / 16))))
made_within true is_get number small =
    let short = length-map-range_with_len (λ j. (number + j) % 256) 0 (number % 131) in
    (omega arith, λ i. bytes_of_map (λ j. (number + j) % 256) (range_with_len 0 (number % 131)) i (λ j. omega arith), omega (arith, short))
made_within false true number small = omega arith
made_within false false number small = omega arith

-- so a trace that is made is read
pub made_read : (n seed : ℕ) → AreLines (lines_of (made_trace n seed)) (map (made_request seed) (range_with_len 0 n))
made_read n seed =
    let fit : All IsWithinBounds (map (made_request seed) (range_with_len 0 n)) =
    All-map IsWithinBounds (made_request seed) (range_with_len 0 n)
    (λ k d below. let i = get_or (range_with_len 0 n) k d in made_within (nat_le (i % 4) 1) (i % 4 == 2) ((40503 * i + 977 * seed) % 65536)
    (omega arith)) in
    subst (λ text. AreLines (lines_of text) (map (made_request seed) (range_with_len 0 n)))
    (flat_map-map request_line (made_request seed) (range_with_len 0 n))
    (read_again (map (made_request seed) (range_with_len 0 n)) fit)
