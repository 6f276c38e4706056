-- A text of one line for each number, written line by line.
use Rattle.std.proofs.Common.{◌≡◌, ℕ, zero, suc, ◌+◌, ◌*◌, ◌≤◌, Bool, true, false, cond, nat_eq, nat_le, List, [], ◌∷◌, ◌++◌, codes, refl, sym, ap, ◌∙◌, arith, append_assoc, add-one, add-zero, zero-add, leb-false}
use Rattle.std.proofs.lemmas.List.{append-nil}
use Rattle.std.proofs.lemmas.Bool.{ne_eqb}
use Rattle.std.proofs.lemmas.List.Sums.{sum_by-cons}
use Rattle.std.specs.List.{flat_map, range_with_len, filter}
use Rattle.heap_model.specs.declared.block.Block.{Block}
use Rattle.trace_text.specs.Report.{count_of, count_line, large_line}

-- the lines of one more number
flat_map-range_suc : (f : ℕ → List ℕ) (a n : ℕ) → flat_map f (range_with_len a (suc n)) ≡ flat_map f (range_with_len a n) ++ f (a + n)
flat_map-range_suc f a zero = append-nil (f a) ∙ ap f (sym (add-zero a))
flat_map-range_suc f a (suc n) =
    let same : a + 1 + n ≡ a + suc n = omega arith in
    ap (λ (l : List ℕ). f a ++ l) (flat_map-range_suc f (a + 1) n)
    ∙ sym (append_assoc (f a) (flat_map f (range_with_len (a + 1) n)) (f (a + 1 + n)))
    ∙ ap (λ k. (f a ++ flat_map f (range_with_len (a + 1) n)) ++ f k) same

-- a line behind the lines of the numbers before it
pub line_more : (f : ℕ → List ℕ) (a n m k : ℕ) (start old new : List ℕ) → a + n ≡ k → m ≡ n + 1
    → old ≡ start ++ flat_map f (range_with_len a n) → new ≡ old ++ f k → new ≡ start ++ flat_map f (range_with_len a m)
line_more f a n m k start old new at next before written =
    let more : flat_map f (range_with_len a m) ≡ flat_map f (range_with_len a n) ++ f k =
    ap (λ i. flat_map f (range_with_len a i)) (next ∙ add-one n) ∙ flat_map-range_suc f a n ∙ ap (λ i. flat_map f (range_with_len a n) ++ f i) at in
    written ∙ ap (λ (l : List ℕ). l ++ f k) before
    ∙ append_assoc start (flat_map f (range_with_len a n)) (f k)
    ∙ ap (λ (l : List ℕ). start ++ l) (sym more)

-- texts whose lines are the same from a number on
flat_map-range_same : (f g : ℕ → List ℕ) (a n : ℕ) → ((k : ℕ) → a ≤ k → f k ≡ g k) → flat_map f (range_with_len a n) ≡ flat_map g (range_with_len a n)
flat_map-range_same f g a zero same = refl
flat_map-range_same f g a (suc n) same =
    ap (λ (l : List ℕ). l ++ flat_map f (range_with_len (a + 1) n)) (same a (omega arith))
    ∙ ap (λ (l : List ℕ). g a ++ l) (flat_map-range_same f g (a + 1) n (λ k low. same k (omega arith)))

-- blocks of so many words are counted alike among those that have at least as many
abbrev large : Block → Bool
large b = nat_le 8192 b.words

count_step : (words : ℕ) (b : Block) (held : List Block) → 8192 ≤ words → (is : Bool) → large b ≡ is
    → count_of words (cond is (b ∷ filter large held) (filter large held)) ≡ cond (nat_eq b.words words) 1 0 + count_of words (filter large held)
count_step words b held least true is = sum_by-cons (λ (x : Block). cond (nat_eq x.words words) 1 0) b (filter large held)
count_step words b held least false is =
    let short = leb-false 8192 b.words is in
    let other : nat_eq b.words words ≡ false = ne_eqb b.words words (λ same. omega arith) in
    sym (zero-add (count_of words (filter large held))) ∙ ap (λ t. cond t 1 0 + count_of words (filter large held)) (sym other)

count_of-large : (words : ℕ) (held : List Block) → 8192 ≤ words → count_of words (filter large held) ≡ count_of words held
count_of-large words [] least = refl
count_of-large words (b ∷ held) least =
    count_step words b held least (large b) refl
    ∙ ap (λ n. cond (nat_eq b.words words) 1 0 + n) (count_of-large words held least)
    ∙ sym (sum_by-cons (λ (x : Block). cond (nat_eq x.words words) 1 0) b held)

-- so the lines of the large blocks are those of all blocks
pub large_lines-filter : (held : List Block) (n : ℕ)
    → flat_map (large_line (filter (λ (b : Block). nat_le 8192 b.words) held)) (range_with_len 1 n) ≡ flat_map (large_line held) (range_with_len 1 n)
large_lines-filter held n =
    flat_map-range_same (large_line (filter large held)) (large_line held) 1 n
    (λ k low. ap (λ count. count_line (codes "held large ") k count) (count_of-large (8192 * k) held (omega arith)))
