-- The words of a line, taken off from its front.
use Rattle.std.proofs.Common.{◌≡◌, ◌≢◌, ◌↔◌, ℕ, zero, suc, ◌<◌, ◌==◌, Bool, true, false, cond, get_or, List, [], ◌∷◌, ◌++◌, length, Contains, lit<, refl, sym, ap, subst, ◌∙◌, arith}
use Rattle.std.proofs.lemmas.Bool.{ne_eqb}
use Rattle.std.proofs.lemmas.List.Elements.{All-head, All-tail}
use Rattle.std.specs.List.{All, onto_first}
use Rattle.trace_text.proofs.PieceLemmas.{has_separator}
use Rattle.trace_faults.specs.Faults.{Has, words_of}

-- a byte that is no space belongs to the first word
words_of-more : (c : ℕ) (rest : List ℕ) → c ≢ 32 → words_of (c ∷ rest) ≡ onto_first c (words_of rest)
words_of-more c rest other = ap (λ b. cond b ([] ∷ words_of rest) (onto_first c (words_of rest))) (ne_eqb c 32 other)

-- a space ends the first word
pub words_of-cut : (word rest : List ℕ) → All (λ b. b ≢ 32) word → words_of (word ++ 32 ∷ rest) ≡ word ∷ words_of rest
words_of-cut [] rest plain = refl
words_of-cut (c ∷ word) rest plain =
    words_of-more c (word ++ 32 ∷ rest) (All-head (λ b. b ≢ 32) c word plain)
    ∙ ap (onto_first c) (words_of-cut word rest (All-tail (λ b. b ≢ 32) c word plain))

-- a line without a space is one word
pub words_of-one : (word : List ℕ) → All (λ b. b ≢ 32) word → words_of word ≡ word ∷ []
words_of-one [] plain = refl
words_of-one (c ∷ word) plain =
    words_of-more c word (All-head (λ b. b ≢ 32) c word plain) ∙ ap (onto_first c) (words_of-one word (All-tail (λ b. b ≢ 32) c word plain))

-- a byte more in front changes no count of words
longer_first : (c : ℕ) (words : List (List ℕ)) → 0 < length words → length (onto_first c words) ≡ length words
longer_first c [] some = absurd (omega arith)
longer_first c (word ∷ words) some = refl

-- as many words as before, or one more
more_words : (b : Bool) (c n : ℕ) (words : List (List ℕ)) → n < length words → n < length (cond b ([] ∷ words) (onto_first c words))
more_words true c n words some = omega (arith, some)
more_words false c n words some = let same = longer_first c words (omega (arith, some)) in omega (arith, same, some)

-- every line has a word
pub some_word : (line : List ℕ) → 0 < length (words_of line)
some_word [] = omega arith
some_word (c ∷ rest) = more_words (c == 32) c 0 (words_of rest) (some_word rest)

-- a line with a space has two
two_words : (before after : List ℕ) → 1 < length (words_of (before ++ 32 ∷ after))
two_words [] after = let some = some_word after in omega (arith, some)
two_words (c ∷ before) after = more_words (c == 32) c 1 (words_of (before ++ 32 ∷ after)) (two_words before after)

pub has_two_words : (line : List ℕ) → Has 32 line → 1 < length (words_of line)
has_two_words line has = subst (λ (l : List ℕ). 1 < length (words_of l)) (sym has.line_is) (two_words has.before has.after)

-- a byte that none is stands nowhere
pub stands_nowhere : (byte : ℕ) (line : List ℕ) → All (λ b. b ≢ byte) line → Has byte line → ⊥
stands_nowhere byte line free has =
    has_separator byte has.before has.after (subst (λ (l : List ℕ). All (λ b. b ≢ byte) l) has.line_is free)

-- a first word that is not empty is not the empty one
later_empty : (word : List ℕ) (words : List (List ℕ)) → word ≢ [] → (k : ℕ) → k < length (word ∷ words) → get_or (word ∷ words) k [] ≡ []
    → Contains words []
later_empty word words other zero below is = absurd (other is)
later_empty word words other (suc k) below is = (k, omega (arith, below), is)

pub empty_behind : (word : List ℕ) (words : List (List ℕ)) → word ≢ [] → Contains (word ∷ words) [] ↔ Contains words []
empty_behind word words other = (
  λ has. later_empty word words other has.0 has.1 has.2,
  λ has. (suc has.0, let below = has.1 in omega (arith, below), has.2),
)

pub later : (word : List ℕ) (words : List (List ℕ)) → Contains words [] → Contains (word ∷ words) []
later word words has = (suc has.0, let below = has.1 in omega (arith, below), has.2)

alone_empty : (word : List ℕ) (k : ℕ) → k < 1 → get_or (word ∷ []) k [] ≡ [] → word ≡ []
alone_empty word zero below is = is
alone_empty word (suc k) below is = absurd (omega (arith, below))

pub empty_alone : (word : List ℕ) → Contains (word ∷ []) [] ↔ (word ≡ [])
empty_alone word = (λ has. alone_empty word has.0 has.1 has.2, λ is. (0, lit< tt, is))

-- a list that is not empty has an element
pub not_empty : (line : List ℕ) → line ≢ [] → 0 < length line
not_empty [] other = absurd (other refl)
not_empty (c ∷ line) other = omega arith

-- what the test for no element says
pub empty_test : (line : List ℕ) (r : Bool) → r ≡ (length line == 0) → (r ≡ true → line ≡ []) × (line ≡ [] → r ≡ true)
empty_test [] r is = (λ t. refl, λ e. is)
empty_test (c ∷ line) r is =
    let no : (length (c ∷ line) == 0) ≡ false = ne_eqb (length (c ∷ line)) 0 (λ e. absurd (omega (arith, e))) in
    (λ t. let never : false ≡ true = sym no ∙ sym is ∙ t in cc, λ e. cc)
