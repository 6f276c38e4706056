-- The lines of a text, taken off from its front.
use Rattle.std.proofs.Common.{◌≡◌, ◌≢◌, ℕ, ◌<◌, cond, List, [], ◌∷◌, ◌++◌, length, refl, ap, ◌∙◌, arith}
use Rattle.std.proofs.lemmas.Bool.{ne_eqb}
use Rattle.std.proofs.lemmas.List.Elements.{All-head, All-tail}
use Rattle.std.specs.List.{All, onto_first}
use Rattle.trace_text.specs.Lines.{lines_of}

-- a byte that is no line feed belongs to the first line
lines_of-more : (c : ℕ) (rest : List ℕ) → c ≢ 10 → lines_of (c ∷ rest) ≡ onto_first c (lines_of rest)
lines_of-more c rest other = ap (λ b. cond b ([] ∷ lines_of rest) (onto_first c (lines_of rest))) (ne_eqb c 10 other)

-- a line feed ends the first line
pub lines_of-ended : (line rest : List ℕ) → All (λ b. b ≢ 10) line → lines_of (line ++ 10 ∷ rest) ≡ line ∷ lines_of rest
lines_of-ended [] rest plain = refl
lines_of-ended (c ∷ line) rest plain =
    lines_of-more c (line ++ 10 ∷ rest) (All-head (λ b. b ≢ 10) c line plain)
    ∙ ap (onto_first c) (lines_of-ended line rest (All-tail (λ b. b ≢ 10) c line plain))

-- the last line may lack its line feed
pub lines_of-last : (line : List ℕ) → 0 < length line → All (λ b. b ≢ 10) line → lines_of line ≡ line ∷ []
lines_of-last [] some plain = absurd (omega arith)
lines_of-last (c ∷ []) some plain = lines_of-more c [] (All-head (λ b. b ≢ 10) c [] plain)
lines_of-last (c ∷ d ∷ line) some plain =
    lines_of-more c (d ∷ line) (All-head (λ b. b ≢ 10) c (d ∷ line) plain)
    ∙ ap (onto_first c) (lines_of-last (d ∷ line) (omega arith) (All-tail (λ b. b ≢ 10) c (d ∷ line) plain))
