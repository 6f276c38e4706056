-- Lines of a text that were passed over, up to one of a number.
use Rattle.std.proofs.Common.{◌≡◌, ◌≢◌, ℕ, ◌+◌, ◌<◌, List, [], ◌∷◌, ◌++◌, length, refl, sym, ap, ◌∙◌, arith, append_assoc, length-append}
use Rattle.trace_text.specs.Lines.{lines_of}
use Rattle.trace_text.specs.Trace.{IsFirstOutside}

-- so many lines were passed over, but one
pub record IsPassed (text rest : List ℕ) (passed : ℕ) : Type 0 where
  pub before : List (List ℕ)
  pub lines_are : lines_of text ≡ before ++ lines_of rest
  pub counted : passed ≡ length before + 1

pub none_passed : (text : List ℕ) → IsPassed text text 1
none_passed text = record { before = []; lines_are = refl; counted = refl }

-- one more
pub one_passed : (text rest line after : List ℕ) (passed : ℕ) → IsPassed text rest passed → lines_of rest ≡ line ∷ lines_of after
    → IsPassed text after (passed + 1)
one_passed text rest line after passed so_far cut = record {
  before = so_far.before ++ line ∷ [];
  lines_are = so_far.lines_are ∙ ap (λ (l : List (List ℕ)). so_far.before ++ l) cut ∙ sym (append_assoc so_far.before (line ∷ []) (lines_of after));
  counted = let long = length-append so_far.before (line ∷ []) in let count = so_far.counted in omega (arith, long, count);
}

-- there is a line left up to the one of this number
pub not_yet_all : (text rest : List ℕ) (passed number : ℕ) → IsPassed text rest passed → IsFirstOutside (lines_of text) number → passed < number + 1
    → rest ≢ []
not_yet_all text rest passed number so_far first low empty =
    let whole : length (lines_of text) ≡ length so_far.before + length (lines_of rest) = ap length so_far.lines_are ∙ length-append so_far.before (lines_of rest) in
    let none : length (lines_of rest) ≡ 0 = ap (λ (l : List ℕ). length (lines_of l)) empty in
    let all : length (lines_of text) ≡ length first.before + length (first.outside ∷ first.after) =
    ap length first.lines_are ∙ length-append first.before (first.outside ∷ first.after) in
    let count = so_far.counted in
    let number_is = first.counted in
    omega (arith, whole, none, all, count, number_is, low)

-- lists with parts of one length
same_rest : {A : Type 0} (a b x y : List A) → length a ≡ length b → a ++ x ≡ b ++ y → x ≡ y
same_rest [] [] x y long same = same
same_rest [] (d ∷ b) x y long same = absurd (omega (arith, long))
same_rest (c ∷ a) [] x y long same = absurd (omega (arith, long))
same_rest (c ∷ a) (d ∷ b) x y long same = same_rest a b x y (let l = long in omega (arith, l)) (let s = same in cc)

-- then that line is the first one left
pub line_there : (text rest line after : List ℕ) (number : ℕ) → IsPassed text rest number → (first : IsFirstOutside (lines_of text) number)
    → lines_of rest ≡ line ∷ lines_of after → first.outside ≡ line
line_there text rest line after number so_far first cut =
    let count = so_far.counted in
    let number_is = first.counted in
    let same : first.outside ∷ first.after ≡ line ∷ lines_of after =
    same_rest first.before so_far.before (first.outside ∷ first.after) (line ∷ lines_of after) (omega (arith, count, number_is))
    (sym first.lines_are ∙ so_far.lines_are ∙ ap (λ (l : List (List ℕ)). so_far.before ++ l) cut) in
    cc
