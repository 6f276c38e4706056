-- How many words of two images differ, and how many lines are changed, up to a word or a line.
use Rattle.std.proofs.Common.{◌≡◌, ◌≢◌, ℕ, zero, suc, ◌+◌, ◌-◌, ◌*◌, ◌/◌, ◌<◌, ◌≤◌, inl, inr, List, slice_index, ap, subst, ◌∙◌, arith, cond, nat_eq, eq-eqb, ne_eqb}
use Rattle.std.proofs.lemmas.Bool.{cases_eq, cases_lt}
use Rattle.heap_model.specs.Image.{Image}
use Rattle.heap_recover.specs.InPlace.{differences, changed_lines, steps_between, Differ}

plus_none : (n : ℕ) → n + 0 ≡ n
plus_none n = omega arith

-- a word more is a difference more where it differs, and else not
differ_next : (old new : Image) (n : ℕ) → differences old new (n + 1) ≡ differences old new n + cond (nat_eq (old n) (new n)) 0 1
differ_next old new n = ap (differences old new) {x = n + 1} {y = suc n} (omega arith)

pub differ_more : (old new : Image) (n : ℕ) → old n ≢ new n → differences old new (n + 1) ≡ differences old new n + 1
differ_more old new n other = differ_next old new n ∙ ap (λ t. differences old new n + cond t 0 1) (ne_eqb (old n) (new n) other)

pub differ_same : (old new : Image) (n : ℕ) → old n ≡ new n → differences old new (n + 1) ≡ differences old new n
differ_same old new n same = differ_next old new n ∙ ap (λ t. differences old new n + cond t 0 1) (eq-eqb (old n) (new n) same)
    ∙ plus_none (differences old new n)

differ_rises : (old new : Image) (n : ℕ) → differences old new n ≤ differences old new (n + 1)
differ_rises old new n = elim (cases_eq (old n) (new n)) as (λ _. differences old new n ≤ differences old new (n + 1)) [
  | inl same ↦ let e = differ_same old new n same in omega arith
  | inr other ↦ let e = differ_more old new n other in omega arith
]

-- and so over a range
differ_along : (old new : Image) (from count : ℕ) → differences old new from ≤ differences old new (from + count)
differ_along old new from zero = subst (λ k. differences old new from ≤ differences old new k) {x = from} {y = from + zero} (omega arith) (omega arith)
differ_along old new from (suc count) =
    let so_far = differ_along old new from count in
    let rises = differ_rises old new (from + count) in
    subst (λ k. differences old new from ≤ differences old new k) {x = from + count + 1} {y = from + suc count} (omega arith) (omega arith)

pub differ_from : (old new : Image) (from to : ℕ) → from ≤ to → differences old new from ≤ differences old new to
differ_from old new from to low =
    subst (λ k. differences old new from ≤ differences old new k) {x = from + (to - from)} {y = to} (omega arith)
    (differ_along old new from (to - from))

-- and where none differs, the count stays
pub none_differ : (old new : List ℕ) (from to : ℕ) → from ≤ to → (Differ old new from to → ⊥)
    → differences (slice_index old) (slice_index new) to ≡ differences (slice_index old) (slice_index new) from
none_differ old new from to low none =
    elim (cases_lt (differences (slice_index old) (slice_index new) from) (differences (slice_index old) (slice_index new) to)) as
    (λ _. differences (slice_index old) (slice_index new) to ≡ differences (slice_index old) (slice_index new) from) [
      | inl more ↦ absurd (none more)
      | inr few ↦ let rises = differ_from (slice_index old) (slice_index new) from to low in omega arith
    ]

-- a line more is a changed line more where a word of it differs, and else not
line_next : (old new : Image) (line : ℕ) → changed_lines old new (line + 1) ≡ changed_lines old new line
    + cond (nat_eq (differences old new (8 * line + 8)) (differences old new (8 * line))) 0 1
line_next old new line = ap (changed_lines old new) {x = line + 1} {y = suc line} (omega arith)

pub line_more : (old new : Image) (line : ℕ) → differences old new (8 * line) < differences old new (8 * line + 8)
    → changed_lines old new (line + 1) ≡ changed_lines old new line + 1
line_more old new line more = line_next old new line ∙ ap (λ t. changed_lines old new line + cond t 0 1)
    (ne_eqb (differences old new (8 * line + 8)) (differences old new (8 * line)) (λ same. omega arith))

pub line_none : (old new : Image) (line : ℕ) → differences old new (8 * line + 8) ≡ differences old new (8 * line)
    → changed_lines old new (line + 1) ≡ changed_lines old new line
line_none old new line same = line_next old new line ∙ ap (λ t. changed_lines old new line + cond t 0 1)
    (eq-eqb (differences old new (8 * line + 8)) (differences old new (8 * line)) same)
    ∙ plus_none (changed_lines old new line)

line_rises : (old new : Image) (line : ℕ) → changed_lines old new line ≤ changed_lines old new (line + 1)
line_rises old new line = elim (cases_eq (differences old new (8 * line + 8)) (differences old new (8 * line))) as
    (λ _. changed_lines old new line ≤ changed_lines old new (line + 1)) [
      | inl same ↦ let e = line_none old new line same in omega arith
      | inr other ↦ let low = differ_from old new (8 * line) (8 * line + 8) (omega arith) in
          let e = line_more old new line (omega arith) in omega arith
    ]

lines_along : (old new : Image) (from count : ℕ) → changed_lines old new from ≤ changed_lines old new (from + count)
lines_along old new from zero = subst (λ k. changed_lines old new from ≤ changed_lines old new k) {x = from} {y = from + zero} (omega arith)
    (omega arith)
lines_along old new from (suc count) =
    let so_far = lines_along old new from count in
    let rises = line_rises old new (from + count) in
    subst (λ k. changed_lines old new from ≤ changed_lines old new k) {x = from + count + 1} {y = from + suc count} (omega arith) (omega arith)

pub lines_from : (old new : Image) (from to : ℕ) → from ≤ to → changed_lines old new from ≤ changed_lines old new to
lines_from old new from to low =
    subst (λ k. changed_lines old new from ≤ changed_lines old new k) {x = from + (to - from)} {y = to} (omega arith)
    (lines_along old new from (to - from))

-- a line that is changed has a word that is
lines_few : (old new : Image) (line : ℕ) → changed_lines old new line ≤ differences old new (8 * line)
lines_few old new zero = omega arith
lines_few old new (suc line) =
    let before = lines_few old new line in
    let next = ap (changed_lines old new) {x = suc line} {y = line + 1} (omega arith) in
    let end = ap (differences old new) {x = 8 * suc line} {y = 8 * line + 8} (omega arith) in
    elim (cases_eq (differences old new (8 * line + 8)) (differences old new (8 * line))) as
    (λ _. changed_lines old new (suc line) ≤ differences old new (8 * suc line)) [
      | inl same ↦ let e = line_none old new line same in omega arith
      | inr other ↦ let low = differ_from old new (8 * line) (8 * line + 8) (omega arith) in
          let e = line_more old new line (omega arith) in omega arith
    ]

-- so there are at most twice as many steps as words that differ, and the fence
pub steps_few : (old new : Image) (words : ℕ) → steps_between old new words ≤ 1 + 2 * differences old new words
steps_few old new words =
    let few = lines_few old new (words / 8) in
    let low = differ_from old new (8 * (words / 8)) words (omega arith) in omega arith

-- where the count stays over a range, no word of it differs
pub same_there : (old new : Image) (from to word : ℕ) → differences old new to ≤ differences old new from → from ≤ word → word < to
    → old word ≡ new word
same_there old new from to word few low high = elim (cases_eq (old word) (new word)) as (λ _. old word ≡ new word) [
  | inl same ↦ same
  | inr other ↦ absurd (let more = differ_more old new word other in let before = differ_from old new from word low in
      let after = differ_from old new (word + 1) to (omega arith) in omega arith)
]
