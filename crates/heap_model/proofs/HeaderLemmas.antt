-- A header is good, as one of its version, exactly where no cause holds.
use Rattle.std.proofs.Common.{◌≡◌, ◌≢◌, ◌⊎◌, inl, inr, ℕ, ◌<◌, ◌≤◌, ◌*◌, Bool, true, false, not, ◌||◌, ◌&&◌, cond, nat_eq, nat_lt, nat_le, Option, Some, None, get_or, refl, ◌∙◌, subst, arith}
use Rattle.std.proofs.lemmas.Bool.{cases_lt, ltb-false, eqb-true, eqb-false, eq-eqb, ne_eqb, le-ltb, le-leb, lt-leb, not-false, not_from_true, or_parts, or_cases, or_left, or_right}
use Rattle.std.specs.List.{range_with_len}
use Rattle.std.proofs.lemmas.List.Folds.{list_any_at, list_any_none}
use Rattle.std.proofs.lemmas.List.Elements.{All-from_get_or}
use Rattle.std.proofs.lemmas.List.FromFn.{get_or-range_with_len, length-range_with_len}
use Rattle.heap_model.specs.declared.header.BadHeader.{BadHeader}
use Rattle.heap_model.specs.declared.header.BadHeader.TheVariants.{Short, Magic, Version, Capacity, Length, State, Used, Kind}
use Rattle.heap_model.specs.Geometry.{magic, version, old_version, largest_capacity, largest_old_capacity, roots, kind_word, clean, dirty, image_words, old_image_words}
use Rattle.heap_model.specs.Image.{Image}
use Rattle.heap_model.specs.Header.{HasHeader, IsWellFormed, IsOldWellFormed, HasGoodHeader, HasKindsBelow, is_old, most_superblocks, whole_words, kinds_of, has_bad_kind, has_fault, header_fault}
use Rattle.heap_model.specs.Durability.{IsTransient, is_head, is_anchor, is_link}

-- where a choice between something and the rest is nothing, the test is false and the rest is nothing
none_parts : {A : Type 0} (test : Bool) (x : A) (rest : Option A) → cond test (Some x) rest ≡ None → (test ≡ false) × (rest ≡ None)
none_parts true x rest none = absurd (cc)
none_parts false x rest none = (refl, none)

-- a number that passes the negated test is the other
same_number : (a b : ℕ) → not (nat_eq a b) ≡ false → a ≡ b
same_number a b test = eqb-true a b (not-false (nat_eq a b) test)

-- the tests of a header, as they come out of a version with this greatest capacity and this many words
record Passes (the_version most words bytes : ℕ) (image : Image) : Type 0 where
  magic_is : not (nat_eq (image 0) magic) ≡ false
  version_is : image 1 ≡ the_version
  capacity : (nat_eq (image 2) 0 || nat_lt most (image 2)) ≡ false
  length_is : not (nat_eq bytes (8 * words)) ≡ false
  state : not (nat_eq (image 3) clean || nat_eq (image 3) dirty) ≡ false
  used : nat_lt (image 2) (image 8) ≡ false

-- a header that passes them is good as one of that version
has_header : (the_version most words bytes : ℕ) (image : Image) → Passes the_version most words bytes image
    → HasHeader the_version most words bytes image
has_header the_version most words bytes image tests =
    let range = or_parts (nat_eq (image 2) 0) (nat_lt most (image 2)) tests.capacity in
    let some : image 2 ≢ 0 = eqb-false (image 2) 0 range.0 in
    record {
      magic_is = same_number (image 0) magic tests.magic_is;
      version_is = tests.version_is;
      some = omega arith;
      small = ltb-false most (image 2) range.1;
      length_is = same_number bytes (8 * words) tests.length_is;
      state = elim (or_cases (nat_eq (image 3) clean) (nat_eq (image 3) dirty) (not-false _ tests.state)) as
          (λ _. (image 3 ≡ clean) ⊎ (image 3 ≡ dirty)) [
            | inl yes_clean ↦ inl (eqb-true (image 3) clean yes_clean)
            | inr yes_dirty ↦ inr (eqb-true (image 3) dirty yes_dirty)
          ];
      used = ltb-false (image 2) (image 8) tests.used;
    }

-- and one that is good so passes them
passes : (the_version most words bytes : ℕ) (image : Image) → HasHeader the_version most words bytes image → Passes the_version most words bytes image
passes the_version most words bytes image good =
    let some : nat_eq (image 2) 0 ≡ false = ne_eqb (image 2) 0 (λ none. let least = good.some in omega arith) in
    let small : nat_lt most (image 2) ≡ false = le-ltb most (image 2) good.small in
    record {
      magic_is = not_from_true _ (eq-eqb (image 0) magic good.magic_is);
      version_is = good.version_is;
      capacity = rw (some, small) refl;
      length_is = not_from_true _ (eq-eqb bytes (8 * words) good.length_is);
      state = not_from_true _ (elim good.state as (λ _. (nat_eq (image 3) clean || nat_eq (image 3) dirty) ≡ true) [
        | inl yes_clean ↦ or_left _ _ (eq-eqb (image 3) clean yes_clean)
        | inr yes_dirty ↦ or_right _ _ (eq-eqb (image 3) dirty yes_dirty)
      ]);
      used = le-ltb (image 2) (image 8) good.used;
    }

-- no kind is at or above the limit exactly where all are below
kinds_below : (limit : Option ℕ) (image : Image) → has_bad_kind limit image ≡ false → HasKindsBelow limit image
kinds_below None image none = tt
kinds_below (Some most) image none = λ i below. elim (cases_lt (kinds_of image i) most) as (λ _. kinds_of image i < most) [
  | inl less ↦ less
  | inr more ↦
      let long = length-range_with_len 0 roots in
      let found : get_or (range_with_len 0 roots) i 0 ≡ i = get_or-range_with_len 0 roots i 0 below ∙ omega arith in
      let some = list_any_at (λ k. nat_le most (kinds_of image k)) (range_with_len 0 roots) i 0 (omega arith)
      (rw (found) (le-leb most (kinds_of image i) more)) in
      absurd (cc)
]

none_above : (limit : Option ℕ) (image : Image) → HasKindsBelow limit image → has_bad_kind limit image ≡ false
none_above None image below = refl
none_above (Some most) image below = list_any_none (λ i. nat_le most (kinds_of image i)) (range_with_len 0 roots)
    (All-from_get_or (λ i. nat_le most (kinds_of image i) ≡ false) (range_with_len 0 roots) 0 (λ i inside.
    let long = length-range_with_len 0 roots in
    let found : get_or (range_with_len 0 roots) i 0 ≡ i = get_or-range_with_len 0 roots i 0 (omega arith) ∙ omega arith in
    rw (found) (lt-leb most (kinds_of image i) (below i (omega arith)))))

-- no cause: a good header of one of the versions
pub good_header : (limit : Option ℕ) (bytes : ℕ) (image : Image) → header_fault limit bytes image ≡ None → HasGoodHeader limit bytes image
unfolding header_fault has_fault
good_header limit bytes image none =
    let short = none_parts (nat_lt bytes 8512) Short _ none in
    let magic_is = none_parts (not (nat_eq (image 0) magic)) Magic _ short.1 in
    let version_is = none_parts (not (is_old image || nat_eq (image 1) version)) Version _ magic_is.1 in
    let capacity = none_parts (nat_eq (image 2) 0 || nat_lt (most_superblocks image) (image 2)) Capacity _ version_is.1 in
    let length_is = none_parts (not (nat_eq bytes (8 * whole_words image))) Length _ capacity.1 in
    let state = none_parts (not (nat_eq (image 3) clean || nat_eq (image 3) dirty)) State _ length_is.1 in
    let used = none_parts (nat_lt (image 2) (image 8)) Used _ state.1 in
    let kind = none_parts (not (is_old image) && has_bad_kind limit image) Kind _ used.1 in
    elim (or_cases (is_old image) (nat_eq (image 1) version) (not-false _ version_is.0)) as (λ _. HasGoodHeader limit bytes image) [
      | inl old ↦ inl (has_header old_version largest_old_capacity (old_image_words (image 2)) bytes image (record {
        magic_is = magic_is.0;
        version_is = eqb-true (image 1) old_version old;
        capacity = subst (λ test. (nat_eq (image 2) 0 || nat_lt (cond test largest_old_capacity largest_capacity) (image 2)) ≡ false) old capacity.0;
        length_is = subst (λ test. not (nat_eq bytes (8 * cond test (old_image_words (image 2)) (image_words (image 2)))) ≡ false) old length_is.0;
        state = state.0;
        used = used.0;
      }))
      | inr new ↦
          let two : image 1 ≡ version = eqb-true (image 1) version new in
          let not_old : is_old image ≡ false = ne_eqb (image 1) old_version (λ one. omega arith) in
          inr (
            has_header version largest_capacity (image_words (image 2)) bytes image (record {
              magic_is = magic_is.0;
              version_is = two;
              capacity = subst (λ test. (nat_eq (image 2) 0 || nat_lt (cond test largest_old_capacity largest_capacity) (image 2)) ≡ false)
                  not_old capacity.0;
              length_is = subst (λ test. not (nat_eq bytes (8 * cond test (old_image_words (image 2)) (image_words (image 2)))) ≡ false)
                  not_old length_is.0;
              state = state.0;
              used = used.0;
            }),
            kinds_below limit image (subst (λ test. (not test && has_bad_kind limit image) ≡ false) not_old kind.0),
          )
    ]

-- a header that passes the tests of its version has no cause but a kind
last_cause : (limit : Option ℕ) (the_version most words bytes : ℕ) (image : Image) → Passes the_version most words bytes image
    → most_superblocks image ≡ most → whole_words image ≡ words → (is_old image || nat_eq (image 1) version) ≡ true
    → 8512 ≤ bytes → header_fault limit bytes image ≡ cond (not (is_old image) && has_bad_kind limit image) (Some Kind) None
unfolding header_fault has_fault
last_cause limit the_version most words bytes image tests most_is words_are known long =
    let long_enough : nat_lt bytes 8512 ≡ false = le-ltb bytes 8512 long in
    let version_is = not_from_true _ known in
    rw (long_enough, tests.magic_is, version_is, most_is, words_are, tests.capacity, tests.length_is, tests.state, tests.used) refl

old_cause : (limit : Option ℕ) (bytes : ℕ) (image : Image) → IsOldWellFormed bytes image → header_fault limit bytes image ≡ None
old_cause limit bytes image good =
    let old : is_old image ≡ true = eq-eqb (image 1) old_version good.version_is in
    let length_is = good.length_is in
    last_cause limit old_version largest_old_capacity (old_image_words (image 2)) bytes image
    (passes old_version largest_old_capacity (old_image_words (image 2)) bytes image good)
    (rw (old) refl) (rw (old) refl) (or_left _ _ old) (omega arith)
    ∙ (rw (old) refl)

new_cause : (limit : Option ℕ) (bytes : ℕ) (image : Image) → IsWellFormed bytes image
    → header_fault limit bytes image ≡ cond (has_bad_kind limit image) (Some Kind) None
new_cause limit bytes image good =
    let two = good.version_is in
    let not_old : is_old image ≡ false = ne_eqb (image 1) old_version (λ one. omega arith) in
    let length_is = good.length_is in
    last_cause limit version largest_capacity (image_words (image 2)) bytes image
    (passes version largest_capacity (image_words (image 2)) bytes image good)
    (rw (not_old) refl) (rw (not_old) refl) (or_right _ _ (eq-eqb (image 1) version two)) (omega arith)
    ∙ (rw (not_old) refl)

pub no_fault : (limit : Option ℕ) (bytes : ℕ) (image : Image) → HasGoodHeader limit bytes image → header_fault limit bytes image ≡ None
no_fault limit bytes image (inl good) = old_cause limit bytes image good
no_fault limit bytes image (inr (good, below)) = new_cause limit bytes image good ∙ (rw (none_above limit image below) refl)

-- a kind at or above the limit is the cause where the header is good but for it
pub kind_fault : (limit : Option ℕ) (bytes : ℕ) (image : Image) → IsWellFormed bytes image → (HasKindsBelow limit image → ⊥)
    → header_fault limit bytes image ≡ Some Kind
kind_fault limit bytes image good above = new_cause limit bytes image good
    ∙ told (has_bad_kind limit image) (λ none. above (kinds_below limit image none)) where
      told : (test : Bool) → (test ≡ false → ⊥) → cond test (Some Kind) None ≡ Some Kind
      told true some = refl
      told false some = absurd (some refl)

-- a choice that is told with one rest is told with the other, where the rest is
told_too : {A : Type 0} (test : Bool) (x cause : A) (rest other : Option A) → (rest ≡ Some cause → other ≡ Some cause)
    → cond test (Some x) rest ≡ Some cause → cond test (Some x) other ≡ Some cause
told_too true x cause rest other later told = told
told_too false x cause rest other later told = later told

-- a cause that is told with no limit is told with each
pub told_with_limit : (limit : Option ℕ) (bytes : ℕ) (image : Image) (cause : BadHeader) → header_fault None bytes image ≡ Some cause
    → header_fault limit bytes image ≡ Some cause
unfolding header_fault has_fault
told_with_limit limit bytes image cause told =
    told_too (nat_lt bytes 8512) Short cause _ _
    (told_too (not (nat_eq (image 0) magic)) Magic cause _ _
    (told_too (not (is_old image || nat_eq (image 1) version)) Version cause _ _
    (told_too (nat_eq (image 2) 0 || nat_lt (most_superblocks image) (image 2)) Capacity cause _ _
    (told_too (not (nat_eq bytes (8 * whole_words image))) Length cause _ _
    (told_too (not (nat_eq (image 3) clean || nat_eq (image 3) dirty)) State cause _ _
    (told_too (nat_lt (image 2) (image 8)) Used cause _ _
    (no_kind (not (is_old image))))))))) told where
      no_kind : (test : Bool) → cond (test && false) (Some Kind) None ≡ Some cause
          → cond (test && has_bad_kind limit image) (Some Kind) None ≡ Some cause
      no_kind true none = absurd (cc)
      no_kind false none = absurd (cc)

-- what a crash leaves at random is no kind of a root
pub kinds_last : (capacity root : ℕ) → IsTransient capacity (kind_word capacity root) → ⊥
kinds_last capacity root (is_head list word few at) = omega arith
kinds_last capacity root (is_anchor d word less at) = omega arith
kinds_last capacity root (is_link d word less at) = omega arith

-- what a crash leaves at random is no word of the header before the heads
pub header_lasts : (capacity word : ℕ) → word < 16 → IsTransient capacity word → ⊥
header_lasts capacity _ low (is_head list word few at) = omega arith
header_lasts capacity _ low (is_anchor d word less at) = omega arith
header_lasts capacity _ low (is_link d word less at) = omega arith
