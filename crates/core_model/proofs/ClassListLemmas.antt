-- Lists by class in which one entry is another: which words they own.
use Rattle.std.proofs.Common.{◌≡◌, ℕ, zero, suc, ◌+◌, ◌<◌, ◌≤◌, inl, inr, cond, nat_eq, nat_lt, nat_le, ◌&&◌, List, [], ◌∷◌, ◌++◌, get_or, set, length, refl, ap, sym, subst, eq-eqb, ne_eqb, arith}
use Rattle.std.proofs.lemmas.Bool.{cases_eq}
use Rattle.heap_model.specs.Geometry.{lists, superblock_of}
use Rattle.heap_model.specs.Sizes.{words_of_class}
use Rattle.heap_model.specs.Counting.{times, one_if, without}
use Rattle.core_model.specs.Cells.{Cell, used_cell, head_cell, info_cell, anchor_cell, link_cell, root_cell, data_cell, no_cell}
use Rattle.core_model.specs.View.{Setup, View, times_own, times_raw, times_classed, times_large, times_within, times_in_classes}
use Rattle.core_model.specs.Effects.{first_of, rest_of}
use Rattle.core_model.proofs.TotalLemmas.{ne-eqb-none}
use Rattle.core_model.proofs.OwnerLemmas.{in_blocks}

-- the words of blocks by class, where one list changes
pub in_classes_set : (word class n : ℕ) (lists : List (List ℕ)) (bs : List ℕ) → n < length lists
    → times_in_classes word class (set lists n bs) + times_within (words_of_class (class + n)) word
    (get_or lists n []) ≡ times_in_classes word class lists + times_within (words_of_class (class + n)) word bs
in_classes_set word class n [] bs below = absurd (omega arith)
in_classes_set word class zero (cs ∷ lists) bs below = let same =
    ap (λ c. times_within (words_of_class c) word cs) (let e : class + 0 ≡ class = omega arith in e) in
    let other = ap (λ c. times_within (words_of_class c) word bs) (let e : class + 0 ≡ class = omega arith in e) in omega arith
in_classes_set word class (suc n) (cs ∷ lists) bs below = let rest = in_classes_set word (class + 1) n lists bs (omega arith) in
    let same = ap (λ c. times_within (words_of_class c) word (get_or lists n [])) (let e : class + 1 + n ≡ class + suc n = omega arith in e) in
    let other = ap (λ c. times_within (words_of_class c) word bs) (let e : class + 1 + n ≡ class + suc n = omega arith in e) in omega arith

pub within_append : (words word : ℕ) (bs cs : List ℕ) → times_within words word (bs ++ cs) ≡ times_within words word bs + times_within words word cs
within_append words word [] cs = omega arith
within_append words word (b ∷ bs) cs = let rest = within_append words word bs cs in omega arith

pub within_without : (words word b : ℕ) (bs : List ℕ) → 0 < times b bs
    → times_within words word (without b bs) + one_if (nat_le b word && nat_lt word (b + words)) ≡ times_within words word bs
within_without words word b [] some = absurd (omega arith)
within_without words word b (x ∷ bs) some = elim (cases_eq x b) as
    (λ _. times_within words word (cond (nat_eq x b) bs (x ∷ without b bs)) + one_if (nat_le b word && nat_lt word (b + words)) ≡ one_if
    (nat_le x word && nat_lt word (x + words)) + times_within words word bs) [
      | inl here ↦ subst (λ t. times_within words word (cond t bs (x ∷ without b bs)) + one_if (nat_le b word && nat_lt word (b + words)) ≡ one_if
          (nat_le x word && nat_lt word (x + words)) + times_within words word bs) (sym (eq-eqb x b here))
          (let same = ap (λ y. one_if (nat_le y word && nat_lt word (y + words))) here in omega arith)
      | inr other ↦ subst (λ t. times_within words word (cond t bs (x ∷ without b bs)) + one_if (nat_le b word && nat_lt word (b + words)) ≡ one_if
          (nat_le x word && nat_lt word (x + words)) + times_within words word bs) (sym (ne_eqb x b other))
          (let none = ne-eqb-none x b other in let rest = within_without words word b bs (omega arith) in omega arith)
    ]

pub first_rest : (bs : List ℕ) → 1 ≤ length bs → bs ≡ first_of bs ∷ rest_of bs
first_rest [] some = absurd (omega arith)
first_rest (b ∷ bs) some = refl

-- own words, where blocks only go from one place to another
pub own_moved : (v w : View) → w.setup ≡ v.setup → w.roots ≡ v.roots → w.raw ≡ v.raw → w.split ≡ v.split → w.cutting ≡ v.cutting
    → w.classed ≡ v.classed → w.large ≡ v.large
    → ((word : ℕ) → in_blocks w word ≡ in_blocks v word) → (cell : Cell) → times_own w cell ≡ times_own v cell
own_moved v w setup roots raw split cutting classed large blocks used_cell = refl
own_moved v w setup roots raw split cutting classed large blocks (head_cell list) = refl
own_moved v w setup roots raw split cutting classed large blocks (info_cell d) = let a = ap (times d) raw in let b = ap (times d) split in
    let c = ap (times d) cutting in omega arith
own_moved v w setup roots raw split cutting classed large blocks (anchor_cell d) = let a = ap (times d) raw in let b = ap (times d) split in
    let c = ap (times d) cutting in omega arith
own_moved v w setup roots raw split cutting classed large blocks (link_cell d) = let a = ap (times d) raw in let b = ap (times d) split in
    let c = ap (times d) cutting in let e = ap (times_classed d) classed in omega arith
own_moved v w setup roots raw split cutting classed large blocks (root_cell n) = ap (times n) roots
own_moved v w setup roots raw split cutting classed large blocks (data_cell word) =
    let d = superblock_of v.setup.capacity word in
    let here = ap (λ (s : Setup). times_large (superblock_of s.capacity word) w.large + times_raw (superblock_of s.capacity word) w) setup in
    let a = ap (times d) raw in let b = ap (times d) split in let c = ap (times d) cutting in let l = ap (times_large d) large in
    let e = blocks word in omega arith
own_moved v w setup roots raw split cutting classed large blocks no_cell = refl
