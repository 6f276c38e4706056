-- Facts on a set of pairs and its marks: what inserting a pair leaves.
use Rattle.std.proofs.Common.{◌≡◌, ℕ, ◌+◌, ◌<◌, ◌⊎◌, Bool, true, false, List, [], ◌∷◌, ◌++◌, length, get_or, set, refl, sym, subst, ◌∙◌, ap, arith, inl, inr, length-set, get_or-set_same, get_or-set_other, length-append}
use Rattle.std.specs.Prelude.{Contains, cond}
use Rattle.std.specs.List.{count_by}
use Rattle.std.proofs.lemmas.Bool.{cases_eq}
use Rattle.std.proofs.lemmas.Nat.{same_from_place}
use Rattle.std.proofs.lemmas.List.Sums.{sum_by-set}
use Rattle.std.proofs.lemmas.List.Elements.{Contains-push, Contains-push_cases, Contains-append_left}
use Rattle.heap_model.specs.declared.block.Block.{Block}
use Rattle.heap_model.specs.Blocks.{Layout, IsBlock}
use Rattle.heap_model.proofs.BlockLemmas.{same_first}
use Rattle.filter_trace.specs.Pairs.{mark_of, Inserts, present, added, IsMarkOfPair, AreMarked}

-- a pair in a list of one more is that one, or was there
pub pair_cases : (pairs : List (Block × ℕ)) (b c : Block) (k j : ℕ) → Contains (pairs ++ (b, k) ∷ []) (c, j)
    → Contains pairs (c, j) ⊎ ((b ≡ c) × (k ≡ j))
pair_cases pairs b c k j here =
    elim (Contains-push_cases pairs (b, k) (c, j) here) as (λ _. Contains pairs (c, j) ⊎ ((b ≡ c) × (k ≡ j))) [
      | inl old ↦ inl old
      | inr same ↦ inr (ap (λ (p : Block × ℕ). p.0) same, ap (λ (p : Block × ℕ). p.1) same)
    ]

-- blocks of one layout with one mark are one, and their kinds are
pub one_mark : (l : Layout) (kinds : ℕ) (b c : Block) (k j : ℕ) → IsBlock l b → IsBlock l c → k < kinds → j < kinds
    → mark_of kinds b k ≡ mark_of kinds c j → (b ≡ c) × (k ≡ j)
one_mark l kinds b c k j is_b is_c k_below j_below same =
    let place = same_from_place b.first_word k c.first_word j kinds k_below j_below same in
    (same_first l b c is_b is_c place.0, place.1)

-- a block and a kind whose mark is set are a pair
pub marked_pair : (l : Layout) (kinds : ℕ) (pairs : List (Block × ℕ)) (marks : List Bool) (b : Block) (k : ℕ)
    → AreMarked l kinds pairs marks → IsBlock l b → k < kinds → get_or marks (mark_of kinds b k) false ≡ true → Contains pairs (b, k)
marked_pair l kinds pairs marks b k work is below set_b =
    let found = work.only (mark_of kinds b k) set_b in
    let of = work.blocks found.block found.kind found.pair in
    let one = one_mark l kinds b found.block k found.kind is of.0 below of.1 found.at_is in
    subst (λ x. Contains pairs (x, k)) (sym one.0) (subst (λ x. Contains pairs (found.block, x)) (sym one.1) found.pair)

-- the mark of a pair is there
pub mark_inside : (l : Layout) (kinds : ℕ) (pairs : List (Block × ℕ)) (marks : List Bool) (b : Block) (k : ℕ)
    → AreMarked l kinds pairs marks → IsBlock l b → k < kinds → mark_of kinds b k < length marks
mark_inside l kinds pairs marks b k work is below = let room = work.room b is in omega arith

-- setting a mark that was not set counts one more
count_set : (marks : List Bool) (i : ℕ) → i < length marks → get_or marks i false ≡ false
    → count_by (λ mark. mark) (set marks i true) ≡ count_by (λ mark. mark) marks + 1
count_set marks i below clear =
    let moved = sum_by-set (λ (mark : Bool). cond mark 1 0) marks i true false below in
    let one : ℕ = 1 in
    let none : ℕ = 0 in
    let old : cond (get_or marks i false) one none ≡ none = rw clear refl in
    omega (arith, moved, old)

-- a pair that is not marked, added
added_marked : (l : Layout) (kinds : ℕ) (b : Block) (k : ℕ) (pairs : List (Block × ℕ)) (marks : List Bool)
    → AreMarked l kinds pairs marks → IsBlock l b → k < kinds → get_or marks (mark_of kinds b k) false ≡ false
    → AreMarked l kinds (pairs ++ (b, k) ∷ []) (set marks (mark_of kinds b k) true)
added_marked l kinds b k pairs marks work is below clear =
    let at : ℕ = mark_of kinds b k in
    let inside : at < length marks = mark_inside l kinds pairs marks b k work is below in
    let long : length (set marks at true) ≡ length marks = length-set marks at true in
    record {
      blocks = λ c j here. elim (pair_cases pairs b c k j here) as (λ _. IsBlock l c × (j < kinds)) [
        | inl old ↦ work.blocks c j old
        | inr same ↦ (subst (λ x. IsBlock l x) same.0 is, subst (λ x. x < kinds) same.1 below)
      ];
      marked = λ c j here. elim (cases_eq (mark_of kinds c j) at) as (λ _. get_or (set marks at true) (mark_of kinds c j) false ≡ true) [
        | inl one ↦ rw (one) (get_or-set_same marks at true false inside)
        | inr other ↦ elim (pair_cases pairs b c k j here) as (λ _. get_or (set marks at true) (mark_of kinds c j) false ≡ true) [
          | inl old ↦ get_or-set_other marks at (mark_of kinds c j) true false other ∙ work.marked c j old
          | inr same ↦ absurd (other (sym (ap (λ (x : Block). mark_of kinds x k) same.0 ∙ ap (λ x. mark_of kinds c x) same.1)))
        ]
      ];
      only = λ j set_j. elim (cases_eq j at) as (λ _. IsMarkOfPair kinds (pairs ++ (b, k) ∷ []) j) [
        | inl one ↦ record { block = b; kind = k; pair = Contains-push pairs (b, k); at_is = one }
        | inr other ↦
            let old = work.only j (sym (get_or-set_other marks at j true false other) ∙ set_j) in
            record {
              block = old.block;
              kind = old.kind;
              pair = Contains-append_left pairs ((b, k) ∷ []) (old.block, old.kind) old.pair;
              at_is = old.at_is;
            }
      ];
      room = λ c is_c. let room = work.room c is_c in omega arith;
      short = let short = work.short in omega arith;
      once = let count = count_set marks at inside clear in let once = work.once in let one = length-append pairs ((b, k) ∷ []) in omega arith;
    }

-- what inserting a pair leaves is marked as before
pub insert_marked : (l : Layout) (kinds : ℕ) (b : Block) (k : ℕ) (pairs pairs' : List (Block × ℕ)) (marks marks' : List Bool)
    → AreMarked l kinds pairs marks → IsBlock l b → k < kinds → Inserts kinds b k pairs pairs' marks marks' → AreMarked l kinds pairs' marks'
insert_marked l kinds b k pairs pairs' marks marks' work is below (present marked same_pairs same_marks) =
    subst (λ ps. AreMarked l kinds ps marks') (sym same_pairs) (subst (λ ms. AreMarked l kinds pairs ms) (sym same_marks) work)
insert_marked l kinds b k pairs pairs' marks marks' work is below (added clear new_pairs new_marks) =
    subst (λ ps. AreMarked l kinds ps marks') (sym new_pairs) (subst (λ ms. AreMarked l kinds (pairs ++ (b, k) ∷ []) ms) (sym new_marks)
    (added_marked l kinds b k pairs marks work is below clear))

-- and has the pair
pub insert_has : (l : Layout) (kinds : ℕ) (b : Block) (k : ℕ) (pairs pairs' : List (Block × ℕ)) (marks marks' : List Bool)
    → AreMarked l kinds pairs marks → IsBlock l b → k < kinds → Inserts kinds b k pairs pairs' marks marks' → Contains pairs' (b, k)
insert_has l kinds b k pairs pairs' marks marks' work is below (present marked same_pairs same_marks) =
    subst (λ ps. Contains ps (b, k)) (sym same_pairs) (marked_pair l kinds pairs marks b k work is below marked)
insert_has l kinds b k pairs pairs' marks marks' work is below (added clear new_pairs new_marks) =
    subst (λ ps. Contains ps (b, k)) (sym new_pairs) (Contains-push pairs (b, k))
