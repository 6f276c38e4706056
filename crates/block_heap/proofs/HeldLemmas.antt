-- Marks that are set and taken back: what becomes of the list of held blocks.
use Rattle.std.proofs.Common.{◌≡◌, ◌≢◌, ℕ, ◌+◌, ◌-◌, ◌*◌, ◌/◌, ◌<◌, ◌⊎◌, Bool, true, false, List, [], ◌∷◌, map, length, get_or, set, refl, sym, ◌∙◌, ap, subst, arith, inl, inr, replicate, Contains, get_or-set_same, get_or-set_other}
use Rattle.std.proofs.lemmas.Bool.{cases_eq}
use Rattle.heap_model.specs.declared.block.Block.{Block}
use Rattle.heap_model.proofs.PartLemmas.{same_fields}
use Rattle.heap_model.proofs.MemberLemmas.{in_none, in_head, in_rest, head_or_rest}
use Rattle.line_memory.proofs.LineStepLemmas.{unmarked}
use Rattle.line_memory.specs.Marks.{marked_words, IsMarked}
use Rattle.line_memory.specs.Marked.{marked_words-has, marked_words-only, marked_words-none}
use Rattle.block_heap.specs.Held.{block_of_mark, marked_blocks}
use Rattle.heap_shape.specs.Moves.{AddsTo, TakesFrom}

-- the block of a member is a member
pub has_map : (f : ℕ → Block) (xs : List ℕ) (x : ℕ) → Contains xs x → Contains (map f xs) (f x)
has_map f [] x p = absurd (in_none x p)
has_map f (y ∷ xs) x p =
    elim (head_or_rest y x xs p) [
      | inl same ↦ subst (λ (z : ℕ). Contains (f y ∷ map f xs) (f z)) same (in_head (f y) (map f xs))
      | inr later ↦ in_rest (f y) (f x) (map f xs) (has_map f xs x later)
    ]

-- and no other is
pub only_map : (f : ℕ → Block) (xs : List ℕ) (b : Block) → Contains (map f xs) b → (x : ℕ) × Contains xs x × (f x ≡ b)
only_map f [] b p = absurd (in_none b p)
only_map f (x ∷ xs) b p =
    elim (head_or_rest (f x) b (map f xs) p) [
      | inl same ↦ (x, in_head x xs, same)
      | inr later ↦ let rest = only_map f xs b later in (rest.0, in_rest x rest.0 xs rest.1, rest.2)
    ]

-- two functions that agree on the members
pub map_same : (f h : ℕ → Block) (xs : List ℕ) → ((x : ℕ) → Contains xs x → f x ≡ h x) → map f xs ≡ map h xs
map_same f h [] same = refl
map_same f h (x ∷ xs) same =
    let first : f x ≡ h x = same x (in_head x xs) in
    let rest : map f xs ≡ map h xs = map_same f h xs (λ y p. same y (in_rest x y xs p)) in
    cc

module _ (f : ℕ → Block) (marks : List Bool) (m : ℕ) (within : m < length marks) where
  -- a mark that is set adds its block
  pub adds : AddsTo (f m) (map f (marked_words marks)) (map f (marked_words (set marks m true)))
  adds =
      record {
        has = has_map f (marked_words (set marks m true)) m (marked_words-has (set marks m true) m (get_or-set_same marks m true false within));
        keeps = λ a p.
            let found = only_map f (marked_words marks) a p in
            let marked : IsMarked marks found.0 = marked_words-only marks found.0 found.1 in
            let still : IsMarked (set marks m true) found.0 =
            elim (cases_eq found.0 m) as (λ _. IsMarked (set marks m true) found.0) [
              | inl e ↦ subst (λ (k : ℕ). IsMarked (set marks m true) k) (sym e) (get_or-set_same marks m true false within)
              | inr ne ↦ get_or-set_other marks m found.0 true false ne ∙ marked
            ] in
            subst (λ (b : Block). Contains (map f (marked_words (set marks m true))) b) found.2
            (has_map f (marked_words (set marks m true)) found.0 (marked_words-has (set marks m true) found.0 still));
        only = λ a p.
            let found = only_map f (marked_words (set marks m true)) a p in
            let marked : IsMarked (set marks m true) found.0 = marked_words-only (set marks m true) found.0 found.1 in
            elim (cases_eq found.0 m) as (λ _. (a ≡ f m) ⊎ Contains (map f (marked_words marks)) a) [
              | inl e ↦ inl (sym found.2 ∙ ap f e)
              | inr ne ↦
                  let before : IsMarked marks found.0 = sym (get_or-set_other marks m found.0 true false ne) ∙ marked in
                  inr (subst (λ (b : Block). Contains (map f (marked_words marks)) b) found.2
                  (has_map f (marked_words marks) found.0 (marked_words-has marks found.0 before)))
            ];
      }

  -- a mark that is taken back takes its block away
  pub takes : ((i j : ℕ) → f i ≡ f j → i ≡ j) → TakesFrom (f m) (map f (marked_words marks)) (map f (marked_words (set marks m false)))
  takes one =
      record {
        gone = λ p.
            let found = only_map f (marked_words (set marks m false)) (f m) p in
            let marked : IsMarked (set marks m false) found.0 = marked_words-only (set marks m false) found.0 found.1 in
            let same : found.0 ≡ m = one found.0 m found.2 in
            let here : get_or (set marks m false) m false ≡ true = subst (λ (k : ℕ). IsMarked (set marks m false) k) same marked in
            let clear : get_or (set marks m false) m false ≡ false = get_or-set_same marks m false false within in
            cc;
        keeps = λ a p differs.
            let found = only_map f (marked_words marks) a p in
            let marked : IsMarked marks found.0 = marked_words-only marks found.0 found.1 in
            let other : found.0 ≢ m = λ e. differs (sym found.2 ∙ ap f e) in
            let still : IsMarked (set marks m false) found.0 = get_or-set_other marks m found.0 false false other ∙ marked in
            subst (λ (b : Block). Contains (map f (marked_words (set marks m false))) b) found.2
            (has_map f (marked_words (set marks m false)) found.0 (marked_words-has (set marks m false) found.0 still));
        only = λ a p.
            let found = only_map f (marked_words (set marks m false)) a p in
            let marked : IsMarked (set marks m false) found.0 = marked_words-only (set marks m false) found.0 found.1 in
            let other : found.0 ≢ m = λ e.
            let here : get_or (set marks m false) m false ≡ true = subst (λ (k : ℕ). IsMarked (set marks m false) k) e marked in
            let clear : get_or (set marks m false) m false ≡ false = get_or-set_same marks m false false within in
            cc in
            let before : IsMarked marks found.0 = sym (get_or-set_other marks m found.0 false false other) ∙ marked in
            subst (λ (b : Block). Contains (map f (marked_words marks)) b) found.2
            (has_map f (marked_words marks) found.0 (marked_words-has marks found.0 before));
      }

-- the block of a mark, told by its first word
pub mark_block : (start : ℕ) (words : List ℕ) (m word : ℕ) → start + 2 * m ≡ word
    → block_of_mark start words m ≡ record { first_word = word; words = get_or words ((word - start) / 8192) 0 }
mark_block start words m word at =
    let e : m / 4096 ≡ (word - start) / 8192 = omega arith in
    same_fields (block_of_mark start words m) (record { first_word = word; words = get_or words ((word - start) / 8192) 0 }) at
    (ap (λ (k : ℕ). get_or words k 0) e)

-- two marks have two blocks
pub one_mark : (start : ℕ) (words : List ℕ) (i j : ℕ) → block_of_mark start words i ≡ block_of_mark start words j → i ≡ j
one_mark start words i j e = let first : start + 2 * i ≡ start + 2 * j = ap (λ (b : Block). b.first_word) e in omega arith

-- new words for a superblock with no mark change no held block
pub same_blocks : (start : ℕ) (words : List ℕ) (marks : List Bool) (d new : ℕ) → ((mark : ℕ) → IsMarked marks mark → mark / 4096 ≢ d)
    → marked_blocks start (set words d new) marks ≡ marked_blocks start words marks
same_blocks start words marks d new none =
    map_same (block_of_mark start (set words d new)) (block_of_mark start words) (marked_words marks)
    (λ mark p. same_fields (block_of_mark start (set words d new) mark) (block_of_mark start words mark) refl
    (get_or-set_other words d (mark / 4096) new 0 (none mark (marked_words-only marks mark p))))

pub no_blocks : (start : ℕ) (words : List ℕ) (marks : List Bool) (n : ℕ) → marks ≡ replicate n false → marked_blocks start words marks ≡ []
no_blocks start words marks n e =
    ap (λ (xs : List ℕ). map (block_of_mark start words) xs)
    (marked_words-none marks (λ k. ap (λ (xs : List Bool). get_or xs k false) e ∙ unmarked n k))
