-- Sums over the seats of a heap as it is opened.
use Rattle.std.proofs.Common.{◌≡◌, ℕ, zero, suc, ◌+◌, ◌/◌, ◌<◌, inl, inr, Bool, true, false, cond, nat_eq, ◌&&◌, List, [], ◌∷◌, Contains, get_or, length, refl, ap, sym, subst, ◌∙◌, eq-eqb, ne_eqb, eqb-true, arith}
use Rattle.std.proofs.lemmas.Bool.{cases_eq}
use Rattle.heap_model.specs.declared.block.Block.{Block}
use Rattle.heap_model.specs.Counting.{times, total, one_if, below}
use Rattle.heap_model.specs.Geometry.{lists, superblock_words, superblock_of}
use Rattle.heap_model.specs.Rest.{large_part}
use Rattle.heap_model.proofs.MemberLemmas.{in_head, in_rest, head_or_rest, in_none}
use Rattle.core_model.specs.Sound.{Each}
use Rattle.core_model.specs.View.{View, Span, takes, times_large}
use Rattle.core_model.specs.Effects.{steps, span_count}
use Rattle.core_model.specs.Opening.{picked, tabulate, is_small, small_blocks, large_blocks}
use Rattle.core_model.proofs.TotalLemmas.{total_change, total_alike, ne-eqb-none}
use Rattle.core_model.proofs.FrameLemmas.{times_steps, below_is, below_not}

-- a sum over numbers, of which one counts something more
sum_once : {A : Type 0} (c : A → ℕ) (x : A) (owner : ℕ) (rest : ℕ → List A) (ns : List ℕ) → times owner ns ≡ 1
    → total (λ j. total c (cond (nat_eq owner j) (x ∷ rest j) (rest j))) ns ≡ c x + total (λ j. total c (rest j)) ns
sum_once c x owner rest ns one =
    let step = total_change (λ j. total c (rest j)) (λ j. total c (cond (nat_eq owner j) (x ∷ rest j) (rest j))) owner ns
    (λ n other. ap (λ t. total c (cond t (x ∷ rest n) (rest n))) (ne_eqb owner n (λ z. other (sym z)))) one in
    let here : total c (cond (nat_eq owner owner) (x ∷ rest owner) (rest owner)) ≡ c x + total c (rest owner) =
    ap (λ t. total c (cond t (x ∷ rest owner) (rest owner))) (eq-eqb owner owner refl) in omega arith

number_once : (owner seats : ℕ) → owner < seats → times owner (steps 0 1 seats) ≡ 1
number_once owner seats less = let t = times_steps owner 0 seats in let a = below_not owner 0 (omega arith) in
    let b = below_is owner (0 + seats) (omega arith) in omega arith

none_sum : {A : Type 0} (c : A → ℕ) (ns : List ℕ) → total (λ j. total c []) ns ≡ 0
none_sum c [] = refl
none_sum c (n ∷ ns) = let rest = none_sum c ns in omega arith

-- what is dealt out to seats is all
pub picked_sum : {A : Type 0} (c : A → ℕ) (xs : List A) (owners : List ℕ) (seats : ℕ) → length owners ≡ length xs
    → ((owner : ℕ) → Contains owners owner → owner < seats)
    → total (λ j. total c (picked j xs owners)) (steps 0 1 seats) ≡ total c xs
picked_sum c [] owners seats long below = none_sum c (steps 0 1 seats)
picked_sum c (x ∷ xs) [] seats long below = absurd (omega arith)
picked_sum c (x ∷ xs) (owner ∷ owners) seats long below =
    sum_once c x owner (λ j. picked j xs owners) (steps 0 1 seats) (number_once owner seats (below owner (in_head owner owners)))
    ∙ ap (λ n. c x + n) (picked_sum c xs owners seats (let e : length owners ≡ length xs = omega arith in
    e) (λ o p. below o (in_rest owner o owners p)))

-- a picked member is a member
pub picked_in : {A : Type 0} (seat : ℕ) (xs : List A) (owners : List ℕ) (x : A) → Contains (picked seat xs owners) x → Contains xs x
picked_in seat [] owners x p = p
picked_in seat (y ∷ xs) [] x p = absurd (in_none x p)
picked_in seat (y ∷ xs) (owner ∷ owners) x p = by_test (nat_eq owner seat) p (picked_in seat xs owners x) where
  by_test : (test : Bool) → Contains (cond test (y ∷ picked seat xs owners) (picked seat xs owners)) x
      → (Contains (picked seat xs owners) x → Contains xs x) → Contains (y ∷ xs) x
  by_test true q rest = elim (head_or_rest y x (picked seat xs owners) q)
      [ inl same ↦ subst (Contains (y ∷ xs)) same (in_head y xs) | inr later ↦ in_rest y x xs (rest later) ]
  by_test false q rest = in_rest y x xs (rest q)

-- a sum over a table
pub tabulate_sum : {A : Type 0} (f : A → ℕ) (g : ℕ → A) (from n : ℕ) → total f (tabulate g from n) ≡ total (λ j. f (g j)) (steps from 1 n)
tabulate_sum f g from zero = refl
tabulate_sum f g from (suc n) = ap (λ x. f (g from) + x) (tabulate_sum f g (from + 1) n)

pub length_tabulate : {A : Type 0} (g : ℕ → A) (from n : ℕ) → length (tabulate g from n) ≡ n
length_tabulate g from zero = refl
length_tabulate g from (suc n) = ap suc (length_tabulate g (from + 1) n)

pub tabulate_at : {A : Type 0} (g : ℕ → A) (from n i : ℕ) (d : A) → i < n → get_or (tabulate g from n) i d ≡ g (from + i)
tabulate_at g from zero i d less = absurd (omega arith)
tabulate_at g from (suc n) zero d less = ap g (let e : from ≡ from + 0 = omega arith in e)
tabulate_at g from (suc n) (suc i) d less = tabulate_at g (from + 1) n i d (omega arith) ∙ ap g (let e : from + 1 + i ≡ from + suc i = omega arith in e)

pub total_in : {A : Type 0} (f g : A → ℕ) (xs : List A) → ((x : A) → Contains xs x → f x ≡ g x) → total f xs ≡ total g xs
total_in f g [] same = refl
total_in f g (x ∷ xs) same = let here = same x (in_head x xs) in let rest = total_in f g xs (λ y p. same y (in_rest x y xs p)) in omega arith

pub total_zero : {A : Type 0} (f : A → ℕ) (xs : List A) → ((x : A) → f x ≡ 0) → total f xs ≡ 0
total_zero f [] none = refl
total_zero f (x ∷ xs) none = let here = none x in let rest = total_zero f xs none in omega arith

-- small blocks stand in the list of their class, once
abbrev pub small_at : ℕ → Block → ℕ
small_at b p = one_if (is_small p && nat_eq p.first_word b)

pub small_sum : (capacity : ℕ) (infos : ℕ → ℕ) (b : ℕ) (ps : List Block)
    → ((p : Block) → Contains ps p → is_small p ≡ true → infos (superblock_of capacity p.first_word) < lists)
    → total (λ class. times b (small_blocks capacity infos class ps)) (steps 0 1 lists) ≡ total (small_at b) ps
small_sum capacity infos b [] classes = total_zero (λ class. 0) (steps 0 1 lists) (λ x. refl)
small_sum capacity infos b (p ∷ ps) classes = by_test (is_small p) refl (small_sum capacity infos b ps (λ q m. classes q (in_rest p q ps m))) where
  own : ℕ
  own = infos (superblock_of capacity p.first_word)

  by_test : (test : Bool) → is_small p ≡ test → total (λ class. times b (small_blocks capacity infos class ps)) (steps 0 1 lists) ≡ total
      (small_at b) ps
      → total (λ class. times b (cond (is_small p && nat_eq own class) (p.first_word ∷ small_blocks capacity infos class ps)
      (small_blocks capacity infos class ps))) (steps 0 1 lists)
      ≡ one_if (is_small p && nat_eq p.first_word b) + total (small_at b) ps
  by_test true small rest =
      let step = total_change (λ class. times b (small_blocks capacity infos class ps))
      (λ class. times b (cond (is_small p && nat_eq own class) (p.first_word ∷ small_blocks capacity infos class ps)
      (small_blocks capacity infos class ps))) own (steps 0 1 lists)
      (λ n other. ap (λ t. times b (cond (t && nat_eq own n) (p.first_word ∷ small_blocks capacity infos n ps)
      (small_blocks capacity infos n ps))) small
      ∙ ap (λ t. times b (cond t (p.first_word ∷ small_blocks capacity infos n ps) (small_blocks capacity infos n ps)))
      (ne_eqb own n (λ z. other (sym z))))
      (number_once own lists (classes p (in_head p ps) small)) in
      let here : times b (cond (is_small p && nat_eq own own) (p.first_word ∷ small_blocks capacity infos own ps)
      (small_blocks capacity infos own ps)) ≡ one_if (nat_eq p.first_word b) + times b (small_blocks capacity infos own ps)
      = ap (λ t. times b (cond (t && nat_eq own own) (p.first_word ∷ small_blocks capacity infos own ps) (small_blocks capacity infos own ps))) small
      ∙ ap (λ t. times b (cond t (p.first_word ∷ small_blocks capacity infos own ps) (small_blocks capacity infos own ps))) (eq-eqb own own refl) in
      let counted : one_if (is_small p && nat_eq p.first_word b) ≡ one_if (nat_eq p.first_word b) =
      ap (λ t. one_if (t && nat_eq p.first_word b)) small in omega arith
  by_test false large rest =
      let same = total_alike (λ class. times b (cond (is_small p && nat_eq own class) (p.first_word ∷ small_blocks capacity infos class ps)
      (small_blocks capacity infos class ps)))
      (λ class. times b (small_blocks capacity infos class ps)) (steps 0 1 lists)
      (λ n. ap (λ t. times b (cond (t && nat_eq own n) (p.first_word ∷ small_blocks capacity infos n ps) (small_blocks capacity infos n ps))) large) in
      let counted : one_if (is_small p && nat_eq p.first_word b) ≡ 0 = ap (λ t. one_if (t && nat_eq p.first_word b)) large in omega arith

-- a block of a list of a class is small, and of the class
pub small_member : (capacity : ℕ) (infos : ℕ → ℕ) (class b : ℕ) (ps : List Block) → 0 < times b (small_blocks capacity infos class ps)
    → infos (superblock_of capacity b) ≡ class
small_member capacity infos class b [] some = absurd (omega arith)
small_member capacity infos class b (p ∷ ps) some = by_test (is_small p) (nat_eq (infos (superblock_of capacity p.first_word)) class) refl some
    (small_member capacity infos class b ps) where
      by_test : (s t : Bool) → nat_eq (infos (superblock_of capacity p.first_word)) class ≡ t
          → 0 < times b (cond (s && t) (p.first_word ∷ small_blocks capacity infos class ps) (small_blocks capacity infos class ps))
          → (0 < times b (small_blocks capacity infos class ps) → infos (superblock_of capacity b) ≡ class) → infos (superblock_of capacity b) ≡ class
      by_test true true e more rest = elim (cases_eq p.first_word b) [
        | inl same ↦ ap (λ x. infos (superblock_of capacity x)) (sym same) ∙ eqb-true (infos (superblock_of capacity p.first_word)) class e
        | inr other ↦ rest (let n = ne-eqb-none p.first_word b other in omega arith)
      ]
      by_test true false e more rest = rest more
      by_test false t e more rest = rest more

-- the large blocks take as many superblocks as their words do
pub large_sum : (capacity d : ℕ) (ps : List Block) → ((p : Block) → Contains ps p → is_small p ≡ false
    → one_if (takes d (record { first = superblock_of capacity p.first_word; count = p.words / superblock_words })) ≡ large_part capacity d p)
    → ((p : Block) → Contains ps p → is_small p ≡ true → large_part capacity d p ≡ 0)
    → times_large d (large_blocks capacity ps) ≡ total (large_part capacity d) ps
large_sum capacity d [] large small = refl
large_sum capacity d (p ∷ ps) large small = by_test (is_small p) refl
    (large_sum capacity d ps (λ q m. large q (in_rest p q ps m)) (λ q m. small q (in_rest p q ps m))) where
      by_test : (test : Bool) → is_small p ≡ test → times_large d (large_blocks capacity ps) ≡ total (large_part capacity d) ps
          → times_large d (cond test (large_blocks capacity ps) (record {
            first = superblock_of capacity p.first_word;
            count = p.words / superblock_words;
          } ∷ large_blocks capacity ps)) ≡ large_part capacity d p + total (large_part capacity d) ps
      by_test true is rest = let none = small p (in_head p ps) is in omega arith
      by_test false is rest = let same = large p (in_head p ps) is in omega arith

-- a span is that of a large block
pub span_of_block : (capacity d : ℕ) (ps : List Block) → 0 < span_count d (large_blocks capacity ps) → (p : Block) × Contains ps p
    × (is_small p ≡ false) × (superblock_of capacity p.first_word ≡ d) × (p.words / superblock_words ≡ span_count d (large_blocks capacity ps))
span_of_block capacity d [] some = absurd (omega arith)
span_of_block capacity d (p ∷ ps) some = by_test (is_small p) (nat_eq (superblock_of capacity p.first_word) d) refl refl some
    (span_of_block capacity d ps) where
      at_span : (t : Bool) → ℕ
      at_span t = cond t (p.words / superblock_words) (span_count d (large_blocks capacity ps))

      by_test : (s t : Bool) → is_small p ≡ s → nat_eq (superblock_of capacity p.first_word) d ≡ t
          → 0 < span_count d (cond s (large_blocks capacity ps) (record {
            first = superblock_of capacity p.first_word;
            count = p.words / superblock_words;
          } ∷ large_blocks capacity ps))
          → (0 < span_count d (large_blocks capacity ps) → (q : Block) × Contains ps q × (is_small q ≡ false)
          × (superblock_of capacity q.first_word ≡ d) × (q.words / superblock_words ≡ span_count d (large_blocks capacity ps)))
          → (q : Block) × Contains (p ∷ ps) q × (is_small q ≡ false) × (superblock_of capacity q.first_word ≡ d)
          × (q.words / superblock_words ≡ span_count d (cond s (large_blocks capacity ps)
          (record { first = superblock_of capacity p.first_word; count = p.words / superblock_words } ∷ large_blocks capacity ps)))
      by_test true t e f more rest = let r = rest more in (r.0, in_rest p r.0 ps r.1, r.2, r.3, r.4)
      by_test false true e f more rest = (
        p,
        in_head p ps,
        e,
        eqb-true (superblock_of capacity p.first_word) d f,
        sym (ap (λ u. cond u (p.words / superblock_words) (span_count d (large_blocks capacity ps))) f),
      )
      by_test false false e f more rest =
          let same : span_count d (record {
            first = superblock_of capacity p.first_word;
            count = p.words / superblock_words;
          } ∷ large_blocks capacity ps) ≡ span_count d (large_blocks capacity ps)
          = ap (λ u. cond u (p.words / superblock_words) (span_count d (large_blocks capacity ps))) f in
          let r = rest (omega arith) in (r.0, in_rest p r.0 ps r.1, r.2, r.3, r.4 ∙ sym same)

-- the block that an entry of a list of a class is
pub small_from : (capacity : ℕ) (infos : ℕ → ℕ) (class b : ℕ) (ps : List Block) → 0 < times b (small_blocks capacity infos class ps)
    → (p : Block) × Contains ps p × (is_small p ≡ true) × (p.first_word ≡ b)
small_from capacity infos class b [] some = absurd (omega arith)
small_from capacity infos class b (p ∷ ps) some = by_test (is_small p) (nat_eq (infos (superblock_of capacity p.first_word)) class) refl some
    (small_from capacity infos class b ps) where
      by_test : (s t : Bool) → is_small p ≡ s → 0 < times b (cond (s && t) (p.first_word ∷ small_blocks capacity infos class ps)
          (small_blocks capacity infos class ps))
          → (0 < times b (small_blocks capacity infos class ps) → (q : Block) × Contains ps q × (is_small q ≡ true) × (q.first_word ≡ b))
          → (q : Block) × Contains (p ∷ ps) q × (is_small q ≡ true) × (q.first_word ≡ b)
      by_test true true e more rest = elim (cases_eq p.first_word b) [
        | inl same ↦ (p, in_head p ps, e, same)
        | inr other ↦ let r = rest (let n = ne-eqb-none p.first_word b other in omega arith) in (r.0, in_rest p r.0 ps r.1, r.2, r.3)
      ]
      by_test true false e more rest = let r = rest more in (r.0, in_rest p r.0 ps r.1, r.2, r.3)
      by_test false t e more rest = let r = rest more in (r.0, in_rest p r.0 ps r.1, r.2, r.3)

-- a member of the spans is that of a large block
pub span_from : (capacity : ℕ) (ps : List Block) (span : Span) → Contains (large_blocks capacity ps) span → (p : Block) × Contains ps p
    × (is_small p ≡ false) × (span.count ≡ p.words / superblock_words)
span_from capacity [] span m = absurd (in_none span m)
span_from capacity (p ∷ ps) span m = by_test (is_small p) refl m (span_from capacity ps span) where
  by_test : (s : Bool) → is_small p ≡ s → Contains (cond s (large_blocks capacity ps)
      (record { first = superblock_of capacity p.first_word; count = p.words / superblock_words } ∷ large_blocks capacity ps)) span
      → (Contains (large_blocks capacity ps) span → (q : Block) × Contains ps q × (is_small q ≡ false)
      × (span.count ≡ q.words / superblock_words)) → (q : Block) × Contains (p ∷ ps) q × (is_small q ≡ false)
      × (span.count ≡ q.words / superblock_words)
  by_test true e n rest = let r = rest n in (r.0, in_rest p r.0 ps r.1, r.2, r.3)
  by_test false e n rest = elim (head_or_rest (record { first = superblock_of capacity p.first_word; count = p.words / superblock_words }) span
      (large_blocks capacity ps) n) [
        | inl same ↦ (p, in_head p ps, e, sym (ap (λ (x : Span). x.count) same))
        | inr later ↦ let r = rest later in (r.0, in_rest p r.0 ps r.1, r.2, r.3)
      ]

-- what is so of each view of a table
pub each_tabulate : (g : ℕ → View) (n : ℕ) (P : View → Type 0) → ((j : ℕ) → j < n → P (g j)) → Each (tabulate g 0 n) P
each_tabulate g n P all = λ j v below at. let less : j < n = subst (λ x. j < x) (length_tabulate g 0 n) below in
    subst P (sym (tabulate_at g 0 n j v less) ∙ at) (all (0 + j) (omega arith))
