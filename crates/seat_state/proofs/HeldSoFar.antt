-- How often a seat has a small block, as the held blocks of a heap at rest get their seats one after the other.
use Rattle.std.proofs.Common.{◌≡◌, ◌≢◌, ℕ, zero, suc, ◌+◌, ◌<◌, ◌≤◌, inl, inr, true, false, cond, nat_eq, ◌&&◌, List, [], ◌∷◌, Contains, get_or, length, take, replicate, slice_index, refl, ap, ap₂, sym, subst, ◌∙◌, eq-eqb, eqb-true, arith}
use Rattle.std.proofs.lemmas.Bool.{cases_eq}
use Rattle.std.proofs.lemmas.List.{take_all, length-replicate}
use Rattle.std.proofs.lemmas.List.Elements.{Contains-get_or}
use Rattle.heap_model.specs.declared.block.Block.{Block}
use Rattle.heap_model.specs.Geometry.{lists, roots, info_word, image_words, superblock_of}
use Rattle.heap_model.specs.Counting.{times, total, one_if}
use Rattle.heap_model.specs.Rest.{IsReady}
use Rattle.heap_model.proofs.CountingLemmas.{one_if_true, one_if_false, total_append}
use Rattle.heap_model.proofs.MemberLemmas.{in_none, head_or_rest}
use Rattle.heap_model.proofs.SizeLemmas.{two_words}
use Rattle.core_model.specs.Opening.{picked, is_small, small_blocks, tabulate, AreOwners}
use Rattle.core_model.proofs.BlockLemmas.{inside_of}
use Rattle.core_model.proofs.PlaceLemmas.{pick, skip, not-eq, and_both, and_is}
use Rattle.core_model.proofs.OpenLemmas.{picked_in, tabulate_sum, small_at, small_sum}
use Rattle.core_model.proofs.OpenedPartLemmas
use Rattle.seat_state.proofs.PickedLemmas.{picked_more, none_before, small_once}

-- empty caches have no blocks
pub none_cached : (n b : ℕ) → total (times b) (replicate n []) ≡ 0
none_cached zero b = refl
none_cached (suc n) b = let rest = none_cached n b in omega arith

-- how often seat j has, of the first held blocks, one that begins at b
abbrev pub held_so_far : List Block → List ℕ → ℕ → ℕ → ℕ → ℕ
held_so_far held owners i j b = total (small_at b) (picked j (take i held) (take i owners))

-- the block at an index is held
pub block_there : (held : List Block) (i : ℕ) (p : Block) → i < length held → get_or held i p ≡ p → Contains held p
block_there held i p below at = subst (Contains held) at (Contains-get_or held i p below)

module _ (words : List ℕ) (held : List Block) (owners : List ℕ) (ready : IsReady words held) (long : length owners ≡ length held) where
  abbrev pub c : ℕ
  c = slice_index words 2

  -- a heap may be opened for one seat
  abbrev pub alone : List ℕ
  alone = replicate (length held) 0

  pub for_one : AreOwners held 1 alone (replicate roots 0)
  for_one = record {
    blocks = length-replicate {A = ℕ} (length held) 0;
    roots_all = length-replicate {A = ℕ} roots 0;
    block_seats = λ owner there. only_one (length held) owner there;
    root_seats = λ owner there. only_one roots owner there;
  } where
    only_one : (n owner : ℕ) → Contains (replicate n 0) owner → owner < 1
    only_one zero owner there = absurd (in_none owner there)
    only_one (suc n) owner there = elim (head_or_rest 0 owner (replicate n 0) there) [
      | inl same ↦ omega (arith, same)
      | inr later ↦ only_one n owner later
    ]

  pub small_of : (p : Block) → Contains held p → is_small p ≡ true → OpenedPartLemmas.IsSmall words held 0 1 alone (replicate roots 0) ready for_one p
  small_of p there small = OpenedPartLemmas.small_of words held 0 1 alone (replicate roots 0) ready for_one p there small

  pub within : (p : Block) → Contains held p → is_small p ≡ true → p.first_word < image_words c
  within p there small = let s = small_of p there small in let at = inside_of c s.class s.d p.first_word s.is_class s.is in
      let u = ready.formed.used in let t = s.taken in
      let two = two_words s.class s.is_class in omega (arith, at.0, at.1)

  module _ (i : ℕ) (p : Block) (o : ℕ) (below : i < length held) (at : get_or held i p ≡ p) (at_o : get_or owners i o ≡ o) where
    there : Contains held p
    there = block_there held i p below at

    more : (j b : ℕ) → held_so_far held owners (suc i) j b ≡ held_so_far held owners i j b + total (small_at b) (cond (nat_eq o j) (p ∷ []) [])
    more j b = ap (total (small_at b)) (picked_more j held owners i p o below at (omega arith) at_o)
        ∙ total_append (small_at b) (picked j (take i held) (take i owners)) (cond (nat_eq o j) (p ∷ []) [])

    more_mine : (b : ℕ) → held_so_far held owners (suc i) o b ≡ held_so_far held owners i o b + small_at b p
    more_mine b = let m = more o b in let e = ap (total (small_at b)) (pick (nat_eq o o) (p ∷ []) [] (eq-eqb o o refl)) in omega arith

    pub more_theirs : (j b : ℕ) → j ≢ o → held_so_far held owners (suc i) j b ≡ held_so_far held owners i j b
    more_theirs j b other = let m = more j b in let e = ap (total (small_at b))
        (skip (nat_eq o j) (p ∷ []) [] (not-eq o j (λ e. other (sym e)))) in omega arith

    -- a large block leaves all as it is
    pub large_more : is_small p ≡ false → (j b : ℕ) → held_so_far held owners (suc i) j b ≡ held_so_far held owners i j b
    large_more large j b = elim (cases_eq j o) [
      | inl mine ↦ subst (λ n. held_so_far held owners (suc i) n b ≡ held_so_far held owners i n b) (sym mine) (let m = more_mine b in
          let z = none b in omega arith)
      | inr other ↦ more_theirs j b other
    ] where
      none : (b : ℕ) → small_at b p ≡ 0
      none b = ap (λ t. one_if (t && nat_eq p.first_word b)) large

    -- a small block is its seat's, and was nobody's
    module _ (small : is_small p ≡ true) where
      once : small_at p.first_word p ≡ 1
      once = one_if_true (is_small p && nat_eq p.first_word p.first_word)
          (and_is (is_small p) (nat_eq p.first_word p.first_word) small (eq-eqb p.first_word p.first_word refl))

      elsewhere : (b : ℕ) → b ≢ p.first_word → small_at b p ≡ 0
      elsewhere b apart = one_if_false (is_small p && nat_eq p.first_word b)
          (λ t. apart (sym (eqb-true p.first_word b (and_both (is_small p) (nat_eq p.first_word b) t).1)))

      pub none_yet : (j : ℕ) → held_so_far held owners i j p.first_word ≡ 0
      none_yet j = none_before (small_at p.first_word) j held (take i owners) i p below at
          (let s = small_once held p ready.ascending there small in omega arith) once

      pub mine_here : held_so_far held owners (suc i) o p.first_word ≡ 1
      mine_here = let m = more_mine p.first_word in let z = none_yet o in let y = once in omega arith

      pub mine_elsewhere : (b : ℕ) → b ≢ p.first_word → held_so_far held owners (suc i) o b ≡ held_so_far held owners i o b
      mine_elsewhere b apart = let m = more_mine b in let z = elsewhere b apart in omega arith

  -- all of a seat's small blocks, in the list of their class
  pub all_held : (i : ℕ) → length held ≤ i → (j b : ℕ)
      → total (times b) (tabulate (λ class. small_blocks c (λ d. slice_index words (info_word d)) class (picked j held owners)) 0 lists)
      ≡ held_so_far held owners i j b
  all_held i past j b = tabulate_sum (times b) (λ class. small_blocks c (λ d. slice_index words (info_word d)) class (picked j held owners)) 0 lists
      ∙ small_sum c (λ d. slice_index words (info_word d)) b (picked j held owners) (λ p m small. is_class j p m small)
      ∙ sym (ap₂ (λ ps os. total (small_at b) (picked j ps os)) (take_all i held past) (take_all i owners (omega arith))) where
        is_class : (j : ℕ) (p : Block) → Contains (picked j held owners) p → is_small p ≡ true
            → slice_index words (info_word (superblock_of c p.first_word)) < lists
        is_class j p m small = let s = small_of p (picked_in j held owners p m) small in
            let e = ap (λ d. slice_index words (info_word d)) s.here in let f = s.info_at in let l = s.is_class.last in omega arith
