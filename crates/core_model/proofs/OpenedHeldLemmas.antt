-- Who holds what of an opened heap.
use Rattle.std.proofs.Common.{◌≡◌, ℕ, zero, suc, ◌+◌, ◌*◌, ◌/◌, ◌<◌, ◌≤◌, inl, inr, ◌⊎◌, ◌↔◌, Bool, true, false, cond, nat_eq, ◌&&◌, List, [], ◌∷◌, Contains, get_or, length, slice_index, refl, ap, sym, subst, ◌∙◌, eq-eqb, eqb-true, true≢false, arith}
use Rattle.std.proofs.lemmas.Bool.{cases_lt}
use Rattle.heap_model.specs.declared.block.Block.{Block}
use Rattle.heap_model.specs.Geometry.{lists, info_word, start_word, superblock_words, superblock_of}
use Rattle.heap_model.specs.Sizes.{words_of_class}
use Rattle.heap_model.specs.Counting.{times}
use Rattle.heap_model.specs.Blocks.{layout_of}
use Rattle.heap_model.specs.Rest.{IsReady}
use Rattle.heap_model.proofs.BlockLemmas.{same_first}
use Rattle.heap_model.proofs.PartLemmas.{same_fields}
use Rattle.heap_model.proofs.MemberLemmas.{in_head, in_rest, head_or_rest, in_none}
use Rattle.core_model.specs.Effects.{span_count}
use Rattle.core_model.specs.Held.{IsHeld, a_small, a_large}
use Rattle.core_model.specs.Opening.{picked, is_small, small_blocks, large_blocks, AreOwners, IsOwnerOf}
use Rattle.core_model.proofs.TotalLemmas.{eq-eqb-one}
use Rattle.core_model.proofs.PlaceLemmas.{and_is}
use Rattle.core_model.proofs.OpenLemmas.{length_tabulate, picked_in, small_from, small_member, span_of_block}
use Rattle.core_model.proofs.OpenCountLemmas.{beyond}
use Rattle.core_model.proofs.OpenedLemmas as opened
use Rattle.core_model.proofs.OpenedPartLemmas
pub use Rattle.core_model.proofs.RootLemmas.{owns_root}

-- what is picked for a seat stands where it is the owner, and all of that is picked
pub owner_of : (seat : ℕ) (held : List Block) (owners : List ℕ) (b : Block) → Contains (picked seat held owners) b → IsOwnerOf held owners seat b
owner_of seat [] owners b there = absurd (in_none b there)
owner_of seat (x ∷ xs) [] b there = absurd (in_none b there)
owner_of seat (x ∷ xs) (owner ∷ owners) b there = by_test (nat_eq owner seat) refl there (owner_of seat xs owners b) where
  later : IsOwnerOf xs owners seat b → IsOwnerOf (x ∷ xs) (owner ∷ owners) seat b
  later r = record { at = suc r.at; inside = (let i = r.inside in omega arith); is = r.is; owner = r.owner }

  by_test : (t : Bool) → nat_eq owner seat ≡ t → Contains (cond t (x ∷ picked seat xs owners) (picked seat xs owners)) b
      → (Contains (picked seat xs owners) b → IsOwnerOf xs owners seat b) → IsOwnerOf (x ∷ xs) (owner ∷ owners) seat b
  by_test true e p rest = elim (head_or_rest x b (picked seat xs owners) p) [
    | inl same ↦ record { at = 0; inside = omega arith; is = same; owner = eqb-true owner seat e }
    | inr q ↦ later (rest q)
  ]
  by_test false e p rest = later (rest p)

pub picked_for : (seat : ℕ) (held : List Block) (owners : List ℕ) (b : Block) → IsOwnerOf held owners seat b → Contains (picked seat held owners) b
picked_for seat held owners b o = by_index held owners o.at o.inside o.is o.owner where
  by_index : (xs : List Block) (os : List ℕ) (n : ℕ) → n < length xs → get_or xs n b ≡ b → get_or os n (seat + 1) ≡ seat
      → Contains (picked seat xs os) b
  by_index [] os n inside is owner = absurd (omega arith)
  by_index (x ∷ xs) [] n inside is owner = absurd (omega (arith, owner))
  by_index (x ∷ xs) (p ∷ os) zero inside is owner = subst (λ t. Contains (cond t (x ∷ picked seat xs os) (picked seat xs os)) b)
      (sym (eq-eqb p seat owner)) (subst (Contains (x ∷ picked seat xs os)) is (in_head x (picked seat xs os)))
  by_index (x ∷ xs) (p ∷ os) (suc n) inside is owner = by_test (nat_eq p seat) (by_index xs os n (omega arith) is owner) where
    by_test : (t : Bool) → Contains (picked seat xs os) b → Contains (cond t (x ∷ picked seat xs os) (picked seat xs os)) b
    by_test true q = in_rest x b (picked seat xs os) q
    by_test false q = q

-- a small block is in the list of its class
small_there : (capacity : ℕ) (infos : ℕ → ℕ) (class : ℕ) (ps : List Block) (p : Block) → Contains ps p → is_small p ≡ true
    → infos (superblock_of capacity p.first_word) ≡ class → 0 < times p.first_word (small_blocks capacity infos class ps)
small_there capacity infos class [] p there small is = absurd (in_none p there)
small_there capacity infos class (q ∷ ps) p there small is = by_test
    (is_small q && nat_eq (infos (superblock_of capacity q.first_word)) class) refl (head_or_rest q p ps there)
    (λ m. small_there capacity infos class ps p m small is) where
      by_test : (t : Bool) → (is_small q && nat_eq (infos (superblock_of capacity q.first_word)) class) ≡ t → (q ≡ p) ⊎ Contains ps p
          → (Contains ps p → 0 < times p.first_word (small_blocks capacity infos class ps))
          → 0 < times p.first_word (cond t (q.first_word ∷ small_blocks capacity infos class ps) (small_blocks capacity infos class ps))
      by_test true e (inl same) rest = let one = eq-eqb-one q.first_word p.first_word (ap (λ (x : Block). x.first_word) same) in omega arith
      by_test true e (inr m) rest = let r = rest m in omega arith
      by_test false e (inl same) rest = absurd (true≢false (sym (and_is (is_small q) (nat_eq (infos (superblock_of capacity q.first_word)) class)
          (ap is_small same ∙ small) (eq-eqb (infos (superblock_of capacity q.first_word)) class
          (ap (λ (x : Block). infos (superblock_of capacity x.first_word)) same ∙ is))) ∙ e))
      by_test false e (inr m) rest = rest m

-- a large block is a span, where each has a superblock at least
span_there : (capacity d : ℕ) (ps : List Block) (p : Block) → ((q : Block) → Contains ps q → is_small q ≡ false
    → 1 ≤ q.words / superblock_words) → Contains ps p → is_small p ≡ false → superblock_of capacity p.first_word ≡ d
    → 0 < span_count d (large_blocks capacity ps)
span_there capacity d [] p some there large is = absurd (in_none p there)
span_there capacity d (q ∷ ps) p some there large is = by_test (is_small q) (nat_eq (superblock_of capacity q.first_word) d) refl refl
    (head_or_rest q p ps there)
    (λ m. span_there capacity d ps p (λ x n. some x (in_rest q x ps n)) m large is) where
      by_test : (s t : Bool) → is_small q ≡ s → nat_eq (superblock_of capacity q.first_word) d ≡ t → (q ≡ p) ⊎ Contains ps p
          → (Contains ps p → 0 < span_count d (large_blocks capacity ps))
          → 0 < span_count d (cond s (large_blocks capacity ps) (record {
            first = superblock_of capacity q.first_word;
            count = q.words / superblock_words;
          } ∷ large_blocks capacity ps))
      by_test true t e f (inl same) rest = absurd (true≢false (sym e ∙ ap is_small same ∙ large))
      by_test true t e f (inr m) rest = rest m
      by_test false true e f m rest = let one = some q (in_head q ps) e in
          subst (λ u. 0 < cond u (q.words / superblock_words) (span_count d (large_blocks capacity ps))) (sym f) (omega arith)
      by_test false false e f (inl same) rest = absurd (true≢false (sym
          (eq-eqb (superblock_of capacity q.first_word) d (ap (λ (x : Block). superblock_of capacity x.first_word) same ∙ is)) ∙ f))
      by_test false false e f (inr m) rest = subst (λ u. 0 < cond u (q.words / superblock_words) (span_count d (large_blocks capacity ps)))
          (sym f) (rest m)

module _ (words : List ℕ) (held : List Block) (budget seats : ℕ) (block_owners root_owners : List ℕ) (ready : IsReady words held)
    (owners : AreOwners held seats block_owners root_owners) (i : ℕ) where
  abbrev c : ℕ
  c = slice_index words 2

  abbrev image : ℕ → ℕ
  image = slice_index words

  abbrev ps : List Block
  ps = picked i held block_owners

  all_held : (p : Block) → Contains ps p → Contains held p
  all_held p there = picked_in i held block_owners p there

  -- what a seat holds is its own
  holds_own : (b : Block) → IsHeld (OpenedPartLemmas.V words held budget seats block_owners root_owners ready owners i) b → Contains ps b
  holds_own b (a_small class first some) = elim (cases_lt class lists) [
    | inl less ↦
        let e = ap (times first) (opened.small_at_class words held budget seats block_owners root_owners ready owners i class less) in
        let p = small_from c (λ d. image (info_word d)) class first ps (omega arith) in
        let infos = small_member c (λ d. image (info_word d)) class first ps (omega arith) in
        let s = OpenedPartLemmas.small_of words held budget seats block_owners root_owners ready owners p.0 (all_held p.0 p.1) p.2 in
        let same : s.class ≡ class = sym s.info_at ∙ ap (λ d. image (info_word d)) (sym s.here ∙ ap (superblock_of c) p.3) ∙ infos in
        subst (Contains ps) (same_fields p.0 (record { first_word = first; words = words_of_class class }) p.3 (s.size ∙ ap words_of_class same)) p.1
    | inr past ↦ absurd (let n = beyond (OpenedPartLemmas.V words held budget seats block_owners root_owners ready owners i).small class first
        (let e = length_tabulate (λ n. small_blocks c (λ d. image (info_word d)) n ps) 0 lists in omega arith) in omega arith)
  ]
  holds_own b (a_large d n some count) =
      let p = span_of_block c d ps (omega arith) in
      let l = OpenedPartLemmas.large_of words held budget seats block_owners root_owners ready owners p.0 (all_held p.0 p.1) p.2 in
      let same : l.d ≡ d = sym l.here ∙ p.3 in
      let words_are : p.0.words ≡ superblock_words * n = (let e = p.4 in let f = l.size in omega arith) in
      subst (Contains ps) (same_fields p.0 (record { first_word = start_word c d; words = superblock_words * n }) (l.first
      ∙ ap (start_word c) same) words_are) p.1

  -- and all of that is held
  own_held : (b : Block) → Contains ps b → IsHeld (OpenedPartLemmas.V words held budget seats block_owners root_owners ready owners i) b
  own_held b there = by_kind (OpenedPartLemmas.held_cases words held budget seats block_owners root_owners ready owners b (all_held b there)) where
    by_kind : OpenedPartLemmas.IsSmall words held budget seats block_owners root_owners ready owners b
        ⊎ OpenedPartLemmas.IsLarge words held budget seats
        block_owners root_owners ready owners b → IsHeld (OpenedPartLemmas.V words held budget seats block_owners root_owners ready owners i) b
    by_kind (inl s) =
        let at : image (info_word (superblock_of c b.first_word)) ≡ s.class = ap (λ d. image (info_word d)) s.here ∙ s.info_at in
        let e = ap (times b.first_word) (opened.small_at_class words held budget seats block_owners root_owners ready owners i s.class
        (let l = s.is_class.last in omega arith)) in
        let there_once = small_there c (λ d. image (info_word d)) s.class ps b there s.small at in
        subst (IsHeld (OpenedPartLemmas.V words held budget seats block_owners root_owners ready owners i))
        (same_fields (record { first_word = b.first_word; words = words_of_class s.class }) b refl (sym s.size))
        (a_small s.class b.first_word (omega arith))
    by_kind (inr l) =
        let some = span_there c l.d ps b (λ q m large. let k = OpenedPartLemmas.large_of words held budget seats block_owners root_owners ready
        owners q
        (all_held q m) large in let e = k.size in let s = k.some in omega arith) there l.large l.here in
        let q = span_of_block c l.d ps some in
        let k = OpenedPartLemmas.large_of words held budget seats block_owners root_owners ready owners q.0 (all_held q.0 q.1) q.2 in
        let first : q.0.first_word ≡ b.first_word = k.first ∙ ap (start_word c) (sym k.here ∙ q.3) ∙ sym l.first in
        let one : q.0 ≡ b = same_first (layout_of image) q.0 b (ready.blocks q.0 (all_held q.0 q.1)) (ready.blocks b (all_held b there)) first in
        let count : span_count l.d (large_blocks c ps) ≡ l.count = sym q.4 ∙ ap (λ (x : Block). x.words / superblock_words) one
        ∙ (let e = l.size in omega arith) in
        subst (IsHeld (OpenedPartLemmas.V words held budget seats block_owners root_owners ready owners i))
        (same_fields (record { first_word = start_word c l.d; words = superblock_words * l.count }) b (sym l.first) (sym l.size))
        (a_large l.d l.count (let s = l.some in omega arith) count)

  pub holds_exactly : (b : Block) → IsHeld (OpenedPartLemmas.V words held budget seats block_owners root_owners ready owners i)
      b ↔ IsOwnerOf held block_owners i b
  holds_exactly b = (λ h. owner_of i held block_owners b (holds_own b h), λ o. own_held b (picked_for i held block_owners b o))
