-- Which words are a seat's own, and what its blocks and superblocks are, by what it keeps.
use Rattle.std.proofs.Common.{◌≡◌, ℕ, ◌+◌, ◌-◌, ◌*◌, ◌/◌, ◌<◌, ◌≤◌, ◌↔◌, inl, inr, Bool, true, false, nat_lt, get_or, refl, ap, sym, subst, ◌∙◌, arith}
use Rattle.std.proofs.Math.Nat.{div-mul-le_self, lt-div-mul-add}
use Rattle.std.proofs.lemmas.Bool.{cases_lt, cases_order}
use Rattle.heap_model.specs.declared.block.Block.{Block}
use Rattle.heap_model.specs.Geometry.{roots, start_word, superblocks_end, superblock_words, superblock_of}
use Rattle.heap_model.specs.Sizes.{IsClass, words_of_class}
use Rattle.heap_model.specs.Counting.{times, total, one_if}
use Rattle.heap_model.proofs.BlockLemmas.{block_step}
use Rattle.heap_model.proofs.SizeLemmas.{two_words}
use Rattle.core_model.specs.Cells.{Cell, link_cell, root_cell, data_cell, cell_at}
use Rattle.core_model.specs.Memory.{Memory, memory_of, used, info}
use Rattle.core_model.specs.View.{View, of_class, times_own, times_raw, times_large, times_block, times_classed}
use Rattle.core_model.specs.Effects.{span_count, claim_class}
use Rattle.core_model.specs.Guards.{IsOwn}
use Rattle.core_model.specs.Held.{IsHeld, a_small, a_large}
use Rattle.core_model.specs.Sound.{Good, IsCutBlock}
use Rattle.core_model.proofs.BlockLemmas.{superblock_is}
use Rattle.core_model.proofs.LinkFrameLemmas.{span_covers}
use Rattle.core_model.proofs.OwnLemmas.{one_at_most}
use Rattle.core_model.proofs.OwnerLemmas.{in_blocks, covered, which_class, in_lists_total}
use Rattle.core_model.proofs.TotalLemmas.{total_at}
use Rattle.seat_state.proofs.DecisionLemmas.{one_true, refused}
use Rattle.seat_state.proofs.BlockRanges.{within_word, in_classes_word}
use Rattle.seat_state.proofs.CountLemmas.{no_span}
use Rattle.seat_state.proofs.WordLemmas.{entry_is}
use Rattle.seat_index.specs.declared.owned.Ownership.{Ownership}
use Rattle.seat_index.specs.declared.owned.Ownership.TheVariants as ownership
use Rattle.seat_index.specs.declared.owned.Owned.{Owned}
use Rattle.seat_index.specs.Owned.{unclassed_in, classed_in, class_in, large_in, count_in, IsOwnership, HasOwned, parts_of}
use Rattle.heap_table.specs.Plays.{HasSoundState}
use Rattle.seat_index.proofs.OwnedViews.{class_kept, taken_below}
use Rattle.seat_index.proofs.ViewBlocks.{span_below, block_cut, block_class, block_below, block_range}

module _ (v : View) (s : HasSoundState v) (o : Owned) (own : HasOwned o (parts_of v)) where
  abbrev m : Memory
  m = memory_of v.setup.capacity s.words

  abbrev good : Good v.setup m s.views
  good = s.sound.good

  pub ownership_is : (d : ℕ) (x : Ownership) → d < v.setup.capacity → x ≡ get_or o.ownerships.items d x → IsOwnership d x (parts_of v)
  ownership_is d x less is = subst (λ y. IsOwnership d y (parts_of v))
      (entry_is o.ownerships.items d ownership.Nothing x (let l = own.ownerships_long in omega arith) ∙ sym is) (own.ownerships d)

  pub classed_below : (d : ℕ) → 0 < times_classed d v.classed → d < v.setup.capacity
  classed_below d some = taken_below v s d (omega arith)

  pub claim_of : (d class : ℕ) (x : Ownership) → 0 < times_classed d v.classed → x ≡ get_or o.ownerships.items d x → class ≡ class_in x
      → (class ≡ claim_class d v.classed) × IsClass class
  claim_of d class x some is class_is = let e : class ≡ claim_class d v.classed = class_is ∙ sym (ownership_is d x (classed_below d some) is).class in
      (e, subst IsClass (sym e) ((good.claims s.seat v s.below s.at).is_classed d some).0)

  pub span_of : (d count : ℕ) (x : Ownership) → d < v.setup.capacity → x ≡ get_or o.ownerships.items d x → count ≡ count_in x
      → count ≡ span_count d v.large
  span_of d count x less is count_is = count_is ∙ sym (ownership_is d x less is).count

  -- own words of a root and of a descriptor
  pub root_own : (i : ℕ) (b : Bool) → i < roots → b ≡ get_or o.roots.items i b → (b ≡ true) ↔ (0 < times_own v (root_cell i))
  root_own i b less is = subst (λ x. (x ≡ true) ↔ (0 < times i v.roots))
      (entry_is o.roots.items i false b (let l = own.roots_long in omega arith) ∙ sym is) (own.roots_are i)

  pub info_own : (d : ℕ) (x : Ownership) (b : Bool) → d < v.setup.capacity → x ≡ get_or o.ownerships.items d x → one_if b ≡ unclassed_in x
      → (b ≡ true) ↔ (0 < times_raw d v)
  info_own d x b less is b_is = one_true b (times_raw d v) (let q = (ownership_is d x less is).unclassed in omega arith)

  pub link_own : (d : ℕ) (x : Ownership) (b : Bool) → d < v.setup.capacity → x ≡ get_or o.ownerships.items d x
      → one_if b ≡ unclassed_in x + classed_in x → (b ≡ true) ↔ (0 < times_own v (link_cell d))
  link_own d x b less is b_is = one_true b (times_own v (link_cell d)) (let q = (ownership_is d x less is).unclassed in
      let r = (ownership_is d x less is).is_classed in omega arith)

  module _ (word : ℕ) (from : start_word v.setup.capacity 0 ≤ word) (until : word < superblocks_end v.setup.capacity) (d : ℕ)
      (d_is : d ≡ superblock_of v.setup.capacity word) (x : Ownership) (x_is : x ≡ get_or o.ownerships.items d x) where
    pub d_below : d < v.setup.capacity
    d_below = omega arith

    parts_own : times_large (superblock_of v.setup.capacity word) v.large + times_raw
        (superblock_of v.setup.capacity word) v ≡ unclassed_in x + large_in x
    parts_own = ap (λ n. times_large n v.large + times_raw n v) (sym d_is)
        ∙ (let q = ownership_is d x d_below x_is in let a = q.unclassed in let b = q.is_large in omega arith)

    pub data_whole : 0 < unclassed_in x + large_in x → IsOwn v (data_cell word)
    data_whole some = let p = parts_own in omega arith

    module _ (none : unclassed_in x + large_in x ≡ 0) (class : ℕ) (class_is : class ≡ get_or o.classes.items d class) where
      class_at : class ≡ get_or o.classes.items d 0
      class_at = class_is ∙ entry_is o.classes.items d class 0 (let l = own.classes_long in let b = d_below in omega arith)

      block_has : (own_word : IsOwn v (data_cell word)) → (b : ℕ) × (0 < times_block b v) × IsCutBlock v.setup.capacity class d b × (b ≤ word)
          × (word < b + words_of_class class) × IsClass class
      block_has own_word = let p = parts_own in let has = covered v.setup m s.views good s.seat v s.below s.at word (omega arith) in
          let here : superblock_of v.setup.capacity has.0 ≡ d = in_superblock has.0 has.1.class has.1.is
          (subst IsClass has.1.info_is (good.shaped.chained.is_class (superblock_of v.setup.capacity word) has.1.cut)) in
          let same : has.1.class ≡ class = sym has.1.info_is ∙ ap (info m) (sym d_is ∙ sym here) ∙ sym (class_kept v s o own has.0 has.1.owned)
          ∙ ap (λ n. get_or o.classes.items n 0) here ∙ sym class_at in (
            has.0,
            has.1.owned,
            subst (λ n. IsCutBlock v.setup.capacity class n has.0) (sym d_is)
                (subst (λ n. IsCutBlock v.setup.capacity n (superblock_of v.setup.capacity word) has.0) same has.1.is),
            has.1.from,
            subst (λ n. word < has.0 + words_of_class n) same has.1.until,
            subst IsClass (sym has.1.info_is ∙ has.1.info_is ∙ same) (subst IsClass has.1.info_is
                (good.shaped.chained.is_class (superblock_of v.setup.capacity word) has.1.cut)),
          ) where
            in_superblock : (b c : ℕ) → IsCutBlock v.setup.capacity c (superblock_of v.setup.capacity word) b → IsClass c
                → superblock_of v.setup.capacity b ≡ d
            in_superblock b c cut is = superblock_is v.setup.capacity c (superblock_of v.setup.capacity word) b is cut ∙ sym d_is

      pub data_unclassed : (IsClass class → ⊥) → IsOwn v (data_cell word) → ⊥
      data_unclassed not own_word = not (block_has own_word).5

      module _ (is_class : IsClass class) (words block : ℕ) (words_are : words ≡ words_of_class class)
          (block_is : block ≡ start_word v.setup.capacity d + (word - start_word v.setup.capacity d) / words * words) where
        some_words : 0 < words
        some_words = let two = two_words class is_class in omega arith

        low : start_word v.setup.capacity d ≤ word
        low = omega arith

        before_word : block ≤ word
        before_word = let l = div-mul-le_self (word - start_word v.setup.capacity d) words in let a = low in omega arith

        after_word : word < block + words
        after_word = let l = lt-div-mul-add {a = word - start_word v.setup.capacity d} {b = words} some_words in let a = low in omega arith

        pub block_inside : block < superblocks_end v.setup.capacity
        block_inside = let b = before_word in omega arith

        block_at : superblock_of v.setup.capacity block ≡ d
        block_at = let a = before_word in (let y : start_word v.setup.capacity d ≤ block = omega arith in omega arith)

        until_class : (n : ℕ) → class ≡ n → word < block + words_of_class n
        until_class n is = subst (λ y. word < block + y) (words_are ∙ ap words_of_class is) after_word

        class_of : (n : ℕ) → get_or o.classes.items (superblock_of v.setup.capacity block) 0 ≡ n → class ≡ n
        class_of n is = class_at ∙ ap (λ e. get_or o.classes.items e 0) (sym block_at) ∙ is

        has_word : 0 < times_block block v → 0 < in_blocks v word
        has_word some = elim (cases_lt 0 (total (times block) v.small)) [
          | inl small ↦ let h = which_class block v.small small in
              let w = in_classes_word word block 0 h.n v.small before_word
              (until_class (0 + h.n) (let e = class_of h.n (own.classes.held h.n block h.there) in omega arith)) h.there in omega arith
          | inr not_small ↦ elim (cases_lt 0 (total (times block) v.caches)) [
            | inl cached ↦ let h = which_class block v.caches cached in
                let w = in_classes_word word block 0 h.n v.caches before_word
                (until_class (0 + h.n) (let e = class_of h.n (own.classes.cached h.n block h.there) in omega arith)) h.there in omega arith
            | inr not_cached ↦ let w = within_word (words_of_class v.batch.class) word block v.batch.blocks (omega arith) before_word
                (until_class v.batch.class (class_of v.batch.class (own.classes.batched block (omega arith)))) in omega arith
          ]
        ]

        same_step : (start i j y : ℕ) → y ≡ start + i * words → block ≡ start + j * words → y ≤ word → word < y + words → y ≡ block
        same_step start i j y at_y at_block a e = let f = before_word in let g = after_word in elim (cases_order i j) as (λ _. y ≡ block) [
          | inl one ↦ at_y ∙ ap (λ z. start + z * words) one ∙ sym at_block
          | inr two ↦ elim two as (λ _. y ≡ block) [
            | inl less ↦ absurd (let step = block_step i j words less in omega arith)
            | inr more ↦ absurd (let step = block_step j i words more in omega arith)
          ]
        ]

        pub data_own : (b : Bool) → b ≡ get_or o.blocks block false → (b ≡ true) ↔ IsOwn v (data_cell word)
        data_own b b_is = (
          λ e. let w = has_word ((own.blocks block).0 (sym b_is ∙ e)) in omega arith,
          λ own_word. let h = block_has own_word in b_is ∙ (own.blocks block).1
              (subst (λ n. 0 < times_block n v) (same_step (start_word v.setup.capacity d) h.2.index
              ((word - start_word v.setup.capacity d) / words) h.0 (h.2.at
              ∙ ap (λ n. start_word v.setup.capacity d + h.2.index * n) (sym words_are)) block_is h.3
              (subst (λ n. word < h.0 + n) (sym words_are) h.4)) h.1),
        )

  -- a held small block
  pub small_held : (class b d : ℕ) (x : Ownership) → 0 < times b (of_class v.small class) → d ≡ superblock_of v.setup.capacity b
      → x ≡ get_or o.ownerships.items d x → (d < v.setup.capacity) × IsClass class × (count_in x ≡ 0) × (get_or o.classes.items d 0 ≡ class)
  small_held class b d x there d_is x_is = (
    below_d,
    subst IsClass ((good.blocks s.seat v s.below s.at).held class b there)
        (block_class v s b owned),
    sym (ownership_is d x below_d x_is).count ∙ no_span d v.large none,
    ap (λ n. get_or o.classes.items n 0) d_is
        ∙ own.classes.held class b there,
  ) where
    owned : 0 < times_block b v
    owned = let t = in_lists_total b class v.small there in omega arith

    below_d : d < v.setup.capacity
    below_d = subst (λ n. n < v.setup.capacity) (sym d_is) (block_below v s b owned)

    none : times_large d v.large ≡ 0
    none = subst (λ n. times_large n v.large ≡ 0) (sym d_is) (let c = (block_cut v s b owned).0 in
        let p = good.shaped.placed.one_place (superblock_of v.setup.capacity b) in
        let most = one_at_most (nat_lt (superblock_of v.setup.capacity b) (used m)) in
        let t = total_at (λ (u : View). times_large (superblock_of v.setup.capacity b) u.large) s.views s.seat v s.below s.at in omega arith)

-- where a large block begins no small one is held, and the other way round; what is kept tells which it is, and how many words it has
pub record IsBlockAt (v : View) (d count class : ℕ) (b : Block) : Type 0 where
  pub from : start_word v.setup.capacity 0 ≤ b.first_word
  pub below : d < v.setup.capacity
  pub few : count ≤ v.setup.capacity
  pub large : 0 < count → b.words ≡ superblock_words * count
  pub small : count ≡ 0 → (b.words ≡ words_of_class class) × IsClass class

pub block_there : (v : View) (s : HasSoundState v) (o : Owned) (own : HasOwned o (parts_of v)) (b : Block) (d count : ℕ) (x : Ownership)
    → IsHeld v b → d ≡ superblock_of v.setup.capacity b.first_word → (d < v.setup.capacity → x ≡ get_or o.ownerships.items d x)
    → count ≡ count_in x → IsBlockAt v d count (get_or o.classes.items d 0) b
block_there v s o own b d count x (a_small class first there) d_is x_is count_is =
    let owned : 0 < times_block first v = (let t = in_lists_total first class v.small there in omega arith) in
    let less : d < v.setup.capacity = subst (λ n. n < v.setup.capacity) (sym d_is) (block_below v s first owned) in
    let h = small_held v s o own class first d x there d_is (x_is less) in record {
      from = (block_range v s first owned).0;
      below = less;
      few = (let z = h.2 in omega arith);
      large = λ some. absurd (let z = h.2 in omega arith);
      small = λ none. (ap words_of_class (sym h.3), subst IsClass (sym h.3) h.1);
    }
block_there v s o own b d count x (a_large e n some n_is) d_is x_is count_is =
    let here : d ≡ e = (let q = d_is in omega arith) in
    let span : span_count d v.large ≡ n = ap (λ k. span_count k v.large) here ∙ n_is in
    let less : d < v.setup.capacity = span_below v s d (omega arith) in
    let same : count ≡ n = span_of v s o own d count x less (x_is less) count_is ∙ span in record {
      from = omega arith;
      below = less;
      few = (let l = span_covers d (d + count - 1) v.large (omega arith) (omega arith) (omega arith) in
          let t = taken_below v s (d + count - 1) (omega arith) in omega arith);
      large = λ more. ap (λ k. superblock_words * k) (sym same);
      small = λ none. absurd (omega arith);
    }

-- the same by what is kept of its superblock
pub block_kept : (v : View) (s : HasSoundState v) (o : Owned) (own : HasOwned o (parts_of v)) (b : Block) (d : ℕ) → IsHeld v b
    → d ≡ superblock_of v.setup.capacity b.first_word
    → IsBlockAt v d (count_in (get_or o.ownerships.items d ownership.Nothing)) (get_or o.classes.items d 0) b
block_kept v s o own b d held d_is = block_there v s o own b d (count_in (get_or o.ownerships.items d ownership.Nothing))
    (get_or o.ownerships.items d ownership.Nothing) held d_is (λ less. entry_is o.ownerships.items d ownership.Nothing
    (get_or o.ownerships.items d ownership.Nothing) (let l = own.ownerships_long in omega arith)) refl

-- a word that is a cell, of the seat's or not
pub own_word : (v : View) (capacity word : ℕ) (cell : Cell) (b : Bool) → capacity ≡ v.setup.capacity → cell_at capacity word ≡ cell
    → (b ≡ true) ↔ IsOwn v cell → (b ≡ true) ↔ IsOwn v (cell_at v.setup.capacity word)
own_word v capacity word cell b cap is decides = subst (λ x. (b ≡ true) ↔ IsOwn v x) (sym (ap (λ n. cell_at n word) (sym cap) ∙ is)) decides

pub no_own_word : (v : View) (capacity word : ℕ) → capacity ≡ v.setup.capacity → ((u : View) → times_own u (cell_at capacity word) ≡ 0)
    → (false ≡ true) ↔ IsOwn v (cell_at v.setup.capacity word)
no_own_word v capacity word cap none = own_word v capacity word (cell_at capacity word) false cap refl (refused (λ some. let n = none v in omega arith))
