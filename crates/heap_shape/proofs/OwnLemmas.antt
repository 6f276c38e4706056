-- Stores to words of held blocks and to roots, and the same held blocks in another order, leave the shape.
use Rattle.std.proofs.Common.{◌≡◌, ◌≢◌, ℕ, zero, suc, ◌+◌, ◌*◌, ◌<◌, ◌≤◌, ◌⊎◌, inl, inr, true, cond, nat_eq, List, length, Contains, refl, ap, sym, subst, ◌∙◌, arith}
use Rattle.std.proofs.Math.Nat.{zero-mul}
use Rattle.std.proofs.lemmas.Bool.{agree_below, eqb-true, eq-eqb, cond-true}
use Rattle.heap_model.specs.declared.block.Block.{Block}
use Rattle.heap_model.specs.Geometry.{lists, roots, head_word, root_word, info_word, anchor_word, link_word, used_word, start_word, superblock_words}
use Rattle.heap_model.specs.Image.{Image}
use Rattle.heap_model.specs.Sizes.{IsClass, class_sizes, blocks_of, words_of_class, last_class}
use Rattle.heap_model.specs.Words.{anchor_state, anchor_first, anchor_count, empty_state, partial_state, head_first}
use Rattle.heap_model.specs.Blocks.{Begins, of_class, as_large, IsBlock, IsIn}
use Rattle.heap_model.specs.Chains.{Follows, Walks}
use Rattle.heap_model.specs.Counting.{times}
use Rattle.heap_model.proofs.SizeLemmas.{at_class, two_words, few_words}
use Rattle.heap_model.proofs.BlockLemmas.{never_overlap, block_inside, block_begins}
use Rattle.heap_at_rest.proofs.PartLemmas.{part_taken}
use Rattle.heap_at_rest.proofs.ListLemmas.{follows_same, times_of, walks_same}
use Rattle.heap_at_rest.proofs.LayoutLemmas.{class_block as a_class_block, same_there}
use Rattle.heap_shape.specs.Shape.{Place, in_list, is_full, in_large, is_new, Shape}
use Rattle.heap_shape.specs.Standing.{first_of, a_free, a_held, IsOfClass, IsAs}
use Rattle.heap_at_rest.specs.Draining.{HasNoHeld, layout_at}
use Rattle.heap_shape.specs.Whole.{IsCachedIn, IsShape}
use Rattle.heap_shape.specs.Effects.{IsSet, IsInSuperblock}
use Rattle.heap_shape.proofs.BasicLemmas.{first_inside, member_place}
use Rattle.heap_shape.proofs.FrameLemmas.{SameThere, frame}
use Rattle.heap_shape.proofs.CacheLemmas.{cached_apart}

-- no word of a held block is the first one of a block in the chain of a superblock
chained_apart : (capacity class d w : ℕ) (image : Image) (held : List Block) (s : Shape) (b : Block) → IsShape capacity image held s
    → IsOfClass capacity image s held class d
    → Contains (s.chain d) w → Contains held b → IsIn b w → ⊥
chained_apart capacity class d w image held s b shape is chained holds is_in =
    let free : Block = record { first_word = w; words = words_of_class class } in
    let first = is.blocks w chained in
    let two = two_words class is.is_class in
    let some = times_of w (s.chain d) chained in
    let here : 0 < times (first_of capacity class d first.index) (s.chain d) = subst (λ v. 0 < times v (s.chain d)) first.at some in
    let from = is_in.from in
    let until = is_in.until in
    let is_block : IsBlock (layout_at capacity image) free =
    a_class_block (layout_at capacity image) class d first.index free is.taken is.info is.is_class
    (record { below = first.below; at = first.at; size = refl }) in
    elim (is.owned first.index first.below) as (λ _. ⊥) [
      | a_held none at ↦ omega arith
      | a_free once unheld ↦ elim (never_overlap (layout_at capacity image) free b is_block (shape.named b holds)) as (λ _. ⊥) [
        | inl same ↦ unheld (record { block = b; holds = holds; at = ap (λ (x : Block). x.first_word) (sym same) ∙ first.at })
        | inr apart ↦ elim apart as (λ _. ⊥) [ inl before ↦ omega arith | inr behind ↦ omega arith ]
      ]
    ]

-- the words that the shape is read from stay: `used`, heads, descriptors, and the first words of free blocks
record KeepsRead (capacity : ℕ) (image new : Image) (held : List Block) (s : Shape) : Type 0 where
  pub used : new used_word ≡ image used_word
  pub head : (list : ℕ) → list < lists → new (head_word list) ≡ image (head_word list)
  pub info : (d : ℕ) → d < capacity → new (info_word d) ≡ image (info_word d)
  pub anchor : (d : ℕ) → d < capacity → new (anchor_word d) ≡ image (anchor_word d)
  pub link : (d : ℕ) → d < capacity → new (link_word d) ≡ image (link_word d)
  pub chained : (class d w : ℕ) → d < capacity → IsOfClass capacity image s held class d → Contains (s.chain d) w → new w ≡ image w
  pub cached : (class w : ℕ) → IsClass class → Contains (s.cached class) w → new w ≡ image w

-- so the shape stays
module _ (capacity : ℕ) (image new : Image) (held : List Block) (s : Shape) (shape : IsShape capacity image held s)
    (keeps : KeepsRead capacity image new held s) where
  kept_class : (class d : ℕ) → d < capacity → IsOfClass capacity image s held class d → IsOfClass capacity new s held class d
  kept_class class d within is = record {
    is_class = is.is_class;
    taken = subst (λ u. d < u) (sym keeps.used) is.taken;
    info = keeps.info d within ∙ is.info;
    owned = is.owned;
    blocks = is.blocks;
    walks = subst (λ a. Walks new (first_of capacity class d (anchor_first a)) (s.chain d)) (sym (keeps.anchor d within))
        (walks_same image new (first_of capacity class d (anchor_first (image (anchor_word d)))) (s.chain d)
        (λ w p. keeps.chained class d w within is p) is.walks);
    count = ap anchor_count (keeps.anchor d within) ∙ is.count;
  }

  kept_place : (d : ℕ) → d < capacity → (p : Place) → IsAs capacity image s held d p → IsAs capacity new s held d p
  kept_place d within (in_list zero) is = record {
    taken = subst (λ u. d < u) (sym keeps.used) is.taken;
    state = ap anchor_state (keeps.anchor d within) ∙ is.state;
    none = is.none;
  }
  kept_place d within (in_list (suc c)) is = record {
    of_class = kept_class (suc c) d within is.of_class;
    some = is.some;
    state = subst (λ a. ((anchor_state a ≡ empty_state) × (length (s.chain d) ≡ blocks_of (suc c))) ⊎ ((anchor_state a ≡ partial_state)
        × (length (s.chain d) < blocks_of (suc c))))
        (sym (keeps.anchor d within)) is.state;
  }
  kept_place d within is_full is = record {
    of_class = subst (λ c. IsOfClass capacity new s held c d) (sym (keeps.info d within)) (kept_class (image (info_word d)) d within is.of_class);
    none = is.none;
    anchor = keeps.anchor d within ∙ is.anchor;
  }
  kept_place d within in_large is =
      record { taken = subst (λ u. d < u) (sym keeps.used) is.taken; no_class = λ class. is.no_class (subst IsClass (keeps.info d within) class) }
  kept_place d within is_new is = record {
    past = subst (λ u. u ≤ d) (sym keeps.used) is.past;
    info = keeps.info d within ∙ is.info;
    anchor = keeps.anchor d within ∙ is.anchor;
    link = keeps.link d within ∙ is.link;
  }

  kept_named : (b : Block) → Contains held b → IsBlock (layout_at capacity new) b
  kept_named b holds = same_there (layout_at capacity image) (layout_at capacity new) b refl keeps.used (λ d part.
      let taken = part_taken (layout_at capacity image) b d (shape.named b holds) part in
      let used = shape.used in
      keeps.info d (omega arith)) (shape.named b holds)

  kept_list : (list : ℕ) → list < lists → Follows (λ d. new (link_word d)) capacity (head_first (new (head_word list))) (s.listed list)
  kept_list list below = subst (λ h. Follows (λ d. new (link_word d)) capacity (head_first h) (s.listed list)) (sym (keeps.head list below))
      (follows_same (λ d. image (link_word d)) (λ d. new (link_word d)) capacity (head_first (image (head_word list))) (s.listed list)
      (λ d p. keeps.link d (member_place capacity image held s shape list d below p).1) (shape.follows list below))

  kept_cached : (class w : ℕ) → IsClass class → Contains (s.cached class) w → IsCachedIn capacity new s class w
  kept_cached class w is p = let at = shape.cached class w is p in record {
    superblock = at.superblock;
    within = at.within;
    is_first = at.is_first;
    place = elim at.place [ inl listed ↦ inl listed | inr full ↦ inr (full.0, keeps.info at.superblock at.within ∙ full.1) ];
  }

  kept_shape : IsShape capacity new held s
  kept_shape = record {
    small = shape.small;
    used = subst (λ u. u ≤ capacity) (sym keeps.used) shape.used;
    named = kept_named;
    follows = kept_list;
    listed = shape.listed;
    places = λ d within. kept_place d within (s.place d) (shape.places d within);
    cached = kept_cached;
    walks = λ class is. walks_same image new (s.start class) (s.cached class) (λ w p. keeps.cached class w is p) (shape.walks class is);
  }

-- a store to a word of a held block
pub store_inside : (capacity word value : ℕ) (image new : Image) (held : List Block) (s : Shape) (b : Block) → IsShape capacity image held s
    → Contains held b → IsIn b word → IsSet image new word value
    → IsShape capacity new held s
store_inside capacity word value image new held s b shape holds is_in set =
    let inside = block_inside (layout_at capacity image) b (shape.named b holds) in
    let behind = inside.0 in
    let from = is_in.from in
    kept_shape capacity image new held s shape (record {
      used = set.others used_word (λ q. omega arith);
      head = λ list below. set.others (head_word list) (λ q. omega arith);
      info = λ d within. set.others (info_word d) (λ q. omega arith);
      anchor = λ d within. set.others (anchor_word d) (λ q. omega arith);
      link = λ d within. set.others (link_word d) (λ q. omega arith);
      chained = λ class d w within is p. set.others w (λ q. chained_apart capacity class d w image held s b shape is p holds
          (subst (IsIn b) (sym q) is_in));
      cached = λ class w is p. set.others w (λ q. cached_apart capacity image held s class w b shape is p holds (subst (IsIn b) (sym q) is_in));
    })

-- a store to a root
pub store_root : (capacity i value : ℕ) (image new : Image) (held : List Block) (s : Shape) → IsShape capacity image held s → i < roots
    → IsSet image new (root_word i) value → IsShape capacity new held s
store_root capacity i value image new held s shape below set = kept_shape capacity image new held s shape (record {
  used = set.others used_word (λ q. omega arith);
  head = λ list less. set.others (head_word list) (λ q. omega arith);
  info = λ d within. set.others (info_word d) (λ q. omega arith);
  anchor = λ d within. set.others (anchor_word d) (λ q. omega arith);
  link = λ d within. set.others (link_word d) (λ q. omega arith);
  chained = λ class d w within is p. let from = (first_inside capacity class d w is.is_class (is.blocks w p)).from in set.others w (λ q. omega arith);
  cached = λ class w is p. let at = shape.cached class w is p in let from = (first_inside capacity class at.superblock w is at.is_first).from in
      set.others w (λ q. omega arith);
})

-- the same held blocks
pub same_held : (capacity : ℕ) (image : Image) (held now : List Block) (s : Shape) → ((b : Block) → Contains held b → Contains now b)
    → ((b : Block) → Contains now b → Contains held b)
    → IsShape capacity image held s → IsShape capacity image now s
same_held capacity image held now s has only shape = record {
  small = shape.small;
  used = shape.used;
  named = λ b p. shape.named b (only b p);
  follows = shape.follows;
  listed = shape.listed;
  places = λ d within. frame capacity d image image s s held now (s.place d) (same_there_held d) (omega arith)
      (λ untaken. let new = subst (IsAs capacity image s held d) untaken (shape.places d within) in (new.past, refl)) (shape.places d within);
  cached = shape.cached;
  walks = shape.walks;
} where
  same_there_held : (d : ℕ) → SameThere capacity d image image s s held now
  same_there_held d = record {
    info = refl;
    anchor = refl;
    inside = λ w inside. refl;
    chain = refl;
    cached = λ class w is inside. refl;
    holds = λ w inside at. record { block = at.block; holds = has at.block at.holds; at = at.at };
    held_before = λ w inside at. record { block = at.block; holds = only at.block at.holds; at = at.at };
    none = λ none b p part. none b (only b p) part;
  }

-- no held block has a part in a superblock that was never taken
pub none_past : (capacity d : ℕ) (image : Image) (held : List Block) (s : Shape) → IsShape capacity image held s → image used_word ≤ d
    → HasNoHeld capacity held d
none_past capacity d image held s shape past b holds part = let taken = part_taken (layout_at capacity image) b d (shape.named b holds) part in
    omega arith

-- each class has a block size of its own
one_size : (c class : ℕ) → IsClass c → IsClass class → words_of_class c ≡ words_of_class class → c ≡ class
unfolding words_of_class class_sizes
one_size c class is_c is same = eqb-true c class (sym (cond-true (nat_eq (words_of_class c) (words_of_class class)) (nat_eq c class) true
    (eq-eqb (words_of_class c) (words_of_class class) same)) ∙ row)
  where
    row : cond (nat_eq (words_of_class c) (words_of_class class)) (nat_eq c class) true ≡ true
    row = at_class (λ k. cond (nat_eq (words_of_class c) (words_of_class k)) (nat_eq c k) true)
        (at_class (λ j. agree_below (λ k. cond (nat_eq (words_of_class j) (words_of_class (k + 1))) (nat_eq j (k + 1)) true)
        (λ _. true) last_class) refl c is_c) class is

-- a held block of a superblock of a class: its size, and that its superblock is cut for it
pub class_block : (capacity class : ℕ) (image : Image) (held : List Block) (s : Shape) (b : Block) → IsShape capacity image held s
    → IsClass class → Contains held b → b.words ≡ words_of_class class
    → (d : ℕ) × (d < capacity) × (image (info_word d) ≡ class) × IsInSuperblock capacity d b.first_word
class_block capacity class image held s b shape is holds size = let named = shape.named b holds in
    by_begins named.superblock named.words named.count named.is_of.begins named.is_of.taken named.is_of.size
    (block_begins (layout_at capacity image) b named.superblock named.index named.words named.count named.is_of)
  where
    by_begins : (d w n : ℕ) → Begins (layout_at capacity image) d w n → d < image used_word → b.words ≡ w
        → (start_word capacity d ≤ b.first_word) × (b.first_word < start_word capacity (d + 1))
        → (d : ℕ) × (d < capacity) × (image (info_word d) ≡ class) × IsInSuperblock capacity d b.first_word
    by_begins d w n (of_class c info is_class) taken words begins =
        let used = shape.used in
        let from = begins.0 in
        let until = begins.1 in
        (d, omega arith, info ∙ one_size c class is_class is (sym words ∙ size), record { from = from; until = omega arith })
    by_begins d w n (as_large k some info end zeros) taken words begins = absurd (let few = few_words class is in omega arith)

-- the blocks of a held large block's size: it begins where a superblock does, and takes whole ones
pub large_block : (capacity : ℕ) (image : Image) (held : List Block) (s : Shape) (b : Block) → IsShape capacity image held s → Contains held b
    → ((class : ℕ) → IsClass class → b.words ≢ words_of_class class)
    → (d n : ℕ) × (1 ≤ n) × (d + n ≤ capacity) × (b.first_word ≡ start_word capacity d) × (b.words ≡ superblock_words * n)
large_block capacity image held s b shape holds size = let named = shape.named b holds in
    by_begins named.superblock named.index named.words named.count named.is_of.begins named.is_of.below named.is_of.at named.is_of.size where
      by_begins : (d index w n : ℕ) → Begins (layout_at capacity image) d w n → index < n → b.first_word ≡ start_word capacity d + index * w → b.words ≡ w
          → (d n : ℕ) × (1 ≤ n) × (d + n ≤ capacity) × (b.first_word ≡ start_word capacity d) × (b.words ≡ superblock_words * n)
      by_begins d index w n (of_class c info is) below at words = absurd (size c is words)
      by_begins d index w n (as_large k some info end zeros) below at words =
          let used = shape.used in
          let first : index ≡ zero = omega arith in
          let none : index * (superblock_words * k) ≡ 0 = subst (λ x. x * (superblock_words * k) ≡ 0) (sym first) (zero-mul (superblock_words * k)) in
          (d, k, some, omega arith, omega arith, words)
