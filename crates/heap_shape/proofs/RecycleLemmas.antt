-- A superblock of a class list with no block in use goes to the free list.
use Rattle.std.proofs.Common.{◌≡◌, ◌≢◌, ℕ, ◌<◌, ◌≤◌, inl, inr, List, [], ◌∷◌, length, Contains, refl, ap, sym, subst, ◌∙◌, arith}
use Rattle.std.proofs.lemmas.Bool.{cases_eq}
use Rattle.heap_model.specs.declared.block.Block.{Block}
use Rattle.heap_model.specs.Geometry.{lists, head_word, info_word, anchor_word, link_word, used_word, largest_capacity_fits}
use Rattle.heap_model.specs.Image.{Image}
use Rattle.heap_model.specs.Sizes.{IsClass, blocks_of}
use Rattle.heap_model.specs.Words.{anchor_state, empty_state, partial_state, head_first, head_of}
use Rattle.heap_model.specs.Chains.{Follows}
use Rattle.heap_model.specs.Counting.{times}
use Rattle.heap_model.proofs.MemberLemmas.{in_none}
use Rattle.heap_at_rest.proofs.ListLemmas.{follows_same, times_of, walks_same}
use Rattle.heap_at_rest.proofs.LayoutLemmas.{same_there}
use Rattle.heap_shape.specs.Shape.{in_list, Shape, stands_in, with_at}
use Rattle.heap_shape.specs.Standing.{IsFirstOf, HasFreeBlocks, IsNew, IsAs}
use Rattle.heap_at_rest.specs.Draining.{HasNoHeld, layout_at}
use Rattle.heap_shape.specs.Whole.{IsCachedIn, IsShape}
use Rattle.heap_shape.specs.Effects.{IsPoppedOf, IsPushedOn}
use Rattle.heap_shape.specs.Moves.{after_recycle}
use Rattle.heap_shape.proofs.BasicLemmas.{with_at_same, with_at_other, stands_not, one_list, times_here, times_past, first_inside, first_place, member_place, in_class_list, cached_of_class}
use Rattle.heap_model.proofs.ListLemmas.{follows_small}
use Rattle.heap_shape.proofs.FrameLemmas.{SameThere, frame, KeepsBut}
use Rattle.heap_shape.proofs.CountLemmas.{all_given}

-- it is taken off its class list and put in front of the free list: the heap keeps a shape
pub recycle : (capacity class d : ℕ) (image middle new : Image) (held : List Block) (s : Shape) (ds : List ℕ) → IsClass class
    → IsShape capacity image held s → s.listed class ≡ d ∷ ds
    → anchor_state (image (anchor_word d)) ≢ partial_state → IsPoppedOf image middle class d → IsPushedOn middle new 0 d
    → IsShape capacity new held (after_recycle s class d ds)
recycle capacity class d image middle new held s ds is shape list state popped pushed = record {
  small = shape.small;
  used = subst (λ n. n ≤ capacity) (sym stays.used) shape.used;
  named = λ b holds. same_there (layout_at capacity image) (layout_at capacity new) b refl stays.used (λ e part. stays.info e) (shape.named b holds);
  follows = follows;
  listed = listed;
  places = places;
  cached = cached;
  walks = λ c is_class. walks_same image new (s.start c) (s.cached c) (λ w p. let cached = shape.cached c w is_class p in
      stays.inside cached.superblock w (first_inside capacity c cached.superblock w is_class cached.is_first)) (shape.walks c is_class);
} where
  below : class < lists
  below = let last = is.last in omega arith

  not_free : class ≢ 0
  not_free none = let some = is.some in omega arith

  at : (s.place d ≡ in_list class) × (d < capacity) × (times d ds ≡ 0)
  at = first_place capacity image held s shape class d ds below list

  there : HasFreeBlocks capacity image s held class d
  there = in_class_list capacity image held s shape class d is at.1 at.0

  -- all its blocks are in its chain
  all : (anchor_state (image (anchor_word d)) ≡ empty_state) × (length (s.chain d) ≡ blocks_of class)
  all = elim there.state as (λ _. (anchor_state (image (anchor_word d)) ≡ empty_state) × (length (s.chain d) ≡ blocks_of class)) [
    | inl every ↦ every
    | inr part ↦ absurd (state part.0)
  ]

  -- so none is held or cached
  unused : HasNoHeld capacity held d × ((w : ℕ) → Contains (s.cached class) w → IsFirstOf capacity class d w → ⊥)
  unused = let long = all.1 in all_given capacity image held s shape class d [] (s.cached class) there.of_class refl
      (λ w p. absurd (in_none w p)) (omega arith)

  cached_elsewhere : (c w : ℕ) (is_class : IsClass c) (p : Contains (s.cached c) w) → (shape.cached c w is_class p).superblock ≢ d
  cached_elsewhere c w is_class p same =
      let cached = shape.cached c w is_class p in
      let one : IsFirstOf capacity c d w = subst (λ e. IsFirstOf capacity c e w) same cached.is_first in
      let info : image (info_word d) ≡ c = subst (λ e. image (info_word e) ≡ c) same
      (cached_of_class capacity image held s shape c w is_class p).info in
      let one_class : c ≡ class = sym info ∙ there.of_class.info in
      unused.1 w (subst (λ k. Contains (s.cached k) w) one_class p) (subst (λ k. IsFirstOf capacity k d w) one_class one)

  -- which words are as before
  same : (word : ℕ) → word ≢ head_word class → word ≢ link_word d → word ≢ head_word 0 → new word ≡ image word
  same word no_class_head no_link no_head = pushed.head.others word no_head ∙ pushed.link.others word no_link ∙ popped.set.others word no_class_head

  stays : KeepsBut capacity d image new
  stays = let last = is.last in record {
    used = same used_word (λ q. omega arith) (λ q. omega arith) (λ q. omega arith);
    info = λ e. same (info_word e) (λ q. omega arith) (λ q. omega arith) (λ q. omega arith);
    link = λ e other. same (link_word e) (λ q. omega arith) (λ q. other (omega arith)) (λ q. omega arith);
    inside = λ e word inside. let from = inside.from in let within = at.1 in same word (λ q. omega arith) (λ q. omega arith) (λ q. omega arith);
  }

  anchor_same : (e : ℕ) → new (anchor_word e) ≡ image (anchor_word e)
  anchor_same e = let last = is.last in same (anchor_word e) (λ q. omega arith) (λ q. omega arith) (λ q. omega arith)

  -- the lists after it
  class_list : (after_recycle s class d ds).listed class ≡ ds
  class_list = with_at_other (with_at s.listed class ds) 0 (d ∷ s.listed 0) class not_free ∙ with_at_same s.listed class ds

  other_list : (l : ℕ) → l ≢ 0 → l ≢ class → (after_recycle s class d ds).listed l ≡ s.listed l
  other_list l no_free no_class = with_at_other (with_at s.listed class ds) 0 (d ∷ s.listed 0) l no_free ∙ with_at_other s.listed class ds l no_class

  -- the links of another list
  other_links : (l : ℕ) → l < lists → l ≢ class → (e : ℕ) → Contains (s.listed l) e → new (link_word e) ≡ image (link_word e)
  other_links l less other e p = stays.link e (λ one.
      let place : s.place d ≡ in_list l = subst (λ x. s.place x ≡ in_list l) one (member_place capacity image held s shape l e less p).0 in
      other (one_list l class (sym place ∙ at.0)))

  free_follows : Follows (λ e. new (link_word e)) capacity (head_first (new (head_word 0))) (d ∷ s.listed 0)
  free_follows =
      let last = is.last in
      let within = at.1 in
      let small = shape.small in
      let set = pushed.head.at in
      let head : middle (head_word 0) ≡ image (head_word 0) = popped.set.others (head_word 0) (λ q. not_free (omega arith)) in
      let link : new (link_word d) ≡ head_first (image (head_word 0)) = pushed.head.others (link_word d) (λ q. omega arith) ∙ pushed.link.at
      ∙ ap head_first head in (
        omega arith,
        within,
        subst (λ x. Follows (λ e. new (link_word e)) capacity x (s.listed 0)) (sym link)
            (follows_same (λ e. image (link_word e)) (λ e. new (link_word e)) capacity (head_first (image (head_word 0))) (s.listed 0)
            (other_links 0 (omega arith) (λ q. not_free (sym q))) (shape.follows 0 (omega arith))),
      )

  class_follows : Follows (λ e. new (link_word e)) capacity (head_first (new (head_word class))) ds
  class_follows =
      let last = is.last in
      let small = shape.small in
      let gone = at.2 in
      let before : Follows (λ e. image (link_word e)) capacity (head_first (image (head_word class))) (d ∷ ds) =
      subst (λ xs. Follows (λ e. image (link_word e)) capacity (head_first (image (head_word class))) xs) list (shape.follows class below) in
      let few = follows_small (λ e. image (link_word e)) capacity (image (link_word d)) ds before.2 in
      let set : new (head_word class) ≡ head_of (head_first (image (link_word d))) popped.pops =
      pushed.head.others (head_word class) (λ q. not_free (omega arith)) ∙ pushed.link.others (head_word class) (λ q. omega arith) ∙ popped.set.at in
      let first : head_first (new (head_word class)) ≡ image (link_word d) = omega (arith, largest_capacity_fits) in
      subst (λ x. Follows (λ e. new (link_word e)) capacity x ds) (sym first)
      (follows_same (λ e. image (link_word e)) (λ e. new (link_word e)) capacity (image (link_word d)) ds
      (λ e p. stays.link e (λ one. let some = times_of e ds p in let none : times e ds ≡ 0 = subst (λ x. times x ds ≡ 0) (sym one) gone in
      omega arith)) before.2)

  follows : (l : ℕ) → l < lists → Follows (λ e. new (link_word e)) capacity (head_first (new (head_word l))) ((after_recycle s class d ds).listed l)
  follows l less = elim (cases_eq l 0) as (λ _. Follows (λ e. new (link_word e)) capacity (head_first (new (head_word l)))
      ((after_recycle s class d ds).listed l)) [
        | inl free ↦ subst (λ l. Follows (λ e. new (link_word e)) capacity (head_first (new (head_word l))) ((after_recycle s class d ds).listed l))
            (sym free) free_follows
        | inr no_free ↦ elim (cases_eq l class) as (λ _. Follows (λ e. new (link_word e)) capacity (head_first (new (head_word l)))
            ((after_recycle s class d ds).listed l)) [
              | inl one ↦ subst (λ l. Follows (λ e. new (link_word e)) capacity (head_first (new (head_word l)))
                  ((after_recycle s class d ds).listed l)) (sym one)
                  (subst (λ xs. Follows (λ e. new (link_word e)) capacity (head_first (new (head_word class))) xs) (sym class_list) class_follows)
              | inr other ↦
                  let head : new (head_word l) ≡ image (head_word l) = same (head_word l) (λ q. other (omega arith)) (λ q. omega arith)
                  (λ q. no_free (omega arith)) in
                  subst (λ xs. Follows (λ e. new (link_word e)) capacity (head_first (new (head_word l))) xs) (sym (other_list l no_free other))
                  (subst (λ x. Follows (λ e. new (link_word e)) capacity (head_first x) (s.listed l)) (sym head)
                  (follows_same (λ e. image (link_word e)) (λ e. new (link_word e)) capacity (head_first (image (head_word l))) (s.listed l)
                  (other_links l less other) (shape.follows l less)))
            ]
      ]

  -- d is in the free list alone, and any other superblock where it was
  moved : (l : ℕ) → l < lists → times d ((after_recycle s class d ds).listed l) ≡ stands_in (in_list 0) l
  moved l less = elim (cases_eq l 0) as (λ _. times d ((after_recycle s class d ds).listed l) ≡ stands_in (in_list 0) l) [
    | inl free ↦ subst (λ l. times d ((after_recycle s class d ds).listed l) ≡ stands_in (in_list 0) l) (sym free)
        (let here = times_here d (s.listed 0) in
        let was : times d (s.listed 0) ≡ stands_in (in_list class) 0 = shape.listed 0 d (omega arith) ∙ ap (λ p. stands_in p 0) at.0 in
        let none = stands_not class 0 not_free in
        omega arith)
    | inr no_free ↦
        let nowhere = stands_not 0 l (λ q. no_free (sym q)) in
        elim (cases_eq l class) as (λ _. times d ((after_recycle s class d ds).listed l) ≡ stands_in (in_list 0) l) [
          | inl one ↦ ap (times d) (ap (after_recycle s class d ds).listed one ∙ class_list) ∙ at.2 ∙ sym nowhere
          | inr other ↦ ap (times d) (other_list l no_free other) ∙ shape.listed l d less ∙ ap (λ p. stands_in p l) at.0
              ∙ stands_not class l (λ q. other (sym q)) ∙ sym nowhere
        ]
  ]

  kept : (l e : ℕ) → e ≢ d → times e ((after_recycle s class d ds).listed l) ≡ times e (s.listed l)
  kept l e apart = elim (cases_eq l 0) as (λ _. times e ((after_recycle s class d ds).listed l) ≡ times e (s.listed l)) [
    | inl free ↦ subst (λ l. times e ((after_recycle s class d ds).listed l) ≡ times e (s.listed l)) (sym free)
        (times_past d e (s.listed 0) (λ q. apart (sym q)))
    | inr no_free ↦ elim (cases_eq l class) as (λ _. times e ((after_recycle s class d ds).listed l) ≡ times e (s.listed l)) [
      | inl one ↦ ap (times e) (ap (after_recycle s class d ds).listed one ∙ class_list) ∙ sym (times_past d e ds (λ q. apart (sym q)))
          ∙ ap (times e) (sym list ∙ ap s.listed (sym one))
      | inr other ↦ ap (times e) (other_list l no_free other)
    ]
  ]

  listed : (l e : ℕ) → l < lists → times e ((after_recycle s class d ds).listed l) ≡ stands_in ((after_recycle s class d ds).place e) l
  listed l e less = elim (cases_eq e d) as (λ _. times e ((after_recycle s class d ds).listed l) ≡ stands_in ((after_recycle s class d ds).place e) l) [
    | inl one ↦ subst (λ e. times e ((after_recycle s class d ds).listed l) ≡ stands_in ((after_recycle s class d ds).place e) l) (sym one)
        (moved l less ∙ ap (λ p. stands_in p l) (sym (with_at_same s.place d (in_list 0))))
    | inr other ↦ kept l e other ∙ shape.listed l e less ∙ ap (λ p. stands_in p l) (sym (with_at_other s.place d (in_list 0) e other))
  ]

  untouched : (e : ℕ) → e ≢ d → SameThere capacity e image new s (after_recycle s class d ds) held held
  untouched e other = record {
    info = stays.info e;
    anchor = anchor_same e;
    inside = stays.inside e;
    chain = with_at_other s.chain d [] e other;
    cached = λ c w is_class inside. refl;
    holds = λ w inside h. h;
    held_before = λ w inside h. h;
    none = λ h. h;
  }

  places : (e : ℕ) → e < capacity → IsAs capacity new (after_recycle s class d ds) held e ((after_recycle s class d ds).place e)
  places e within = elim (cases_eq e d) as (λ _. IsAs capacity new (after_recycle s class d ds) held e ((after_recycle s class d ds).place e)) [
    | inl one ↦ subst (λ e. IsAs capacity new (after_recycle s class d ds) held e ((after_recycle s class d ds).place e)) (sym one)
        (subst (IsAs capacity new (after_recycle s class d ds) held d) (sym (with_at_same s.place d (in_list 0))) (record {
          taken = subst (λ n. d < n) (sym stays.used) there.of_class.taken;
          state = ap anchor_state (anchor_same d) ∙ all.0;
          none = unused.0;
        }))
    | inr other ↦ subst (IsAs capacity new (after_recycle s class d ds) held e) (sym (with_at_other s.place d (in_list 0) e other))
        (frame capacity e image new s (after_recycle s class d ds) held held (s.place e) (untouched e other) (let used = stays.used in omega arith)
        (λ untaken. let free : IsNew image e = subst (IsAs capacity image s held e) untaken (shape.places e within) in
        (subst (λ n. n ≤ e) (sym stays.used) free.past, stays.link e other))
        (shape.places e within))
  ]

  cached : (c w : ℕ) → IsClass c → Contains (s.cached c) w → IsCachedIn capacity new (after_recycle s class d ds) c w
  cached c w is_class p =
      let was = shape.cached c w is_class p in
      let place = with_at_other s.place d (in_list 0) was.superblock (cached_elsewhere c w is_class p) in
      record {
        superblock = was.superblock;
        within = was.within;
        is_first = was.is_first;
        place = elim was.place [
          | inl in_class ↦ inl (place ∙ in_class)
          | inr full ↦ inr (place ∙ full.0, stays.info was.superblock ∙ full.1)
        ];
      }
