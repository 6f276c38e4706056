-- A superblock is cut for a class: its blocks fill the cache, and the shape goes on.
use Rattle.std.proofs.Common.{◌≡◌, ◌≢◌, ℕ, zero, suc, ◌+◌, ◌<◌, ◌≤◌, ◌⊎◌, inl, inr, nat_eq, List, [], ◌∷◌, length, Contains, refl, ap, sym, subst, ◌∙◌, arith}
use Rattle.std.proofs.lemmas.Bool.{cases_eq, eqb-true}
use Rattle.heap_model.specs.declared.block.Block.{Block}
use Rattle.heap_model.specs.Geometry.{lists, head_word, info_word, anchor_word, link_word, used_word, largest_capacity_fits}
use Rattle.heap_model.specs.Image.{Image}
use Rattle.heap_model.specs.Sizes.{IsClass, blocks_of}
use Rattle.heap_model.specs.Words.{anchor_first, anchor_count, full_anchor, head_first}
use Rattle.heap_model.specs.Blocks.{IsBlock}
use Rattle.heap_model.specs.Recovered.{HasPartIn}
use Rattle.heap_model.specs.Chains.{Follows, Walks}
use Rattle.heap_model.specs.Counting.{times, one_if}
use Rattle.heap_model.proofs.CountingLemmas.{times_none, one_if_false}
use Rattle.heap_model.proofs.MemberLemmas.{in_none}
use Rattle.heap_at_rest.proofs.PartLemmas.{part_taken}
use Rattle.heap_at_rest.proofs.ListLemmas.{follows_same, walks_same, follows_below}
use Rattle.heap_at_rest.proofs.LayoutLemmas.{block_more}
use Rattle.heap_shape.specs.Shape.{Place, in_list, is_full, in_large, is_new, Shape, stands_in, with_at}
use Rattle.heap_shape.specs.Standing.{first_of, IsFirstOf, HoldsAt, HasOneOwner, a_free, a_held, IsOfClass, IsFullSuperblock, IsAs}
use Rattle.heap_shape.specs.Whole.{IsCachedIn, IsShape}
use Rattle.heap_at_rest.specs.Draining.{layout_at}
use Rattle.heap_shape.specs.Effects.{IsPoppedOf, IsInSuperblock}
use Rattle.heap_shape.proofs.BasicLemmas.{with_at_same, with_at_other, first_inside, inside_one, first_place}
use Rattle.heap_model.proofs.ListLemmas.{follows_small}
use Rattle.heap_shape.proofs.FrameLemmas.{frame}

-- a block stays one where more superblocks are taken, and the infos of its own stay
pub block_same : (capacity : ℕ) (image new : Image) (b : Block) → image used_word ≤ new used_word
    → ((e : ℕ) → HasPartIn capacity b e → new (info_word e) ≡ image (info_word e))
    → IsBlock (layout_at capacity image) b → IsBlock (layout_at capacity new) b
block_same capacity image new b raised infos is =
    block_more (layout_at capacity image) (layout_at capacity new) b refl raised infos is

-- a superblock that was never taken has that place
pub past_is_new : (capacity : ℕ) (image : Image) (s : Shape) (held : List Block) (d : ℕ) (p : Place) → image used_word ≤ d
    → IsAs capacity image s held d p
    → p ≡ is_new
past_is_new capacity image s held d (in_list zero) past is = absurd (let taken = is.taken in omega arith)
past_is_new capacity image s held d (in_list (suc c)) past is = absurd (let taken = is.of_class.taken in omega arith)
past_is_new capacity image s held d is_full past is = absurd (let taken = is.of_class.taken in omega arith)
past_is_new capacity image s held d in_large past is = absurd (let taken = is.taken in omega arith)
past_is_new capacity image s held d is_new past is = refl

module _ (capacity : ℕ) (image : Image) (held : List Block) (s : Shape) (shape : IsShape capacity image held s) where
  -- the lists where the first of one was taken off
  pub follows_popped : (middle new : Image) (list d : ℕ) (ds : List ℕ) → list < lists → s.listed list ≡ d ∷ ds → IsPoppedOf image middle list d
      → ((other : ℕ) → other < lists → new (head_word other) ≡ middle (head_word other))
      → ((e : ℕ) → e < capacity → new (link_word e) ≡ image (link_word e)) → (other : ℕ) → other < lists
      → Follows (λ e. new (link_word e)) capacity (head_first (new (head_word other))) (with_at s.listed list ds other)
  follows_popped middle new list d ds below is popped heads links other less =
      elim (cases_eq other list) as (λ _. Follows (λ e. new (link_word e)) capacity (head_first (new (head_word other)))
      (with_at s.listed list ds other)) [
        | inl one ↦ subst (λ k. Follows (λ e. new (link_word e)) capacity (head_first (new (head_word k))) (with_at s.listed list ds k)) (sym one)
            (subst (λ xs. Follows (λ e. new (link_word e)) capacity (head_first (new (head_word list))) xs) (sym (with_at_same s.listed list ds))
            (subst (λ from. Follows (λ e. new (link_word e)) capacity from ds) (sym from_is) (kept (image (link_word d)) ds rest)))
        | inr apart ↦
            let head : new (head_word other) ≡ image (head_word other) = heads other less
            ∙ popped.set.others (head_word other) (λ same. apart (omega arith)) in
            subst (λ xs. Follows (λ e. new (link_word e)) capacity (head_first (new (head_word other))) xs)
            (sym (with_at_other s.listed list ds other apart))
            (subst (λ h. Follows (λ e. new (link_word e)) capacity (head_first h) (s.listed other)) (sym head)
            (kept (head_first (image (head_word other))) (s.listed other) (shape.follows other less)))
      ] where
        kept : (from : ℕ) (xs : List ℕ) → Follows (λ e. image (link_word e)) capacity from xs → Follows (λ e. new (link_word e)) capacity from xs
        kept from xs follows = follows_same (λ e. image (link_word e)) (λ e. new (link_word e)) capacity from xs
            (λ e p. links e (follows_below (λ k. image (link_word k)) capacity from xs e follows p)) follows

        rest : Follows (λ e. image (link_word e)) capacity (image (link_word d)) ds
        rest = (subst (λ xs. Follows (λ e. image (link_word e)) capacity (head_first (image (head_word list))) xs) is (shape.follows list below)).2

        from_is : head_first (new (head_word list)) ≡ image (link_word d)
        from_is =
            let head = heads list below ∙ popped.set.at in
            let small = follows_small (λ e. image (link_word e)) capacity (image (link_word d)) ds rest in
            let few = shape.small in omega (arith, largest_capacity_fits)

  -- and where its place is in no list now
  pub listed_popped : (list d : ℕ) (ds : List ℕ) → list < lists → s.listed list ≡ d ∷ ds → (other e : ℕ) → other < lists
      → times e (with_at s.listed list ds other) ≡ stands_in (with_at s.place d is_full e) other
  listed_popped list d ds below is other e less =
      elim (cases_eq e d) as (λ _. times e (with_at s.listed list ds other) ≡ stands_in (with_at s.place d is_full e) other) [
        | inl here ↦ subst (λ k. times k (with_at s.listed list ds other) ≡ stands_in (with_at s.place d is_full k) other) (sym here)
            (gone ∙ sym (ap (λ p. stands_in p other) (with_at_same s.place d is_full)))
        | inr apart ↦ stays apart ∙ shape.listed other e less ∙ sym (ap (λ p. stands_in p other) (with_at_other s.place d is_full e apart))
      ] where
        first : (s.place d ≡ in_list list) × (d < capacity) × (times d ds ≡ 0)
        first = first_place capacity image held s shape list d ds below is

        gone : times d (with_at s.listed list ds other) ≡ 0
        gone = elim (cases_eq other list) as (λ _. times d (with_at s.listed list ds other) ≡ 0) [
          | inl one ↦ ap (λ k. times d (with_at s.listed list ds k)) one ∙ ap (times d) (with_at_same s.listed list ds) ∙ first.2
          | inr not_one ↦ ap (times d) (with_at_other s.listed list ds other not_one) ∙ shape.listed other d less ∙ ap (λ p. stands_in p other) first.0
              ∙ one_if_false (nat_eq list other) (λ same. not_one (sym (eqb-true list other same)))
        ]

        stays : e ≢ d → times e (with_at s.listed list ds other) ≡ times e (s.listed other)
        stays apart = elim (cases_eq other list) as (λ _. times e (with_at s.listed list ds other) ≡ times e (s.listed other)) [
          | inl one ↦
              let none : one_if (nat_eq d e) ≡ 0 = one_if_false (nat_eq d e) (λ same. apart (sym (eqb-true d e same))) in
              let old : times e (s.listed other) ≡ one_if (nat_eq d e) + times e ds = ap (times e) (ap (λ k. s.listed k) one ∙ is) in
              let new : times e (with_at s.listed list ds other) ≡ times e ds = ap (λ k. times e (with_at s.listed list ds k)) one
              ∙ ap (times e) (with_at_same s.listed list ds) in
              omega arith
          | inr not_one ↦ ap (times e) (with_at_other s.listed list ds other not_one)
        ]

-- the shape where superblock d is full, and the cache of the class has these blocks, from `first` on
abbrev pub refilled : Shape → ℕ → ℕ → (ℕ → List ℕ) → List ℕ → ℕ → Shape
refilled s class d listed words first = record {
  place = with_at s.place d is_full;
  listed = listed;
  chain = with_at s.chain d [];
  cached = with_at s.cached class words;
  start = with_at s.start class first;
}

-- superblock d is full from now on, and the blocks of the empty cache of the class are its free ones; other superblocks have their words
pub record IsRefilled (capacity class d : ℕ) (image new : Image) (held : List Block) (s : Shape) (listed : ℕ → List ℕ) (words : List ℕ)
    (first : ℕ) : Type 0 where
  pub within : d < capacity
  pub stood : (c : ℕ) → IsClass c → s.place d ≡ in_list c → c ≡ class
  pub not_full : s.place d ≡ is_full → ⊥
  pub empty : s.cached class ≡ []
  pub used : new used_word ≤ capacity
  pub raised : image used_word ≤ new used_word
  pub taken : d < new used_word
  pub untaken : (e : ℕ) → e < capacity → e ≢ d → s.place e ≡ is_new → new used_word ≤ e
  pub info : new (info_word d) ≡ class
  pub anchor : new (anchor_word d) ≡ full_anchor
  pub other_info : (e : ℕ) → e < capacity → e ≢ d → new (info_word e) ≡ image (info_word e)
  pub other_anchor : (e : ℕ) → e < capacity → e ≢ d → new (anchor_word e) ≡ image (anchor_word e)
  pub links : (e : ℕ) → e < capacity → new (link_word e) ≡ image (link_word e)
  pub others : (e word : ℕ) → e < capacity → e ≢ d → IsInSuperblock capacity e word → new word ≡ image word
  pub unheld : (b : Block) → Contains held b → HasPartIn capacity b d → new (info_word d) ≡ image (info_word d)
  pub firsts : (w : ℕ) → Contains words w → IsFirstOf capacity class d w
  pub owned : (index : ℕ) → index < blocks_of class → ((times (first_of capacity class d index) words ≡ 1)
      × (HoldsAt held (first_of capacity class d index) → ⊥))
      ⊎ ((times (first_of capacity class d index) words ≡ 0) × HoldsAt held (first_of capacity class d index))
  pub walks : Walks new first words
  pub follows : (list : ℕ) → list < lists → Follows (λ e. new (link_word e)) capacity (head_first (new (head_word list))) (listed list)
  pub in_lists : (list e : ℕ) → list < lists → times e (listed list) ≡ stands_in (with_at s.place d is_full e) list

module _ (capacity class d : ℕ) (image new : Image) (held : List Block) (s : Shape) (listed : ℕ → List ℕ) (words : List ℕ) (first : ℕ)
    (is : IsClass class)
    (shape : IsShape capacity image held s) (re : IsRefilled capacity class d image new held s listed words first) where
  -- a block that was cached is of another superblock
  cached_apart : (c word : ℕ) → IsClass c → Contains (s.cached c) word → IsInSuperblock capacity d word → ⊥
  cached_apart c word is_c p inside =
      let at = shape.cached c word is_c p in
      let same : at.superblock ≡ d = inside_one capacity at.superblock d word (first_inside capacity c at.superblock word is_c at.is_first) inside in
      elim at.place as (λ _. ⊥) [
        | inl in_class ↦
            let one : c ≡ class = re.stood c is_c (subst (λ e. s.place e ≡ in_list c) same in_class) in
            in_none word (subst (λ ws. Contains ws word) (ap (λ k. s.cached k) one ∙ re.empty) p)
        | inr full ↦ re.not_full (subst (λ e. s.place e ≡ is_full) same full.0)
      ]

  -- and keeps its word
  cached_word : (c word : ℕ) → IsClass c → Contains (s.cached c) word → new word ≡ image word
  cached_word c word is_c p =
      let at = shape.cached c word is_c p in
      let inside = first_inside capacity c at.superblock word is_c at.is_first in
      re.others at.superblock word at.within (λ same. cached_apart c word is_c p (subst (λ e. IsInSuperblock capacity e word) same inside)) inside

  -- another superblock has the same cached blocks
  cached_there : (e c word : ℕ) → IsClass c → e ≢ d → IsInSuperblock capacity e word
      → times word (with_at s.cached class words c) ≡ times word (s.cached c)
  cached_there e c word is_c apart inside = elim (cases_eq c class) as (λ _. times word (with_at s.cached class words c) ≡ times word (s.cached c)) [
    | inl one ↦
        let none : times word words ≡ 0 = times_none word words
        (λ p. apart (inside_one capacity e d word inside (first_inside capacity class d word is (re.firsts word p)))) in
        let now : times word (with_at s.cached class words c) ≡ times word words = ap (λ k. times word (with_at s.cached class words k)) one
        ∙ ap (times word) (with_at_same s.cached class words) in
        let old : times word (s.cached c) ≡ 0 = ap (times word) (ap (λ k. s.cached k) one ∙ re.empty) in
        omega arith
    | inr other ↦ ap (times word) (with_at_other s.cached class words c other)
  ]

  -- another superblock stays as its place says
  stays : (e : ℕ) → e < capacity → e ≢ d → IsAs capacity new (refilled s class d listed words first) held e (s.place e)
  stays e within apart = frame capacity e image new s (refilled s class d listed words first) held held (s.place e)
      (record {
        info = re.other_info e within apart;
        anchor = re.other_anchor e within apart;
        inside = λ word inside. re.others e word within apart inside;
        chain = with_at_other s.chain d [] e apart;
        cached = λ c word is_c inside. cached_there e c word is_c apart inside;
        holds = λ word inside at. at;
        held_before = λ word inside at. at;
        none = λ none. none;
      })
      re.raised (λ p. (re.untaken e within apart p, re.links e within)) (shape.places e within)

  -- superblock d is full
  full : IsFullSuperblock capacity new (refilled s class d listed words first) held d
  full = record {
    of_class = subst (λ c. IsOfClass capacity new (refilled s class d listed words first) held c d) (sym re.info) (record {
      is_class = is;
      taken = re.taken;
      info = re.info;
      owned = owned;
      blocks = λ word p. absurd (in_none word (subst (λ ws. Contains ws word) none p));
      walks = subst (λ ws. Walks new (first_of capacity class d (anchor_first (new (anchor_word d)))) ws) (sym none) tt;
      count = ap anchor_count re.anchor ∙ sym (ap length none);
    });
    none = none;
    anchor = re.anchor;
  } where
    none : with_at s.chain d [] d ≡ []
    none = with_at_same s.chain d []

    owned : (index : ℕ) → index < blocks_of class → HasOneOwner (refilled s class d listed words first) held class d (first_of capacity class d index)
    owned index below =
        let chain : times (first_of capacity class d index) (with_at s.chain d [] d) ≡ 0 = ap (times (first_of capacity class d index)) none in
        let cached : times (first_of capacity class d index) (with_at s.cached class words class) ≡ times (first_of capacity class d index) words =
        ap (times (first_of capacity class d index)) (with_at_same s.cached class words) in
        elim (re.owned index below) as (λ _. HasOneOwner (refilled s class d listed words first) held class d (first_of capacity class d index)) [
          | inl free ↦ let once = free.0 in a_free (omega arith) free.1
          | inr is_held ↦ let never = is_held.0 in a_held (omega arith) is_held.1
        ]

  -- each cached block is one of a superblock that is cut for its class
  cached_now : (c word : ℕ) → IsClass c → Contains (with_at s.cached class words c) word
      → IsCachedIn capacity new (refilled s class d listed words first) c word
  cached_now c word is_c p = elim (cases_eq c class) as (λ _. IsCachedIn capacity new (refilled s class d listed words first) c word) [
    | inl one ↦ subst (λ k. IsCachedIn capacity new (refilled s class d listed words first) k word) (sym one) (record {
      superblock = d;
      within = re.within;
      is_first = re.firsts word (subst (λ ws. Contains ws word) (ap (with_at s.cached class words) one ∙ with_at_same s.cached class words) p);
      place = inr (with_at_same s.place d is_full, re.info);
    })
    | inr other ↦ before (subst (λ ws. Contains ws word) (with_at_other s.cached class words c other) p)
  ] where
    before : Contains (s.cached c) word → IsCachedIn capacity new (refilled s class d listed words first) c word
    before old =
        let at = shape.cached c word is_c old in
        let apart : at.superblock ≢ d = λ same. cached_apart c word is_c old
        (subst (λ e. IsInSuperblock capacity e word) same (first_inside capacity c at.superblock word is_c at.is_first)) in
        let place = with_at_other s.place d is_full at.superblock apart in
        record {
          superblock = at.superblock;
          within = at.within;
          is_first = at.is_first;
          place = elim at.place as (λ _. (with_at s.place d is_full at.superblock ≡ in_list c)
              ⊎ ((with_at s.place d is_full at.superblock ≡ is_full) × (new (info_word at.superblock) ≡ c))) [
                | inl in_class ↦ inl (place ∙ in_class)
                | inr is_one ↦ inr (place ∙ is_one.0, re.other_info at.superblock at.within apart ∙ is_one.1)
              ];
        }

  -- the heap has the shape
  pub refill : IsShape capacity new held (refilled s class d listed words first)
  refill = record {
    small = shape.small;
    used = re.used;
    named = λ b p. block_same capacity image new b re.raised (λ e part. elim (cases_eq e d) as (λ _. new (info_word e) ≡ image (info_word e)) [
      | inl same ↦ subst (λ k. new (info_word k) ≡ image (info_word k)) (sym same) (re.unheld b p (subst (λ k. HasPartIn capacity b k) same part))
      | inr other ↦ re.other_info e (let taken = part_taken (layout_at capacity image) b e (shape.named b p) part in let used = shape.used in
          omega arith) other
    ]) (shape.named b p);
    follows = re.follows;
    listed = re.in_lists;
    places = λ e within. elim (cases_eq e d) as (λ _. IsAs capacity new (refilled s class d listed words first) held e (with_at s.place d is_full e)) [
      | inl same ↦ subst (λ k. IsAs capacity new (refilled s class d listed words first) held k (with_at s.place d is_full k)) (sym same)
          (subst (λ p. IsAs capacity new (refilled s class d listed words first) held d p) (sym (with_at_same s.place d is_full)) full)
      | inr other ↦ subst (λ p. IsAs capacity new (refilled s class d listed words first) held e p) (sym (with_at_other s.place d is_full e other))
          (stays e within other)
    ];
    cached = cached_now;
    walks = λ c is_c. elim (cases_eq c class) as (λ _. Walks new (with_at s.start class first c) (with_at s.cached class words c)) [
      | inl one ↦ subst (λ k. Walks new (with_at s.start class first k) (with_at s.cached class words k)) (sym one)
          (subst (λ from. Walks new from (with_at s.cached class words class)) (sym (with_at_same s.start class first))
          (subst (λ ws. Walks new first ws) (sym (with_at_same s.cached class words)) re.walks))
      | inr other ↦ subst (λ from. Walks new from (with_at s.cached class words c)) (sym (with_at_other s.start class first c other))
          (subst (λ ws. Walks new (s.start c) ws) (sym (with_at_other s.cached class words c other))
          (walks_same image new (s.start c) (s.cached c) (λ w p. cached_word c w is_c p) (shape.walks c is_c)))
    ];
  }
