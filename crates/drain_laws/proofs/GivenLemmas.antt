-- What is to be drained of a class is what has been given, where nothing is left of it.
use Rattle.std.proofs.Common.{◌≡◌, ◌≢◌, ℕ, ◌+◌, ◌*◌, ◌<◌, ◌≤◌, ◌⊎◌, inl, inr, nat_eq, List, [], ◌∷◌, refl, ap, sym, subst, ◌∙◌, eq-eqb, eqb-true, arith}
use Rattle.std.proofs.lemmas.Bool.{cases_lt, cases_eq}
use Rattle.std.proofs.lemmas.List.{get_or_default}
use Rattle.heap_model.specs.declared.block.Block.{Block}
use Rattle.heap_model.specs.Counting.{one_if, times, total}
use Rattle.heap_model.specs.Geometry.{lists, start_word, superblock_words, superblock_of}
use Rattle.heap_model.specs.Recovered.{HasPartIn, IsBlockOfClass, IsFreeSuperblock, beside, freed, fresh}
use Rattle.heap_model.specs.Sizes.{IsClass, words_of_class}
use Rattle.heap_model.specs.Words.{head_first}
use Rattle.heap_model.proofs.CountingLemmas.{one_if_some, one_if_true, total_some}
use Rattle.heap_model.proofs.SizeLemmas.{four_blocks}
use Rattle.heap_at_rest.proofs.ListLemmas.{one_following, times_of}
use Rattle.heap_at_rest.proofs.PartLemmas.{class_part, one_superblock}
use Rattle.core_model.specs.Effects.{span_count}
use Rattle.core_model.specs.Held.{IsHeld, a_large, a_small}
use Rattle.core_model.specs.Memory.{Memory, used, head, info, link}
use Rattle.core_model.specs.Sound.{CoreShape, Good, IsCutBlock, ClaimsOf, BlocksOf, tally_of, times_cut}
use Rattle.core_model.specs.View.{Setup, View, of_class, times_large}
use Rattle.core_model.proofs.BlockLemmas.{superblock_is}
use Rattle.core_model.proofs.FrameLemmas.{below_not}
use Rattle.core_model.proofs.LinkFrameLemmas.{span_covers}
use Rattle.core_model.proofs.ListLemmas.{in_lists_at}
use Rattle.core_model.proofs.OwnerLemmas.{in_lists_total}
use Rattle.core_model.proofs.TotalLemmas.{ne-eqb-none, total_at}
use Rattle.seat_model.proofs.ClosedPlaceLemmas.{spanned}
use Rattle.seat_costs.specs.Idle.{IsIdle}
use Rattle.drain_laws.specs.Spent.{IsSpent}
use Rattle.drain_laws.specs.Gains.{HoldsMore, IsDrainableNow, IsDry, IsGiven, IsListed, IsToGive, NoneCame, layout_now}
use Rattle.drain_laws.proofs.SpentLemmas.{all_held, cut_or_large, full_held, large_not_class, most_large, not_listed_full, place}

-- the block of a class that begins at the word
abbrev small_block : ℕ → ℕ → Block
small_block class first = record { first_word = first; words = words_of_class class }

-- a heap with one seat that has no superblock in hand
module _ (k : Setup) (m : Memory) (v : View) (good : Good k m (v ∷ [])) (idle : IsIdle v) where
  abbrev g : CoreShape
  g = good.shape

  cap : v.setup.capacity ≡ k.capacity
  cap = ap (λ (s : Setup). s.capacity) (good.set_up 0 v (omega arith) refl).setup

  blocks : BlocksOf m v
  blocks = good.blocks 0 v (omega arith) refl

  claims : ClaimsOf m v
  claims = good.claims 0 v (omega arith) refl

  -- where a held block of a class lies
  pub record LiesIn (class b : ℕ) : Type 0 where
    pub d : ℕ
    pub is_class : IsClass class
    pub info_is : info m d ≡ class
    pub cut : 0 < times_cut g (tally_of (v ∷ [])) d
    pub index : ℕ
    pub of : IsBlockOfClass k.capacity class d index (small_block class b)

  pub lies : (class b : ℕ) → 0 < times b (of_class v.small class) → LiesIn class b
  lies class b there =
      let some = in_lists_total b class v.small there in
      let home = good.shaped.chained.inside b (omega arith) in
      let now : info m (superblock_of k.capacity b) ≡ class = ap (λ n. info m (superblock_of n b)) (sym cap) ∙ blocks.held class b there in
      let at : IsCutBlock k.capacity class (superblock_of k.capacity b) b = subst
      (λ c. IsCutBlock k.capacity c (superblock_of k.capacity b) b) now home.1 in
      record {
        d = superblock_of k.capacity b;
        is_class = subst IsClass now (good.shaped.chained.is_class (superblock_of k.capacity b) home.0);
        info_is = now;
        cut = home.0;
        index = at.index;
        of = record { below = at.below; at = at.at; size = refl };
      }

  -- it stands once in its list
  pub stands_once : (class b : ℕ) → class < lists → times b (of_class v.small class) ≤ 1
  stands_once class b less = elim (cases_lt 0 (times b (of_class v.small class))) as (λ _. times b (of_class v.small class) ≤ 1) [
    | inl there ↦
        let l = lies class b there in
        let one = good.shaped.chained.owned l.d b l.cut (subst (λ x. IsCutBlock k.capacity x l.d b) (sym l.info_is)
        (record { index = l.index; below = l.of.below; at = l.of.at })) in
        let lists_long = (good.set_up 0 v (omega arith) refl).small in
        let most = total_at (times b) v.small class (of_class v.small class) (omega (arith, less, lists_long))
        (get_or_default v.small class (of_class v.small class) [] (omega (arith, less, lists_long))) in
        omega (arith, one, most)
    | inr never ↦ omega arith
  ]

  -- what has a part in superblock d: a block of its class, or a large one
  pub record HasSmall (d : ℕ) : Type 0 where
    pub class : ℕ
    pub first : ℕ
    pub is_class : IsClass class
    pub info_is : info m d ≡ class
    pub cut : 0 < times_cut g (tally_of (v ∷ [])) d
    pub there : 0 < times first (of_class v.small class)
    pub at : superblock_of k.capacity first ≡ d

  pub has_part : (b : Block) (d : ℕ) → IsHeld v b → HasPartIn k.capacity b d → HasSmall d ⊎ (0 < times_large d v.large)
  has_part b d (a_small class first there) part =
      let l = lies class first there in
      let same = one_superblock k.capacity class d l.d l.index (small_block class first) l.is_class l.of part in
      inl (record {
        class = class;
        first = first;
        is_class = l.is_class;
        info_is = ap (info m) (sym same) ∙ l.info_is;
        cut = subst (λ e. 0 < times_cut g (tally_of (v ∷ [])) e) same l.cut;
        there = there;
        at = superblock_is k.capacity class l.d first l.is_class (record { index = l.index; below = l.of.below; at = l.of.at }) ∙ same;
      })
  has_part b d (a_large e n some count) part =
      let begins = part.begins in
      let ends = part.ends in
      let c = cap in
      inr (span_covers e d v.large (omega arith) (omega arith) (omega arith))

  -- so it was taken
  pub cut_taken : (d : ℕ) → 0 < times_cut g (tally_of (v ∷ [])) d + times_large d v.large → d < used m
  cut_taken d some = elim (cases_lt d (used m)) as (λ _. d < used m) [
    | inl less ↦ less
    | inr past ↦ absurd (let one = good.shaped.placed.one_place d in let none = below_not d (used m) past in omega arith)
  ]

  pub part_below : (b : Block) (d : ℕ) → IsHeld v b → HasPartIn k.capacity b d → d < used m
  part_below b d holds part = elim (has_part b d holds part) as (λ _. d < used m) [
    | inl small ↦ cut_taken d (let c = small.cut in omega arith)
    | inr large ↦ cut_taken d (omega arith)
  ]

  -- a large block is held, and has a part in each of its superblocks
  pub large_part : (d : ℕ) → 0 < times_large d v.large → (b : Block) × IsHeld v b × HasPartIn k.capacity b d
  large_part d some =
      let s = spanned d v.large (most_large k m v good idle) claims.some some in
      let low = s.low in
      let high = s.high in
      let c = cap in (
        record { first_word = start_word v.setup.capacity s.first; words = superblock_words * span_count s.first v.large },
        a_large s.first (span_count s.first v.large) (omega arith) refl,
        record { begins = omega arith; ends = omega arith },
      )

  -- a held block of a class has a part in its superblock
  pub small_part : (class b : ℕ) → (there : 0 < times b (of_class v.small class)) → (d : ℕ) → superblock_of k.capacity b ≡ d
      → HasPartIn k.capacity (small_block class b) d
  small_part class b there d at =
      let l = lies class b there in
      let same = sym (superblock_is k.capacity class l.d b l.is_class (record { index = l.index; below = l.of.below; at = l.of.at })) ∙ at in
      subst (HasPartIn k.capacity (small_block class b)) same (class_part k.capacity class l.d l.index (small_block class b) l.is_class l.of)

  -- a superblock of the class is free or not
  pub free_or_not : (class d : ℕ) → IsClass class → d < used m → info m d ≡ class
      → IsFreeSuperblock (layout_now k.capacity m) (IsHeld v) d ⊎ (IsFreeSuperblock (layout_now k.capacity m) (IsHeld v) d → ⊥)
  free_or_not class d is taken now = elim (cases_lt 0 (total (λ b. one_if (nat_eq (superblock_of k.capacity b) d)) (of_class v.small class))) [
    | inl some ↦ inr (λ free.
        let one = total_some (λ b. one_if (nat_eq (superblock_of k.capacity b) d)) (of_class v.small class) some in
        let there = times_of one.0 (of_class v.small class) one.1 in
        free.empty (small_block class one.0) (a_small class one.0 there)
        (small_part class one.0 there d (eqb-true (superblock_of k.capacity one.0) d
        (one_if_some (nat_eq (superblock_of k.capacity one.0) d) one.2))))
    | inr none ↦ inl (record {
      taken = taken;
      empty = λ b holds part. elim (has_part b d holds part) as (λ _. ⊥) [
        | inl small ↦
            let same : small.class ≡ class = sym small.info_is ∙ now in
            let there : 0 < times small.first (of_class v.small class) = subst (λ c. 0 < times small.first (of_class v.small c)) same small.there in
            let counted = counts small.first (of_class v.small class) there small.at in omega arith
        | inr large ↦ let zero_large = large_not_class k m v good idle d class is now in omega arith
      ];
    })
  ] where
    counts : (b : ℕ) (bs : List ℕ) → 0 < times b bs → superblock_of k.capacity b ≡ d
        → 0 < total (λ x. one_if (nat_eq (superblock_of k.capacity x) d)) bs
    counts b [] there at = absurd (omega arith)
    counts b (x ∷ bs) there at = elim (cases_eq x b) as (λ _. 0 < total (λ y. one_if (nat_eq (superblock_of k.capacity y) d)) (x ∷ bs)) [
      | inl same ↦ let one = one_if_true (nat_eq (superblock_of k.capacity x) d)
          (eq-eqb (superblock_of k.capacity x) d (ap (superblock_of k.capacity) same ∙ at)) in omega arith
      | inr other ↦ let none = ne-eqb-none x b other in let rest = counts b bs (omega arith) at in omega arith
    ]

-- the first state, and the last one
module _ (k : Setup) (m n : Memory) (v w : View) (good : Good k m (v ∷ [])) (idle : IsIdle v) (end : Good k n (w ∷ [])) (class : ℕ)
    (is : IsClass class)
    (dry : IsDry k.capacity n class w) (more : HoldsMore class v w) where
  abbrev spent : IsSpent k.capacity n class w
  spent = dry.spent

  -- blocks of each class are held still
  still : (c b : ℕ) → 0 < times b (of_class v.small c) → 0 < times b (of_class w.small c)
  still c b there = elim (cases_eq c class) as (λ _. 0 < times b (of_class w.small c)) [
    | inl same ↦ subst (λ x. 0 < times b (of_class w.small x)) (sym same) (more.kept b (subst (λ x. 0 < times b (of_class v.small x)) same there))
    | inr other ↦ subst (λ bs. 0 < times b bs) (sym (more.others c other)) there
  ]

  same_large : (d : ℕ) → times_large d w.large ≡ times_large d v.large
  same_large d = ap (times_large d) more.large

  -- so a superblock in which one is keeps its class
  still_class : (d : ℕ) → (s : HasSmall k m v good idle d) → info n d ≡ s.class
  still_class d s =
      let l = lies k n w end spent.idle s.class s.first (still s.class s.first s.there) in
      ap (info n) (sym s.at ∙ superblock_is k.capacity s.class l.d s.first l.is_class (record { index = l.index; below = l.of.below; at = l.of.at }))
      ∙ l.info_is

  -- what was given was to be drained
  pub was_to_drain : (b : Block) → IsGiven class v w b → IsToGive k.capacity m v class b
  was_to_drain b given = elim (cases_lt l.d (used m)) as (λ _. IsToGive k.capacity m v class b) [
    | inr past ↦ fresh b l.d l.index is past (let less = cut_taken k n w end spent.idle l.d (let c = l.cut in omega arith) in
        let room = end.shaped.durable.room in omega arith) of
    | inl taken ↦ elim (cases_eq (info m l.d) class) as (λ _. IsToGive k.capacity m v class b) [
      | inl now ↦ elim (free_or_not k m v good idle class l.d is taken now) as (λ _. IsToGive k.capacity m v class b) [
        | inl free ↦ freed b l.d l.index is free of
        | inr not_free ↦ beside b l.d l.index is taken now of given.new not_free
      ]
      | inr other ↦ freed b l.d l.index is (record {
        taken = taken;
        empty = λ a holds part. elim (has_part k m v good idle a l.d holds part) as (λ _. ⊥) [
          | inl small ↦ other (small.info_is ∙ sym (still_class l.d small) ∙ l.info_is)
          | inr large ↦ let none = large_not_class k n w end spent.idle l.d class is l.info_is in let same = same_large l.d in omega arith
        ];
      }) of
    ]
  ] where
    l : LiesIn k n w end spent.idle class b.first_word
    l = lies k n w end spent.idle class b.first_word given.now

    of : IsBlockOfClass k.capacity class l.d l.index b
    of = record { below = l.of.below; at = l.of.at; size = given.words }

  -- each block of a superblock that is of the class now is given
  now_given : (b : Block) (d index : ℕ) → d < k.capacity → info n d ≡ class → IsBlockOfClass k.capacity class d index b → (IsHeld v b → ⊥)
      → IsGiven class v w b
  now_given b d index less now of new = record {
    words = of.size;
    now = (all_held k n w end class is spent d less now).blocks b.first_word (record { index = index; below = of.below; at = of.at });
    new = new;
  }

  -- a superblock in which nothing was held, and which was in no list of another class, is of the class now
  becomes : (d : ℕ) → d < k.capacity → ((b : Block) → IsHeld v b → HasPartIn k.capacity b d → ⊥)
      → ((c : ℕ) → IsClass c → c ≢ class → IsListed k.capacity n c d → ⊥) → info n d ≡ class
  becomes d less none unlisted = elim (cases_eq (info n d) class) as (λ _. info n d ≡ class) [
    | inl same ↦ same
    | inr other ↦ absurd (held_there other)
  ] where
    not_large : times_large d w.large ≡ 0
    not_large = elim (cases_lt 0 (times_large d v.large)) as (λ _. times_large d w.large ≡ 0) [
      | inl some ↦ let p = large_part k m v good idle d some in absurd (none p.0 p.1 p.2)
      | inr zero_large ↦ let same = same_large d in omega arith
    ]

    is_cut : 0 < times_cut end.shape (tally_of (w ∷ [])) d
    is_cut = let one = cut_or_large k n w end class is spent d less in let l = not_large in omega arith

    c : ℕ
    c = info n d

    class_is : IsClass c
    class_is = end.shaped.chained.is_class d is_cut

    held_there : c ≢ class → ⊥
    held_there other = elim (cases_lt 0 (times d (end.shape.lists c))) as (λ _. ⊥) [
      | inl listed ↦ unlisted c class_is other (record {
        descriptors = end.shape.lists c;
        leads = end.shaped.lists.follows c (let last = class_is.last in omega arith);
        has = listed;
      })
      | inr free ↦
          let full = not_listed_full k n w end spent.idle d c is_cut refl (omega arith) in
          let first = start_word k.capacity d + 0 * words_of_class c in
          let at : IsCutBlock k.capacity c d first = record { index = 0; below = (let four = four_blocks c class_is in omega arith); at = refl } in
          let there = full_held k n w end spent.idle d c class_is is_cut refl full (dry.caches c class_is) first at in
          let was : 0 < times first (of_class v.small c) = subst (λ bs. 0 < times first bs) (more.others c other) there in
          none (small_block c first) (a_small c first was) (small_part k m v good idle c first was d (superblock_is k.capacity c d first class_is at))
    ]

  module _ (came : NoneCame k.capacity m n) (drainable : IsDrainableNow k.capacity m v class) where
    in_list : (list d : ℕ) → list < lists → IsListed k.capacity m list d → 0 < times d (good.shape.lists list)
    in_list list d less l = subst (λ ds. 0 < times d ds) (one_following (link m) k.capacity (head_first (head m list)) l.descriptors
        (good.shape.lists list) l.leads (good.shaped.lists.follows list less)) l.has

    -- one that comes from the list of a class was cut for it
    was_listed : (c d : ℕ) → IsClass c → IsListed k.capacity n c d → (info m d ≡ c) × (d < used m) × (times d (good.shape.lists 0) ≡ 0)
    was_listed c d c_is listed =
        let l = in_list c d (let last = c_is.last in omega arith) (came c d c_is listed) in
        let fits = good.shaped.listed.in_class c d c_is l in
        let some = in_lists_at d good.shape.lists c (let last = c_is.last in omega arith) (let first = c_is.some in omega arith) in
        let taken = cut_taken k m v good idle d (omega arith) in
        (fits.0, taken, let one = place k m v good idle d taken in omega arith)

    -- what was to be drained was given
    pub has_given : (b : Block) → IsToGive k.capacity m v class b → IsGiven class v w b
    has_given b (beside _ d index c_is taken now of unkept not_free) = now_given b d index
        (let room = good.shaped.durable.room in omega arith) still_of of unkept where
          still_of : info n d ≡ class
          still_of = elim (cases_eq (info n d) class) as (λ _. info n d ≡ class) [
            | inl same ↦ same
            | inr other ↦ absurd (not_free (record {
              taken = taken;
              empty = λ a holds part. elim (has_part k m v good idle a d holds part) as (λ _. ⊥) [
                | inl small ↦ other (still_class d small ∙ sym small.info_is ∙ now)
                | inr large ↦ let none = large_not_class k m v good idle d class is now in omega arith
              ];
            }))
          ]
    has_given b (freed _ d index c_is free of) =
        let taken = free.taken in
        let less : d < k.capacity = (let room = good.shaped.durable.room in omega arith) in
        now_given b d index less
        (becomes d less free.empty (λ c is_c other listed. let was = was_listed c d is_c listed in
        elim (drainable.each d taken free.empty) as (λ _. ⊥) [
          | inl now ↦ other (sym was.0 ∙ now)
          | inr in_free ↦ let there = in_list 0 d (omega arith) in_free in let none = was.2 in omega arith
        ])) of
        (λ holds. free.empty b holds (class_part k.capacity class d index b is of))
    has_given b (fresh _ d index c_is past within of) =
        let untaken : (a : Block) → IsHeld v a → HasPartIn k.capacity a d
        → ⊥ = (λ a holds part. let taken = part_below k m v good idle a d holds part in omega arith) in
        now_given b d index within
        (becomes d within untaken (λ c is_c other listed. let was = was_listed c d is_c listed in let taken = was.1 in omega arith)) of
        (λ holds. untaken b holds (class_part k.capacity class d index b is of))
