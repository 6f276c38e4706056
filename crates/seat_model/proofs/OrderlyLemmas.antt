-- What a close leaves of seats that keep nothing back is an orderly image.
use Rattle.std.proofs.Common.{◌≡◌, ◌≢◌, ℕ, ◌+◌, ◌*◌, ◌<◌, ◌≤◌, inl, inr, nat_lt, List, [], ◌∷◌, Contains, get_or, length, slice_index, Option, refl, ap, sym, subst, ◌∙◌, arith}
use Rattle.std.specs.Prelude.{AllPairs}
use Rattle.std.proofs.lemmas.Bool.{cases_lt, cases_eq}
use Rattle.std.proofs.lemmas.List.{get_or_default}
use Rattle.std.proofs.lemmas.List.Kept.{AllPairs-cons}
use Rattle.heap_model.specs.Chains.{Follows, IsListOf, Walks}
use Rattle.heap_model.specs.Counting.{times, total}
use Rattle.heap_model.specs.Durability.{IsClosedImage}
use Rattle.heap_model.specs.Geometry.{image_words, link_word, start_word, superblock_words}
use Rattle.heap_model.specs.Header.{IsWellFormed, HasKindsBelow, capacity_of, used_of}
use Rattle.heap_model.specs.Image.{Image}
use Rattle.heap_model.specs.Sizes.{IsClass, words_of_class, blocks_of}
use Rattle.heap_model.specs.Words.{anchor_count, anchor_first, anchor_state, head_first}
use Rattle.heap_model.proofs.CountingLemmas.{times_none}
use Rattle.heap_model.proofs.HeaderLemmas.{good_header}
use Rattle.heap_model.proofs.ListLemmas.{one_at_most}
use Rattle.heap_model.proofs.SizeLemmas.{two_words}
use Rattle.heap_at_rest.proofs.ListLemmas.{follows_same, times_of}
use Rattle.core_model.specs.Effects.{span_count}
use Rattle.core_model.specs.Held.{a_large, volatile_image}
use Rattle.core_model.specs.Memory.{Memory, used, head, info, anchor, link, next, memory_of}
use Rattle.core_model.specs.Sound.{CoreShape, Each, Good, IsAnchoredBy, IsCutBlock, Sound, tally_of, times_cut}
use Rattle.core_model.specs.View.{Setup, View, times_large}
use Rattle.core_model.proofs.BlockLemmas.{inside_of}
use Rattle.core_model.proofs.CountLemmas.{chain_short}
use Rattle.core_model.proofs.FrameLemmas.{below_is}
use Rattle.core_model.proofs.HeaderLemmas.{closed_header}
use Rattle.core_model.proofs.HeldLemmas.{closed_names}
use Rattle.core_model.proofs.LinkFrameLemmas.{span_covers}
use Rattle.core_model.proofs.OpenCountLemmas.{walks_alike}
use Rattle.core_model.proofs.TotalLemmas.{eq-eqb-one, total_at}
use Rattle.heap_at_rest.specs.Orderly.{HasOrderlyAnchor, HasPartialChain, IsLargeOutside, IsOrderly, IsOrderlyOutside, all_free, none_free, some_free, of_class, of_large}
use Rattle.seat_model.specs.Emptied.{KeepsNothing}
use Rattle.seat_model.proofs.ClosedPlaceLemmas.{IsInLarge, in_large, inside, place, taken}
use Rattle.seat_model.proofs.WordLemmas.{anchor_is, capacity_is, data_is, head_is, info_is, link_is, used_is}

-- numbers that stand in a list at most once differ
pub all_differ : (xs : List ℕ) → ((x : ℕ) → times x xs ≤ 1) → AllPairs (λ x y. x ≢ y) xs
all_differ [] once = λ i j d less within. absurd (omega (arith, within))
all_differ (x ∷ xs) once = AllPairs-cons (λ a b. a ≢ b) x xs
    (λ i d within same. let there = times_of x xs (i, within, get_or_default xs i x d within ∙ sym same) in let one = eq-eqb-one x x refl in
    let most = once x in omega arith)
    (all_differ xs (λ y. let most = once y in omega arith))

module _ (k : Setup) (words : List ℕ) (views : List View) (sound : Sound k words views) (nothing : Each views KeepsNothing) (image : Image)
    (closed : IsClosedImage (volatile_image k.capacity words) image) where
  abbrev m : Memory
  m = memory_of k.capacity words

  abbrev good : Good k m views
  good = sound.good

  abbrev g : CoreShape
  g = good.shape

  abbrev pub free_list : List ℕ
  free_list = g.lists 0

  abbrev cut : ℕ → ℕ
  cut = times_cut g (tally_of views)

  abbrev large : ℕ → ℕ
  large d = total (λ (v : View). times_large d v.large) views

  pub in_room : (d : ℕ) → d < used_of image → d < k.capacity
  in_room d less = inside k words views sound nothing d (let u = used_is k words views sound image closed in omega arith)

  -- the free list
  pub listed_below : (d : ℕ) → Contains free_list d → d < used m
  listed_below d there = let some = times_of d free_list there in taken k words views sound nothing d (omega arith)

  pub free_listed : IsListOf image 0 free_list
  free_listed =
      subst (λ n. Follows (λ d. image (link_word d)) (capacity_of image) n free_list)
      (ap head_first (sym (head_is k words views sound image closed 0 (omega arith))))
      (subst (λ c. Follows (λ d. image (link_word d)) c (head_first (head m 0)) free_list) (sym (capacity_is k words views sound image closed))
      (follows_same (link m) (λ d. image (link_word d)) k.capacity (head_first (head m 0)) free_list
      (λ d there. link_is k words views sound image closed d (inside k words views sound nothing d (listed_below d there)))
      (good.shaped.lists.follows 0 (omega arith))))

  -- the chain of a cut superblock
  pub anchored : (d : ℕ) → 0 < cut d → IsAnchoredBy (next m) k.capacity (info m d) d (anchor m d) (g.chains d)
  anchored = good.shaped.chained.anchored

  pub chain_once : (d b : ℕ) → 0 < cut d → times b (g.chains d) ≤ 1
  chain_once d b some = elim (cases_lt 0 (times b (g.chains d))) as (λ _. times b (g.chains d) ≤ 1) [
    | inl there ↦ let one = good.shaped.chained.owned d b some (good.shaped.chained.chained d b some there) in omega arith
    | inr none ↦ omega arith
  ]

  pub block_there : (d class b : ℕ) → IsClass class → IsCutBlock k.capacity class d b → d < k.capacity → image b ≡ next m b
  block_there d class b is at less = let lies = inside_of k.capacity class d b is at in let low = lies.0 in let high = lies.1 in
      data_is k words views sound image closed b (omega arith) (let two = two_words class is in omega arith)

  module _ (d : ℕ) (less : d < used_of image) (some : 0 < cut d) where
    class_is : IsClass (info m d)
    class_is = good.shaped.chained.is_class d some

    home : (b : ℕ) → 0 < times b (g.chains d) → IsCutBlock k.capacity (info m d) d b
    home b there = good.shaped.chained.chained d b some there

    pub short : length (g.chains d) ≤ blocks_of (info m d)
    short = chain_short k.capacity (info m d) d (g.chains d) class_is home (λ b at. chain_once d b some)

    -- a chain of some blocks and not all
    pub partial : length (g.chains d) ≢ 0 → length (g.chains d) ≢ blocks_of (info m d) → HasPartialChain image (info m d) d (g.chains d)
    partial not_none not_all =
        let a = anchored d some in
        let anchor_at = anchor_is k words views sound image closed d (in_room d less) in
        let cap = capacity_is k words views sound image closed in
        record {
          state = ap anchor_state anchor_at ∙ a.partial not_none not_all;
          count = ap anchor_count anchor_at ∙ a.count;
          some = omega arith;
          not_all = let s = short in omega arith;
          linked = record {
            walks = subst (λ n. Walks image n (g.chains d)) (ap (λ c. start_word c d + anchor_first (anchor m d) * words_of_class (info m d))
                (sym cap) ∙ ap (λ w. start_word (capacity_of image) d + anchor_first w * words_of_class (info m d)) (sym anchor_at))
                (walks_alike (next m) image (start_word k.capacity d + anchor_first (anchor m d) * words_of_class (info m d)) (g.chains d)
                (λ b there. block_there d (info m d) b class_is (home b there) (in_room d less)) a.walks);
            blocks = λ b there. let at = home b (times_of b (g.chains d) there) in (
              at.index,
              record { below = at.below; at = at.at ∙ ap (λ c. start_word c d + at.index * words_of_class (info m d)) (sym cap); size = refl },
            );
          };
          different = all_differ (g.chains d) (λ b. chain_once d b some);
        }

    pub orderly_anchor : HasOrderlyAnchor image (info m d) d
    orderly_anchor =
        let a = anchored d some in
        let anchor_at = anchor_is k words views sound image closed d (in_room d less) in
        elim (cases_eq (length (g.chains d)) 0) as (λ _. HasOrderlyAnchor image (info m d) d) [
          | inl none ↦ none_free (anchor_at ∙ a.full.1 none)
          | inr not_none ↦ elim (cases_eq (length (g.chains d)) (blocks_of (info m d))) as (λ _. HasOrderlyAnchor image (info m d) d) [
            | inl all ↦ all_free (ap anchor_state anchor_at ∙ a.empty.1 all)
            | inr not_all ↦ some_free (g.chains d) (partial not_none not_all)
          ]
        ]

  -- a superblock that is cut, or of a large block, is not in the free list
  pub not_free : (d : ℕ) → 0 < cut d + large d → Contains free_list d → ⊥
  not_free d some there = let one = place k words views sound nothing d in let listed = times_of d free_list there in
      let most = one_at_most (nat_lt d (used m)) in omega arith

  -- a held large block
  pub large_outside : (i : ℕ) (v : View) → i < length views → get_or views i v ≡ v → (d n : ℕ) → 0 < n → span_count d v.large ≡ n
      → IsLargeOutside image free_list (record { first_word = start_word v.setup.capacity d; words = superblock_words * n })
  large_outside i v below at d n some count = record {
    block = (closed_names k words views sound image closed (record { first_word = start_word v.setup.capacity d; words = superblock_words * n })
        (record { seat = i; view = v; below = below; at = at; holds = a_large d n some count })).block;
    large = omega arith;
    outside = λ e part there.
        let begins = part.begins in
        let ends = part.ends in
        let cap : v.setup.capacity ≡ k.capacity = ap (λ (s : Setup). s.capacity) (good.set_up i v below at).setup in
        let same = capacity_is k words views sound image closed in
        let covers = span_covers d e v.large (omega arith) (omega arith) (omega arith) in
        let mine = total_at (λ (u : View). times_large e u.large) views i v below at in
        not_free e (omega arith) there;
  }

  -- a superblock of one
  large_orderly : (d : ℕ) → IsInLarge k words views sound nothing d → IsOrderlyOutside image free_list d
  large_orderly d l =
      let low = l.span.low in
      let high = l.span.high in
      let cap : l.view.setup.capacity ≡ k.capacity = ap (λ (s : Setup). s.capacity) (good.set_up l.seat l.view l.below_count l.at).setup in
      let same = capacity_is k words views sound image closed in
      of_large (record { first_word = start_word l.view.setup.capacity l.span.first; words = superblock_words * span_count l.span.first l.view.large })
      (large_outside l.seat l.view l.below_count l.at l.span.first (span_count l.span.first l.view.large) (omega arith) refl)
      (record { begins = omega arith; ends = omega arith })

  orderly_outside : (d : ℕ) → d < used_of image → (Contains free_list d → ⊥) → IsOrderlyOutside image free_list d
  orderly_outside d less outside =
      let none = times_none d free_list outside in
      let one = place k words views sound nothing d in
      let u = used_is k words views sound image closed in
      let is = below_is d (used m) (omega arith) in
      elim (cases_lt 0 (cut d)) as (λ _. IsOrderlyOutside image free_list d) [
        | inl some ↦ of_class (info m d) (good.shaped.chained.is_class d some) (info_is k words views sound image closed d (in_room d less))
            (orderly_anchor d less some)
        | inr not_cut ↦ large_orderly d (in_large k words views sound nothing d (omega arith))
      ]

  pub orderly : IsWellFormed (8 * length k.opened) (slice_index k.opened) → (limit : Option ℕ) → HasKindsBelow limit (slice_index k.opened)
      → IsOrderly limit (8 * image_words k.capacity) image
  orderly formed limit kinds = record {
    header = good_header limit (8 * image_words k.capacity) image (closed_header k words views sound image closed formed limit kinds);
    closed = closed.state;
    free = free_list;
    listed = free_listed;
    free_are = λ d there.
        let below = listed_below d there in (
          (let u = used_is k words views sound image closed in omega arith),
          ap anchor_state (anchor_is k words views sound image closed d (inside k words views sound nothing d below))
              ∙ good.shaped.listed.free d (times_of d free_list there),
        );
    others = orderly_outside;
    untaken = λ d past less.
        let u = used_is k words views sound image closed in
        let cap = capacity_is k words views sound image closed in
        let room : d < k.capacity = omega arith in
        let blank = (good.shaped.untaken.blank d (omega arith) room).volatile in (
          info_is k words views sound image closed d room ∙ blank.0,
          anchor_is k words views sound image closed d room ∙ blank.1,
          link_is k words views sound image closed d room ∙ blank.2,
        );
  }
