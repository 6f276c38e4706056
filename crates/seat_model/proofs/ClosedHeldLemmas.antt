-- The blocks that the anchors of such an image hold are those that the seats hold.
use Rattle.std.proofs.Common.{◌≡◌, ℕ, ◌+◌, ◌*◌, ◌<◌, ◌≤◌, ◌↔◌, inl, inr, List, [], ◌∷◌, Contains, get_or, length, refl, ap, sym, subst, ◌∙◌, arith}
use Rattle.std.proofs.lemmas.Bool.{cases_lt, cases_eq}
use Rattle.heap_model.specs.declared.block.Block.{Block}
use Rattle.heap_model.specs.Blocks.{Begins, layout_of, of_class, as_large}
use Rattle.heap_model.specs.Chains.{IsListOf}
use Rattle.heap_model.specs.Counting.{times, total}
use Rattle.heap_model.specs.Durability.{IsClosedImage}
use Rattle.heap_model.specs.Geometry.{anchor_word, info_word, link_word, start_word, superblock_words, head_word, superblock_of}
use Rattle.heap_model.specs.Header.{capacity_of, used_of}
use Rattle.heap_model.specs.Image.{Image}
use Rattle.heap_model.specs.Recovered.{IsBlockOfClass}
use Rattle.heap_model.specs.Sizes.{IsClass, words_of_class, blocks_of}
use Rattle.heap_model.specs.Words.{anchor_first, anchor_state, head_first, large_info, partial_state}
use Rattle.heap_model.proofs.CountingLemmas.{times_none}
use Rattle.heap_model.proofs.PartLemmas.{same_fields}
use Rattle.heap_model.proofs.SizeLemmas.{few_words}
use Rattle.heap_at_rest.proofs.ListLemmas.{one_following, times_of}
use Rattle.core_model.specs.Effects.{chain as walked, span_count}
use Rattle.core_model.specs.Held.{IsHeld, IsHeldBy, a_large, a_small, volatile_image}
use Rattle.core_model.specs.Memory.{Memory, used, info, memory_of}
use Rattle.core_model.specs.Sound.{CoreShape, Each, Good, IsCutBlock, Sound, tally_of, times_cut}
use Rattle.core_model.specs.View.{Setup, View, times_block, times_large}
use Rattle.core_model.proofs.BlockLemmas.{superblock_is, walks_chain}
use Rattle.core_model.proofs.CountLemmas.{all_home}
use Rattle.core_model.proofs.FrameLemmas.{below_is}
use Rattle.core_model.proofs.OwnerLemmas.{in_lists_total}
use Rattle.core_model.proofs.TotalLemmas.{total_at}
use Rattle.heap_at_rest.specs.Orderly.{HasPartialChain, IsHeldByAnchors, IsLargeOutside, IsOutsideFreeList, as_large as held_as_large, in_full, in_partial}
use Rattle.seat_model.specs.Emptied.{KeepsNothing}
use Rattle.seat_model.proofs.OrderlyLemmas.{anchored, chain_once, free_list, free_listed, in_room, large_outside, not_free, partial}
use Rattle.seat_model.proofs.ClosedPlaceLemmas.{IsInLarge, in_large, in_small, large_behind, large_first, large_not_class, place, taken}
use Rattle.seat_model.proofs.WordLemmas.{anchor_is, capacity_is, info_is, used_is}

module _ (k : Setup) (words : List ℕ) (views : List View) (sound : Sound k words views) (nothing : Each views KeepsNothing) (image : Image)
    (closed : IsClosedImage (volatile_image k.capacity words) image) where
  abbrev m : Memory
  m = memory_of k.capacity words

  abbrev good : Good k m views
  good = sound.good

  abbrev g : CoreShape
  g = good.shape

  abbrev cut : ℕ → ℕ
  cut = times_cut g (tally_of views)

  abbrev large : ℕ → ℕ
  large d = total (λ (v : View). times_large d v.large) views

  abbrev free : List ℕ
  free = free_list k words views sound nothing image closed

  -- a taken superblock that is not in the free list is cut, or of a large block
  outside_free : (d : ℕ) → d < used_of image → (listed : List ℕ) → IsListOf image 0 listed → (Contains listed d → ⊥) → cut d + large d ≡ 1
  outside_free d less listed is outside =
      let same = one_following (λ e. image (link_word e)) (capacity_of image) (head_first (image (head_word 0))) listed free is
      (free_listed k words views sound nothing image closed) in
      let none = times_none d free (subst (λ (ds : List ℕ). Contains ds d → ⊥) same outside) in
      let one = place k words views sound nothing d in
      let u = used_is k words views sound image closed in
      let now = below_is d (used m) (omega arith) in
      omega arith

  module _ (b : Block) (class d index : ℕ) (less : d < used_of image) (is : IsClass class) (info_at : image (info_word d) ≡ class)
      (of : IsBlockOfClass (capacity_of image) class d index b) where
    info_now : info m d ≡ class
    info_now = sym (info_is k words views sound image closed d (in_room k words views sound nothing image closed d less)) ∙ info_at

    block_at : IsCutBlock k.capacity class d b.first_word
    block_at = record {
      index = index;
      below = of.below;
      at = of.at
          ∙ ap (λ c. start_word c d + index * words_of_class class) (capacity_is k words views sound image closed);
    }

    cut_by : cut d + large d ≡ 1 → 0 < cut d
    cut_by one = let none = large_not_class k words views sound nothing d class is info_now in omega arith

    -- where it is not in the chain, a seat has it
    has_owner : 0 < cut d → times b.first_word (g.chains d) ≡ 0 → IsHeldBy views b
    has_owner some none =
        let at = block_at in
        let one = good.shaped.chained.owned d b.first_word some (subst (λ c. IsCutBlock k.capacity c d b.first_word) (sym info_now) at) in
        let home = superblock_is k.capacity class d b.first_word is at in
        let small = in_small k words views sound nothing b.first_word (omega arith) class (ap (info m) home ∙ info_now) in
        record {
          seat = small.seat;
          view = small.view;
          below = small.below_count;
          at = small.at;
          holds = subst (IsHeld small.view) (same_fields (record { first_word = b.first_word; words = words_of_class class }) b refl
              (sym of.size)) (a_small class b.first_word small.there);
        }

  -- a partial anchor leads along one chain
  one_chain : (class d : ℕ) (xs ys : List ℕ) → HasPartialChain image class d xs → HasPartialChain image class d ys → xs ≡ ys
  one_chain class d xs ys a b =
      let from = start_word (capacity_of image) d + anchor_first (image (anchor_word d)) * words_of_class class in
      sym (walks_chain image from xs a.linked.walks) ∙ ap (walked image from) (sym a.count ∙ b.count) ∙ walks_chain image from ys b.linked.walks

  -- which is that of the superblock
  its_chain : (d class : ℕ) → d < used_of image → 0 < cut d → info m d ≡ class → anchor_state (image (anchor_word d)) ≡ partial_state
      → HasPartialChain image class d (g.chains d)
  its_chain d class less some now state =
      let a = anchored k words views sound nothing image closed d some in
      let at = anchor_is k words views sound image closed d (in_room k words views sound nothing image closed d less) in
      subst (λ c. HasPartialChain image c d (g.chains d)) now (partial k words views sound nothing image closed d less some
      (λ none. let e : ◌≡◌ {A = ℕ} 1 2 = sym state ∙ ap anchor_state (at ∙ a.full.1 none) in omega (arith, e))
      (λ all. let e : ◌≡◌ {A = ℕ} 1 0 = sym state ∙ ap anchor_state at ∙ a.empty.1 all in omega (arith, e)))

  -- a large block that begins in superblock d, by an info of so many superblocks, is a seat's
  held_span : (b : Block) (d count : ℕ) → 1 ≤ count → info m d ≡ large_info count → b.first_word ≡ start_word (capacity_of image) d
      → b.words ≡ superblock_words * count
      → IsInLarge k words views sound nothing d → IsHeldBy views b
  held_span b d count some now first size l = by_first here where
    here : l.span.first ≡ d
    here = elim (cases_eq l.span.first d) as (λ _. l.span.first ≡ d) [
      | inl same ↦ same
      | inr other ↦ let none = large_behind k words views sound nothing d l other in absurd (omega arith)
    ]

    as_many : span_count l.span.first l.view.large ≡ count
    as_many = let first_info = large_first k words views sound nothing d l in let e = ap (info m) here in omega arith

    cap : l.view.setup.capacity ≡ k.capacity
    cap = ap (λ (s : Setup). s.capacity) (good.set_up l.seat l.view l.below_count l.at).setup

    by_first : l.span.first ≡ d → IsHeldBy views b
    by_first same = record {
      seat = l.seat;
      view = l.view;
      below = l.below_count;
      at = l.at;
      holds = subst (IsHeld l.view) (same_fields (record {
        first_word = start_word l.view.setup.capacity l.span.first;
        words = superblock_words * count;
      }) b
          (let e = capacity_is k words views sound image closed in let c = cap in omega arith) (sym size))
          (a_large l.span.first count (omega arith) as_many);
    }

  -- a large block that is not in the free list
  held_large : (b : Block) → (listed : List ℕ) → IsListOf image 0 listed → IsLargeOutside image listed b → IsHeldBy views b
  held_large b listed is out = by_begins out.block.superblock out.block.words out.block.count out.block.is_of.begins refl refl refl where
    by_begins : (d w n : ℕ) → Begins (layout_of image) d w n → out.block.superblock ≡ d → out.block.words ≡ w → out.block.count ≡ n → IsHeldBy views b
    by_begins d w n (of_class c info_at is_class) same_d same_w same_n =
        let few = few_words c is_class in let size = out.block.is_of.size in let most = out.large in absurd (omega arith)
    by_begins d w n (as_large count some info_at room zeros) same_d same_w same_n =
        let of = out.block.is_of in
        let size = of.size in
        let at = of.at in
        let index = of.below in
        let first : b.first_word ≡ start_word (capacity_of image) d = at
        ∙ ap (λ i. start_word (capacity_of image) out.block.superblock + i * out.block.words) (let none : out.block.index ≡ 0 = omega arith in none)
        ∙ (let start : start_word (capacity_of image) out.block.superblock + 0 * out.block.words ≡ start_word
        (capacity_of image) out.block.superblock = omega arith in start) ∙ ap (start_word (capacity_of image)) same_d in
        let less : d < used_of image = omega arith in
        let one = outside_free d less listed is (out.outside d (record { begins = omega arith; ends = omega arith })) in
        let now : info m d ≡ large_info count = sym (info_is k words views sound image closed d
        (in_room k words views sound nothing image closed d less)) ∙ info_at in
        let not_cut : cut d ≡ 0 = elim (cases_lt 0 (cut d)) as (λ _. cut d ≡ 0) [
          | inl there ↦ let class = good.shaped.chained.is_class d there in let last = class.last in absurd (omega arith)
          | inr none ↦ omega arith
        ] in
        held_span b d count some now first (size ∙ same_w) (in_large k words views sound nothing d (omega arith))

  held_by_seats : (b : Block) → IsHeldByAnchors image b → IsHeldBy views b
  held_by_seats b (in_full listed class d index out is info_at anchor_at of) =
      let less = out.taken in
      let some = cut_by b class d index less is info_at of (outside_free d less listed out.listed out.outside) in
      let now = sym (anchor_is k words views sound image closed d (in_room k words views sound nothing image closed d less)) ∙ anchor_at in
      let none = (anchored k words views sound nothing image closed d some).full.0 now in
      has_owner b class d index less is info_at of some (no_times b.first_word (g.chains d) none) where
        no_times : (x : ℕ) (xs : List ℕ) → length xs ≡ 0 → times x xs ≡ 0
        no_times x [] e = refl
        no_times x (y ∷ ys) e = absurd (omega (arith, e))
  held_by_seats b (in_partial listed chain class d index out is info_at chained of unchained) =
      let less = out.taken in
      let some = cut_by b class d index less is info_at of (outside_free d less listed out.listed out.outside) in
      let mine = its_chain d class less some (info_now b class d index less is info_at of) chained.state in
      let same = one_chain class d chain (g.chains d) chained mine in
      has_owner b class d index less is info_at of some (times_none b.first_word (g.chains d)
      (subst (λ (bs : List ℕ). Contains bs b.first_word → ⊥) same unchained))
  held_by_seats b (held_as_large listed is out) = held_large b listed is out

  held_by_anchors : (i : ℕ) (v : View) → i < length views → get_or views i v ≡ v → (b : Block) → IsHeld v b → IsHeldByAnchors image b
  held_by_anchors i v below at b (a_small class first there) =
      let listed = in_lists_total first class v.small there in
      let mine = total_at (times_block first) views i v below at in
      let home = good.shaped.chained.inside first (omega arith) in
      let cap : v.setup.capacity ≡ k.capacity = ap (λ (s : Setup). s.capacity) (good.set_up i v below at).setup in
      let d = superblock_of k.capacity first in
      let some = home.0 in
      let now : info m d ≡ class = ap (λ c. info m (superblock_of c first)) (sym cap) ∙ (good.blocks i v below at).held class first there in
      let is : IsClass class = subst IsClass now (good.shaped.chained.is_class d some) in
      let block_at : IsCutBlock k.capacity class d first = subst (λ c. IsCutBlock k.capacity c d first) now home.1 in
      let one = good.shaped.chained.owned d first some home.1 in
      let u = used_is k words views sound image closed in
      let less : d < used_of image = subst (λ n. d < n) (sym u) (taken k words views sound nothing d (omega arith)) in
      let room = in_room k words views sound nothing image closed d less in
      let info_at = info_is k words views sound image closed d room ∙ now in
      let anchor_at = anchor_is k words views sound image closed d room in
      let a = anchored k words views sound nothing image closed d some in
      let out : IsOutsideFreeList image free d = record {
        taken = less;
        listed = free_listed k words views sound nothing image closed;
        outside = not_free k words views sound nothing image closed d (omega arith);
      } in
      let of : IsBlockOfClass (capacity_of image) class d block_at.index (record { first_word = first; words = words_of_class class }) =
      record {
        below = block_at.below;
        at = block_at.at ∙ ap (λ c. start_word c d + block_at.index * words_of_class class)
            (sym (capacity_is k words views sound image closed));
        size = refl;
      } in
      elim (cases_eq (length (g.chains d)) 0) as (λ _. IsHeldByAnchors image (record { first_word = first; words = words_of_class class })) [
        | inl none ↦ in_full free class d block_at.index out is info_at (anchor_at ∙ a.full.1 none) of
        | inr not_none ↦ elim (cases_eq (length (g.chains d)) (blocks_of (info m d))) as
            (λ _. IsHeldByAnchors image (record { first_word = first; words = words_of_class class })) [
              | inl all ↦
                  let there_too = all_home k.capacity (info m d) d (g.chains d) (good.shaped.chained.is_class d some) all
                  (λ x p. good.shaped.chained.chained d x some p)
                  (λ x at. chain_once k words views sound nothing image closed d x some) first home.1 in absurd (omega arith)
              | inr not_all ↦ in_partial free (g.chains d) class d block_at.index out is info_at
                  (subst (λ c. HasPartialChain image c d (g.chains d)) now (partial k words views sound nothing image closed d less some not_none
                  not_all)) of
                  (λ p. let listed_too = times_of first (g.chains d) p in omega arith)
            ]
      ]
  held_by_anchors i v below at b (a_large d n some count) = held_as_large free (free_listed k words views sound nothing image closed)
      (large_outside k words views sound nothing image closed i v below at d n some count)

  pub held_alike : (b : Block) → IsHeldByAnchors image b ↔ IsHeldBy views b
  held_alike b = (held_by_seats b, λ held. held_by_anchors held.seat held.view held.below held.at b held.holds)
