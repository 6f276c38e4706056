-- The first superblock of a class list has free blocks: they fill the empty cache.
use Rattle.std.proofs.Common.{◌≡◌, ◌≢◌, ℕ, ◌<◌, ◌≤◌, ◌⊎◌, inl, inr, Option, Some, List, [], ◌∷◌, length, set, refl, ap, sym, subst, ◌∙◌, arith, get_or-set_same, length-set}
use Rattle.std.proofs.lemmas.Bool.{cases_eq}
use Rattle.heap_model.specs.Geometry.{lists, head_word, info_word, anchor_word, link_word, used_word}
use Rattle.heap_model.specs.Sizes.{IsClass, blocks_of}
use Rattle.heap_model.specs.Words.{head_first, head_pops, anchor_state, anchor_first, anchor_count, full_anchor}
use Rattle.heap_model.proofs.MemberLemmas.{in_none}
use Rattle.heap_shape.specs.Shape.{in_list, is_full, Shape, with_at}
use Rattle.heap_shape.specs.Standing.{first_of, HasFreeBlocks}
use Rattle.heap_shape.specs.Effects.{IsSet}
use Rattle.heap_shape.specs.Moves.{after_take}
use Rattle.heap_shape.proofs.BasicLemmas.{with_at_same, with_at_other, in_class_list}
use Rattle.heap_shape.proofs.RefillLemmas.{take}
use Rattle.heap_at_rest.proofs.ListLemmas.{one_following}
use Rattle.heap_shape.proofs.DrainLemmas.{take_drains}
use Rattle.line_memory.specs.View.{View, volatile_at}
use Rattle.block_heap.specs.declared.cache.Cache.{Cache}
use Rattle.block_heap.specs.declared.lists.Popped.{Popped}
use Rattle.heap_seat.specs.declared.look.Look.{Look}
use Rattle.block_heap.specs.Anchors.{IsTakenFrom}
use Rattle.block_heap.specs.Links.{IsPopped}
use Rattle.block_heap.specs.Medium.{StoresOnly}
use Rattle.block_heap.specs.Parts.{Parts, image_of, held_in, cache_at}
use Rattle.block_heap.specs.Running.{IsRunning, LeavesHeld, MakesLooks}
use Rattle.block_heap.specs.Steps.{IsRefilling, Spends}
use Rattle.block_heap.specs.Lists.{head_at, IsEmptyList, LeadsAlong}
use Rattle.block_heap.specs.Order.{TakesAll}
use Rattle.block_heap.proofs.OrderLemmas.{list_kept, listed_is, same_cache}
use Rattle.block_heap.proofs.MediumLemmas.{stores_then, stores_more}
use Rattle.block_heap.proofs.RunningLemmas.{set_is, settled_kept}
use Rattle.block_heap.proofs.SpendLemmas.{spends_by}
use Rattle.block_heap.proofs.LookLemmas.{IsNextLook, looked_at_head}
use Rattle.block_heap.proofs.RefillLemmas.{IsMoved, an_anchor, moved_info, moved_used, moved_inside, leaves_held_moved, IsMade, made, caches_filled, caches_other, sizes_kept, none_cached}
use Rattle.block_heap.proofs.PoppedLemmas.{pop_moved, popped_head, popped_of, popped_pops, popped_count, popped_list, popped_place}

-- where the first superblock of a class list stands
pub record StandsFirst (p : Parts) (class d : ℕ) (w : View) (run : IsRunning p) : Type 0 where
  pub rest : List ℕ
  pub listed : run.shape.listed class ≡ d ∷ rest
  pub place : run.shape.place d ≡ in_list class
  pub within : d < p.capacity
  pub free : HasFreeBlocks p.capacity (image_of p) run.shape (held_in p) class d
  pub anchor : volatile_at w (anchor_word d) ≡ image_of p (anchor_word d)
  pub some : IsEmptyList p class → ⊥

module _ (p : Parts) (class d : ℕ) (popped : Popped) (w : View) (look : Look) (run : IsRunning p) (is : IsClass class)
    (pop : IsPopped class popped p.words w)
    (pop_stores : StoresOnly (λ word. word ≡ head_word class) p.words w) (some : popped.first ≡ Some d) where
  below : class < lists
  below = let last = is.last in omega arith

  abbrev rest : List ℕ
  rest = (popped_list p class popped w run below pop pop_stores d some).0

  listed : run.shape.listed class ≡ d ∷ rest
  listed = (popped_list p class popped w run below pop pop_stores d some).1

  -- its head was read
  pub first_looked : (q : Parts) → IsNextLook p look → w.drawn ≤ q.words.drawn → p.taken ≤ q.taken → q.used_look ≡ p.used_look
      → q.head_looks ≡ set p.head_looks class look → MakesLooks p q
  first_looked q next later more used heads =
      looked_at_head p q class look (let long = run.looks_long in omega arith) next (let drew = pop.runs_within.drew in omega arith) more used heads

  -- the free list is that of the shape
  pub free_one : (fs : List ℕ) → LeadsAlong p 0 fs → run.shape.listed 0 ≡ fs
  free_one fs leads = one_following (λ e. image_of p (link_word e)) p.capacity (head_first (head_at p 0)) (run.shape.listed 0) fs
      (run.is.follows 0 (omega arith)) leads

  place : run.shape.place d ≡ in_list class
  place = (popped_place p class popped w run below pop pop_stores d some).0

  -- the descriptor is one of the heap
  pub first_within : d < p.capacity
  first_within = (popped_place p class popped w run below pop pop_stores d some).1

  stands : HasFreeBlocks p.capacity (image_of p) run.shape (held_in p) class d
  stands = in_class_list p.capacity (image_of p) (held_in p) run.shape run.is class d is first_within place

  anchor_kept : volatile_at w (anchor_word d) ≡ image_of p (anchor_word d)
  anchor_kept = pop_stores.volatile (anchor_word d) (λ e. let last = is.last in omega arith)

  -- its anchor has one of three states
  pub first_anchor : anchor_state (volatile_at w (anchor_word d)) ≢ 3
  first_anchor three = let kept = anchor_kept in elim stands.state as (λ _. ⊥) [ inl all ↦ omega (arith, all.0) | inr part ↦ omega (arith, part.0) ]

  pub first_some : IsEmptyList p class → ⊥
  first_some none = let head = popped_head p class popped w run below pop pop_stores d some in omega arith

  most_free : length (run.shape.chain d) ≤ blocks_of class
  most_free = elim stands.state as (λ _. length (run.shape.chain d) ≤ blocks_of class)
      [ inl all ↦ omega (arith, all.1) | inr part ↦ omega (arith, part.1) ]

  pub stands_first : StandsFirst p class d w run
  stands_first =
      record { rest = rest; listed = listed; place = place; within = first_within; free = stands; anchor = anchor_kept; some = first_some }

  -- its blocks are taken
  module _ (u : View) (take_stores : StoresOnly (λ word. word ≡ anchor_word d) w u) where
    pub take_moved : StoresOnly (IsMoved p.capacity) p.words u
    take_moved = stores_then (IsMoved p.capacity) p.words w u (pop_moved p class popped w run below pop pop_stores)
        (stores_more (λ word. word ≡ anchor_word d) (IsMoved p.capacity) w u (λ word e. an_anchor d first_within e) take_stores)

    module _ (cache : Cache) (answer : Option Cache) (answer_is : answer ≡ Some cache) (empty : (cache_at p.caches class).count ≡ 0)
        (took : IsTakenFrom p.capacity class d answer w u) where
      abbrev pub taken_parts : Parts
      taken_parts = record p { words = u; caches = set p.caches class cache; head_looks = set p.head_looks class look }

      is_taken : IsTakenFrom p.capacity class d (Some cache) w u
      is_taken = subst (λ (o : Option Cache). IsTakenFrom p.capacity class d o w u) answer_is took

      anchor_set : IsSet (λ word. volatile_at w word) (image_of taken_parts) (anchor_word d) full_anchor
      anchor_set = set_is w.volatile u.volatile (anchor_word d) full_anchor
          (let same = pop_stores.words in let long = run.words_open.long in let less = first_within in omega arith) is_taken.words.3

      abbrev first : ℕ
      first = first_of p.capacity class d (anchor_first (image_of p (anchor_word d)))

      abbrev shape : Shape
      shape = after_take run.shape class d rest first

      cache_first : cache.first ≡ first
      cache_first = is_taken.words.1 ∙ ap (λ word. first_of p.capacity class d (anchor_first word)) anchor_kept

      cache_count : cache.count ≡ length (run.shape.chain d)
      cache_count = is_taken.words.2 ∙ ap anchor_count anchor_kept ∙ stands.of_class.count

      stood : (e : ℕ) → e < p.capacity → IsClass (image_of p (info_word e))
          → (shape.place e ≡ in_list (image_of p (info_word e))) ⊎ (shape.place e ≡ is_full)
          → (run.shape.place e ≡ in_list (image_of p (info_word e))) ⊎ (run.shape.place e ≡ is_full)
      stood e within is_e at = elim (cases_eq e d) as
          (λ _. (run.shape.place e ≡ in_list (image_of p (info_word e))) ⊎ (run.shape.place e ≡ is_full)) [
            | inl same ↦ inl (subst (λ k. run.shape.place k ≡ in_list (image_of p (info_word k))) (sym same) (place
                ∙ ap in_list (sym stands.of_class.info)))
            | inr other ↦ let kept = with_at_other run.shape.place d is_full e other in
                elim at as (λ _. (run.shape.place e ≡ in_list (image_of p (info_word e))) ⊎ (run.shape.place e ≡ is_full))
                [ inl l ↦ inl (sym kept ∙ l) | inr f ↦ inr (sym kept ∙ f) ]
          ]

      made_taken : IsMade p taken_parts shape
      made_taken = record {
        capacity = refl;
        held = refl;
        running = is_taken.runs_within.running;
        words = take_stores.words ∙ pop_stores.words;
        budget = take_stores.budget ∙ pop_stores.budget;
        below = is_taken.runs_within.below;
        caches_long = length-set p.caches class cache ∙ run.caches_long;
        looks_long = length-set p.head_looks class look ∙ run.looks_long;
        is = take p.capacity class d (image_of p) (λ word. volatile_at w word) (image_of taken_parts) (held_in p) run.shape rest is run.is listed
            (none_cached p class run is empty)
            (popped_of p class popped w run below pop pop_stores d some) anchor_set;
        caches = caches_filled run.shape shape p.caches class first (run.shape.chain d)
            cache run.caches_long is run.caches refl refl cache_first cache_count
            (let count = cache_count in let most = most_free in omega arith);
        sizes = sizes_kept p.capacity run.shape shape (λ e. image_of p (info_word e)) (λ e. volatile_at u (info_word e)) p.blocks run.sizes
            (λ e within. take_moved.volatile (info_word e) (λ m. moved_info p.capacity e (info_word e) m refl)) stood;
        settled = settled_kept p.capacity (IsMoved p.capacity) p.words u take_moved (λ e within m. moved_info p.capacity e (info_word e) m refl)
            (λ m. moved_used p.capacity used_word m refl) run.settled;
        pops = λ list less.
            let before = run.pops list less in
            let popped_once = popped_pops p class popped w run below pop pop_stores d some list less in
            let same : volatile_at u (head_word list) ≡ volatile_at w (head_word list) = take_stores.volatile (head_word list) (λ e. omega arith) in
            let drew = pop.runs_within.drew in
            let more = is_taken.runs_within.drew in
            omega arith;
        knows = let same : volatile_at u used_word ≡ image_of p used_word =
            take_moved.volatile used_word (λ m. moved_used p.capacity used_word m refl) in let knew = run.knows in omega arith;
        few = let same : volatile_at u used_word ≡ image_of p used_word =
            take_moved.volatile used_word (λ m. moved_used p.capacity used_word m refl) in let least = run.few in omega arith;
      }

      -- its list is shorter by it, and the others stay
      taken_list : (list : ℕ) (ds : List ℕ) → list < lists → with_at run.shape.listed class rest list ≡ ds → LeadsAlong taken_parts list ds
      taken_list list ds less is_ds = subst (λ (es : List ℕ). LeadsAlong taken_parts list es) is_ds (made_taken.is.follows list less)

      pub taken_refilling : IsRefilling class p taken_parts
      taken_refilling = record {
        running = made p taken_parts shape run made_taken;
        held = refl;
        caches = λ c is_c other. caches_other p.caches class cache c is_c other;
        heads = λ c is_c other.
            take_stores.volatile (head_word c) (λ e. let last = is_c.last in omega arith)
            ∙ pop_stores.volatile (head_word c) (λ e. other (omega arith));
        lists = λ c is_c other ds leads.
            let less : c < lists = let last = is_c.last in omega arith in
            taken_list c ds less (with_at_other run.shape.listed class rest c other ∙ listed_is p run c ds less leads);
        drains = take_drains p.capacity class d (image_of p) (λ word. volatile_at w word) (image_of taken_parts)
            (held_in p) run.shape rest is run.is listed
            (popped_of p class popped w run below pop pop_stores d some) anchor_set;
      }

      pub taken_leaves_held : IsNextLook p look → LeavesHeld (held_in p) p taken_parts
      taken_leaves_held next = leaves_held_moved p taken_parts run take_moved refl refl refl
          (first_looked taken_parts next take_stores.drawn (omega arith) refl refl)

      pub taken_some : (1 ≤ (cache_at (set p.caches class cache) class).count) × (IsEmptyList p class → ⊥)
      taken_some =
          let now : cache_at (set p.caches class cache) class ≡ cache =
          get_or-set_same p.caches class cache (record { first = 0; count = 0 }) (let long = run.caches_long in let less = below in omega arith) in
          let count = cache_count in
          let free = stands.some in
          (subst (λ (x : Cache). 1 ≤ x.count) (sym now) (omega arith), first_some)

      free_stays : LeadsAlong taken_parts 0 (run.shape.listed 0)
      free_stays = taken_list 0 (run.shape.listed 0) (omega arith) (with_at_other run.shape.listed class rest 0 (λ e. let from = is.some in
          omega arith))

      pub taken_all : TakesAll class d p taken_parts
      taken_all = record {
        within = first_within;
        before = [];
        behind = rest;
        leads = subst (λ (ds : List ℕ). LeadsAlong p class ds) listed (run.is.follows class below);
        passed = λ e none. absurd (in_none e none);
        rest = taken_list class rest below (with_at_same run.shape.listed class rest);
        partial = ap anchor_state (sym anchor_kept) ∙ is_taken.words.0;
        cache = get_or-set_same p.caches class cache (record { first = 0; count = 0 }) (let long = run.caches_long in let less = below in omega arith)
            ∙ same_cache cache (record { first = first; count = anchor_count (image_of p (anchor_word d)) }) cache_first (is_taken.words.2
            ∙ ap anchor_count anchor_kept);
        now = anchor_set.at;
        info = take_moved.volatile (info_word d) (λ m. moved_info p.capacity d (info_word d) m refl);
        words = λ word inside. take_moved.volatile word (λ m. moved_inside p.capacity d word m inside);
        others = λ e less other. record {
          info = take_moved.volatile (info_word e) (λ m. moved_info p.capacity e (info_word e) m refl);
          anchor =
              take_stores.volatile (anchor_word e) (λ at. other (omega arith))
              ∙ pop_stores.volatile (anchor_word e) (λ at. let last = is.last in omega arith);
          words = λ word inside. take_moved.volatile word (λ m. moved_inside p.capacity e word m inside);
        };
        frees = λ fs leads. subst (λ xs. LeadsAlong taken_parts 0 xs) (free_one fs leads) free_stays;
        free = list_kept p taken_parts 0 0 (run.shape.listed 0) (run.shape.listed 0) (run.is.follows 0 (omega arith)) free_stays (λ e has. has);
        pops = record {
          class_head = ap head_pops (take_stores.volatile (head_word class) (λ e. let last = is.last in omega arith))
              ∙ popped_count p class popped w run below pop pop_stores d some;
          free_head =
              let same : volatile_at u (head_word 0) ≡ image_of p (head_word 0) =
              take_stores.volatile (head_word 0) (λ e. omega arith) ∙ pop_stores.volatile (head_word 0) (λ e. let from = is.some in omega arith) in
              omega arith;
        };
        taken = refl;
      }

      pub taken_spends : Spends 1 class p taken_parts
      taken_spends =
          let long : length (run.shape.listed class) ≡ length (d ∷ rest) = ap length listed in
          let same : volatile_at u used_word ≡ image_of p used_word =
          take_moved.volatile used_word (λ m. moved_used p.capacity used_word m refl) in
          spends_by 1 class p taken_parts run rest (run.shape.listed 0) is taken_refilling.running refl
          (taken_list class rest below (with_at_same run.shape.listed class rest))
          free_stays (omega arith)
