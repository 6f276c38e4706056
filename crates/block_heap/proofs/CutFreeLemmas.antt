-- A superblock of the free list is cut for a class.
use Rattle.std.proofs.Common.{◌≡◌, ℕ, ◌<◌, ◌≤◌, ◌⊎◌, inl, inr, Some, List, ◌∷◌, length, set, Contains, refl, ap, sym, subst, ◌∙◌, arith, length-set}
use Rattle.heap_model.specs.Geometry.{lists, head_word, info_word, link_word, used_word}
use Rattle.heap_model.specs.Sizes.{IsClass}
use Rattle.heap_model.specs.Words.{head_first, head_pops}
use Rattle.heap_model.specs.Chains.{Follows}
use Rattle.heap_model.proofs.MemberLemmas.{head_or_rest}
use Rattle.heap_shape.specs.Shape.{with_at}
use Rattle.heap_at_rest.specs.Draining.{HasNoHeld}
use Rattle.heap_shape.specs.Whole.{IsShape}
use Rattle.heap_shape.specs.Effects.{IsCut}
use Rattle.heap_shape.specs.Moves.{after_cut}
use Rattle.heap_shape.proofs.BasicLemmas.{with_at_same, with_at_other, in_free_list}
use Rattle.heap_shape.proofs.RefillLemmas.{cut_free}
use Rattle.heap_shape.proofs.DrainLemmas.{cut_free_drains}
use Rattle.line_memory.specs.View.{View, volatile_at}
use Rattle.block_heap.specs.declared.lists.Popped.{Popped}
use Rattle.heap_seat.specs.declared.look.Look.{Look}
use Rattle.block_heap.specs.Divide.{IsDivideWord}
use Rattle.block_heap.specs.Links.{IsPopped}
use Rattle.block_heap.specs.Medium.{StoresOnly}
use Rattle.block_heap.specs.Parts.{Parts, image_of, held_in, cache_at}
use Rattle.block_heap.specs.Refill.{SameBut, Cuts}
use Rattle.block_heap.specs.Running.{IsRunning, LeavesHeld}
use Rattle.block_heap.specs.Lists.{head_at, IsEmptyList, LeadsAlong, IsInList}
use Rattle.block_heap.specs.Order.{CutsFirst}
use Rattle.block_heap.specs.Steps.{IsRefilling, Spends}
use Rattle.block_heap.specs.AllocatorWords.{IsAllocatorWord}
use Rattle.block_heap.proofs.MediumLemmas.{stores_then, stores_more}
use Rattle.block_heap.proofs.OrderLemmas.{in_list_along, in_list_has, listed_is}
use Rattle.block_heap.proofs.RunningLemmas.{settled_kept}
use Rattle.block_heap.proofs.SpendLemmas.{spends_by}
use Rattle.block_heap.proofs.LookLemmas.{IsNextLook, looked_at_head}
use Rattle.block_heap.proofs.RefillLemmas.{IsMoved, moved_word, moved_info, moved_used, leaves_held_of, none_cached}
use Rattle.block_heap.proofs.PoppedLemmas.{head_moved, popped_head, popped_of, popped_pops, popped_list, popped_place, popped_count}
use Rattle.block_heap.proofs.CutWordLemmas.{divide_word, divide_before, others_kept}
use Rattle.block_heap.proofs.CutLemmas.{cut_image, cut_running, cut_others, cut_cache, cut_some}

-- the first of the free list
module _ (p : Parts) (class d : ℕ) (popped : Popped) (w : View) (look : Look) (run : IsRunning p) (is : IsClass class)
    (pop : IsPopped 0 popped p.words w)
    (pop_stores : StoresOnly (λ word. word ≡ head_word 0) p.words w) (some : popped.first ≡ Some d) where
  zero_list : 0 < lists
  zero_list = omega arith

  abbrev rest : List ℕ
  rest = (popped_list p 0 popped w run zero_list pop pop_stores d some).0

  listed : run.shape.listed 0 ≡ d ∷ rest
  listed = (popped_list p 0 popped w run zero_list pop pop_stores d some).1

  pub free_within : d < p.capacity
  free_within = (popped_place p 0 popped w run zero_list pop pop_stores d some).1

  pub free_none : HasNoHeld p.capacity (held_in p) d
  free_none = (in_free_list p.capacity (image_of p) (held_in p) run.shape run.is d free_within
      (popped_place p 0 popped w run zero_list pop pop_stores d some).0).none

  module _ (q : Parts) (stores : StoresOnly (IsDivideWord p.capacity d) w q.words)
      (same : SameBut (record p { words = w; head_looks = set p.head_looks 0 look }) q) where
    abbrev IsFreeWord : ℕ → Type 0
    IsFreeWord word = IsMoved p.capacity word ⊎ IsDivideWord p.capacity d word

    free_stores : StoresOnly IsFreeWord p.words q.words
    free_stores = stores_then IsFreeWord p.words w q.words
        (stores_more (IsMoved p.capacity) IsFreeWord p.words w (λ word m. inl m) (head_moved p.capacity 0 p.words w zero_list pop_stores))
        (stores_more (IsDivideWord p.capacity d) IsFreeWord w q.words (λ word t. inr t) stores)

    free_not_used : IsFreeWord used_word → ⊥
    free_not_used t = elim t as (λ _. ⊥) [
      | inl m ↦ moved_used p.capacity used_word m refl
      | inr t ↦ divide_before p.capacity d used_word
          (omega arith) t
    ]

    pub free_leaves_held : IsNextLook p look → LeavesHeld (held_in p) p q
    free_leaves_held next = leaves_held_of p q IsFreeWord run
        (λ word t. elim t as (λ _. IsAllocatorWord p.capacity (held_in p) word)
        [ inl m ↦ moved_word p.capacity (held_in p) word m | inr t ↦ divide_word p.capacity d (held_in p) word free_within free_none t ])
        free_not_used free_stores same.capacity same.used_look same.taken
        (looked_at_head p q 0 look (let long = run.looks_long in omega arith) next (let drew = pop.runs_within.drew in
        let more = stores.drawn in omega arith)
        (let e : q.taken ≡ p.taken = same.taken in omega arith) same.used_look same.head_looks)

    module _ (empty : (cache_at p.caches class).count ≡ 0) (cuts : Cuts class d (record p { words = w; head_looks = set p.head_looks 0 look }) q) where
      image_cut : IsCut p.capacity (λ word. volatile_at w word) (image_of q) class d
      image_cut = cut_image p class d w (set p.head_looks 0 look) p.used_look p.taken q run is free_within stores same cuts

      free_shape : IsShape p.capacity (image_of q) (held_in p) (after_cut run.shape p.capacity class d rest)
      free_shape = cut_free p.capacity class d (image_of p) (λ word. volatile_at w word) (image_of q) (held_in p) run.shape rest is run.is listed
          (none_cached p class run is empty) (popped_of p 0 popped w run zero_list pop pop_stores d some) image_cut

      free_running : IsRunning q
      free_running = cut_running p class d w (set p.head_looks 0 look) p.used_look p.taken q run is free_within stores same cuts
          (after_cut run.shape p.capacity class d rest) pop_stores.words pop_stores.budget (length-set p.head_looks 0 look ∙ run.looks_long)
          (settled_kept p.capacity (IsMoved p.capacity) p.words w (head_moved p.capacity 0 p.words w zero_list pop_stores)
          (λ e within m. moved_info p.capacity e (info_word e) m refl)
          (λ m. moved_used p.capacity used_word m refl) run.settled)
          (λ e within. (head_moved p.capacity 0 p.words w zero_list pop_stores).volatile (info_word e)
          (λ m. moved_info p.capacity e (info_word e) m refl))
          free_shape
          refl refl refl
          (λ list less.
          let before = run.pops list less in
          let once = popped_pops p 0 popped w run zero_list pop pop_stores d some list less in
          let drew = pop.runs_within.drew in
          omega arith)
          (let kept : volatile_at w used_word ≡ image_of p used_word =
          (head_moved p.capacity 0 p.words w zero_list pop_stores).volatile used_word (λ m. moved_used p.capacity used_word m refl) in let knew =
          run.knows in omega arith)
          (let kept : volatile_at w used_word ≡ image_of p used_word =
          (head_moved p.capacity 0 p.words w zero_list pop_stores).volatile used_word (λ m. moved_used p.capacity used_word m refl) in let least =
          run.few in omega arith)

      head_kept : (c : ℕ) → IsClass c → head_at q c ≡ head_at p c
      head_kept c is_c =
          stores.volatile (head_word c) (divide_before p.capacity d (head_word c) (let last = is_c.last in omega arith))
          ∙ pop_stores.volatile (head_word c) (λ at. let first = is_c.some in omega arith)

      free_list : (list : ℕ) (ds : List ℕ) → list < lists → with_at run.shape.listed 0 rest list ≡ ds → LeadsAlong q list ds
      free_list list ds less is_ds =
          subst (λ n. Follows (λ e. image_of q (link_word e)) n (head_first (head_at q list)) ds) (sym same.capacity)
          (subst (λ (es : List ℕ). Follows (λ e. image_of q (link_word e)) p.capacity (head_first (head_at q list)) es) is_ds
          (free_shape.follows list less))

      pub free_refilling : IsRefilling class p q
      free_refilling = record {
        running = free_running;
        held = same.held;
        caches = cut_others p class d w (set p.head_looks 0 look) p.used_look p.taken q run is free_within stores same cuts;
        heads = λ c is_c other. head_kept c is_c;
        lists = λ c is_c other ds leads.
            let less : c < lists = let last = is_c.last in omega arith in
            free_list c ds less
            (with_at_other run.shape.listed 0 rest c (λ e. let from = is_c.some in omega arith) ∙ listed_is p run c ds less leads);
        drains = cut_free_drains p.capacity class d (image_of p) (λ word. volatile_at w word) (image_of q) (held_in p) run.shape rest is run.is listed
            (popped_of p 0 popped w run zero_list pop pop_stores d some) image_cut;
      }

      -- it left the free list, and no other did
      pub free_cuts : CutsFirst class d p q
      free_cuts = record {
        behind = rest;
        was = subst (λ (ds : List ℕ). LeadsAlong p 0 ds) listed (run.is.follows 0 zero_list);
        rest = free_list 0 rest zero_list (with_at_same run.shape.listed 0 rest);
        class_head = head_kept class is;
        pops = record {
          class_head = let same = head_kept class is in omega arith;
          free_head = ap head_pops (stores.volatile (head_word 0) (divide_before p.capacity d (head_word 0) (omega arith)))
              ∙ popped_count p 0 popped w run zero_list pop pop_stores d some;
        };
        cuts = record {
          within = free_within;
          anchor = cuts.divided.anchor;
          words = λ word inside not. cuts.divided.rest word inside not ∙ pop_stores.volatile word (λ at. let from = inside.from in omega arith);
          info = cuts.divided.info;
          linked = cuts.divided.linked;
          others = others_kept p q w d (head_word 0) free_within (omega arith) pop_stores stores;
          cache = cut_cache p class d w (set p.head_looks 0 look) p.used_look p.taken q run is free_within stores same cuts;
          free = λ e other there.
              elim (head_or_rest d e rest (subst (λ xs. Contains xs e) listed
              (in_list_has p 0 e (run.shape.listed 0) there (run.is.follows 0 zero_list)))) as (λ _. IsInList q 0 e) [
                | inl here ↦ absurd (other (sym here))
                | inr later ↦ in_list_along q 0 e rest (free_list 0 rest zero_list (with_at_same run.shape.listed 0 rest)) later
              ];
        };
      }

      pub free_spends : Spends 1 class p q
      free_spends =
          let long : length (run.shape.listed 0) ≡ length (d ∷ rest) = ap length listed in
          let used : image_of q used_word ≡ image_of p used_word = free_stores.volatile used_word free_not_used in
          spends_by 1 class p q run (run.shape.listed class) rest is free_running same.capacity
          (free_list class (run.shape.listed class) (let last = is.last in omega arith)
          (with_at_other run.shape.listed 0 rest class (λ e. let from = is.some in omega arith)))
          (free_list 0 rest (omega arith) (with_at_same run.shape.listed 0 rest)) (omega arith)

      pub free_found : (1 ≤ (cache_at q.caches class).count) × (IsEmptyList p 0 → ⊥)
      free_found = (
        cut_some p class d w (set p.head_looks 0 look) p.used_look p.taken q run is free_within stores same cuts,
        λ none. let head = popped_head p 0 popped w run zero_list pop pop_stores d some in omega arith,
      )
