-- A superblock that was never taken is cut for a class, or there is none.
use Rattle.std.proofs.Common.{◌≡◌, ◌≢◌, ℕ, ◌+◌, ◌/◌, ◌<◌, ◌≤◌, inl, inr, Option, None, Some, false, MatchOption, List, get_or, set, refl, ap, sym, subst, ◌∙◌, arith}
use Rattle.heap_model.specs.Geometry.{lists, head_word, info_word, link_word, used_word}
use Rattle.heap_model.specs.Sizes.{IsClass}
use Rattle.heap_model.specs.Words.{head_first}
use Rattle.heap_model.specs.Chains.{Follows}
use Rattle.heap_at_rest.specs.Draining.{HasNoHeld}
use Rattle.heap_shape.specs.Whole.{IsShape}
use Rattle.heap_shape.specs.Effects.{IsSet, IsCut}
use Rattle.heap_shape.specs.Draining.{DrainsSame}
use Rattle.heap_shape.specs.Moves.{after_fresh}
use Rattle.heap_shape.proofs.OwnLemmas.{none_past}
use Rattle.heap_shape.proofs.RefillLemmas.{cut_fresh}
use Rattle.heap_shape.proofs.DrainLemmas.{cut_fresh_drains}
use Rattle.line_memory.specs.View.{View, volatile_at, durable_at}
use Rattle.line_memory.specs.Crash.{MayLeaveStore}
use Rattle.line_memory.specs.Marks.{IsMarked}
use Rattle.heap_seat.specs.declared.look.Look.{Look}
use Rattle.block_heap.specs.declared.superblocks.Fresh.{Fresh}
use Rattle.block_heap.specs.Divide.{IsDivideWord}
use Rattle.block_heap.specs.Links.{IsFresh}
use Rattle.block_heap.specs.Medium.{StoresOnly}
use Rattle.block_heap.specs.Parts.{Parts, image_of, held_in, cache_at}
use Rattle.block_heap.specs.Refill.{SameBut, Cuts, FindsFresh}
use Rattle.block_heap.proofs.NoRoomLemmas.{looked_only, looked_is}
use Rattle.block_heap.specs.Running.{IsRunning, HasDurableInfos, LeavesHeld}
use Rattle.block_heap.specs.Lists.{head_at, LeadsAlong, CountsPops}
use Rattle.block_heap.specs.Order.{CutsAll}
use Rattle.block_heap.specs.Steps.{IsRefilling, Spends}
use Rattle.block_heap.specs.AllocatorWords.{UsedFits, StoresAsAllocator}
use Rattle.block_heap.proofs.OrderLemmas.{list_kept, listed_is, leads_same}
use Rattle.block_heap.proofs.RunningLemmas.{set_is, running_words}
use Rattle.block_heap.proofs.SpendLemmas.{spends_none, spends_by}
use Rattle.block_heap.proofs.StableLemmas.{as_allocator_of, as_allocator_then, as_allocator_raised}
use Rattle.block_heap.proofs.LookLemmas.{looks_kept, IsNextLook, looked_at_used}
use Rattle.block_heap.proofs.RefillLemmas.{drains_none, none_cached}
use Rattle.block_heap.proofs.CutWordLemmas.{divide_word, divide_before, others_kept}
use Rattle.block_heap.proofs.CutLemmas.{unmarked, cut_image, cut_running, cut_others, cut_cache, cut_some}

-- one that was never taken
module _ (p : Parts) (w : View) (run : IsRunning p) (stores : StoresOnly (λ word. word ≡ used_word) p.words w)
    (crash : MayLeaveStore used_word (image_of p used_word + 1) p.words w) (fits : UsedFits p.capacity p.words → UsedFits p.capacity w) where
  raised : StoresAsAllocator p.capacity (held_in p) p.words w
  raised = as_allocator_raised p.capacity (held_in p) (image_of p used_word + 1) p.words w stores crash run.settled.used (omega arith) fits

  -- it may stop within
  pub fresh_stops : LeavesHeld (held_in p) p (record p { words = w })
  fresh_stops = record { capacity = refl; as_allocator = raised; knows = refl; taken = omega arith; looks = looks_kept p (record p { words = w }) refl }

  module _ (class : ℕ) (fresh : Fresh) (look : Look) (took : IsFresh p.capacity 1 fresh p.words w) (seen : look.seen ≡ fresh.used)
      (taken_is : look.taken ≡ p.taken) where
    -- there is none
    module _ (none : fresh.first ≡ None) where
      abbrev pub none_fresh : Parts
      none_fresh = record p { words = w; used_look = look }

      no_words : (w.volatile ≡ p.words.volatile) × (p.capacity < fresh.used + 1) × StoresOnly (λ _. ⊥) p.words w
      no_words = subst (λ (o : Option ℕ). MatchOption o ((w.volatile ≡ p.words.volatile) × (p.capacity < fresh.used + 1)
          × StoresOnly (λ _. ⊥) p.words w)
          (λ d. (d ≡ fresh.used) × (fresh.used + 1 ≤ p.capacity) × (w.volatile ≡ set p.words.volatile used_word (fresh.used + 1)) × (durable_at w
          used_word ≡ fresh.used + 1))) none took.words

      pub none_finds : (cache_at p.caches class).count ≡ 0 → IsNextLook p look → w.drawn ≡ p.words.drawn + 1 → FindsFresh class false p none_fresh
      none_finds empty next one = let used = took.used in (
        empty,
        omega (arith, no_words.1),
        no_words.0,
        looked_is p 1 fresh w look took none seen next one,
        refl,
        refl,
        looked_only p 1 fresh w look took none one,
      )

      none_running : IsRunning (record p { words = w })
      none_running = running_words p w (λ _. ⊥) run took.runs_within.running no_words.0 no_words.2 (λ e less t. t) (λ t. t) took.runs_within.below

      pub none_spends : Spends 0 class p none_fresh
      none_spends = spends_none class p none_fresh refl no_words.0

      pub none_refilling : IsRefilling class p none_fresh
      none_refilling = record {
        running = record {
          words_open = none_running.words_open;
          below = none_running.below;
          bounded = none_running.bounded;
          caches_long = none_running.caches_long;
          looks_long = none_running.looks_long;
          shape = none_running.shape;
          is = none_running.is;
          caches = none_running.caches;
          sizes = none_running.sizes;
          settled = none_running.settled;
          pops = none_running.pops;
          knows = let same : volatile_at w used_word ≡ image_of p used_word = ap (λ (xs : List ℕ). get_or xs used_word 0) no_words.0 in let used =
              took.used in omega arith;
          few = none_running.few;
        };
        held = refl;
        caches = λ c is_c other. refl;
        heads = λ c is_c other. ap (λ (xs : List ℕ). get_or xs (head_word c) 0) no_words.0;
        lists = λ c is_c other ds leads. leads_same none_fresh p c ds refl (sym no_words.0) leads;
        drains = subst (λ (xs : List ℕ). DrainsSame p.capacity class (held_in p) (image_of p) (λ word. get_or xs word 0)) (sym no_words.0)
            (drains_none p.capacity class (held_in p) (image_of p));
      }

    -- it is cut
    module _ (d : ℕ) (some : fresh.first ≡ Some d) where
      some_words : (d ≡ fresh.used) × (fresh.used + 1 ≤ p.capacity) × (w.volatile ≡ set p.words.volatile used_word (fresh.used + 1)) × (durable_at w
          used_word ≡ fresh.used + 1)
      some_words = subst (λ (o : Option ℕ). MatchOption o ((w.volatile ≡ p.words.volatile) × (p.capacity < fresh.used + 1)
          × StoresOnly (λ _. ⊥) p.words w)
          (λ d. (d ≡ fresh.used) × (fresh.used + 1 ≤ p.capacity) × (w.volatile ≡ set p.words.volatile used_word (fresh.used + 1)) × (durable_at w
          used_word ≡ fresh.used + 1))) some took.words

      past : image_of p used_word ≡ d
      past = sym took.used ∙ sym some_words.0

      pub fresh_room : image_of p used_word + 1 ≤ p.capacity
      fresh_room = let used = took.used in omega (arith, some_words.1)

      within : d < p.capacity
      within = let at = past in let room = fresh_room in omega arith

      none_held : HasNoHeld p.capacity (held_in p) d
      none_held = none_past p.capacity d (image_of p) (held_in p) run.shape run.is (let at = past in omega arith)

      pub fresh_unmarked : (mark : ℕ) → IsMarked p.blocks.marks.items mark → mark / 4096 ≢ d
      fresh_unmarked = unmarked p d run none_held

      used_set : IsSet (image_of p) (λ word. volatile_at w word) used_word (d + 1)
      used_set = subst (λ n. IsSet (image_of p) (λ word. volatile_at w word) used_word n) (let first = some_words.0 in omega arith)
          (set_is p.words.volatile w.volatile used_word (fresh.used + 1) (let long = run.words_open.long in omega arith) some_words.2)

      settled : HasDurableInfos p.capacity w
      settled = record {
        infos = λ e less.
            let same = stores.volatile (info_word e) (λ at. omega arith) in
            elim (stores.durable (info_word e) (λ at. omega arith)) as (λ _. durable_at w (info_word e) ≡ volatile_at w (info_word e)) [
              | inl left ↦ left ∙ run.settled.infos e less ∙ sym same
              | inr left ↦ left ∙ sym same
            ];
        used = let first = some_words.0 in some_words.3 ∙ sym (used_set.at ∙ ap (λ n. n + 1) first);
      }

      module _ (q : Parts) (cut_stores : StoresOnly (IsDivideWord p.capacity d) w q.words)
          (same : SameBut (record p { words = w; used_look = look; taken = p.taken + 1 }) q) where
        pub fresh_leaves_held : IsNextLook p look → LeavesHeld (held_in p) p q
        fresh_leaves_held next =
            let seen_now : q.used_look.seen ≡ look.seen = ap (λ (l : Look). l.seen) same.used_look in
            let then : q.used_look.taken ≡ look.taken = ap (λ (l : Look). l.taken) same.used_look in
            let now : q.taken ≡ p.taken + 1 = same.taken in
            let used = took.used in
            let knew = run.knows in
            record {
              capacity = same.capacity;
              as_allocator = as_allocator_then p.capacity (held_in p) p.words w q.words raised
                  (as_allocator_of p.capacity (held_in p) (IsDivideWord p.capacity d) w q.words
                  (λ word t. divide_word p.capacity d (held_in p) word within none_held t)
                  (λ t. divide_before p.capacity d used_word (omega arith) t) cut_stores settled.used).0;
              knows = omega arith;
              taken = omega arith;
              looks = looked_at_used p q look next (let drew = took.runs_within.drew in let more = cut_stores.drawn in
                  omega arith) (omega arith) same.used_look same.head_looks;
            }

        module _ (is : IsClass class) (empty : (cache_at p.caches class).count ≡ 0)
            (cuts : Cuts class d (record p { words = w; used_look = look; taken = p.taken + 1 }) q) where
          fresh_image : IsCut p.capacity (λ word. volatile_at w word) (image_of q) class d
          fresh_image = cut_image p class d w p.head_looks look (p.taken + 1) q run is within cut_stores same cuts

          fresh_shape : IsShape p.capacity (image_of q) (held_in p) (after_fresh run.shape p.capacity class d)
          fresh_shape = cut_fresh p.capacity class d (image_of p) (λ word. volatile_at w word) (image_of q) (held_in p) run.shape is run.is past within
              (none_cached p class run is empty) used_set fresh_image

          fresh_running : IsRunning q
          fresh_running = cut_running p class d w p.head_looks look (p.taken + 1) q run is within cut_stores same cuts
              (after_fresh run.shape p.capacity class d) stores.words stores.budget run.looks_long settled
              (λ e less. stores.volatile (info_word e) (λ at. omega arith))
              fresh_shape
              refl refl refl
              (λ list less.
              let before = run.pops list less in
              let kept : volatile_at w (head_word list) ≡ head_at p list = stores.volatile (head_word list) (λ at. omega arith) in
              let drew = took.runs_within.drew in
              omega arith)
              (let now : volatile_at w used_word ≡ d + 1 = used_set.at in let first = some_words.0 in omega arith)
              (let now : volatile_at w used_word ≡ d + 1 = used_set.at in let at = past in let least = run.few in omega arith)

          fresh_list : (list : ℕ) → list < lists → LeadsAlong q list (run.shape.listed list)
          fresh_list list less =
              subst (λ n. Follows (λ e. image_of q (link_word e)) n (head_first (head_at q list)) (run.shape.listed list)) (sym same.capacity)
              (fresh_shape.follows list less)

          -- no head is changed
          head_stays : (list : ℕ) → list < lists → head_at q list ≡ head_at p list
          head_stays list less =
              cut_stores.volatile (head_word list) (divide_before p.capacity d (head_word list) (omega arith))
              ∙ stores.volatile (head_word list) (λ at. omega arith)

          pub fresh_refilling : IsRefilling class p q
          fresh_refilling = record {
            running = fresh_running;
            held = same.held;
            caches = cut_others p class d w p.head_looks look (p.taken + 1) q run is within cut_stores same cuts;
            heads = λ c is_c other. head_stays c (let last = is_c.last in omega arith);
            lists = λ c is_c other ds leads.
                let less : c < lists = let last = is_c.last in omega arith in
                subst (λ (es : List ℕ). LeadsAlong q c es) (listed_is p run c ds less leads) (fresh_list c less);
            drains = cut_fresh_drains p.capacity class d (image_of p) (λ word. volatile_at w word) (image_of q)
                (held_in p) run.shape is run.is past within
                used_set fresh_image;
          }

          -- the free list stays
          pub fresh_cuts : CutsAll class (image_of p used_word) p q × (q.taken ≡ p.taken + 1) × CountsPops class 0 0 p q
          fresh_cuts = (
            subst (λ k. CutsAll class k p q) (sym past) (record {
              within = within;
              anchor = cuts.divided.anchor;
              words = λ word inside not. cuts.divided.rest word inside not ∙ stores.volatile word (λ at. let from = inside.from in omega arith);
              info = cuts.divided.info;
              cache = cut_cache p class d w p.head_looks look (p.taken + 1) q run is within cut_stores same cuts;
              linked = cuts.divided.linked;
              others = others_kept p q w d used_word within (omega arith) stores cut_stores;
              free = λ e other there. list_kept p q 0 0 (run.shape.listed 0) (run.shape.listed 0) (run.is.follows 0 (omega arith))
                  (fresh_list 0 (omega arith))
                  (λ k has. has) e there;
            }),
            same.taken,
            record {
              class_head = let kept = head_stays class (let last = is.last in omega arith) in omega arith;
              free_head = let kept = head_stays 0 (omega arith) in omega arith;
            },
          )

          pub fresh_spends : Spends 1 class p q
          fresh_spends =
              let at = past in
              let now : volatile_at w used_word ≡ d + 1 = used_set.at in
              let kept : image_of q used_word ≡ volatile_at w used_word =
              cut_stores.volatile used_word (divide_before p.capacity d used_word (omega arith)) in
              spends_by 1 class p q run (run.shape.listed class) (run.shape.listed 0) is fresh_running same.capacity
              (fresh_list class (let last = is.last in omega arith)) (fresh_list 0 (omega arith)) (omega arith)

          pub fresh_found : (1 ≤ (cache_at q.caches class).count) × (image_of p used_word + 1 ≤ p.capacity)
          fresh_found = (cut_some p class d w p.head_looks look (p.taken + 1) q run is within cut_stores same cuts, fresh_room)
