-- The first superblock of a class list has nothing but free blocks: it goes to the free list.
use Rattle.std.proofs.Common.{◌≡◌, ◌≢◌, ℕ, ◌+◌, ◌<◌, ◌≤◌, ◌⊎◌, inl, inr, Option, None, Some, List, [], ◌∷◌, length, get_or, set, refl, ap, sym, subst, ◌∙◌, arith, get_or-set_same, length-set}
use Rattle.std.proofs.lemmas.Bool.{cases_eq}
use Rattle.heap_model.specs.Geometry.{lists, head_word, info_word, anchor_word, link_word, used_word, largest_capacity_fits}
use Rattle.heap_model.specs.Sizes.{IsClass}
use Rattle.heap_model.specs.Words.{head_first, head_pops, head_of, anchor_state, empty_state, partial_state}
use Rattle.heap_model.specs.Chains.{Follows}
use Rattle.heap_model.proofs.MemberLemmas.{in_none, in_rest, head_or_rest}
use Rattle.heap_shape.specs.Shape.{in_list, is_full, Shape, with_at}
use Rattle.heap_shape.specs.Effects.{IsPushedOn}
use Rattle.heap_shape.specs.Moves.{after_recycle}
use Rattle.heap_shape.proofs.BasicLemmas.{with_at_same, with_at_other}
use Rattle.heap_shape.proofs.RecycleLemmas.{recycle}
use Rattle.heap_at_rest.proofs.ListLemmas.{one_following}
use Rattle.heap_shape.proofs.DrainLemmas.{recycle_drains}
use Rattle.line_memory.specs.View.{View, volatile_at}
use Rattle.block_heap.specs.declared.cache.Cache.{Cache}
use Rattle.block_heap.specs.declared.lists.Popped.{Popped}
use Rattle.heap_seat.specs.declared.look.Look.{Look}
use Rattle.block_heap.specs.Anchors.{IsTakenFrom}
use Rattle.block_heap.specs.Links.{IsPopped, IsPushed, IsPushWord}
use Rattle.block_heap.specs.Medium.{StoresOnly}
use Rattle.block_heap.specs.Parts.{Parts, image_of, held_in}
use Rattle.block_heap.specs.Running.{IsRunning, LeavesHeld}
use Rattle.block_heap.specs.Steps.{IsRefilling, Recycles, Spends}
use Rattle.block_heap.specs.Lists.{head_at, LeadsAlong, CountsPops}
use Rattle.block_heap.specs.Order.{MovesEmpty}
use Rattle.block_heap.proofs.OrderLemmas.{in_list_along, in_list_has, list_kept, listed_is}
use Rattle.block_heap.proofs.MediumLemmas.{stores_then, stores_more}
use Rattle.block_heap.proofs.RunningLemmas.{set_is, settled_kept}
use Rattle.block_heap.proofs.SpendLemmas.{spends_by}
use Rattle.block_heap.proofs.LookLemmas.{IsNextLook}
use Rattle.block_heap.proofs.RefillLemmas.{IsMoved, a_head, a_link, moved_info, moved_used, moved_inside, leaves_held_moved, IsMade, made, sizes_kept}
use Rattle.block_heap.proofs.PoppedLemmas.{popped_of, popped_pops, popped_count}
use Rattle.block_heap.proofs.TakeLemmas.{StandsFirst, stands_first, free_one, first_looked, take_moved}

-- It was popped, its anchor was looked at, and it is pushed.
module _ (p : Parts) (class d : ℕ) (popped : Popped) (w : View) (look : Look) (run : IsRunning p) (is : IsClass class)
    (pop : IsPopped class popped p.words w) (pop_stores : StoresOnly (λ word. word ≡ head_word class) p.words w) (some : popped.first ≡ Some d)
    (u : View) (take_stores : StoresOnly (λ word. word ≡ anchor_word d) w u)
  where
    below : class < lists
    below = let last = is.last in omega arith

    abbrev front : StandsFirst p class d w run
    front = stands_first p class d popped w look run is pop pop_stores some

    module _ (v : View) (push_stores : StoresOnly (IsPushWord 0 d) u v) where
      pub push_moved : StoresOnly (IsMoved p.capacity) p.words v
      push_moved = stores_then (IsMoved p.capacity) p.words u v (take_moved p class d popped w look run is pop pop_stores some u take_stores)
          (stores_more (IsPushWord 0 d) (IsMoved p.capacity) u v
          (λ word t. elim t as (λ _. IsMoved p.capacity word) [ inl e ↦ a_head 0 (omega arith) e | inr e ↦ a_link d front.within e ]) push_stores)

      abbrev pub recycled : Parts
      recycled = record p { words = v; head_looks = set p.head_looks class look }

      pub recycled_leaves_held : IsNextLook p look → LeavesHeld (held_in p) p recycled
      recycled_leaves_held next = leaves_held_moved p recycled run push_moved refl refl refl
          (first_looked p class d popped w look run is pop pop_stores some recycled next
          (let a = take_stores.drawn in let b = push_stores.drawn in omega arith) (omega arith) refl refl)

      module _ (answer : Option Cache) (answer_is : answer ≡ None) (took : IsTakenFrom p.capacity class d answer w u) (pushed : IsPushed 0 d u v) where
        not_taken : IsTakenFrom p.capacity class d None w u
        not_taken = subst (λ (o : Option Cache). IsTakenFrom p.capacity class d o w u) answer_is took

        state : anchor_state (image_of p (anchor_word d)) ≢ partial_state
        state part = not_taken.words.0 (ap anchor_state front.anchor ∙ part)

        long : length u.volatile ≡ length p.words.volatile
        long = take_stores.words ∙ pop_stores.words

        abbrev linked : List ℕ
        linked = set u.volatile (link_word d) (head_first (volatile_at u (head_word 0)))

        pushed_on : IsPushedOn (λ word. volatile_at w word) (image_of recycled) 0 d
        pushed_on = subst (λ (xs : List ℕ). IsPushedOn (λ word. get_or xs word 0) (image_of recycled) 0 d) not_taken.words.1 (record {
          middle = λ word. get_or linked word 0;
          pops = head_pops (volatile_at u (head_word 0));
          link = set_is u.volatile linked (link_word d) (head_first (volatile_at u (head_word 0)))
              (let same = long in let wide = run.words_open.long in let less = front.within in omega arith) refl;
          head = set_is linked v.volatile (head_word 0) (head_of (d + 1) (head_pops (volatile_at u (head_word 0))))
              (let same = long in let wide = run.words_open.long in let kept =
              length-set u.volatile (link_word d) (head_first (volatile_at u (head_word 0))) in omega arith) pushed.words;
        })

        abbrev shape_then : Shape
        shape_then = after_recycle run.shape class d front.rest

        stood_then : (e : ℕ) → e < p.capacity → IsClass (image_of p (info_word e))
            → (shape_then.place e ≡ in_list (image_of p (info_word e))) ⊎ (shape_then.place e ≡ is_full)
            → (run.shape.place e ≡ in_list (image_of p (info_word e))) ⊎ (run.shape.place e ≡ is_full)
        stood_then e within is_e at = elim (cases_eq e d) as (λ _. (run.shape.place e ≡ in_list (image_of p (info_word e))) ⊎
            (run.shape.place e ≡ is_full)) [
              | inl same ↦ inl (subst (λ k. run.shape.place k ≡ in_list (image_of p (info_word k))) (sym same) (front.place
                  ∙ ap in_list (sym front.free.of_class.info)))
              | inr other ↦ let kept = with_at_other run.shape.place d (in_list 0) e other in
                  elim at as (λ _. (run.shape.place e ≡ in_list (image_of p (info_word e))) ⊎ (run.shape.place e ≡ is_full))
                  [ inl l ↦ inl (sym kept ∙ l) | inr f ↦ inr (sym kept ∙ f) ]
            ]

        -- the heads: only that of the class was popped
        count_then : (list : ℕ) → list < lists → head_pops (volatile_at v (head_word list)) ≤ head_pops (head_at p list) + 1
        count_then list less =
            let once = popped_pops p class popped w run below pop pop_stores d some list less in
            let same : volatile_at u (head_word list) ≡ volatile_at w (head_word list) = take_stores.volatile (head_word list) (λ e. omega arith) in
            elim (cases_eq list 0) as (λ _. head_pops (volatile_at v (head_word list)) ≤ head_pops (head_at p list) + 1) [
              | inl zero_is ↦
                  let set_to : volatile_at v (head_word 0) ≡ head_of (d + 1) (head_pops (volatile_at u (head_word 0))) =
                  ap (λ (xs : List ℕ). get_or xs (head_word 0) 0) pushed.words
                  ∙ get_or-set_same linked (head_word 0) (head_of (d + 1) (head_pops (volatile_at u (head_word 0)))) 0
                  (let same = long in let wide = run.words_open.long in let kept =
                  length-set u.volatile (link_word d) (head_first (volatile_at u (head_word 0))) in omega arith) in
                  let here : volatile_at v (head_word list) ≡ head_of (d + 1) (head_pops (volatile_at u (head_word list))) =
                  subst (λ k. volatile_at v (head_word k) ≡ head_of (d + 1) (head_pops (volatile_at u (head_word k)))) (sym zero_is) set_to in
                  let small = front.within in
                  let few = run.is.small in
                  omega (arith, largest_capacity_fits)
              | inr other ↦
                  let kept : volatile_at v (head_word list) ≡ volatile_at u (head_word list) =
                  push_stores.volatile (head_word list) (λ t. elim t as (λ _. ⊥) [ inl e ↦ other (omega arith) | inr e ↦ omega arith ]) in
                  omega arith
            ]

        made_recycled : IsMade p recycled shape_then
        made_recycled = record {
          capacity = refl;
          held = refl;
          running = pushed.runs_within.running;
          words = push_stores.words ∙ long;
          budget = push_stores.budget ∙ take_stores.budget ∙ pop_stores.budget;
          below = pushed.runs_within.below;
          caches_long = run.caches_long;
          looks_long = length-set p.head_looks class look ∙ run.looks_long;
          is = recycle p.capacity class d (image_of p) (λ word. volatile_at w word) (image_of recycled)
              (held_in p) run.shape front.rest is run.is front.listed state
              (popped_of p class popped w run below pop pop_stores d some) pushed_on;
          caches = λ c is_c. record { first = (run.caches c is_c).first; count = (run.caches c is_c).count; most = (run.caches c is_c).most };
          sizes = sizes_kept p.capacity run.shape shape_then (λ e. image_of p (info_word e)) (λ e. volatile_at v (info_word e)) p.blocks run.sizes
              (λ e within. push_moved.volatile (info_word e) (λ m. moved_info p.capacity e (info_word e) m refl)) stood_then;
          settled = settled_kept p.capacity (IsMoved p.capacity) p.words v push_moved (λ e within m. moved_info p.capacity e (info_word e) m refl)
              (λ m. moved_used p.capacity used_word m refl) run.settled;
          pops = λ list less.
              let before = run.pops list less in
              let once = count_then list less in
              let drew = pop.runs_within.drew in
              let more = not_taken.runs_within.drew in
              let last = pushed.runs_within.drew in
              omega arith;
          knows = let same : volatile_at v used_word ≡ image_of p used_word =
              push_moved.volatile used_word (λ m. moved_used p.capacity used_word m refl) in let knew = run.knows in omega arith;
          few = let same : volatile_at v used_word ≡ image_of p used_word =
              push_moved.volatile used_word (λ m. moved_used p.capacity used_word m refl) in let least = run.few in omega arith;
        }

        pub recycled_refilling : IsRefilling class p recycled
        recycled_refilling = record {
          running = made p recycled shape_then run made_recycled;
          held = refl;
          caches = λ c is_c other. refl;
          heads = λ c is_c other.
              push_stores.volatile (head_word c) (λ t. elim t as (λ _. ⊥) [
                | inl e ↦ let some = is_c.some in omega arith
                | inr e ↦ let last = is_c.last in omega arith
              ])
              ∙ take_stores.volatile (head_word c) (λ e. let last = is_c.last in omega arith)
              ∙ pop_stores.volatile (head_word c) (λ e. other (omega arith));
          lists = λ c is_c other ds leads.
              let less : c < lists = let last = is_c.last in omega arith in
              let same : shape_then.listed c ≡ ds =
              with_at_other (with_at run.shape.listed class front.rest) 0 (d ∷ run.shape.listed 0) c (λ e. let from = is_c.some in omega arith)
              ∙ with_at_other run.shape.listed class front.rest c other ∙ listed_is p run c ds less leads in
              subst (λ (es : List ℕ). LeadsAlong recycled c es) same (made_recycled.is.follows c less);
          drains = recycle_drains p.capacity class d (image_of p) (λ word. volatile_at w word) (image_of recycled)
              (held_in p) run.shape front.rest is run.is front.listed
              (popped_of p class popped w run below pop pop_stores d some) pushed_on;
        }

        -- its head counts the pop, and that of the free list counts none
        recycled_pops : CountsPops class 1 0 p recycled
        recycled_pops = record {
          class_head =
              ap head_pops (push_stores.volatile (head_word class) (λ t. elim t as (λ _. ⊥) [
                | inl e ↦ let from = is.some in omega arith
                | inr e ↦ let last = is.last in omega arith
              ]) ∙ take_stores.volatile (head_word class) (λ e. let last = is.last in omega arith))
              ∙ popped_count p class popped w run below pop pop_stores d some;
          free_head =
              let set_to : volatile_at v (head_word 0) ≡ head_of (d + 1) (head_pops (volatile_at u (head_word 0))) =
              ap (λ (xs : List ℕ). get_or xs (head_word 0) 0) pushed.words
              ∙ get_or-set_same linked (head_word 0) (head_of (d + 1) (head_pops (volatile_at u (head_word 0)))) 0
              (let same = long in let wide = run.words_open.long in let kept =
              length-set u.volatile (link_word d) (head_first (volatile_at u (head_word 0))) in omega arith) in
              let same : volatile_at u (head_word 0) ≡ image_of p (head_word 0) =
              take_stores.volatile (head_word 0) (λ e. omega arith) ∙ pop_stores.volatile (head_word 0) (λ e. let from = is.some in omega arith) in
              let small = front.within in
              let few = run.is.small in
              omega (arith, largest_capacity_fits);
        }

        -- its list is shorter by it
        now_rest : shape_then.listed class ≡ front.rest
        now_rest = with_at_other (with_at run.shape.listed class front.rest) 0 (d ∷ run.shape.listed 0) class (λ e. let from = is.some in omega arith)
            ∙ with_at_same run.shape.listed class front.rest

        now_free : shape_then.listed 0 ≡ d ∷ run.shape.listed 0
        now_free = with_at_same (with_at run.shape.listed class front.rest) 0 (d ∷ run.shape.listed 0)

        pub recycled_first : Recycles class p recycled
        recycled_first = record {
          some = front.some;
          now = λ none.
              let follows = subst (λ (ds : List ℕ). Follows (λ e. image_of recycled (link_word e)) p.capacity
              (head_first (head_at recycled 0)) ds) now_free
              (made_recycled.is.follows 0 (omega arith)) in
              let from = follows.0 in
              omega arith;
          used = push_moved.volatile used_word (λ m. moved_used p.capacity used_word m refl);
          shorter = λ ds leads.
              let follows = subst (λ (es : List ℕ). Follows (λ e. image_of recycled (link_word e)) p.capacity (head_first (head_at recycled class)) es)
              now_rest (made_recycled.is.follows class below) in
              let same : front.rest ≡ ds = one_following (λ e. image_of recycled (link_word e)) p.capacity
              (head_first (head_at recycled class)) front.rest ds follows
              leads in (
                d,
                subst (λ (es : List ℕ). LeadsAlong p class (d ∷ es)) same
                    (subst (λ (es : List ℕ). LeadsAlong p class es) front.listed (run.is.follows class below)),
              );
        }

        rest_leads : LeadsAlong recycled class front.rest
        rest_leads = subst (λ (ds : List ℕ). LeadsAlong recycled class ds) now_rest (made_recycled.is.follows class below)

        free_leads : LeadsAlong recycled 0 (d ∷ run.shape.listed 0)
        free_leads = subst (λ (ds : List ℕ). LeadsAlong recycled 0 ds) now_free (made_recycled.is.follows 0 (omega arith))

        list_leads : LeadsAlong p class (d ∷ front.rest)
        list_leads = subst (λ (ds : List ℕ). LeadsAlong p class ds) front.listed (run.is.follows class below)

        anchors_stay : (e : ℕ) → image_of recycled (anchor_word e) ≡ image_of p (anchor_word e)
        anchors_stay e =
            push_stores.volatile (anchor_word e) (λ t. elim t as (λ _. ⊥) [ inl at ↦ omega arith | inr at ↦ let less = front.within in omega arith ])
            ∙ ap (λ (xs : List ℕ). get_or xs (anchor_word e) 0) not_taken.words.1
            ∙ pop_stores.volatile (anchor_word e) (λ at. let last = is.last in omega arith)

        all_free : anchor_state (image_of p (anchor_word d)) ≡ empty_state
        all_free = elim front.free.state as (λ _. anchor_state (image_of p (anchor_word d)) ≡ empty_state)
            [ inl all ↦ all.0 | inr part ↦ absurd (state part.0) ]

        pub recycled_moves : MovesEmpty class p recycled
        recycled_moves = record {
          capacity = refl;
          anchors = anchors_stay;
          all = λ e less. record {
            info = push_moved.volatile (info_word e) (λ m. moved_info p.capacity e (info_word e) m refl);
            anchor = anchors_stay e;
            words = λ word inside. push_moved.volatile word (λ m. moved_inside p.capacity e word m inside);
          };
          moved = d ∷ [];
          were = λ ds leads.
              subst (λ es. LeadsAlong p class (d ∷ es))
              (one_following (λ e. image_of recycled (link_word e)) p.capacity (head_first (head_at recycled class)) front.rest ds rest_leads leads)
              list_leads;
          passed = λ e has. elim (head_or_rest d e [] has) as (λ _. anchor_state (image_of p (anchor_word e)) ≡ empty_state) [
            | inl same ↦ subst (λ k. anchor_state (image_of p (anchor_word k)) ≡ empty_state) same all_free
            | inr none ↦ absurd (in_none e none)
          ];
          frees = λ fs leads. subst (λ xs. LeadsAlong recycled 0 (d ∷ xs))
              (free_one p class d popped w look run is pop pop_stores some fs leads) free_leads;
          nothing = λ none e there. elim (head_or_rest d e front.rest (in_list_has p class e (d ∷ front.rest) there list_leads)) as
              (λ _. anchor_state (image_of p (anchor_word e)) ≡ empty_state) [
                | inl same ↦ subst (λ k. anchor_state (image_of p (anchor_word k)) ≡ empty_state) same all_free
                | inr later ↦ ap anchor_state (sym (anchors_stay e)) ∙ none e (in_list_along recycled class e front.rest rest_leads later)
              ];
          free = list_kept p recycled 0 0 (run.shape.listed 0) (d ∷ run.shape.listed 0) (run.is.follows 0 (omega arith)) free_leads
              (λ e. in_rest d e (run.shape.listed 0));
          pops = recycled_pops;
        }

        -- the free list is longer by it
        pub recycled_spends : Spends 0 class p recycled
        recycled_spends =
            let long : length (run.shape.listed class) ≡ length (d ∷ front.rest) = ap length front.listed in
            let same : volatile_at v used_word ≡ image_of p used_word = push_moved.volatile used_word (λ m. moved_used p.capacity used_word m refl) in
            spends_by 0 class p recycled run front.rest (d ∷ run.shape.listed 0) is recycled_refilling.running refl
            rest_leads free_leads (omega arith)
