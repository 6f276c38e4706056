-- One superblock of a large block that is freed goes to the free list: its anchor is stored, and then it is pushed.
use Rattle.std.proofs.Common.{◌≡◌, ◌≢◌, ℕ, zero, suc, ◌*◌, ◌<◌, ◌≤◌, ◌^◌, ◌⊎◌, inl, inr, List, ◌∷◌, get_or, set, Contains, refl, ap, sym, subst, ◌∙◌, arith}
use Rattle.std.proofs.lemmas.Bool.{cases_eq}
use Rattle.heap_model.specs.declared.block.Block.{Block}
use Rattle.heap_model.specs.Geometry.{lists, head_word, info_word, anchor_word, link_word, used_word, largest_capacity_fits}
use Rattle.heap_model.specs.Sizes.{IsClass, words_of_class}
use Rattle.heap_model.specs.Words.{head_first, head_pops}
use Rattle.heap_model.specs.Chains.{Follows}
use Rattle.heap_model.proofs.CountingLemmas.{times_some}
use Rattle.heap_model.proofs.MemberLemmas.{in_head, in_rest, head_or_rest}
use Rattle.heap_shape.specs.Shape.{Place, in_list, is_full, in_large, is_new, Shape, stands_in}
use Rattle.heap_shape.specs.Standing.{IsAs}
use Rattle.heap_shape.specs.Whole.{IsShape}
use Rattle.heap_shape.specs.Effects.{IsSet, IsPushedOn}
use Rattle.heap_shape.specs.Moves.{after_split}
use Rattle.heap_shape.specs.Draining.{for_later}
use Rattle.heap_shape.proofs.AccountLemmas.{use_kept}
use Rattle.heap_at_rest.proofs.DrainableLemmas.{free_follows}
use Rattle.heap_shape.proofs.BasicLemmas.{with_at_same, with_at_other}
use Rattle.heap_shape.proofs.FreeLargeLemmas.{split_one}
use Rattle.heap_at_rest.proofs.ListLemmas.{one_following}
use Rattle.line_memory.specs.View.{View, word_count, volatile_at, durable_at}
use Rattle.block_heap.specs.Accounts.{IsUsed, GivesUse}
use Rattle.block_heap.specs.Links.{IsPushed, IsPushWord}
use Rattle.block_heap.specs.Medium.{StoresOnly, IsStored}
use Rattle.block_heap.specs.Lists.{LeadsAlong, IsInList}
use Rattle.block_heap.specs.Returns.{FreesOne}
use Rattle.block_heap.specs.Parts.{Parts, image_of, held_in}
use Rattle.block_heap.specs.Running.{IsRunning, LeavesHeld}
use Rattle.block_heap.specs.Large.{IsDropped}
use Rattle.block_heap.specs.AllocatorWords.{IsAllocatorWord, is_head, is_anchor, is_link}
use Rattle.block_heap.proofs.MediumLemmas.{stores_then, stores_more}
use Rattle.block_heap.proofs.OrderLemmas.{in_list_along, in_list_has, list_kept, listed_is}
use Rattle.block_heap.proofs.RunningLemmas.{set_is, settled_kept}
use Rattle.block_heap.proofs.LookLemmas.{looks_kept}
use Rattle.block_heap.proofs.StableLemmas.{as_allocator_of}
use Rattle.block_heap.proofs.PushLemmas.{pushed_is, pushed_pops, words_inside}

-- parts with other words leave the held blocks, where each word stored to is an allocator's
pub leaves_held_words : (held : List Block) (p : Parts) (to : ℕ → Type 0) (w : View)
    → ((word : ℕ) → to word → IsAllocatorWord p.capacity held word) → (to used_word → ⊥)
    → StoresOnly to p.words w → durable_at p.words used_word ≡ volatile_at p.words used_word → LeavesHeld held p (record p { words = w })
leaves_held_words held p to w are not_used stores settled = record {
  capacity = refl;
  as_allocator = (as_allocator_of p.capacity held to p.words w are not_used stores settled).0;
  knows = refl;
  taken = omega arith;
  looks = looks_kept p (record p { words = w }) refl;
}

-- a dropped superblock has the place of one that a large block takes
pub dropped_place : (p : Parts) (d : ℕ) (run : IsRunning p) → IsDropped p d → run.shape.place d ≡ in_large
dropped_place p d run dropped = by_place (run.shape.place d) refl (run.is.places d dropped.within) where
  by_place : (at : Place) → run.shape.place d ≡ at → IsAs p.capacity (image_of p) run.shape (held_in p) d at → at ≡ in_large
  by_place (in_list zero) same is =
      let count = run.is.listed 0 d (omega arith) in
      let one : stands_in (run.shape.place d) 0 ≡ 1 = ap (λ at. stands_in at 0) same in
      absurd (dropped.unlisted (run.shape.listed 0) (run.is.follows 0 (omega arith)) (times_some d (run.shape.listed 0) (omega arith)))
  by_place (in_list (suc c)) same is = absurd (dropped.no_class (subst IsClass (sym is.of_class.info) is.of_class.is_class))
  by_place is_full same is = absurd (dropped.no_class is.of_class.is_class)
  by_place in_large same is = refl
  by_place is_new same is = absurd (let past = is.past in let taken = dropped.taken in omega arith)

-- a word that the split of superblock d stores to
abbrev pub IsSplitWord : ℕ → ℕ → Type 0
IsSplitWord d word = (word ≡ anchor_word d) ⊎ IsPushWord 0 d word

-- each is an allocator's
pub split_words : (capacity d : ℕ) (held : List Block) → d < capacity → (word : ℕ) → IsSplitWord d word → IsAllocatorWord capacity held word
split_words capacity d held within word (inl anchor) = is_anchor d within anchor
split_words capacity d held within word (inr push) = elim push as (λ _. IsAllocatorWord capacity held word) [
  | inl head ↦ is_head 0 (omega arith) head
  | inr link ↦ is_link d within link
]

pub split_not_used : (d : ℕ) → IsSplitWord d used_word → ⊥
split_not_used d (inl anchor) = omega arith
split_not_used d (inr push) = elim push as (λ _. ⊥) [ inl head ↦ omega arith | inr link ↦ omega arith ]

split_not_info : (d e : ℕ) → IsSplitWord d (info_word e) → ⊥
split_not_info d e (inl anchor) = omega arith
split_not_info d e (inr push) = elim push as (λ _. ⊥) [ inl head ↦ omega arith | inr link ↦ omega arith ]

split_not_head : (d class : ℕ) → IsClass class → IsSplitWord d (head_word class) → ⊥
split_not_head d class is (inl anchor) = let last = is.last in omega arith
split_not_head d class is (inr push) = elim push as (λ _. ⊥) [
  | inl head ↦ let some = is.some in omega arith
  | inr link ↦ let last = is.last in omega arith
]

-- One superblock of a freed large block goes to the free list: first its anchor is stored, then it is pushed.
module _ (p : Parts) (d anchor : ℕ) (u w : View) (run : IsRunning p) (dropped : IsDropped p d) (at : anchor ≡ anchor_word d)
    (store : StoresOnly (λ word. word ≡ anchor) p.words u) where
  abbrev s : Shape
  s = run.shape

  within : d < p.capacity
  within = dropped.within

  -- after the first step
  pub anchor_stores : StoresOnly (IsSplitWord d) p.words u
  anchor_stores = stores_more (λ word. word ≡ anchor) (IsSplitWord d) p.words u (λ word e. inl (e ∙ at)) store

  pub anchor_leaves_held : LeavesHeld (held_in p) p (record p { words = u })
  anchor_leaves_held = leaves_held_words (held_in p) p (IsSplitWord d) u (split_words p.capacity d (held_in p) within)
      (split_not_used d) anchor_stores run.settled.used

  -- after both
  module _ (push : StoresOnly (IsPushWord 0 d) u w) where
    pub split_stores : StoresOnly (IsSplitWord d) p.words w
    split_stores = stores_then (IsSplitWord d) p.words u w anchor_stores (stores_more (IsPushWord 0 d) (IsSplitWord d) u w (λ word e. inr e) push)

    pub split_leaves_held : LeavesHeld (held_in p) p (record p { words = w })
    split_leaves_held = leaves_held_words (held_in p) p (IsSplitWord d) w (split_words p.capacity d (held_in p) within)
        (split_not_used d) split_stores run.settled.used

    -- where both were done
    module _ (stored : IsStored anchor 0 p.words u) (pushed : IsPushed 0 d u w) where
      inside : (head_word 0 < word_count p.words) × (anchor_word d < word_count p.words) × (link_word d < word_count p.words)
      inside = words_inside p.capacity d 0 p.words run.words_open within (omega arith)

      anchor_set : IsSet (image_of p) (volatile_at u) (anchor_word d) 0
      anchor_set = set_is p.words.volatile u.volatile (anchor_word d) 0 (omega (arith, inside.1)) (stored.volatile
          ∙ ap (λ a. set p.words.volatile a 0) at)

      long : word_count u ≡ word_count p.words
      long = store.words

      on_list : IsPushedOn (volatile_at u) (volatile_at w) 0 d
      on_list = pushed_is 0 d u w (omega arith) (let k = long in omega (arith, inside.0)) (let k = long in omega (arith, inside.2)) pushed

      is_shape : IsShape p.capacity (volatile_at w) (held_in p) (after_split s d)
      is_shape = split_one p.capacity d (image_of p) (volatile_at u) (volatile_at w) (held_in p) s run.is within
          (dropped_place p d run dropped) dropped.none anchor_set on_list

      info_same : (e : ℕ) → volatile_at w (info_word e) ≡ volatile_at p.words (info_word e)
      info_same e = split_stores.volatile (info_word e) (split_not_info d e)

      used_same : volatile_at w used_word ≡ volatile_at p.words used_word
      used_same = split_stores.volatile used_word (split_not_used d)

      sizes_at : (e : ℕ) → e < p.capacity → IsClass (volatile_at w (info_word e))
          → ((after_split s d).place e ≡ in_list (volatile_at w (info_word e))) ⊎ ((after_split s d).place e ≡ is_full)
          → get_or p.blocks.words.items e 0 ≡ words_of_class (volatile_at w (info_word e))
      sizes_at e below is place = elim (cases_eq e d) as (λ _. get_or p.blocks.words.items e 0 ≡ words_of_class (volatile_at w (info_word e))) [
        | inl one ↦ absurd (dropped.no_class (subst (λ k. IsClass (volatile_at p.words (info_word k))) one (subst IsClass (info_same e) is)))
        | inr other ↦
            let stays : (after_split s d).place e ≡ s.place e = with_at_other s.place d (in_list 0) e other in
            let before : (s.place e ≡ in_list (image_of p (info_word e))) ⊎ (s.place e ≡ is_full) = elim place [
              | inl listed ↦ inl (sym stays ∙ listed ∙ ap in_list (info_same e))
              | inr full ↦ inr (sym stays ∙ full)
            ] in
            run.sizes.sizes e below (subst IsClass (info_same e) is) before ∙ ap words_of_class (sym (info_same e))
      ]

      pops_stay : (list : ℕ) → list < lists → head_pops (volatile_at w (head_word list)) ≡ head_pops (image_of p (head_word list))
      pops_stay list less =
          let small = run.is.small in
          let below = within in
          let k = long in
          pushed_pops 0 d u w (omega arith) (omega (arith, inside.0)) (omega (arith, inside.2))
          (omega (arith, largest_capacity_fits)) pushed list less
          ∙ ap head_pops (anchor_set.others (head_word list) (λ e. omega arith))

      pops : (list : ℕ) → list < lists → 2 * head_pops (volatile_at w (head_word list)) ≤ w.drawn
      pops list less =
          let same = pops_stay list less in
          let before = run.pops list less in
          let drawn = split_stores.drawn in
          omega arith

      pub split_running : IsRunning (record p { words = w })
      split_running = record {
        words_open = record { running = pushed.runs_within.running; long = split_stores.words ∙ run.words_open.long };
        below = pushed.runs_within.below;
        bounded = let same = split_stores.budget in let bounded = run.bounded in subst (λ n. n < 2 ^ 40) (sym same) bounded;
        caches_long = run.caches_long;
        looks_long = run.looks_long;
        shape = after_split s d;
        is = is_shape;
        caches = λ class is. let cache = run.caches class is in record { first = cache.first; count = cache.count; most = cache.most };
        sizes = record { start = run.sizes.start; long = run.sizes.long; sizes = sizes_at };
        settled = settled_kept p.capacity (IsSplitWord d) p.words w split_stores (λ e below. split_not_info d e) (split_not_used d) run.settled;
        pops = pops;
        knows = let used = used_same in let knows = run.knows in omega arith;
        few = let used = used_same in let few = run.few in omega arith;
      }

      -- it is in the free list, and the others keep their uses
      pub split_gives : GivesUse d p (record p { words = w })
      split_gives = record { used = used_same; uses = uses } where
        uses : (e : ℕ) → (e ≡ d) ⊎ IsUsed p e → IsUsed (record p { words = w }) e
        uses e (inl same) = for_later (free_follows p.capacity e (volatile_at w) ((after_split s d).listed 0) (is_shape.follows 0 (omega arith))
            (subst (λ x. Contains (d ∷ s.listed 0) x) (sym same) (in_head d (s.listed 0))))
        uses e (inr before) = use_kept p.capacity e (image_of p) (volatile_at w) (held_in p) s (after_split s d) (held_in p) run.is is_shape
            (info_same e) (in_rest d e (s.listed 0)) before

      -- the free list loses none
      pub split_frees : FreesOne d p (record p { words = w })
      split_frees =
          let leads : LeadsAlong (record p { words = w }) 0 (d ∷ s.listed 0) = is_shape.follows 0 (omega arith) in record {
            freed = in_list_along (record p { words = w }) 0 d (d ∷ s.listed 0) leads (in_head d (s.listed 0));
            only = λ e there.
                elim (head_or_rest d e (s.listed 0) (in_list_has (record p { words = w }) 0 e (d ∷ s.listed 0) there leads))
                as (λ _. IsInList p 0 e ⊎ (e ≡ d)) [
                  | inl same ↦ inr (sym same)
                  | inr before ↦ inl (in_list_along p 0 e (s.listed 0) (run.is.follows 0 (omega arith)) before)
                ];
            free = list_kept p (record p { words = w }) 0 0 (s.listed 0) (d ∷ s.listed 0) (run.is.follows 0 (omega arith)) leads
                (λ e. in_rest d e (s.listed 0));
            heads = λ class is. split_stores.volatile (head_word class) (split_not_head d class is);
            infos = info_same;
            first = λ fs before. subst (λ es. LeadsAlong (record p { words = w }) 0 (d ∷ es)) (listed_is p run 0 fs (omega arith) before) leads;
            lists = λ class is ds before.
                let less : class < lists = let last = is.last in omega arith in
                subst (λ es. LeadsAlong (record p { words = w }) class es)
                (with_at_other s.listed 0 (d ∷ s.listed 0) class (λ e. let from = is.some in omega arith) ∙ listed_is p run class ds less before)
                (is_shape.follows class less);
            anchor = push.volatile (anchor_word d) (λ t. elim t as (λ _. ⊥) [ inl e ↦ omega arith | inr e ↦ let less = within in omega arith ])
                ∙ anchor_set.at;
            pops = pops_stay 0 (omega arith);
            others = λ word not_head not_anchor not_link. split_stores.volatile word (λ t. elim t as (λ _. ⊥) [
              | inl at_anchor ↦ not_anchor at_anchor
              | inr pushes ↦ elim pushes as (λ _. ⊥) [ inl head ↦ not_head head | inr link ↦ not_link link ]
            ]);
          }

      -- the other dropped superblocks stay so
      pub split_others : (e : ℕ) → e ≢ d → IsDropped p e → IsDropped (record p { words = w }) e
      split_others e other is = record {
        within = is.within;
        taken = let used = used_same in let taken = is.taken in omega arith;
        no_class = λ class. is.no_class (subst IsClass (info_same e) class);
        none = is.none;
        unlisted = λ ds leads in_ds.
            let one : d ∷ s.listed 0 ≡ ds = one_following (λ k. volatile_at w (link_word k)) p.capacity
            (head_first (volatile_at w (head_word 0))) (d ∷ s.listed 0) ds
            (subst (λ ls. Follows (λ k. volatile_at w (link_word k)) p.capacity (head_first (volatile_at w (head_word 0))) ls)
            (with_at_same s.listed 0 (d ∷ s.listed 0)) (is_shape.follows 0 (omega arith))) leads in
            elim (head_or_rest d e (s.listed 0) (subst (λ ls. Contains ls e) (sym one) in_ds)) as (λ _. ⊥) [
              | inl same ↦ other (sym same)
              | inr later ↦ is.unlisted (s.listed 0) (run.is.follows 0 (omega arith)) later
            ];
      }
