-- How superblocks that were never taken become a large block.
use Rattle.std.proofs.Common.{◌≡◌, ◌≢◌, ℕ, ◌+◌, ◌-◌, ◌*◌, ◌/◌, ◌<◌, ◌≤◌, ◌^◌, ◌⊎◌, inl, inr, Bool, true, false, cond, nat_le, nat_lt, ◌&&◌, Option, Some, MatchOption, List, length, get_or, set, Contains, refl, ap, sym, subst, ◌∙◌, arith, length-set, get_or-set_same, get_or-set_other}
use Rattle.std.proofs.lemmas.Bool.{cases_eq}
use Rattle.heap_model.specs.declared.block.Block.{Block}
use Rattle.heap_model.specs.Geometry.{head_word, info_word, used_word, start_word, superblock_words, largest_capacity}
use Rattle.heap_model.specs.Sizes.{IsClass, words_of_class}
use Rattle.heap_model.specs.Words.{head_pops, large_info}
use Rattle.heap_model.proofs.BlockLemmas.{block_words, block_inside}
use Rattle.heap_model.proofs.PartLemmas.{same_fields}
use Rattle.heap_shape.specs.Shape.{Place, in_list, is_full, in_large}
use Rattle.heap_shape.specs.Whole.{IsShape}
use Rattle.heap_at_rest.specs.Draining.{layout_at}
use Rattle.heap_shape.specs.Effects.{IsSet}
use Rattle.heap_shape.specs.Moves.{after_join, AddsTo}
use Rattle.heap_shape.proofs.AccountLemmas.{accounted_joined}
use Rattle.heap_shape.proofs.JoinLemmas.{join}
use Rattle.heap_shape.proofs.OwnLemmas.{none_past}
use Rattle.line_memory.specs.View.{View, word_count, volatile_at, durable_at}
use Rattle.line_memory.specs.Crash.{MayLeaveStore}
use Rattle.line_memory.specs.Marks.{marked_words, IsMarked}
use Rattle.line_memory.specs.Marked.{marked_words-has}
use Rattle.block_heap.specs.declared.held.HeldBlocks.{HeldBlocks}
use Rattle.heap_seat.specs.declared.look.Look.{Look}
use Rattle.block_heap.specs.declared.superblocks.Fresh.{Fresh}
use Rattle.block_heap.specs.Accounts.{AreAccounted}
use Rattle.block_heap.specs.Held.{held_of, at_mark, block_of_mark}
use Rattle.block_heap.specs.Links.{IsFresh}
use Rattle.block_heap.specs.Medium.{StoresOnly, IsPersisted}
use Rattle.block_heap.specs.Parts.{Parts, image_of, held_in}
use Rattle.block_heap.specs.Large.{joined_words}
use Rattle.block_heap.specs.Running.{IsRunning, HasDurableInfos, LeavesHeld}
use Rattle.block_heap.specs.AllocatorWords.{UsedFits, is_info}
use Rattle.block_heap.proofs.RunningLemmas.{set_is}
use Rattle.block_heap.proofs.HeldLemmas.{has_map}
use Rattle.block_heap.proofs.LookLemmas.{IsNextLook, looked_at_used, looks_kept}
use Rattle.block_heap.proofs.StableLemmas.{as_allocator_of, as_allocator_then, as_allocator_raised}

-- what was found where there were enough
fresh_some : (capacity count d : ℕ) (fresh : Fresh) (v w : View) → IsFresh capacity count fresh v w → fresh.first ≡ Some d
    → (d ≡ fresh.used) × (fresh.used + count ≤ capacity) × (w.volatile ≡ set v.volatile used_word (fresh.used + count))
    × (durable_at w used_word ≡ fresh.used + count)
fresh_some capacity count d fresh v w is some =
    subst (λ (first : Option ℕ). MatchOption first ((w.volatile ≡ v.volatile) × (capacity < fresh.used + count) × StoresOnly (λ _. ⊥) v w)
    (λ d. (d ≡ fresh.used) × (fresh.used + count ≤ capacity)
    × (w.volatile ≡ set v.volatile used_word (fresh.used + count)) × (durable_at w used_word ≡ fresh.used + count))) some is.words

-- raising `used` may stop within
pub large_stops : (p : Parts) (count : ℕ) (w : View) → IsRunning p → StoresOnly (λ word. word ≡ used_word) p.words w
    → MayLeaveStore used_word (image_of p used_word + count) p.words w → (UsedFits p.capacity p.words → UsedFits p.capacity w)
    → LeavesHeld (held_in p) p (record p { words = w })
large_stops p count w run stores crash fits = record {
  capacity = refl;
  as_allocator = as_allocator_raised p.capacity (held_in p) (image_of p used_word + count) p.words w stores crash run.settled.used (omega arith) fits;
  knows = refl;
  taken = omega arith;
  looks = looks_kept p (record p { words = w }) refl;
}

-- a word that is durable as loads see it stays so where it isn't stored to
word_settled : (to : ℕ → Type 0) (v w : View) (word : ℕ) → StoresOnly to v w → (to word → ⊥) → durable_at v word ≡ volatile_at v word
    → durable_at w word ≡ volatile_at w word
word_settled to v w word stores out same = elim (stores.durable word out) as (λ _. durable_at w word ≡ volatile_at w word) [
  | inl e ↦ e ∙ same ∙ sym (stores.volatile word out)
  | inr e ↦ e ∙ sym (stores.volatile word out)
]

-- a marked block begins before the superblocks that were never taken
pub no_mark_past : (p : Parts) (d mark : ℕ) → IsRunning p → image_of p used_word ≤ d → IsMarked p.blocks.marks.items mark → mark / 4096 ≢ d
no_mark_past p d mark run past marked at =
    let b : Block = block_of_mark p.blocks.start p.blocks.words.items mark in
    let holds : Contains (held_in p) b = has_map (block_of_mark p.blocks.start p.blocks.words.items) (marked_words p.blocks.marks.items) mark
    (marked_words-has p.blocks.marks.items mark marked) in
    let inside = block_inside (layout_at p.capacity (image_of p)) b (run.is.named b holds) in
    let words = block_words (layout_at p.capacity (image_of p)) b (run.is.named b holds) in
    let start = run.sizes.start in
    let ends = inside.1 in
    omega arith

-- a place behind a test that isn't that of a large block
place_behind : (test : Bool) (at to : Place) → (to ≡ in_large → ⊥) → cond test in_large at ≡ to → at ≡ to
place_behind true at to other same = absurd (other (sym same))
place_behind false at to other same = same

-- So many superblocks are taken for the first time, and become a large block.
module _ (p : Parts) (count d : ℕ) (fresh : Fresh) (u : View) (look : Look) (run : IsRunning p)
    (is_fresh : IsFresh p.capacity count fresh p.words u) (first : fresh.first ≡ Some d)
  where
    got : (d ≡ fresh.used) × (fresh.used + count ≤ p.capacity) × (u.volatile ≡ set p.words.volatile used_word (fresh.used + count))
        × (durable_at u used_word ≡ fresh.used + count)
    got = fresh_some p.capacity count d fresh p.words u is_fresh first

    was_used : image_of p used_word ≡ d
    was_used = sym is_fresh.used ∙ sym got.0

    -- the sum of those taken fits
    pub taken_fits : p.taken + count ≤ 2 * largest_capacity
    taken_fits = let few = run.few in let small = run.is.small in let used = is_fresh.used in omega (arith, got.1)

    pub fresh_within : 1 ≤ count → d < p.capacity
    fresh_within some = let used = is_fresh.used in omega (arith, got.0, got.1)

    pub fresh_unmarked : (mark : ℕ) → IsMarked p.blocks.marks.items mark → mark / 4096 ≢ d
    fresh_unmarked mark marked = no_mark_past p d mark run (let e = was_used in omega arith) marked

    module _ (w : View) (some : 1 ≤ count) (stores : StoresOnly (λ word. word ≡ used_word) p.words u)
        (may : MayLeaveStore used_word (image_of p used_word + count) p.words u)
        (fits : UsedFits p.capacity p.words → UsedFits p.capacity u) (seen : look.seen ≡ fresh.used) (when : look.taken ≡ p.taken)
        (info_stores : StoresOnly (λ word. word ≡ info_word d) u w) where
      raised : volatile_at u used_word ≡ d + count
      raised =
          let inside : used_word < word_count p.words = let long = run.words_open.long in omega arith in
          let at = (set_is p.words.volatile u.volatile used_word (fresh.used + count) inside got.2).at in
          omega (arith, got.0)

      pub join_leaves_held : (blocks : HeldBlocks) → IsNextLook p look
          → LeavesHeld (held_in p) p (record p { words = w; blocks = blocks; taken = p.taken + count; used_look = look })
      join_leaves_held blocks next = record {
        capacity = refl;
        as_allocator = as_allocator_then p.capacity (held_in p) p.words u w
            (as_allocator_raised p.capacity (held_in p) (image_of p used_word + count) p.words u stores may run.settled.used (omega arith) fits)
            (as_allocator_of p.capacity (held_in p) (λ word. word ≡ info_word d) u w
            (λ word e. is_info d (fresh_within some) (none_past p.capacity d (image_of p) (held_in p) run.shape run.is (let at = was_used in
            omega arith)) e)
            (λ e. omega arith) info_stores (let at = raised in omega (arith, got.0, got.3))).0;
        knows = let knows = run.knows in let used = is_fresh.used in omega arith;
        taken = omega arith;
        looks = looked_at_used p (record p { words = w; blocks = blocks; taken = p.taken + count; used_look = look }) look next
            (let drew = is_fresh.runs_within.drew in let more = info_stores.drawn in omega arith) (omega arith) refl refl;
      }

      module _ (divided added : HeldBlocks) (first_word : ℕ) (persisted : IsPersisted (info_word d) (large_info count) u w)
          (held_same : held_of divided ≡ held_of p.blocks) (divided_words : divided.words.items ≡ set p.blocks.words.items d (superblock_words * count))
          (divided_start : divided.start ≡ p.blocks.start) (at : first_word ≡ start_word p.capacity d)
          (adds : AddsTo (at_mark divided first_word) (held_of divided) (held_of added)) (added_words : added.words.items ≡ divided.words.items)
          (added_start : added.start ≡ divided.start) where
        abbrev block : Block
        block = record { first_word = start_word p.capacity d; words = superblock_words * count }

        -- the block that is marked is the large one
        marked_words_are : (start : ℕ) (words : List ℕ) → start ≡ p.blocks.start → words ≡ set p.blocks.words.items d (superblock_words * count)
            → get_or words ((first_word - start) / 8192) 0 ≡ superblock_words * count
        marked_words_are start words same are =
            let begins = run.sizes.start in
            let long = run.sizes.long in
            let below = fresh_within some in
            let index : (first_word - start) / 8192 ≡ d = omega arith in
            ap (λ k. get_or words k 0) index ∙ ap (λ xs. get_or xs d 0) are
            ∙ get_or-set_same p.blocks.words.items d (superblock_words * count) 0 (omega arith)

        adds_block : AddsTo block (held_in p) (held_of added)
        adds_block =
            let same : at_mark divided first_word ≡ block =
            same_fields (at_mark divided first_word) block at (marked_words_are divided.start divided.words.items divided_start divided_words) in
            subst (λ (held : List Block). AddsTo block held (held_of added)) held_same
            (subst (λ (b : Block). AddsTo b (held_of divided) (held_of added)) same adds)

        used_set : IsSet (image_of p) (volatile_at u) used_word (d + count)
        used_set =
            let long = run.words_open.long in
            set_is p.words.volatile u.volatile used_word (d + count) (omega arith) (got.2
            ∙ ap (λ k. set p.words.volatile used_word (k + count)) (sym got.0))

        info_set : IsSet (volatile_at u) (volatile_at w) (info_word d) (large_info count)
        info_set =
            let long = run.words_open.long in
            let same = stores.words in
            let below = fresh_within some in
            set_is u.volatile w.volatile (info_word d) (large_info count) (omega arith) persisted.volatile

        joined : IsShape p.capacity (volatile_at w) (held_of added) (after_join run.shape d count) × (Contains (held_in p) block → ⊥)
        joined = join p.capacity count d (image_of p) (volatile_at u) (volatile_at w) (held_in p) (held_of added) run.shape run.is was_used some
            (omega (arith, got.0, got.1)) used_set info_set adds_block

        -- those that were taken have parts of the block
        pub join_accounted : AreAccounted p → AreAccounted (record p { words = w; blocks = added; taken = p.taken + count; used_look = look })
        join_accounted = accounted_joined p.capacity count d (image_of p) (volatile_at u) (volatile_at w) (held_in p) (held_of added) run.shape
            (after_join run.shape d count) run.is joined.0 refl was_used used_set info_set adds_block

        -- the words but two are as before
        same_word : (word : ℕ) → word ≢ used_word → word ≢ info_word d → volatile_at w word ≡ image_of p word
        same_word word not_used not_info = info_set.others word not_info ∙ used_set.others word not_used

        used_now : volatile_at w used_word ≡ d + count
        used_now = info_set.others used_word (λ e. omega arith) ∙ used_set.at

        sizes_then : (e : ℕ) → e < p.capacity → IsClass (volatile_at w (info_word e))
            → ((after_join run.shape d count).place e ≡ in_list (volatile_at w (info_word e))) ⊎ ((after_join run.shape d count).place e ≡ is_full)
            → get_or added.words.items e 0 ≡ words_of_class (volatile_at w (info_word e))
        sizes_then e below is place = elim (cases_eq e d) as (λ _. get_or added.words.items e 0 ≡ words_of_class (volatile_at w (info_word e))) [
          | inl one ↦
              let info : volatile_at w (info_word e) ≡ large_info count = ap (λ k. volatile_at w (info_word k)) one ∙ info_set.at in
              let last = is.last in
              absurd (omega arith)
          | inr other ↦
              let info : volatile_at w (info_word e) ≡ image_of p (info_word e) =
              same_word (info_word e) (λ q. omega arith) (λ q. other (omega arith)) in
              let test : Bool = nat_le d e && nat_lt e (d + count) in
              let before : (run.shape.place e ≡ in_list (image_of p (info_word e))) ⊎ (run.shape.place e ≡ is_full) = elim place [
                | inl listed ↦ inl (place_behind test (run.shape.place e) (in_list (volatile_at w (info_word e))) (λ q. cc) listed ∙ ap in_list info)
                | inr full ↦ inr (place_behind test (run.shape.place e) is_full (λ q. cc) full)
              ] in
              ap (λ xs. get_or xs e 0) (added_words ∙ divided_words) ∙ get_or-set_other p.blocks.words.items d e (superblock_words * count) 0 other
              ∙ run.sizes.sizes e below (subst IsClass info is) before ∙ ap words_of_class (sym info)
        ]

        settled_now : HasDurableInfos p.capacity w
        settled_now = record {
          infos = λ e below. elim (cases_eq e d) as (λ _. durable_at w (info_word e) ≡ volatile_at w (info_word e)) [
            | inl one ↦ subst (λ k. durable_at w (info_word k) ≡ volatile_at w (info_word k)) (sym one) (persisted.durable ∙ sym info_set.at)
            | inr other ↦ word_settled (λ word. word ≡ info_word d) u w (info_word e) info_stores (λ q. other (omega arith))
                (word_settled (λ word. word ≡ used_word) p.words u (info_word e) stores (λ q. omega arith) (run.settled.infos e below))
          ];
          used = word_settled (λ word. word ≡ info_word d) u w used_word info_stores (λ q. omega arith) (let now = raised in
              omega (arith, got.0, got.3));
        }

        pub join_running : IsRunning (record p { words = w; blocks = added; taken = p.taken + count; used_look = look })
        join_running = record {
          words_open = record { running = persisted.runs_within.running; long = info_stores.words ∙ stores.words ∙ run.words_open.long };
          below = persisted.runs_within.below;
          bounded = let first = stores.budget in let second = info_stores.budget in let bounded = run.bounded in
              subst (λ n. n < 2 ^ 40) (sym (second ∙ first)) bounded;
          caches_long = run.caches_long;
          looks_long = run.looks_long;
          shape = after_join run.shape d count;
          is = joined.0;
          caches = λ class is. let cache = run.caches class is in record { first = cache.first; count = cache.count; most = cache.most };
          sizes = record {
            start = added_start ∙ divided_start ∙ run.sizes.start;
            long = ap (λ xs. length xs) (added_words ∙ divided_words) ∙ length-set p.blocks.words.items d (superblock_words * count) ∙ run.sizes.long;
            sizes = sizes_then;
          };
          settled = settled_now;
          pops = λ list less.
              let head : volatile_at w (head_word list) ≡ image_of p (head_word list) =
              same_word (head_word list) (λ q. omega arith) (λ q. omega arith) in
              let pops : head_pops (volatile_at w (head_word list)) ≡ head_pops (image_of p (head_word list)) = ap head_pops head in
              let before = run.pops list less in
              let first = stores.drawn in
              let second = info_stores.drawn in
              omega arith;
          knows = let now = used_now in let used = is_fresh.used in let was = was_used in omega arith;
          few = let now = used_now in let few = run.few in let was = was_used in omega arith;
        }

        -- the answer is the large block
        pub join_answers : (b : Block) → b ≡ at_mark added first_word
            → (b.words ≡ superblock_words * count) × AddsTo b (held_in p) (held_of added) × (Contains (held_in p) b → ⊥)
            × (image_of p used_word + count ≤ p.capacity)
            × (b.first_word ≡ start_word p.capacity (image_of p used_word)) × (p.taken + count ≡ p.taken + count)
            × (w.volatile ≡ joined_words count p)
        join_answers b is =
            let words = marked_words_are added.start added.words.items (added_start ∙ divided_start) (added_words ∙ divided_words) in
            let one : b ≡ block = is ∙ same_fields (at_mark added first_word) block at words in (
              ap (λ (x : Block). x.words) one,
              subst (λ (x : Block). AddsTo x (held_in p) (held_of added)) (sym one) adds_block,
              subst (λ (x : Block). Contains (held_in p) x → ⊥) (sym one) joined.1,
              let was = was_used in omega (arith, got.0, got.1),
              ap (λ (x : Block). x.first_word) one ∙ ap (λ n. start_word p.capacity n) (sym was_used),
              refl,
              persisted.volatile
                  ∙ ap (λ xs. set xs (info_word d) (large_info count)) (got.2 ∙ ap (λ n. set p.words.volatile used_word (n + count)) is_fresh.used)
                  ∙ ap (λ k. set (set p.words.volatile used_word (image_of p used_word + count)) (info_word k) (large_info count)) (sym was_used),
            )
