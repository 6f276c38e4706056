-- What freeing a large block leaves of a heap: its superblocks come to the free list.
use Rattle.std.proofs.Common.{◌≡◌, ◌≢◌, ℕ, ◌+◌, ◌-◌, ◌*◌, ◌/◌, ◌<◌, ◌≤◌, ◌⊎◌, inl, inr, zero, suc, length, get_or, Contains, refl, ap, sym, subst, ◌∙◌, arith}
use Rattle.heap_model.specs.declared.block.Block.{Block}
use Rattle.heap_model.specs.Geometry.{head_word, link_word, used_word, start_word, superblock_words}
use Rattle.heap_model.specs.Sizes.{IsClass, words_of_class}
use Rattle.heap_model.specs.Image.{words_from}
use Rattle.heap_model.specs.Words.{head_first}
use Rattle.heap_model.specs.Recovered.{HasPartIn}
use Rattle.heap_shape.specs.Shape.{in_list, in_large}
use Rattle.heap_shape.specs.Standing.{IsTakenByLarge, IsAs}
use Rattle.heap_at_rest.specs.Draining.{HasNoHeld}
use Rattle.heap_shape.specs.Whole.{IsShape}
use Rattle.heap_shape.specs.Moves.{TakesFrom}
use Rattle.heap_shape.proofs.AccountLemmas.{use_without}
use Rattle.heap_shape.proofs.BasicLemmas.{member_place}
use Rattle.heap_shape.proofs.FreeLargeLemmas.{large_places, drop_large}
use Rattle.heap_at_rest.proofs.ListLemmas.{one_following}
use Rattle.heap_shape.proofs.OwnLemmas.{large_block}
use Rattle.block_heap.specs.declared.held.HeldBlocks.{HeldBlocks}
use Rattle.block_heap.specs.Held.{held_of, at_mark, HasMark}
use Rattle.block_heap.specs.Accounts.{IsUsed, AreAccounted}
use Rattle.block_heap.specs.Lists.{IsInList}
use Rattle.block_heap.specs.Order.{Frees}
use Rattle.block_heap.specs.Returns.{FreesLarge}
use Rattle.block_heap.specs.Parts.{Parts, image_of, held_in}
use Rattle.block_heap.specs.Running.{IsRunning}
use Rattle.block_heap.specs.Large.{IsDropped}
use Rattle.block_heap.proofs.LookLemmas.{looks_kept}
use Rattle.block_heap.proofs.StableLemmas.{as_allocator_none}
use Rattle.block_heap.proofs.FreedPartLemmas.{freed_takes, IsFreed}

-- a place is one
list_not_large : in_list 0 ≡ in_large → ⊥
list_not_large same = cc

-- a block of whole superblocks: the first of them, and how many there are
record IsWhole (capacity : ℕ) (b : Block) : Type 0 where
  pub first : ℕ
  pub count : ℕ
  pub some : 1 ≤ count
  pub within : first + count ≤ capacity
  pub at : b.first_word ≡ start_word capacity first
  pub size : b.words ≡ superblock_words * count

-- A large block is held no more.
module _ (p : Parts) (b : Block) (run : IsRunning p) (holds : Contains (held_in p) b) (large : (class : ℕ) → IsClass class
    → b.words ≢ words_of_class class) where
  lies : IsWhole p.capacity b
  lies =
      let found = large_block p.capacity (image_of p) (held_in p) run.shape b run.is holds large in
      record { first = found.0; count = found.1; some = found.2; within = found.3; at = found.4; size = found.5 }

  pub large_mark : HasMark p.blocks b.first_word
  large_mark =
      let whole = lies in
      let some = whole.some in
      let within = whole.within in
      let at = whole.at in
      let start = run.sizes.start in
      let long = run.sizes.long in
      record { from = omega arith; until = omega arith; even = omega arith }

  pub large_behind : start_word p.capacity 0 ≤ b.first_word
  large_behind = let whole = lies in let at = whole.at in omega arith

  -- its mark is taken back
  module _ (h : HeldBlocks) (takes : TakesFrom (at_mark p.blocks b.first_word) (held_in p) (held_of h)) (words : h.words.items ≡ p.blocks.words.items)
      (start : h.start ≡ p.blocks.start) where
    whole_words : superblock_words ≤ b.words
    whole_words = let whole = lies in let some = whole.some in let size = whole.size in omega arith

    dropped : IsShape p.capacity (image_of p) (held_of h) run.shape
        × ((d : ℕ) → b.first_word ≤ start_word p.capacity d → start_word p.capacity d < b.first_word + b.words → HasNoHeld p.capacity (held_of h) d)
    dropped = drop_large p.capacity (image_of p) (held_in p) (held_of h) run.shape b run.is holds whole_words
        (freed_takes p (record p { blocks = h }) b h holds takes refl)

    drop_running : IsRunning (record p { blocks = h })
    drop_running = record {
      words_open = run.words_open;
      below = run.below;
      bounded = run.bounded;
      caches_long = run.caches_long;
      looks_long = run.looks_long;
      shape = run.shape;
      is = dropped.0;
      caches = run.caches;
      sizes = record {
        start = start ∙ run.sizes.start;
        long = ap (λ xs. length xs) words ∙ run.sizes.long;
        sizes = λ d below is place. ap (λ xs. get_or xs d 0) words ∙ run.sizes.sizes d below is place;
      };
      settled = run.settled;
      pops = run.pops;
      knows = run.knows;
      few = run.few;
    }

    drop_left : (d : ℕ) → b.first_word ≤ start_word p.capacity d → start_word p.capacity d < b.first_word + b.words
        → IsDropped (record p { blocks = h }) d
    drop_left d from until = by_place (large_places p.capacity d (image_of p) (held_in p) run.shape b run.is holds whole_words from until) where
      by_place : (d < p.capacity) × (run.shape.place d ≡ in_large) → IsDropped (record p { blocks = h }) d
      by_place place =
          let is : IsTakenByLarge (image_of p) d = subst (λ at. IsAs p.capacity (image_of p) run.shape (held_in p) d at) place.1
          (run.is.places d place.0) in
          record {
            within = place.0;
            taken = is.taken;
            no_class = is.no_class;
            none = dropped.1 d from until;
            unlisted = λ ds leads in_ds.
                let one = one_following (λ k. image_of p (link_word k)) p.capacity (head_first (image_of p (head_word 0))) ds (run.shape.listed 0) leads
                (run.is.follows 0 (omega arith)) in
                let there = member_place p.capacity (image_of p) (held_in p) run.shape run.is 0 d (omega arith)
                (subst (λ xs. Contains xs d) one in_ds) in
                list_not_large (sym there.0 ∙ place.1);
          }

    none_freed : (first count : ℕ) → first + count ≡ first
        → Frees (words_from (λ n. n) first count) (record p { blocks = h }) (record p { blocks = h })
    none_freed first zero at = λ fs leads. leads
    none_freed first (suc count) at = absurd (omega arith)

    -- none of its superblocks is in the free list yet
    pub drop_begins : (first : ℕ) → first ≡ (b.first_word - start_word p.capacity 0) / 8192
        → IsFreed first first (first + b.words / 8192) (record p { blocks = h }) (record p { blocks = h })
    drop_begins first is =
        let whole = lies in
        let some = whole.some in
        let within = whole.within in
        let at = whole.at in
        let size = whole.size in
        let small = run.is.small in
        let one : first ≡ whole.first = omega arith in
        let count : b.words / 8192 ≡ whole.count = omega arith in
        record {
          some = omega arith;
          most = omega arith;
          until = omega arith;
          running = drop_running;
          left = λ e from until. drop_left e (omega arith) (omega arith);
          used = refl;
          uses = λ e before. elim before as (λ _. IsUsed (record p { blocks = h }) e)
              [ inl none ↦ absurd (omega (arith, none.0, none.1)) | inr same ↦ same ];
          listed = λ e from until. absurd (omega arith);
          only = λ e there. inl there;
          free = λ e there. there;
          heads = λ class is. refl;
          infos = λ e. refl;
          in_order = none_freed first;
          lists = λ class is ds leads. leads;
          anchors = λ e from until. absurd (omega arith);
          pops = refl;
          others = λ word not_head apart. refl;
          leaves_held = record {
            capacity = refl;
            as_allocator = as_allocator_none p.capacity (held_of h) p.words;
            knows = refl;
            taken = omega arith;
            looks = looks_kept (record p { blocks = h }) (record p { blocks = h }) refl;
          };
          blocks = refl;
          caches = refl;
          taken = refl;
          few = omega arith;
          drew = omega arith;
        }

    -- and in the end all are
    pub freed_large : (first d : ℕ) (q : Parts) → first ≡ (b.first_word - start_word p.capacity 0) / 8192 → first + b.words / 8192 ≤ d
        → IsFreed first d (first + b.words / 8192) (record p { blocks = h }) q → FreesLarge b p q
    freed_large first d q is past freed =
        let whole = lies in
        let at = whole.at in
        let size = whole.size in
        let one : first ≡ whole.first = omega arith in
        let count : b.words / 8192 ≡ whole.count = omega arith in record {
          all = λ e part. let begins = part.begins in let ends = part.ends in freed.listed e (omega arith) (omega arith);
          only = λ e there. elim (freed.only e there) as (λ _. IsInList p 0 e ⊎ HasPartIn p.capacity b e) [
            | inl before ↦ inl before
            | inr part ↦ let until = freed.until in inr (record { begins = omega (arith, part.0, part.1); ends = omega (arith, part.0, part.1) })
          ];
          free = freed.free;
          heads = freed.heads;
          infos = λ e below. freed.infos e;
          caches = freed.caches;
          in_order = λ f n begins long.
              let until = freed.until in
              let same : first ≡ f = omega arith in
              subst (λ k. Frees (words_from (λ d. d) k n) p q) same (freed.in_order n (omega arith));
          lists = freed.lists;
          anchors = λ e part. let begins = part.begins in let ends = part.ends in freed.anchors e (omega arith) (omega arith);
          pops = freed.pops;
          others = λ word not. freed.others word (λ head. not (inl head)) (λ e low high.
              let until = freed.until in
              let part : HasPartIn p.capacity b e = record { begins = omega arith; ends = omega arith } in
              (λ here. not (inr (e, part, inl here)), λ here. not (inr (e, part, inr here))));
        }

    -- and none is lost
    pub freed_accounted : (first d : ℕ) (q : Parts) → first ≡ (b.first_word - start_word p.capacity 0) / 8192 → first + b.words / 8192 ≤ d
        → IsFreed first d (first + b.words / 8192) (record p { blocks = h }) q → AreAccounted p → AreAccounted q
    freed_accounted first d q is past freed before = record { each = each } where
      whole : IsWhole p.capacity b
      whole = lies

      each : (e : ℕ) → e < image_of q used_word → IsUsed q e
      each e taken =
          let same = freed.used in
          let at = whole.at in
          let size = whole.size in
          let one : first ≡ whole.first = omega arith in
          let count : b.words / 8192 ≡ whole.count = omega arith in
          elim (use_without p.capacity e (image_of p) (held_in p) (held_of h) b (freed_takes p (record p { blocks = h }) b h holds takes refl)
          (before.each e (omega arith))) as (λ _. IsUsed q e) [
            | inl still ↦ freed.uses e (inr still)
            | inr part ↦ let begins = part.begins in let ends = part.ends in freed.uses e (inl (omega arith, omega arith))
          ]
