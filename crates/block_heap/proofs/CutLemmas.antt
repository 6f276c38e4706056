-- What of a heap stays and what changes where a superblock is cut for a class.
use Rattle.std.proofs.Common.{◌≡◌, ◌≢◌, ℕ, zero, suc, ◌+◌, ◌*◌, ◌/◌, ◌<◌, ◌≤◌, ◌⊎◌, inl, inr, List, length, get_or, Contains, refl, ap, sym, subst, ◌∙◌, arith, get_or-set_same, get_or-set_other, length-set}
use Rattle.std.proofs.lemmas.Bool.{cases_eq}
use Rattle.heap_model.specs.declared.block.Block.{Block}
use Rattle.heap_model.specs.Geometry.{lists, head_word, info_word, used_word, start_word}
use Rattle.heap_model.specs.Sizes.{IsClass, blocks_of, words_of_class}
use Rattle.heap_model.specs.Words.{head_pops}
use Rattle.heap_model.proofs.BlockLemmas.{block_words}
use Rattle.heap_model.proofs.SizeLemmas.{four_blocks}
use Rattle.heap_shape.specs.Shape.{in_list, is_full, Shape, with_at}
use Rattle.heap_shape.specs.Standing.{first_of}
use Rattle.heap_at_rest.specs.Draining.{HasNoHeld, layout_at}
use Rattle.heap_shape.specs.Whole.{IsShape}
use Rattle.heap_shape.specs.Effects.{IsCut, firsts_from, all_firsts}
use Rattle.heap_shape.proofs.BasicLemmas.{with_at_other}
use Rattle.line_memory.specs.View.{View, word_count, volatile_at}
use Rattle.line_memory.specs.Marks.{IsMarked, marked_words}
use Rattle.line_memory.specs.Marked.{marked_words-has}
use Rattle.block_heap.specs.declared.cache.Cache.{Cache}
use Rattle.heap_seat.specs.declared.look.Look.{Look}
use Rattle.block_heap.specs.Divide.{IsDivideWord}
use Rattle.block_heap.specs.Held.{block_of_mark}
use Rattle.block_heap.specs.Medium.{StoresOnly}
use Rattle.block_heap.specs.Parts.{Parts, image_of, held_in, cache_at}
use Rattle.block_heap.specs.Refill.{SameBut, Cuts}
use Rattle.block_heap.specs.Running.{IsRunning, IsCacheOf, KnowsSizes, HasDurableInfos}
use Rattle.block_heap.specs.Lists.{head_at}
use Rattle.block_heap.proofs.HeldLemmas.{has_map}
use Rattle.block_heap.proofs.RefillLemmas.{made, caches_filled, caches_other}
use Rattle.block_heap.proofs.CutWordLemmas.{divide_before, divide_info, cut_is, settled_cut}

-- no mark lies in a superblock that no held block has a part in
pub unmarked : (p : Parts) (d : ℕ) → IsRunning p → HasNoHeld p.capacity (held_in p) d → (mark : ℕ) → IsMarked p.blocks.marks.items mark
    → mark / 4096 ≢ d
unmarked p d run none mark marked at =
    let b : Block = block_of_mark p.blocks.start p.blocks.words.items mark in
    let holds : Contains (held_in p) b = has_map (block_of_mark p.blocks.start p.blocks.words.items) (marked_words p.blocks.marks.items) mark
    (marked_words-has p.blocks.marks.items mark marked) in
    let some : 2 ≤ get_or p.blocks.words.items (mark / 4096) 0 = block_words (layout_at p.capacity (image_of p)) b (run.is.named b holds) in
    let start : p.blocks.start ≡ start_word p.capacity 0 = run.sizes.start in
    none b holds (record { begins = omega arith; ends = omega arith })

-- how many first words there are
long_firsts : (capacity class d index count : ℕ) → length (firsts_from capacity class d index count) ≡ count
long_firsts capacity class d index zero = refl
long_firsts capacity class d index (suc count) = let rest = long_firsts capacity class d (index + 1) count in omega arith

-- the parts after a cut of superblock d, whose words were these, with what was read and taken
module _ (p : Parts) (class d : ℕ) (w : View) (looks : List Look) (look : Look) (taken : ℕ) (q : Parts) (run : IsRunning p) (is : IsClass class)
    (within : d < p.capacity)
    (stores : StoresOnly (IsDivideWord p.capacity d) w q.words) (same : SameBut
    (record p { words = w; head_looks = looks; used_look = look; taken = taken })
    q)
    (cuts : Cuts class d (record p { words = w; head_looks = looks; used_look = look; taken = taken }) q) where
  abbrev filled : Cache
  filled = record { first = start_word p.capacity d; count = blocks_of class }

  pub cut_image : IsCut p.capacity (λ word. volatile_at w word) (image_of q) class d
  cut_image = cut_is p.capacity class d w q.words stores cuts.divided

  pub cut_cache : cache_at q.caches class ≡ filled
  cut_cache = ap (λ (cs : List Cache). cache_at cs class) cuts.caches
      ∙ get_or-set_same p.caches class filled (record { first = 0; count = 0 }) (let long = run.caches_long in let last = is.last in omega arith)

  pub cut_some : 1 ≤ (cache_at q.caches class).count
  cut_some = let four = four_blocks class is in subst (λ (x : Cache). 1 ≤ x.count) (sym cut_cache) (omega arith)

  pub cut_others : (c : ℕ) → IsClass c → c ≢ class → cache_at q.caches c ≡ cache_at p.caches c
  cut_others c is_c other = ap (λ (cs : List Cache). cache_at cs c) cuts.caches ∙ caches_other p.caches class filled c is_c other

  sizes : (t : Shape) → ((e : ℕ) → e < p.capacity → volatile_at w (info_word e) ≡ image_of p (info_word e))
      → t.place ≡ with_at run.shape.place d is_full
      → KnowsSizes p.capacity t (λ e. image_of q (info_word e)) q.blocks
  sizes t infos place = record {
    start = cuts.start ∙ run.sizes.start;
    long = ap length cuts.sizes ∙ length-set p.blocks.words.items d (words_of_class class) ∙ run.sizes.long;
    sizes = λ e less is_e stood. elim (cases_eq e d) as (λ _. get_or q.blocks.words.items e 0 ≡ words_of_class (image_of q (info_word e))) [
      | inl one ↦ subst (λ k. get_or q.blocks.words.items k 0 ≡ words_of_class (image_of q (info_word k))) (sym one)
          (ap (λ (xs : List ℕ). get_or xs d 0) cuts.sizes
          ∙ get_or-set_same p.blocks.words.items d (words_of_class class) 0 (let long = run.sizes.long in omega arith) ∙ ap words_of_class
          (sym cuts.divided.info))
      | inr other ↦
          let info : image_of q (info_word e) ≡ image_of p (info_word e) =
          stores.volatile (info_word e) (divide_info p.capacity d e less other) ∙ infos e less in
          let stands : t.place e ≡ run.shape.place e = ap (λ (f : ℕ → Rattle.heap_shape.specs.Shape.Place). f e) place ∙ with_at_other run.shape.place d
          is_full e other in
          let before : get_or p.blocks.words.items e 0 ≡ words_of_class (image_of p (info_word e)) = run.sizes.sizes e less (subst IsClass info is_e)
          (elim stood as (λ _. (run.shape.place e ≡ in_list (image_of p (info_word e))) ⊎ (run.shape.place e ≡ is_full)) [
            | inl l ↦ inl (sym stands ∙ l ∙ ap in_list info)
            | inr f ↦ inr (sym stands ∙ f)
          ]) in
          ap (λ (xs : List ℕ). get_or xs e 0) cuts.sizes ∙ get_or-set_other p.blocks.words.items d e (words_of_class class) 0 other ∙ before ∙ ap
          words_of_class (sym info)
    ];
  }

  pub cut_running : (t : Shape) → word_count w ≡ word_count p.words → w.budget ≡ p.words.budget → length looks ≡ lists → HasDurableInfos p.capacity w
      → ((e : ℕ) → e < p.capacity → volatile_at w (info_word e) ≡ image_of p (info_word e)) → IsShape p.capacity (image_of q) (held_in p) t
      → t.place ≡ with_at run.shape.place d is_full → t.start ≡ with_at run.shape.start class (first_of p.capacity class d 0)
      → t.cached ≡ with_at run.shape.cached class (all_firsts p.capacity class d)
      → ((list : ℕ) → list < lists → 2 * head_pops (volatile_at w (head_word list)) ≤ w.drawn + 1)
      → volatile_at w used_word + look.taken ≡ look.seen + taken → taken ≤ volatile_at w used_word → IsRunning q
  cut_running t words budget looks_long settled infos shape place start cached pops knows few = made p q t run (record {
    capacity = same.capacity;
    held = same.held;
    running = cuts.divided.runs_within.running;
    words = stores.words ∙ words;
    budget = stores.budget ∙ budget;
    below = cuts.divided.runs_within.below;
    caches_long = ap length cuts.caches ∙ length-set p.caches class filled ∙ run.caches_long;
    looks_long = ap length same.head_looks ∙ looks_long;
    is = shape;
    caches = subst (λ (cs : List Cache). (c : ℕ) → IsClass c → IsCacheOf t c (cache_at cs c)) (sym cuts.caches)
        (caches_filled run.shape t p.caches class (first_of p.capacity class d 0)
        (all_firsts p.capacity class d) filled run.caches_long is run.caches start
        cached
        (omega arith) (sym (long_firsts p.capacity class d 0 (blocks_of class))) (omega arith));
    sizes = sizes t infos place;
    settled = settled_cut p.capacity class d w q.words settled stores cuts.divided;
    pops = λ list less.
        let before = pops list less in
        let drew = cuts.divided.runs_within.drew in
        let kept : head_at q list ≡ volatile_at w (head_word list) = stores.volatile (head_word list)
        (divide_before p.capacity d (head_word list) (omega arith)) in
        omega arith;
    knows =
        let kept : image_of q used_word ≡ volatile_at w used_word = stores.volatile used_word (divide_before p.capacity d used_word (omega arith)) in
        let seen : q.used_look.seen ≡ look.seen = ap (λ (l : Look). l.seen) same.used_look in
        let then : q.used_look.taken ≡ look.taken = ap (λ (l : Look). l.taken) same.used_look in
        let now : q.taken ≡ taken = same.taken in
        omega arith;
    few =
        let kept : image_of q used_word ≡ volatile_at w used_word = stores.volatile used_word (divide_before p.capacity d used_word (omega arith)) in
        let now : q.taken ≡ taken = same.taken in
        omega arith;
  })
