-- How the parts of a heap stay right over steps that store nothing, and what follows from them.
use Rattle.std.proofs.Common.{◌≡◌, ℕ, ◌+◌, ◌*◌, ◌<◌, ◌≤◌, ◌^◌, inl, inr, None, List, length, get_or, set, ap, sym, subst, ◌∙◌, arith, get_or-set_same, get_or-set_other}
use Rattle.heap_model.specs.Geometry.{roots, kind_word, lists, head_word, info_word, used_word, capacity_word}
use Rattle.heap_model.specs.Words.{head_first, head_pops}
use Rattle.heap_at_rest.proofs.PartLemmas.{part_taken}
use Rattle.heap_shape.specs.Whole.{IsShape}
use Rattle.heap_at_rest.specs.Draining.{layout_at}
use Rattle.heap_shape.specs.Effects.{IsSet}
use Rattle.heap_model.proofs.ListLemmas.{follows_small}
use Rattle.line_memory.specs.View.{View, volatile_at, durable_at}
use Rattle.block_heap.specs.Links.{IsHead}
use Rattle.block_heap.specs.Medium.{StoresOnly}
use Rattle.block_heap.specs.Parts.{Parts, image_of, held_in}
use Rattle.block_heap.specs.Running.{IsRunning, HasDurableInfos}
use Rattle.block_heap.specs.AllocatorWords.{IsStable}
use Rattle.block_heap.specs.Lists.{head_at}

-- a list with another number at one place, as an image
pub set_is : (words new : List ℕ) (word value : ℕ) → word < length words → new ≡ set words word value
    → IsSet (λ i. get_or words i 0) (λ i. get_or new i 0) word value
set_is words new word value within is = record {
  at = ap (λ xs. get_or xs word 0) is ∙ get_or-set_same words word value 0 within;
  others = λ other differs. ap (λ xs. get_or xs other 0) is ∙ get_or-set_other words word other value 0 differs;
}

-- infos and `used` stay durable where none of them is stored to
pub settled_kept : (capacity : ℕ) (to : ℕ → Type 0) (v w : View) → StoresOnly to v w → ((d : ℕ) → d < capacity → to (info_word d) → ⊥)
    → (to used_word → ⊥) → HasDurableInfos capacity v → HasDurableInfos capacity w
settled_kept capacity to v w stores infos used settled = record {
  infos = λ d below. one (info_word d) (infos d below) (settled.infos d below);
  used = one used_word used settled.used;
} where
  one : (word : ℕ) → (to word → ⊥) → durable_at v word ≡ volatile_at v word → durable_at w word ≡ volatile_at w word
  one word out same = elim (stores.durable word out) as (λ _. durable_at w word ≡ volatile_at w word) [
    | inl e ↦ e ∙ same ∙ sym (stores.volatile word out)
    | inr e ↦ e ∙ sym (stores.volatile word out)
  ]

-- steps that change no word for loads
pub running_words : (p : Parts) (w : View) (to : ℕ → Type 0) → IsRunning p → w.stopped ≡ None → w.volatile ≡ p.words.volatile
    → StoresOnly to p.words w → ((d : ℕ) → d < p.capacity → to (info_word d) → ⊥) → (to used_word → ⊥)
    → w.drawn ≤ w.budget → IsRunning (record p { words = w })
running_words p w to run running same stores infos used below = record {
  words_open = record { running = running; long = ap length same ∙ run.words_open.long };
  below = below;
  bounded = let e = stores.budget in let b = run.bounded in subst (λ n. n < 2 ^ 40) (sym e) b;
  caches_long = run.caches_long;
  looks_long = run.looks_long;
  shape = run.shape;
  is = subst (λ xs. IsShape p.capacity (λ word. get_or xs word 0) (held_in p) run.shape) (sym same) run.is;
  caches = run.caches;
  sizes = subst (λ (xs : List ℕ). Rattle.block_heap.specs.Running.KnowsSizes p.capacity run.shape (λ d. get_or xs (info_word d) 0) p.blocks)
      (sym same) run.sizes;
  settled = settled_kept p.capacity to p.words w stores infos used run.settled;
  pops = λ list less.
      let before = run.pops list less in
      let more = stores.drawn in
      let e : get_or w.volatile (head_word list) 0 ≡ get_or p.words.volatile (head_word list) 0 = ap (λ xs. get_or xs (head_word list) 0) same in
      subst (λ x. 2 * head_pops x ≤ w.drawn) (sym e) (omega arith);
  knows = subst (λ (xs : List ℕ). get_or xs used_word 0 + p.used_look.taken ≡ p.used_look.seen + p.taken) (sym same) run.knows;
  few = subst (λ (xs : List ℕ). p.taken ≤ get_or xs used_word 0) (sym same) run.few;
}

-- the head of a list leads to a superblock or to none, and its count has room
pub is_head : (p : Parts) (list : ℕ) → IsRunning p → list < lists → IsHead p.capacity (head_at p list)
is_head p list run less = record {
  first = follows_small _ p.capacity (head_first (head_at p list)) (run.shape.listed list) (run.is.follows list less);
  pops = let few = run.pops list less in let below = run.below in let bounded = run.bounded in omega arith;
}

-- the held blocks of a heap that runs are stable
pub running_stable : (p : Parts) → IsRunning p → volatile_at p.words capacity_word ≡ p.capacity → durable_at p.words capacity_word ≡ p.capacity
    → ((root : ℕ) → root < roots → durable_at p.words (kind_word p.capacity root) ≡ volatile_at p.words (kind_word p.capacity root))
    → IsStable p.capacity p.words (held_in p)
running_stable p run volatile durable kinds = record {
  capacity_is = volatile;
  capacity_durable = durable;
  kinds_durable = kinds;
  low = volatile_at p.words used_word;
  fits = run.is.used;
  used = omega arith;
  used_durable = let e = run.settled.used in omega arith;
  named = run.is.named;
  settled = λ b d holds part.
      let taken = part_taken (layout_at p.capacity (image_of p)) b d (run.is.named b holds) part in
      let fits = run.is.used in
      run.settled.infos d (omega arith);
}
