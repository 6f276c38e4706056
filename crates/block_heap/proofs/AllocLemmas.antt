-- Which requests a class serves, what the answer to a request is, and which free a held block gets.
use Rattle.std.proofs.Common.{◌≡◌, ◌≢◌, ℕ, ◌+◌, ◌*◌, ◌<◌, ◌≤◌, inl, inr, Option, None, Some, Result, Ok, Err, IfOk, OnOk, List, [], ◌∷◌, get_or, Contains, refl, ap, sym, subst, ◌∙◌, arith}
use Rattle.std.proofs.lemmas.Bool.{cases_eq}
use Rattle.heap_model.specs.declared.block.Block.{Block}
use Rattle.heap_model.specs.Geometry.{link_word, start_word, used_word, superblock_words, largest_capacity}
use Rattle.heap_model.specs.Sizes.{IsClass, IsLeastClassFor, size_of, words_of_class, blocks_of, largest_small, span_of}
use Rattle.heap_model.specs.Words.{head_first}
use Rattle.heap_model.specs.Blocks.{Begins, of_class, as_large}
use Rattle.heap_model.specs.Chains.{Follows}
use Rattle.heap_model.proofs.BlockLemmas.{block_inside}
use Rattle.heap_model.proofs.PartLemmas.{same_fields}
use Rattle.heap_model.proofs.SizeLemmas.{few_words, size_of-words}
use Rattle.size_table.proofs.ClassLemmas.{least_of_size, least_small, one_least}
use Rattle.heap_shape.specs.Whole.{IsShape}
use Rattle.heap_at_rest.specs.Draining.{layout_at}
use Rattle.heap_shape.specs.Moves.{AddsTo}
use Rattle.heap_shape.specs.Draining.{IsAccounted, DrainsSame, DrainsOne}
use Rattle.heap_shape.proofs.PopDrainLemmas.{drained_none}
use Rattle.block_heap.specs.declared.cache.Cache.{Cache}
use Rattle.block_heap.specs.Accounts.{AreAccounted}
use Rattle.heap_seat.specs.Alloc.{IsSizeFor, of_class as size_of_class, of_superblocks}
use Rattle.block_heap.specs.Parts.{Parts, image_of, held_in, cache_at}
use Rattle.block_heap.specs.Returns.{FreesSmall, FreesLarge, ComesBack}
use Rattle.block_heap.specs.Running.{IsRunning, CachesAreShort}
use Rattle.block_heap.specs.Lists.{head_at}
use Rattle.block_heap.specs.Steps.{IsRefilling, PopsBlock}
use Rattle.block_heap.specs.Large.{JoinsAs}
use Rattle.block_heap.specs.Serving.{HasRoom, in_cache, in_class_list, in_free_list, in_fresh, HasRoomFor, for_class, for_large, LookedInClass, FindsNone, MissesInClass, GetsInClass, AnswersInClass, Answers, DrainsTo, DrainsNone}
use Rattle.std.proofs.lemmas.List.{nil_from_length}
use Rattle.block_heap.specs.Draws.{most_join_draws}

-- caches that are the same are short
pub short_same : (p q : Parts) → q.caches ≡ p.caches → CachesAreShort p 0 → CachesAreShort q 0
short_same p q same short = record { each = λ c is other. subst (λ cs. (cache_at cs c).count < blocks_of c) (sym same) (short.each c is other) }

-- so are all where the one of a class is
short_but : (class : ℕ) (p q : Parts) → CachesAreShort p 0 → ((c : ℕ) → IsClass c → c ≢ class → cache_at q.caches c ≡ cache_at p.caches c)
    → (cache_at q.caches class).count < blocks_of class → CachesAreShort q 0
short_but class p q short same here = record {
  each = λ c is other. elim (cases_eq c class) as (λ _. (cache_at q.caches c).count < blocks_of c) [
    | inl one ↦ subst (λ k. (cache_at q.caches k).count < blocks_of k) (sym one) here
    | inr differs ↦ subst (λ (x : Cache). x.count < blocks_of c) (sym (same c is differs)) (short.each c is other)
  ];
}

-- an empty list leads along nothing
leads_nowhere : (link : ℕ → ℕ) (capacity from : ℕ) (ds : List ℕ) → from ≡ 0 → Follows link capacity from ds → ds ≡ []
leads_nowhere link capacity from [] none leads = refl
leads_nowhere link capacity from (d ∷ ds) none leads = absurd (let first = leads.0 in omega arith)

-- where a request of a class found nothing there was nothing to drain
pub drains_nothing : (class : ℕ) (p q : Parts) → IsClass class → q.capacity ≡ p.capacity → IsRefilling class p q → FindsNone class p q
    → DrainsNone class p
drains_nothing class p q is capacity refilling finds drainable b drained =
    let run = refilling.running in
    let looked = finds.looked in
    let empty = finds.empty in
    let last = is.last in
    let shape : IsShape p.capacity (image_of q) (held_in p) run.shape =
    subst (λ held. IsShape p.capacity (image_of q) held run.shape) refilling.held
    (subst (λ k. IsShape k (image_of q) (held_in q) run.shape) capacity run.is) in
    let count = (run.caches class is).count in
    let cached : run.shape.cached class ≡ [] = nil_from_length (run.shape.cached class) (omega arith) in
    let listed : run.shape.listed class ≡ [] =
    leads_nowhere (λ d. image_of q (link_word d)) q.capacity (head_first (head_at q class)) (run.shape.listed class) looked.class_empty
    (run.is.follows class (omega arith)) in
    let free : run.shape.listed 0 ≡ [] =
    leads_nowhere (λ d. image_of q (link_word d)) q.capacity (head_first (head_at q 0)) (run.shape.listed 0) looked.free_empty
    (run.is.follows 0 (omega arith)) in
    drained_none p.capacity class (image_of q) (held_in p) run.shape is shape cached listed free (let past = looked.past in
    omega arith) (refilling.drains.drainable drainable) b
    (refilling.drains.has b drained)

-- and there is no room after it too
pub still_none : (class : ℕ) (p q : Parts) → FindsNone class p q → HasRoom q class → ⊥
still_none class p q finds (in_cache some) = let empty = finds.empty in omega arith
still_none class p q finds (in_class_list some) = some finds.looked.class_empty
still_none class p q finds (in_free_list some) = some finds.looked.free_empty
still_none class p q finds (in_fresh room) = let past = finds.looked.past in omega arith

-- no superblock is lost on the way
refilled : (class : ℕ) (p q : Parts) → q.capacity ≡ p.capacity → IsRefilling class p q → AreAccounted p → AreAccounted q
refilled class p q capacity refilling before =
    subst (λ n. IsAccounted n (image_of q) (held_in q)) (sym capacity)
    (subst (λ (held : List Block). IsAccounted p.capacity (image_of q) held) (sym refilling.held) (refilling.drains.accounted before))

-- a request of a class that found no room
pub misses_in_class : (class : ℕ) (p q : Parts) → CachesAreShort p 0 → q.capacity ≡ p.capacity → IsRefilling class p q → FindsNone class p q
    → MissesInClass class p q
misses_in_class class p q short capacity refilling finds = record {
  running = refilling.running;
  short = short_same p q finds.only.caches short;
  held = refilling.held;
  taken = finds.taken;
  none = finds.none;
  looked = finds.looked;
  only = finds.only;
  accounted = refilled class p q capacity refilling;
}

-- a request of a class that got a block
pub gets_in_class : (class : ℕ) (b : Block) (p q r : Parts) → IsClass class → CachesAreShort p 0 → q.capacity ≡ p.capacity
    → r.capacity ≡ q.capacity → IsRefilling class p q → HasRoom p class
    → PopsBlock class b q r → GetsInClass class b p r
gets_in_class class b p q r is short capacity same refilling room pops_block = record {
  running = pops_block.running;
  short = short_but class p r short (λ c is_c other. pops_block.caches c is_c other ∙ refilling.caches c is_c other)
      (let count = pops_block.count in let most = (refilling.running.caches class is).most in omega arith);
  size = pops_block.size;
  adds = subst (λ held. AddsTo b held (held_in r)) refilling.held pops_block.adds;
  new = λ holds. pops_block.new (subst (λ held. Contains held b) (sym refilling.held) holds);
  room = room;
  accounted = λ before.
      let filled = refilled class p q capacity refilling before in
      subst (λ n. IsAccounted n (image_of r) (held_in r)) (sym same)
      (subst (λ (xs : List ℕ). IsAccounted q.capacity (λ word. get_or xs word 0) (held_in r)) (sym pops_block.volatile)
      (pops_block.drains.accounted filled));
}

-- it was one of those to be drained
pub drains_block : (class : ℕ) (b : Block) (p q r : Parts) → q.capacity ≡ p.capacity → IsRefilling class p q → PopsBlock class b q r
    → DrainsTo class b p r
drains_block class b p q r capacity refilling pops_block drainable =
    let same = refilling.drains in
    let first : DrainsOne p.capacity class (image_of q) (held_in p) (held_in r) b =
    subst (λ k. DrainsOne k class (image_of q) (held_in p) (held_in r) b) capacity
    (subst (λ held. DrainsOne q.capacity class (image_of q) held (held_in r) b) refilling.held pops_block.drains) in
    let one : DrainsOne p.capacity class (image_of r) (held_in p) (held_in r) b =
    subst (λ (xs : List ℕ). DrainsOne p.capacity class (λ word. get_or xs word 0) (held_in p) (held_in r) b) (sym pops_block.volatile) first in
    let before : DrainsSame p.capacity class (held_in p) (image_of p) (image_of r) =
    subst (λ (xs : List ℕ). DrainsSame p.capacity class (held_in p) (image_of p) (λ word. get_or xs word 0)) (sym pops_block.volatile) same in (
      one.drainable (before.drainable drainable),
      before.only b one.was,
      one.gone,
      (λ a drained. one.rest a (before.has a drained)),
      (λ a drained. before.only a (one.only a drained)),
    )

-- the answer to a request that a class serves
pub answers_small : (bytes class : ℕ) (answer : Option Block) (p q : Parts) → IsLeastClassFor bytes class → AnswersInClass class answer p q
    → Answers bytes answer p q
answers_small bytes class None p q least misses = record {
  running = misses.running;
  short = misses.short;
  held = misses.held;
  taken = misses.taken;
  none = λ room. no_room room;
  in_class = λ other is_least. subst (λ k. LookedInClass k p.words.drawn q) (one_least bytes class other least is_least) misses.looked;
  at_used = λ large. absurd (let small = least_small bytes class least in omega arith);
  three_looks = λ _. misses.only;
  one_look = λ large. absurd (let small = least_small bytes class least in omega arith);
  accounted = misses.accounted;
} where
  no_room : HasRoomFor p bytes → ⊥
  no_room (for_class other is_least room) = misses.none (subst (HasRoom p) (one_least bytes other class is_least least) room)
  no_room (for_large large fits) = let small = least_small bytes class least in omega arith
answers_small bytes class (Some b) p q least gets = record {
  running = gets.running;
  short = gets.short;
  size = subst (IsSizeFor bytes) (size_of-words class least.is_class ∙ ap (λ words. 8 * words) (sym gets.size)) (size_of_class class least);
  adds = gets.adds;
  new = gets.new;
  room = for_class class least gets.room;
  large = λ large. absurd (let small = least_small bytes class least in omega arith);
  accounted = gets.accounted;
}

-- the answer to one that takes superblocks of its own
pub answers_large : (bytes : ℕ) (answer : Option Block) (p q : Parts) → largest_small < bytes → CachesAreShort p 0
    → JoinsAs (span_of bytes) answer p q → IsRunning q
    → (AreAccounted p → AreAccounted q) → q.caches ≡ p.caches → q.capacity ≡ p.capacity
    → q.words.drawn ≤ p.words.drawn + most_join_draws → Answers bytes answer p q
answers_large bytes None p q large short joins running accounted caches capacity few = record {
  running = running;
  short = short_same p q caches short;
  held = joins.0;
  taken = joins.4;
  none = λ room. no_room room;
  in_class = λ class least. absurd (let small = least_small bytes class least in omega arith);
  three_looks = λ small. absurd (omega arith);
  one_look = λ _. joins.5;
  at_used = λ _. record { used_look = joins.3; past = let same = joins.2 in let past = joins.1 in omega arith };
  accounted = accounted;
} where
  no_room : HasRoomFor p bytes → ⊥
  no_room (for_class class least room) = let small = least_small bytes class least in omega arith
  no_room (for_large _ fits) = let past = joins.1 in omega arith
answers_large bytes (Some b) p q large short joins running accounted caches capacity few = record {
  running = running;
  short = short_same p q caches short;
  size =
      let size = joins.0 in
      let bytes_are : 65536 * span_of bytes ≡ 8 * b.words = omega arith in
      subst (IsSizeFor bytes) bytes_are (of_superblocks large);
  adds = joins.1;
  new = joins.2;
  room = for_large large joins.3;
  large = λ _. record {
    few = few;
    taken = joins.5;
    volatile = joins.6;
    caches = caches;
    held = subst (λ (x : Block). Contains (held_in q) x)
        (same_fields b (record { first_word = start_word p.capacity (image_of p used_word); words = superblock_words * span_of bytes }) joins.4 joins.0)
        joins.1.has;
  };
  accounted = accounted;
}

-- a held block of a class has the size of that class
pub size_of_held : (p : Parts) (b : Block) (class : ℕ) → IsRunning p → Contains (held_in p) b → IsLeastClassFor (8 * b.words) class
    → b.words ≡ words_of_class class
size_of_held p b class run holds least = let named = run.is.named b holds in
    by_begins named.superblock named.words named.count named.is_of.begins named.is_of.size where
      by_begins : (d w n : ℕ) → Begins (layout_at p.capacity (image_of p)) d w n → b.words ≡ w → b.words ≡ words_of_class class
      by_begins d w n (of_class c info is) words =
          let bytes : 8 * b.words ≡ size_of c = ap (λ x. 8 * x) words ∙ sym (size_of-words c is) in
          words ∙ ap words_of_class (least_of_size (8 * b.words) class c least is bytes)
      by_begins d w n (as_large k some info end zeros) words = absurd (let small = least_small (8 * b.words) class least in omega arith)

-- one that no class serves has no size of a class
pub no_size_of_held : (b : Block) → largest_small < 8 * b.words → (class : ℕ) → IsClass class → b.words ≢ words_of_class class
no_size_of_held b large class is same = let few = few_words class is in omega arith

-- held blocks are short
pub few_held : (p : Parts) (b : Block) → IsRunning p → Contains (held_in p) b → b.words ≤ superblock_words * largest_capacity
few_held p b run holds =
    let inside = block_inside (layout_at p.capacity (image_of p)) b (run.is.named b holds) in
    let small = run.is.small in
    let used = run.is.used in
    omega (arith, inside.0, inside.1)

-- two facts of an answer
pub both_ok : {T E : Type 0} (r : Result T E) (P Q : T → Type 0) (R : Type 0) → ((x : T) → P x → R → Q x) → IfOk r P → OnOk r R → IfOk r Q
both_ok (Ok x) P Q R both p q = both x p q
both_ok (Err e) P Q R both p q = p

pub if_ok_both : {T E : Type 0} (r : Result T E) (P Q : T → Type 0) → IfOk r P → IfOk r Q → IfOk r (λ x. P x × Q x)
if_ok_both (Ok x) P Q p q = (p, q)
if_ok_both (Err e) P Q p q = tt

-- both hold of an answer
pub on_ok_both : {T E : Type 0} (r : Result T E) (A B : Type 0) → OnOk r A → OnOk r B → OnOk r (A × B)
on_ok_both (Ok t) A B a b = (a, b)
on_ok_both (Err e) A B a b = tt

-- a block of a class comes back to that class, and one of no class as superblocks
pub comes_to_class : (b : Block) (class : ℕ) (p q : Parts) → IsLeastClassFor (8 * b.words) class → b.words ≡ words_of_class class
    → FreesSmall class b.first_word p q → ComesBack b p q
comes_to_class b class p q least size frees = record {
  in_class = λ other is same.
      let bytes : 8 * b.words ≡ size_of other = ap (λ x. 8 * x) same ∙ sym (size_of-words other is) in
      subst (λ k. FreesSmall k b.first_word p q) (sym (least_of_size (8 * b.words) class other least is bytes)) frees;
  as_large = λ none. absurd (none class least.is_class size);
}

pub comes_as_large : (b : Block) (p q : Parts) → largest_small < 8 * b.words → FreesLarge b p q → ComesBack b p q
comes_as_large b p q large frees = record { in_class = λ class is same. absurd (no_size_of_held b large class is same); as_large = λ _. frees }
