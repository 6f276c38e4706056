-- How a superblock's blocks are chained, one after the other.
use Rattle.std.proofs.Common.{◌≡◌, ◌≢◌, ℕ, ◌+◌, ◌-◌, ◌*◌, ◌<◌, ◌≤◌, ◌⊎◌, List, get_or, length, refl, sym, ◌∙◌, ap, subst, arith, inl, inr, get_or-set_same}
use Rattle.std.proofs.lemmas.Bool.{cases_eq}
use Rattle.heap_model.specs.Geometry.{start_word, image_words, info_word, anchor_word}
use Rattle.heap_model.specs.Sizes.{IsClass, words_of_class, blocks_of}
use Rattle.heap_model.specs.Words.{full_anchor}
use Rattle.heap_model.proofs.SizeLemmas.{blocks_fit, two_words, few_blocks, four_blocks}
use Rattle.heap_model.proofs.BlockLemmas.{block_step}
use Rattle.line_memory.specs.View.{View, volatile_at, durable_at}
use Rattle.block_heap.specs.Medium.{StopsWithin, StoresOnly, IsStored, IsPersisted}
use Rattle.block_heap.specs.Links.{IsOpen}
use Rattle.block_heap.specs.Divide.{AreInOneChain, IsDivided}
use Rattle.heap_shape.specs.Effects.{IsInSuperblock}
use Rattle.block_heap.proofs.MediumLemmas.{stores_then, stores_more}
use Rattle.block_heap.specs.Draws.{most_cut_draws}

-- a block's first word lies in its superblock, and that in the image
pub first_inside : (capacity class d k word : ℕ) → IsClass class → d < capacity → k < blocks_of class
    → word ≡ start_word capacity d + k * words_of_class class
    → IsInSuperblock capacity d word × (word < image_words capacity)
first_inside capacity class d k word is below few at =
    let step = block_step k (blocks_of class) (words_of_class class) few in
    let fit = blocks_fit class is in
    let two = two_words class is in
    let product = k * words_of_class class in
    let small : k * words_of_class class + 2 ≤ 8192 = omega arith in
    (record { from = omega arith; until = omega arith }, omega arith)

module _ (capacity class d i : ℕ) (v u w : View) (before next : ℕ) (is : IsClass class) (below : d < capacity) (few : i + 1 < blocks_of class)
    (at : before ≡ start_word capacity d + i * words_of_class class) (next_at : next ≡ start_word capacity d + (i + 1) * words_of_class class)
    (chained : AreInOneChain capacity class d (i + 1) v u) (stores : StoresOnly (λ other. other ≡ before) u w) where
  here : IsInSuperblock capacity d before × (before < image_words capacity)
  here = first_inside capacity class d i before is below (omega arith) at

  linked_at : IsStored before next u w → (k : ℕ) → k + 1 < i + 2 → (k ≡ i) ⊎ (k ≡ i → ⊥)
      → volatile_at w (start_word capacity d + k * words_of_class class) ≡ start_word capacity d + (k + 1) * words_of_class class
  linked_at stored k less (inl e) =
      let long : length u.volatile ≡ image_words capacity = chained.open_still.long in
      let inside : before < image_words capacity = here.1 in
      let within : before < length u.volatile = omega arith in
      let now : get_or w.volatile before 0 ≡ next = ap (λ (xs : List ℕ). get_or xs before 0) stored.volatile
      ∙ get_or-set_same u.volatile before next 0 within in
      let there : volatile_at w (start_word capacity d + i * words_of_class class) ≡ start_word capacity d + (i + 1) * words_of_class class =
      subst (λ (word : ℕ). volatile_at w word ≡ start_word capacity d + (i + 1) * words_of_class class) at (now ∙ next_at) in
      subst (λ (j : ℕ). volatile_at w (start_word capacity d + j * words_of_class class) ≡ start_word capacity d +
      (j + 1) * words_of_class class) (sym e) there
  linked_at stored k less (inr ne) =
      let step = block_step k i (words_of_class class) (omega arith) in
      let two = two_words class is in
      let apart : start_word capacity d + k * words_of_class class ≢ before = λ e. omega arith in
      stores.volatile (start_word capacity d + k * words_of_class class) apart ∙ chained.linked k (omega arith)

  pub step_stores : StoresOnly (IsInSuperblock capacity d) v w
  step_stores =
      stores_then (IsInSuperblock capacity d) v u w chained.stores
      (stores_more (λ (other : ℕ). other ≡ before) (IsInSuperblock capacity d) u w
      (λ word e. subst (λ (x : ℕ). IsInSuperblock capacity d x) (sym e) here.0) stores)

  pub chain_step : IsStored before next u w → AreInOneChain capacity class d (i + 2) v w
  chain_step stored =
      let runs_within = stored.runs_within in
      let drew = runs_within.drew in
      let most = runs_within.few in
      let drawn = chained.drawn in
      record {
        open_still = record { running = runs_within.running; long = stores.words ∙ chained.open_still.long };
        drawn = omega arith;
        stores = step_stores;
        linked = λ k less. linked_at stored k less (cases_eq k i);
        rest = λ word not.
            stores.volatile word (λ e. not (i, omega arith, e ∙ at))
            ∙ chained.rest word (λ linked. not (linked.0, omega (arith, linked.1), linked.2));
      }

-- nothing is chained yet
pub chain_begins : (capacity class d : ℕ) (v : View) → IsOpen capacity v → StoresOnly (IsInSuperblock capacity d) v v
    → AreInOneChain capacity class d 1 v v
chain_begins capacity class d v open_now same = record {
  open_still = open_now;
  drawn = refl;
  stores = same;
  linked = λ k less. absurd (omega arith);
  rest = λ word not. refl;
}

module _ (capacity class d count : ℕ) (v u w : View) (before next : ℕ) (is : IsClass class) (below : d < capacity) (some : 1 ≤ count)
    (few : count < blocks_of class)
    (at : before ≡ start_word capacity d + (count - 1) * words_of_class class) (next_at : next ≡ start_word capacity d + count * words_of_class class)
    (chained : AreInOneChain capacity class d count v u) (stores : StoresOnly (λ other. other ≡ before) u w) where
  one_more : count ≡ (count - 1) + 1
  one_more = omega arith

  chained_before : AreInOneChain capacity class d ((count - 1) + 1) v u
  chained_before = subst (λ (k : ℕ). AreInOneChain capacity class d k v u) one_more chained

  next_there : next ≡ start_word capacity d + ((count - 1) + 1) * words_of_class class
  next_there = subst (λ (k : ℕ). next ≡ start_word capacity d + k * words_of_class class) one_more next_at

  few_there : (count - 1) + 1 < blocks_of class
  few_there = omega arith

  -- with one block more in the chain, steps still store to its superblock alone
  pub chain_more : StoresOnly (IsInSuperblock capacity d) v w × (IsStored before next u w → AreInOneChain capacity class d (count + 1) v w)
  chain_more = (
    step_stores capacity class d (count - 1) v u w before next is below few_there at next_there chained_before stores,
    λ stored. let e : (count - 1) + 2 ≡ count + 1 = omega arith in
        subst (λ (k : ℕ). AreInOneChain capacity class d k v w) e
        (chain_step capacity class d (count - 1) v u w before next is below few_there at next_there chained_before stores stored),
  )

-- the three parts of a division
module _ (capacity class d : ℕ) (v u t w : View) (info anchor value : ℕ) (is : IsClass class) (below : d < capacity) (was_open : IsOpen capacity v)
    (info_at : info ≡ info_word d) (anchor_at : anchor ≡ anchor_word d) (value_is : value ≡ full_anchor)
    (persisted : IsPersisted info class v u) (persist_stores : StoresOnly (λ other. other ≡ info) v u)
    (chained : AreInOneChain capacity class d (blocks_of class) u t)
    (anchor_stores : StoresOnly (λ other. other ≡ anchor) t w) where
  not_inside : IsInSuperblock capacity d info → ⊥
  not_inside inside = let from = inside.from in omega arith

  not_anchor : info ≢ anchor
  not_anchor e = omega arith

  info_seen : volatile_at u info ≡ class
  info_seen =
      let long : length v.volatile ≡ image_words capacity = was_open.long in
      let within : info < length v.volatile = omega arith in
      ap (λ (xs : List ℕ). get_or xs info 0) persisted.volatile ∙ get_or-set_same v.volatile info class 0 within

  seen_last : volatile_at w info ≡ class
  seen_last = anchor_stores.volatile info not_anchor ∙ chained.stores.volatile info not_inside ∙ info_seen

  left_then : durable_at t info ≡ class
  left_then =
      elim (chained.stores.durable info not_inside) as (λ _. durable_at t info ≡ class) [
        | inl e ↦ e ∙ persisted.durable
        | inr e ↦ e ∙ info_seen
      ]

  left_last : durable_at w info ≡ class
  left_last =
      elim (anchor_stores.durable info not_anchor) as (λ _. durable_at w info ≡ class) [
        | inl e ↦ e ∙ left_then
        | inr e ↦ e ∙ chained.stores.volatile info not_inside ∙ info_seen
      ]

  drawn_few : t.drawn ≤ v.drawn + 4098
  drawn_few =
      let a = persisted.runs_within.few in
      let b = chained.drawn in
      let c = few_blocks class is in
      omega arith

  drawn_more : v.drawn ≤ t.drawn
  drawn_more =
      let a = persisted.runs_within.drew in
      let b = chained.drawn in
      let c = four_blocks class is in
      omega arith

  pub divide_stops_within : (ticket : ℕ) → StopsWithin ticket 1 t w → StopsWithin ticket most_cut_draws v w
  divide_stops_within ticket stops_within =
      let few = drawn_few in
      let more = drawn_more in
      let from = stops_within.from in
      let most = stops_within.few in
      record {
        stopped = stops_within.stopped;
        above = stops_within.above;
        from = omega arith;
        until = stops_within.until;
        last = stops_within.last;
        few = omega arith;
      }

  pub divided : IsStored anchor value t w → IsDivided capacity class d v w
  divided stored =
      let runs_within = stored.runs_within in
      let few = drawn_few in
      let more = drawn_more in
      let drew = runs_within.drew in
      let most = runs_within.few in
      let long : length t.volatile ≡ image_words capacity = chained.open_still.long in
      let within : anchor < length t.volatile = omega arith in
      let there : volatile_at w anchor ≡ value = ap (λ (xs : List ℕ). get_or xs anchor 0) stored.volatile
      ∙ get_or-set_same t.volatile anchor value 0 within in
      record {
        runs_within = record { running = runs_within.running; drew = omega arith; few = omega arith; below = runs_within.below };
        info = subst (λ (word : ℕ). volatile_at w word ≡ class) info_at seen_last;
        info_durable = subst (λ (word : ℕ). durable_at w word ≡ class) info_at left_last;
        anchor = subst (λ (word : ℕ). volatile_at w word ≡ full_anchor) anchor_at (there ∙ value_is);
        linked = λ k less.
            let apart : start_word capacity d + k * words_of_class class ≢ anchor = λ e. omega arith in
            anchor_stores.volatile (start_word capacity d + k * words_of_class class) apart ∙ chained.linked k less;
        rest = λ word inside not.
            anchor_stores.volatile word (λ e. let from = inside.from in omega arith) ∙ chained.rest word not
            ∙ persist_stores.volatile word (λ e. let from = inside.from in omega arith);
      }
