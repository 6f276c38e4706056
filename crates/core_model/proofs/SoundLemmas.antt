-- Every list of events keeps the words of the shared table and the views of the seats sound.
use Rattle.std.proofs.Common.{◌≡◌, ◌≢◌, ℕ, zero, suc, ◌+◌, ◌*◌, ◌<◌, ◌≤◌, inl, inr, true, List, [], ◌∷◌, get_or, set, length, refl, ap, sym, subst, ◌∙◌, length-set, lt-ltb, arith}
use Rattle.std.proofs.lemmas.Bool.{cases_lt}
use Rattle.std.proofs.lemmas.List.{get_or-set_other}
use Rattle.heap_model.specs.Geometry.{lists, image_words, IsFixed, superblock_of}
use Rattle.heap_model.specs.Words.{head_first}
use Rattle.core_model.specs.declared.answer.StepAnswer.{StepAnswer}
use Rattle.core_model.specs.declared.event.Event.{Event}
use Rattle.core_model.specs.declared.event.Event.TheVariants.{Tick, Load, Store, Settle, LookUsed, TakeFresh, KeepUsed, LookHead, LookLink, Pop, Push, LookAnchor, TakeAll, Give}
use Rattle.core_model.specs.Cells.{used_cell, is_cell, index_of, cell_at}
use Rattle.core_model.specs.Memory.{Memory, StepPlace, volatile_at, durable_at, tickets, used, table_index, memory_of}
use Rattle.core_model.specs.View.{Setup, View, times_own, times_raw, times_classed, times_block}
use Rattle.core_model.specs.Effects.{before, seen_of, seen_word, first_of, place_of, left_there}
use Rattle.core_model.specs.Guards.{IsOwn, MayStep}
use Rattle.core_model.specs.Sound.{Good, Sound, tally_of, times_cut}
use Rattle.core_model.specs.Steps.{TableState, words_after, seat_after, found_by, StepsTo, is_done, stops, not_now, has_stopped, Runs}
use Rattle.core_model.proofs.BlockLemmas.{first_there}
use Rattle.core_model.proofs.TotalLemmas.{total_at}
use Rattle.core_model.proofs.FrameLemmas.{below_not}
use Rattle.core_model.proofs.PlaceLemmas.{cell_there, index_within}
use Rattle.core_model.proofs.TableLemmas.{is_place, memory_set, fixed_apart}
use Rattle.core_model.proofs.KeptLemmas.{kept}

module _ (k : Setup) (m : Memory) (views : List View) (i : ℕ) (v : View) (below_i : i < length views) (at : get_or views i v ≡ v)
    (good : Good k m views) where
  cap : v.setup.capacity ≡ k.capacity
  cap = ap (λ (s : Setup). s.capacity) (good.set_up i v below_i at).setup

  -- a word that is the seat's own is a cell
  pub own_cell : (word : ℕ) → IsOwn v (cell_at v.setup.capacity word) → is_cell k.capacity (cell_at v.setup.capacity word) ≡ true
  own_cell word own = elim (cell_there v.setup.capacity word) [
    | inl there ↦ subst (λ c. is_cell c (cell_at v.setup.capacity word) ≡ true) cap there
    | inr none ↦ absurd (let e = ap (times_own v) none in omega arith)
  ]

  pub taken : (d : ℕ) → 0 < times_raw d v + times_classed d v.classed → d < k.capacity
  taken d some = elim (cases_lt d (used m)) [
    | inl less ↦ let r = good.shaped.durable.room in omega arith
    | inr past ↦ absurd (let raw = total_at (times_raw d) views i v below_i at in
        let classed = total_at (λ (u : View). times_classed d u.classed) views i v below_i at in
        let p = good.shaped.placed.one_place d in let none = below_not d (used m) past in omega arith)
  ]

  pub batched : (d : ℕ) → v.batch.descriptor ≡ d → 1 ≤ length v.batch.blocks → d < k.capacity
  batched d of some = let b = first_of v.batch.blocks in let there = first_there v.batch.blocks some in
      let t = total_at (times_block b) views i v below_i at in
      let cut = (good.shaped.chained.inside b (omega arith)).0 in
      let here : superblock_of k.capacity b ≡ d = ap (λ c. superblock_of c b) (sym cap) ∙ ((good.blocks i v below_i at).batched b there).0 ∙ of in
      let c = ap (times_cut good.shape (tally_of views)) here in
      let less = good.shaped.durable.below d (omega arith) in let q = good.shaped.durable.behind in let r = good.shaped.durable.room in omega arith

  -- each step works on a word of the table
  pub in_table : (event : Event) → MayStep m v event → is_place k.capacity (place_of v event) ≡ true
  in_table (Tick shift) may = refl
  in_table (Load word) may = own_cell word may.ready
  in_table (Store word value) may = own_cell word may.ready.0
  in_table (Settle word) may = own_cell word may.ready
  in_table LookUsed may = refl
  in_table (TakeFresh n) may = refl
  in_table KeepUsed may = refl
  in_table (LookHead list) may = lt-ltb list lists may.ready
  in_table LookLink may = let h = (good.knows i v below_i at).seen_head may.ready.is_seen in
      lt-ltb (before (head_first (seen_word v.seen_head))) k.capacity (let s = h.small in
      let b = before_less (head_first (seen_word v.seen_head)) may.ready.some in omega arith) where
        before_less : (n : ℕ) → n ≢ 0 → before n < n
        before_less zero some = absurd (some refl)
        before_less (suc n) some = omega arith
  in_table Pop may = lt-ltb (seen_of v.seen_head) lists ((good.knows i v below_i at).seen_head may.ready.is_seen).is_list
  in_table (Push d) may = lt-ltb (seen_of v.seen_head) lists ((good.knows i v below_i at).seen_head may.ready.is_seen).is_list
  in_table (LookAnchor d) may = lt-ltb d k.capacity (elim may.ready [
    | inl claimed ↦ taken d (let c = claimed.claimed in
        omega arith)
    | inr batch ↦ batched d batch.0 batch.1
  ])
  in_table (TakeAll d) may = lt-ltb d k.capacity (taken d (let c = may.ready.claimed in omega arith))
  in_table (Give d) may = lt-ltb d k.capacity (batched d may.ready.batch may.ready.some)

-- a step of a seat, won or lost, keeps the state sound
pub sound_step : (k : Setup) (words : List ℕ) (views : List View) (i : ℕ) (v : View) (event : Event) → i < length views → get_or views i v ≡ v
    → Sound k words views
    → MayStep (memory_of k.capacity words) v event → Sound k (words_after k words v event)
    (set views i (seat_after (memory_of k.capacity words) v event))
sound_step k words views i v event below_i at sound may = record {
  some = sound.some;
  capacity = sound.capacity;
  used = sound.used;
  long = length-set words (table_index k.capacity p) x ∙ sound.long;
  fixed = λ word is. let old = sound.fixed word is in (fixed_same p there word is ∙ old.0, fixed_durable p there word is ∙ old.1);
  good = subst (λ n. Good k n (set views i (seat_after m v event))) (sym (memory_set k.capacity words p x sound.long there))
      (kept k m views i v below_i at sound.good event may);
} where
  m : Memory
  m = memory_of k.capacity words

  p : StepPlace
  p = place_of v event

  x : ℕ
  x = left_there (memory_of k.capacity words) v event (found_by (memory_of k.capacity words) v event)

  there : is_place k.capacity p ≡ true
  there = in_table k m views i v below_i at sound.good event may

  fixed_same : (q : StepPlace) → is_place k.capacity q ≡ true → (word : ℕ) → IsFixed k.capacity word
      → get_or (set words (table_index k.capacity q) x) word 0 ≡ get_or words word 0
  fixed_same (volatile_at cell) is word fixed = get_or-set_other words (index_of cell) word x 0
      (λ z. (fixed_apart k.capacity word cell fixed is).0 (sym z))
  fixed_same (durable_at cell) is word fixed = get_or-set_other words (image_words k.capacity + index_of cell) word x 0
      (λ z. let w = (fixed_apart k.capacity word cell fixed is).1 in omega (arith, z, w))
  fixed_same tickets is word fixed = get_or-set_other words (2 * image_words k.capacity) word x 0
      (λ z. let w = (fixed_apart k.capacity word used_cell fixed refl).1 in omega (arith, z, w))

  fixed_durable : (q : StepPlace) → is_place k.capacity q ≡ true → (word : ℕ) → IsFixed k.capacity word
      → get_or (set words (table_index k.capacity q) x) (image_words k.capacity + word) 0 ≡ get_or words (image_words k.capacity + word) 0
  fixed_durable (volatile_at cell) is word fixed = get_or-set_other words (index_of cell) (image_words k.capacity + word) x 0
      (λ z. let w = index_within k.capacity cell is in omega (arith, z, w))
  fixed_durable (durable_at cell) is word fixed = get_or-set_other words (image_words k.capacity + index_of cell)
      (image_words k.capacity + word) x 0 (λ z. (fixed_apart k.capacity word cell fixed is).0 (omega (arith, z)))
  fixed_durable tickets is word fixed = get_or-set_other words (2 * image_words k.capacity) (image_words k.capacity + word) x 0
      (λ z. let w = (fixed_apart k.capacity word used_cell fixed refl).1 in omega (arith, z, w))

-- and so does every list of events
pub sound_runs : (k : Setup) (s s' : TableState) (events : List (ℕ × Event)) (answers : List StepAnswer) → Sound k s.words s.views
    → Runs k s events answers s' → Sound k s'.words s'.views
sound_runs k s s' [] [] sound runs = subst (λ (x : TableState). Sound k x.words x.views) runs sound
sound_runs k s s' [] (answer ∷ answers) sound runs = absurd runs
sound_runs k s s' (e ∷ events) [] sound runs = absurd runs
sound_runs k s s' (e ∷ events) (answer ∷ answers) sound runs = sound_runs k runs.0 s' events answers (after_one answer runs.0 runs.2) runs.3 where
  after_one : (a : StepAnswer) (next : TableState) → StepsTo k s e.0 e.1 a next → Sound k next.words next.views
  after_one a next (is_done v at may on) = sound_step k s.words s.views e.0 v e.1 runs.1 at sound may.may
  after_one a next (stops v step at may stop) = sound_step k s.words s.views e.0 v e.1 runs.1 at sound may.may
  after_one a next (not_now v at going refused) = sound
  after_one a next (has_stopped v step at stop) = sound

-- a place of the table has a word there
pub in_length : (k : Setup) (s : TableState) (i : ℕ) (v : View) (event : Event) → i < length s.views → get_or s.views i v ≡ v
    → Sound k s.words s.views → MayStep (memory_of k.capacity s.words) v event
    → table_index k.capacity (place_of v event) < length s.words
in_length k s i v event below at sound may = by_place (place_of v event)
    (in_table k (memory_of k.capacity s.words) s.views i v below at sound.good event may) where
      by_place : (p : StepPlace) → is_place k.capacity p ≡ true → table_index k.capacity p < length s.words
      by_place (volatile_at cell) is = let w = index_within k.capacity cell is in let l = sound.long in omega arith
      by_place (durable_at cell) is = let w = index_within k.capacity cell is in let l = sound.long in omega arith
      by_place tickets is = let l = sound.long in omega arith
