-- No step works on a word of a superblock that was never taken.
use Rattle.std.proofs.Common.{◌≡◌, ◌≢◌, ℕ, ◌+◌, ◌<◌, ◌≤◌, inl, inr, Bool, true, false, cond, nat_eq, nat_le, nat_lt, List, ◌∷◌, [], ◌++◌, get_or, length, slice_index, refl, ap, sym, subst, ◌∙◌, lt-ltb, le-leb, true≢false, arith}
use Rattle.std.proofs.lemmas.Bool.{cases_lt}
use Rattle.std.proofs.lemmas.List.{get_or-set_other}
use Rattle.heap_model.specs.Geometry.{image_words, start_word, superblocks_end, used_word, superblock_of}
use Rattle.heap_model.specs.Rest.{IsReady}
use Rattle.core_model.specs.declared.event.Event.{Event}
use Rattle.core_model.specs.declared.event.Event.TheVariants.{Tick, Load, Store, Settle, LookUsed, TakeFresh, KeepUsed, LookHead, LookLink, Pop, Push, LookAnchor, TakeAll, Give}
use Rattle.core_model.specs.Cells.{Cell, used_cell, data_cell, no_cell, is_cell, index_of, cell_at}
use Rattle.core_model.specs.Effects.{seen, place_of, left_there}
use Rattle.core_model.specs.Guards.{IsOwn, MayStep}
use Rattle.core_model.specs.Memory.{Memory, StepPlace, volatile_at, durable_at, tickets, used, table_index, memory_of}
use Rattle.core_model.specs.Opening.{AreOwners}
use Rattle.core_model.specs.Sound.{Good, Sound}
use Rattle.core_model.specs.Steps.{TableState, found_by, memory_after}
use Rattle.core_model.specs.View.{Setup, View, times_own, times_large, times_raw}
use Rattle.core_model.proofs.FrameLemmas.{below_not, with_other}
use Rattle.core_model.proofs.MemoryLemmas.{rewritten}
use Rattle.core_model.proofs.OpenedLemmas.{opened}
use Rattle.core_model.proofs.OwnerLemmas.{covered, in_blocks}
use Rattle.core_model.proofs.PlaceLemmas.{and_is, cell_at_index, index_within}
use Rattle.core_model.proofs.SoundLemmas.{in_table}
use Rattle.core_model.proofs.TableLemmas.{is_place, memory_set}
use Rattle.core_model.proofs.TotalLemmas.{total_at}
use Rattle.heap_table.specs.AtTable.{IsClosedReached}
use Rattle.heap_table.specs.Reached.{IsReached, at_opening, by_event, by_record, by_offer, by_accept, in_another_order}
use Rattle.heap_table.specs.Rule.{Opening, setup_for, state_of}
use Rattle.heap_table.proofs.BudgetLemmas.{at_kept, at_now, opened_long}
use Rattle.heap_table.proofs.ReachedLemmas.{reached_sound}

abbrev is_data : Cell → Bool
is_data (data_cell word) = true
is_data cell = false

abbrev cell_of : StepPlace → Cell
cell_of (volatile_at cell) = cell
cell_of (durable_at cell) = cell
cell_of tickets = no_cell

module _ (k : Setup) (m : Memory) (views : List View) (i : ℕ) (v : View) (below : i < length views) (at : get_or views i v ≡ v)
    (good : Good k m views) where
  abbrev whole : ℕ → ℕ
  whole d = times_large d v.large + times_raw d v

  -- an own word of a superblock is of one that was taken
  own_taken : (word : ℕ) → IsOwn v (data_cell word) → superblock_of k.capacity word < used m
  own_taken word own = elim (cases_lt (superblock_of k.capacity word) (used m)) [
    | inl less ↦ less
    | inr past ↦ absurd (
        let cap : v.setup.capacity ≡ k.capacity = ap (λ (s : Setup). s.capacity) (good.set_up i v below at).setup in
        let same = ap (λ c. whole (superblock_of c word)) cap in
        let d = superblock_of k.capacity word in
        let raw = total_at (times_raw d) views i v below at in
        let large = total_at (λ (x : View). times_large d x.large) views i v below at in
        let p = good.shaped.placed.one_place d in let none = below_not d (used m) past in
        elim (cases_lt 0 (in_blocks v word)) as (λ _. ⊥) [
          | inl of_block ↦ let cut = (covered k m views good i v below at word of_block).1.cut in omega arith
          | inr no_block ↦ omega arith
        ])
  ]

  own_past : (word : ℕ) → used m ≤ superblock_of k.capacity word → IsOwn v (data_cell word) → ⊥
  own_past word past own = let less = own_taken word own in omega arith

  -- a step works on none of them
  no_data : (event : Event) → MayStep m v event → (word : ℕ) → used m ≤ superblock_of k.capacity word → cell_of (place_of v event) ≡ data_cell word → ⊥
  no_data (Tick shift) may word past same = true≢false (sym (ap is_data same))
  no_data (Load at) may word past same = own_past word past (subst (IsOwn v) same may.ready)
  no_data (Store at value) may word past same = own_past word past (subst (IsOwn v) same may.ready.0)
  no_data (Settle at) may word past same = own_past word past (subst (IsOwn v) same may.ready)
  no_data LookUsed may word past same = true≢false (sym (ap is_data same))
  no_data (TakeFresh n) may word past same = true≢false (sym (ap is_data same))
  no_data KeepUsed may word past same = true≢false (sym (ap is_data same))
  no_data (LookHead list) may word past same = true≢false (sym (ap is_data same))
  no_data LookLink may word past same = true≢false (sym (ap is_data same))
  no_data Pop may word past same = true≢false (sym (ap is_data same))
  no_data (Push d) may word past same = true≢false (sym (ap is_data same))
  no_data (LookAnchor d) may word past same = true≢false (sym (ap is_data same))
  no_data (TakeAll d) may word past same = true≢false (sym (ap is_data same))
  no_data (Give d) may word past same = true≢false (sym (ap is_data same))

  -- the mark does not fall
  raised : (test : Bool) (n : ℕ) → used m ≤ cond test (used m + n) (used m)
  raised true n = omega arith
  raised false n = omega arith

  still : (event : Event) → used (memory_after m v event) ≡ used m → used m ≤ used (memory_after m v event)
  still event same = omega (arith, same)

  used_rises : (event : Event) → MayStep m v event → used m ≤ used (memory_after m v event)
  used_rises (Tick shift) may = still (Tick shift) refl
  used_rises (Load word) may = still (Load word) (λ j. (rewritten m.volatile (cell_at v.setup.capacity word)) j used_cell)
  used_rises (Store word value) may = still (Store word value) (with_other m.volatile (cell_at v.setup.capacity word) value used_cell
      (λ same. let own = may.ready.0 in let e = ap (times_own v) same in omega (arith, own, e)))
  used_rises (Settle word) may = still (Settle word) refl
  used_rises LookUsed may = still LookUsed refl
  used_rises (TakeFresh n) may = raised (nat_eq (used m) (seen v.seen_used)) n
  used_rises KeepUsed may = still KeepUsed refl
  used_rises (LookHead list) may = still (LookHead list) refl
  used_rises LookLink may = still LookLink refl
  used_rises Pop may = still Pop refl
  used_rises (Push d) may = still (Push d) refl
  used_rises (LookAnchor d) may = still (LookAnchor d) refl
  used_rises (TakeAll d) may = still (TakeAll d) refl
  used_rises (Give d) may = still (Give d) refl

-- the two words of the table that stand for a word of a superblock are of its cell alone
cell_is : (c : ℕ) (cell : Cell) → is_cell c cell ≡ true → (word : ℕ) → start_word c 0 ≤ word → word < superblocks_end c → index_of cell ≡ word
    → cell ≡ data_cell word
cell_is c cell is word from until same = sym (cell_at_index c cell is) ∙ ap (cell_at c) same
    ∙ cell_at_index c (data_cell word) (and_is (nat_le (start_word c 0) word) (nat_lt word (superblocks_end c))
    (le-leb (start_word c 0) word from) (lt-ltb word (superblocks_end c) until))

index_apart : (c : ℕ) (p : StepPlace) → is_place c p ≡ true → (word : ℕ) → start_word c 0 ≤ word → word < superblocks_end c
    → (cell_of p ≡ data_cell word → ⊥)
    → (word ≢ table_index c p) × (image_words c + word ≢ table_index c p)
index_apart c (volatile_at cell) is word from until other = (
  λ z. other (cell_is c cell is word from until (sym z)),
  λ z. let w = index_within c cell is in omega (arith, z, w),
)
index_apart c (durable_at cell) is word from until other = (
  λ z. omega (arith, z, until),
  λ z. other (cell_is c cell is word from until (omega (arith, z))),
)
index_apart c tickets is word from until other = (λ z. omega (arith, z, until), λ z. omega (arith, z, until))

reached_untaken : (k : Setup) (start : TableState) → Sound k start.words start.views → (words : List ℕ) (views : List View)
    → IsReached k start words views
    → (word : ℕ) → start_word k.capacity 0 ≤ word → word < superblocks_end k.capacity
    → used (memory_of k.capacity words) ≤ superblock_of k.capacity word
    → (get_or words word 0 ≡ get_or start.words word 0) × (get_or words (image_words k.capacity + word) 0 ≡ get_or start.words
    (image_words k.capacity + word) 0)
reached_untaken k start sound _ _ at_opening word from until past = (refl, refl)
reached_untaken k start sound _ _ (by_event words views i v event before below at seat may) word from until past =
    let so_far = reached_untaken k start sound words views before word from until earlier in (
      get_or-set_other words (table_index k.capacity p) word x 0 apart.0
          ∙ so_far.0,
      get_or-set_other words (table_index k.capacity p) (image_words k.capacity + word) x 0 apart.1 ∙ so_far.1,
    ) where
      m : Memory
      m = memory_of k.capacity words

      p : StepPlace
      p = place_of v event

      x : ℕ
      x = left_there m v event (found_by m v event)

      sound_before : Sound k words views
      sound_before = reached_sound k start sound words views before

      there : is_place k.capacity p ≡ true
      there = in_table k m views i v below at sound_before.good event may

      earlier : used m ≤ superblock_of k.capacity word
      earlier = let rises = used_rises k m views i v below at sound_before.good event may in
          let same = ap used (memory_set k.capacity words p x sound_before.long there) in omega (arith, rises, same, past)

      apart : (word ≢ table_index k.capacity p) × (image_words k.capacity + word ≢ table_index k.capacity p)
      apart = index_apart k.capacity p there word from until (no_data k m views i v below at sound_before.good event may word earlier)
reached_untaken k start sound _ _ (by_record words views i v at_word before below at own) word from until past =
    reached_untaken k start sound words views before word from until past
reached_untaken k start sound _ _ (by_offer words views i v b before below at may held) word from until past =
    reached_untaken k start sound words views before word from until past
reached_untaken k start sound _ _ (by_accept words old new v u before has_v has_u may carries less) word from until past =
    reached_untaken k start sound words old before word from until past
reached_untaken k start sound _ _ (in_another_order words old new before same) word from until past =
    reached_untaken k start sound words old before word from until past

pub never_taken : (o : Opening) (now kept : List ℕ) (views : List View) → IsReady o.words o.held
    → AreOwners o.held o.seats o.block_owners o.root_owners → IsClosedReached o now kept views
    → (word : ℕ) → start_word (setup_for o).capacity (slice_index now used_word) ≤ word → word < superblocks_end (setup_for o).capacity
    → (slice_index now word ≡ slice_index o.words word) × (slice_index kept word ≡ slice_index o.words word)
never_taken o now kept views ready owners closed word from until = (
  sym (at_now now kept closed.drawn word (omega (arith, until, closed.now_long))) ∙ both.0 ∙ at_now o.words o.words 0 word (omega (arith, until, long)),
  sym (at_kept now kept closed.drawn word iw closed.now_long (omega (arith, until, closed.kept_long))) ∙ both.1
      ∙ at_kept o.words o.words 0 word iw long (omega (arith, until, long)),
) where
  iw : ℕ
  iw = image_words (setup_for o).capacity

  long : length o.words ≡ iw
  long = opened_long o ready owners

  past : used (memory_of (setup_for o).capacity (now ++ (kept ++ (closed.drawn ∷ [])))) ≤ superblock_of (setup_for o).capacity word
  past = let same = at_now now kept closed.drawn used_word (omega (arith, closed.now_long)) in omega (arith, same, from)

  both : (get_or (now ++ (kept ++ (closed.drawn ∷ []))) word 0 ≡ get_or (state_of o).words word 0)
      × (get_or (now ++ (kept ++ (closed.drawn ∷ []))) (iw + word) 0 ≡ get_or (state_of o).words (iw + word) 0)
  both = reached_untaken (setup_for o) (state_of o) (opened o.words o.held o.budget o.seats o.block_owners o.root_owners ready owners)
      _ views closed.reached word (omega (arith, from)) until past
