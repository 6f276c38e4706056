-- With a budget of 0 no seat ever has a ticket, so no step changes what loads see or a crash leaves.
use Rattle.std.proofs.Common.{◌≡◌, ◌≢◌, ℕ, suc, ◌+◌, ◌*◌, ◌<◌, inl, inr, true, List, [], ◌∷◌, ◌++◌, get_or, set, length, length-append, length-set, get_or-append-add, refl, ap, sym, ◌∙◌, arith}
use Rattle.std.proofs.lemmas.Bool.{cases_eq}
use Rattle.std.proofs.lemmas.List.{get_or_append_left, get_or-set_other}
use Rattle.std.proofs.lemmas.Grind.{get_or-set_at}
use Rattle.heap_model.specs.Geometry.{image_words}
use Rattle.heap_model.specs.Rest.{IsReady}
use Rattle.core_model.specs.declared.event.Event.{Event}
use Rattle.core_model.specs.declared.event.Event.TheVariants.{Tick, Load, Store, Settle, LookUsed, TakeFresh, KeepUsed, LookHead, LookLink, Pop, Push, LookAnchor, TakeAll, Give}
use Rattle.core_model.specs.Cells.{Cell, is_cell, index_of, cell_at}
use Rattle.core_model.specs.Guards.{IsThere, MayStep}
use Rattle.core_model.specs.Memory.{memory_of, table_length}
use Rattle.core_model.specs.Opening.{AreOwners}
use Rattle.core_model.specs.Sound.{Sound}
use Rattle.core_model.specs.Steps.{TableState, words_after}
use Rattle.core_model.specs.View.{Setup, View}
use Rattle.core_model.proofs.OpenedLemmas.{opened}
use Rattle.core_model.proofs.PlaceLemmas.{index_within, pick}
use Rattle.core_model.proofs.SoundLemmas.{own_cell}
use Rattle.heap_table.specs.AtTable.{IsClosedReached}
use Rattle.heap_table.specs.Reached.{IsReached, at_opening, by_event, by_record, by_offer, by_accept, in_another_order}
use Rattle.heap_table.specs.Rule.{Opening, setup_for, state_of}
use Rattle.heap_table.proofs.ReachedLemmas.{reached_sound}

-- both values of each word of the image are as they were; the ticket word may be another
record IsAsOpened (c : ℕ) (start words : List ℕ) : Type 0 where
  long : length words ≡ length start
  same : (n : ℕ) → n ≢ 2 * image_words c → get_or words n 0 ≡ get_or start n 0

module _ (k : Setup) (none : k.budget ≡ 0) (start : List ℕ) (settled : (n : ℕ) → n < image_words k.capacity
    → get_or start (image_words k.capacity + n) 0 ≡ get_or start n 0) where
  -- a ticket in hand is below the budget
  no_ticket : (words : List ℕ) (views : List View) (i : ℕ) (v : View) → Sound k words views → i < length views → get_or views i v ≡ v
      → IsThere v.ticket → ⊥
  no_ticket words views i v sound below at there = let less = ((sound.good.tickets i v below at).state.in_hand there).1 in omega (arith, none, less)

  -- a word becomes durable that is so already
  settle : (words : List ℕ) (cell : Cell) → is_cell k.capacity cell ≡ true → length words ≡ table_length k.capacity → IsAsOpened k.capacity start words
      → IsAsOpened k.capacity start (set words (image_words k.capacity + index_of cell) ((memory_of k.capacity words).volatile cell))
  settle words cell is long so = record {
    long = length-set words (image_words k.capacity + index_of cell) ((memory_of k.capacity words).volatile cell) ∙ so.long;
    same = λ n other. let within = index_within k.capacity cell is in
        elim (cases_eq n (image_words k.capacity + index_of cell)) as
        (λ _. get_or (set words (image_words k.capacity + index_of cell) ((memory_of k.capacity words).volatile cell)) n 0 ≡ get_or start n 0) [
          | inl here ↦ get_or-set_at words (image_words k.capacity + index_of cell) n ((memory_of k.capacity words).volatile cell) 0 here
              (omega (arith, long, within))
              ∙ pick (is_cell k.capacity cell) (get_or words (index_of cell) 0) 0 is
              ∙ so.same (index_of cell) (λ z. omega (arith, z, within))
              ∙ sym (settled (index_of cell) within) ∙ ap (λ m. get_or start m 0) (sym here)
          | inr apart ↦ get_or-set_other words (image_words k.capacity + index_of cell) n ((memory_of k.capacity words).volatile cell) 0 apart
              ∙ so.same n other
        ];
  }

  step : (words : List ℕ) (views : List View) (i : ℕ) (v : View) (event : Event) → Sound k words views → i < length views → get_or views i v ≡ v
      → MayStep (memory_of k.capacity words) v event
      → IsAsOpened k.capacity start words → IsAsOpened k.capacity start (words_after k words v event)
  step words views i v (Tick shift) sound below at may so = record {
    long = length-set words (2 * image_words k.capacity) _ ∙ so.long;
    same = λ n other. get_or-set_other words (2 * image_words k.capacity) n _ 0 other ∙ so.same n other;
  }
  step words views i v (Settle word) sound below at may so = settle words (cell_at v.setup.capacity word)
      (own_cell k (memory_of k.capacity words) views i v below at sound.good word may.ready) sound.long so
  step words views i v (Load word) sound below at may so = absurd (no_ticket words views i v sound below at may.ticket)
  step words views i v (Store word value) sound below at may so = absurd (no_ticket words views i v sound below at may.ticket)
  step words views i v LookUsed sound below at may so = absurd (no_ticket words views i v sound below at may.ticket)
  step words views i v (TakeFresh n) sound below at may so = absurd (no_ticket words views i v sound below at may.ticket)
  step words views i v KeepUsed sound below at may so = absurd (no_ticket words views i v sound below at may.ticket)
  step words views i v (LookHead list) sound below at may so = absurd (no_ticket words views i v sound below at may.ticket)
  step words views i v LookLink sound below at may so = absurd (no_ticket words views i v sound below at may.ticket)
  step words views i v Pop sound below at may so = absurd (no_ticket words views i v sound below at may.ticket)
  step words views i v (Push d) sound below at may so = absurd (no_ticket words views i v sound below at may.ticket)
  step words views i v (LookAnchor d) sound below at may so = absurd (no_ticket words views i v sound below at may.ticket)
  step words views i v (TakeAll d) sound below at may so = absurd (no_ticket words views i v sound below at may.ticket)
  step words views i v (Give d) sound below at may so = absurd (no_ticket words views i v sound below at may.ticket)

stays : (k : Setup) (start : TableState) → k.budget ≡ 0 → ((n : ℕ) → n < image_words k.capacity
    → get_or start.words (image_words k.capacity + n) 0 ≡ get_or start.words n 0)
    → Sound k start.words start.views → (words : List ℕ) (views : List View) → IsReached k start words views → IsAsOpened k.capacity start.words words
stays k start none settled first _ _ at_opening = record { long = refl; same = λ n other. refl }
stays k start none settled first _ _ (by_event words views i v event before below at seat may) =
    step k none start.words settled words views i v event (reached_sound k start first words views before) below at may
    (stays k start none settled first words views before)
stays k start none settled first _ _ (by_record words views i v word before below at own) = stays k start none settled first words views before
stays k start none settled first _ _ (by_offer words views i v b before below at may held) = stays k start none settled first words views before
stays k start none settled first _ _ (by_accept words old new v u before has_v has_u may carries less) =
    stays k start none settled first words old before
stays k start none settled first _ _ (in_another_order words old new before same) = stays k start none settled first words old before

same_lists : (xs ys : List ℕ) → length xs ≡ length ys → ((i : ℕ) → i < length ys → get_or xs i 0 ≡ get_or ys i 0) → xs ≡ ys
same_lists [] [] long same = refl
same_lists [] (y ∷ ys) long same = absurd (omega arith)
same_lists (x ∷ xs) [] long same = absurd (omega arith)
same_lists (x ∷ xs) (y ∷ ys) long same = ap (λ h. h ∷ xs) (same 0 (omega arith))
    ∙ ap (λ t. y ∷ t) (same_lists xs ys (omega arith) (λ i less. same (suc i) (omega arith)))

-- the two values of each word, read off a table
pub at_now : (now kept : List ℕ) (drawn n : ℕ) → n < length now → get_or (now ++ (kept ++ (drawn ∷ []))) n 0 ≡ get_or now n 0
at_now now kept drawn n less = get_or_append_left now (kept ++ (drawn ∷ [])) 0 n less

pub at_kept : (now kept : List ℕ) (drawn n iw : ℕ) → length now ≡ iw → n < length kept
    → get_or (now ++ (kept ++ (drawn ∷ []))) (iw + n) 0 ≡ get_or kept n 0
at_kept now kept drawn n iw long less = ap (λ m. get_or (now ++ (kept ++ (drawn ∷ []))) (m + n) 0) (sym long)
    ∙ get_or-append-add now (kept ++ (drawn ∷ [])) n 0 ∙ get_or_append_left kept (drawn ∷ []) 0 n less

pub opened_long : (o : Opening) → IsReady o.words o.held → AreOwners o.held o.seats o.block_owners o.root_owners
    → length o.words ≡ image_words (setup_for o).capacity
opened_long o ready owners = let l = (opened o.words o.held o.budget o.seats o.block_owners o.root_owners ready owners).long in
    let a = length-append o.words (o.words ++ (0 ∷ [])) in let b = length-append o.words (0 ∷ []) in omega (arith, l, a, b)

pub no_budget : (o : Opening) (now kept : List ℕ) (views : List View) → IsReady o.words o.held
    → AreOwners o.held o.seats o.block_owners o.root_owners → o.budget ≡ 0 → IsClosedReached o now kept views
    → (now ≡ o.words) × (kept ≡ o.words)
no_budget o now kept views ready owners none closed = (
  same_lists now o.words (closed.now_long ∙ sym long) (λ n less. sym
      (at_now now kept closed.drawn n (omega (arith, less, long, closed.now_long))) ∙ so.same n (λ z. omega (arith, z, less, long))
      ∙ at_now o.words o.words 0 n less),
  same_lists kept o.words (closed.kept_long ∙ sym long) (λ n less. sym
      (at_kept now kept closed.drawn n iw closed.now_long (omega (arith, less, long, closed.kept_long)))
      ∙ so.same (iw + n) (λ z. omega (arith, z, less, long)) ∙ at_kept o.words o.words 0 n iw long less),
) where
  iw : ℕ
  iw = image_words (setup_for o).capacity

  first : Sound (setup_for o) (state_of o).words (state_of o).views
  first = opened o.words o.held o.budget o.seats o.block_owners o.root_owners ready owners

  long : length o.words ≡ iw
  long = opened_long o ready owners

  settled : (n : ℕ) → n < iw → get_or (state_of o).words (iw + n) 0 ≡ get_or (state_of o).words n 0
  settled n less = at_kept o.words o.words 0 n iw long (omega (arith, less, long)) ∙ sym (at_now o.words o.words 0 n (omega (arith, less, long)))

  so : IsAsOpened (setup_for o).capacity (state_of o).words (now ++ (kept ++ (closed.drawn ∷ [])))
  so = stays (setup_for o) (state_of o) none settled first _ views closed.reached
