-- The steps of the core on a seat's own words, and its draws.
use Rattle.std.proofs.Common.{◌≡◌, ℕ, ◌+◌, ◌*◌, ◌<◌, ◌≤◌, true, nat_lt, List, get_or, set, length, Option, None, Some, refl, ap, ap₂, sym, subst, ◌∙◌, lt-ltb, arith}
use Rattle.std.proofs.lemmas.List.{set-get_or}
use Rattle.std.specs.Vec.{with_item}
use Rattle.heap_model.specs.Geometry.{image_words}
use Rattle.core_model.specs.declared.answer.StepAnswer.TheVariants.{Done, Stopped}
use Rattle.core_model.specs.declared.event.Event.TheVariants.{Tick, Load, Settle}
use Rattle.seat_state.specs.declared.notes.SeatNotes.{SeatNotes}
use Rattle.crash_core.specs.declared.state.CoreState.{CoreState}
use Rattle.core_model.specs.Cells.{cell_at, is_cell, index_of}
use Rattle.core_model.specs.Memory.{volatile_at}
use Rattle.core_model.specs.View.{Setup, View}
use Rattle.core_model.specs.Effects.{drew, stopped}
use Rattle.core_model.specs.Guards.{IsThere, IsOwn}
use Rattle.core_model.specs.Sound.{Good}
use Rattle.core_model.specs.Steps.{seat_after}
use Rattle.crash_core.specs.Standing.{IsSeatAt, IsKept, IsCore, KeepsViews, Steps, steps_stopped}
use Rattle.seat_state.specs.Notes.{HasNotes}
use Rattle.core_model.proofs.EventStepLemmas.{parts}
use Rattle.core_model.proofs.SoundLemmas.{in_table, own_cell}
use Rattle.core_model.proofs.PlaceLemmas.{pick, skip, not-lt, index_at, index_within}
use Rattle.crash_core.proofs.StandingLemmas.{step_done, step_noted, may_step, memory_in, stands_after}
use Rattle.seat_state.proofs.WordLemmas.{entry_is, read_is, put_back}
use Rattle.seat_state.proofs.CountLemmas.{stopped_most}

-- the ticket word does not overflow
pub ticket_fits : (c : CoreState) (at_word ticket : ℕ) → IsCore c → at_word ≡ 2 * image_words c.geometry.capacity
    → ticket ≡ get_or c.words.items at_word ticket → ticket < 9223372036854775808
ticket_fits c at_word ticket core here is =
    let k = core.keeps in let cap = k.capacity in let l = k.sound.long in
    let now : get_or c.words.items (2 * image_words core.setup.capacity) 0 ≡ ticket =
    ap (λ n. get_or c.words.items n 0) (let e : 2 * image_words core.setup.capacity ≡ at_word = omega arith in e)
    ∙ entry_is c.words.items at_word 0 ticket (omega arith) ∙ sym is in
    let s = k.sound.good.adds.stopped in let m = stopped_most core.views in let few = k.few in let low = k.low in omega arith

-- the ticket word has the count of draws, and a draw writes the next
module _ (c : CoreState) (k : Setup) (views : List View) (keeps : KeepsViews c k views) (at_word ticket : ℕ)
    (here : at_word ≡ 2 * image_words c.geometry.capacity) (is : ticket ≡ get_or c.words.items at_word ticket) where
  index : 2 * image_words k.capacity ≡ at_word
  index = let g = keeps.capacity in omega arith

  pub drawn_is : (memory_in c k).drawn ≡ ticket
  drawn_is = ap (λ n. get_or c.words.items n 0) index ∙ entry_is c.words.items at_word 0 ticket (let l = keeps.sound.long in
      let g = keeps.capacity in omega arith) ∙ sym is

  pub drawn_more : set c.words.items at_word (ticket + 1) ≡ set c.words.items (2 * image_words k.capacity) ((memory_in c k).drawn + 1)
  drawn_more = ap₂ (λ n x. set c.words.items n (x + 1)) (sym index) (sym drawn_is)

module _ (c : CoreState) (k : Setup) (views : List View) (i : ℕ) (v : View) (t : SeatNotes) (keeps : KeepsViews c k views)
    (below : i < length views) (at : get_or views i v ≡ v)
    (at_t : IsSeatAt c i t) (going : v.stopped ≡ None) where
  kept : IsKept c i t v
  kept = keeps.each i t v below at_t at

  good : Good k (memory_in c k) views
  good = keeps.sound.good

  cap : v.setup.capacity ≡ k.capacity
  cap = ap (λ (s : Setup). s.capacity) (good.set_up i v below at).setup

  notes_of : (ticket : Option ℕ) → HasNotes (record t { ticket = ticket }) (record v { ticket = ticket })
  notes_of ticket = let n = kept.notes in record {
    ticket = refl;
    stopped = n.stopped;
    seen_used = n.seen_used;
    seen_head = n.seen_head;
    seen_link = n.seen_link;
    seen_anchor = n.seen_anchor;
  }

  pub load : IsThere v.ticket → (word : ℕ) → IsOwn v (cell_at v.setup.capacity word)
      → Steps c (record c { seats = with_item c.seats i (record t { ticket = None }) }) k views i v (Load word) Done
  load ticket word own = step_noted c k views i v t (record t { ticket = None }) c.words (Load word) keeps below at at_t going ticket own tt going
      (sym (put_back k.capacity c.words.items (volatile_at (cell_at v.setup.capacity word))
      (in_table k (memory_in c k) views i v below at good (Load word) (may_step (memory_in c k) v (Load word) going ticket own))))
      (let n = kept.notes in record {
        ticket = refl;
        stopped = n.stopped;
        seen_used = n.seen_used;
        seen_head = n.seen_head;
        seen_link = n.seen_link;
        seen_anchor = n.seen_anchor;
      }) refl refl refl

  own_index : (word : ℕ) → IsOwn v (cell_at v.setup.capacity word) → index_of (cell_at v.setup.capacity word) ≡ word
  own_index word own = index_at v.setup.capacity word (subst (λ n. is_cell n (cell_at v.setup.capacity word) ≡ true) (sym cap)
      (own_cell k (memory_in c k) views i v below at good word own))

  pub own_below : (word : ℕ) → IsOwn v (cell_at v.setup.capacity word) → word < image_words c.geometry.capacity
  own_below word own = let w = index_within k.capacity (cell_at v.setup.capacity word)
      (own_cell k (memory_in c k) views i v below at good word own) in let e = own_index word own in let g = keeps.capacity in omega arith

  pub settle : (word at_word found : ℕ) → IsOwn v (cell_at v.setup.capacity word) → at_word ≡ image_words c.geometry.capacity + word
      → found ≡ get_or c.words.items word found
      → Steps c (record c { words = with_item c.words at_word found }) k views i v (Settle word) Done
  settle word at_word found own here is = step_done c (record c { words = with_item c.words at_word found }) k views i v t t
      (Settle word) keeps below at at_t going tt own tt going
      (ap₂ (λ n x. set c.words.items n x) (let e = own_index word own in let g = keeps.capacity in omega arith) found_is)
      (sym (ap (set c.seats.items i) (sym at_t.at) ∙ set-get_or c.seats.items i t))
      (record { capacity = refl; budget = refl; carriers = refl; blocks = refl; superblocks = refl; roots = refl })
      (record {
        notes = (let n = kept.notes in record {
          ticket = n.ticket;
          stopped = n.stopped;
          seen_used = n.seen_used;
          seen_head = n.seen_head;
          seen_link = n.seen_link;
          seen_anchor = n.seen_anchor;
        });
        caches = kept.caches;
        batch = kept.batch;
        blocks = kept.blocks;
        superblocks = kept.superblocks;
        roots = kept.roots;
      })
      (λ j s u other most h. record {
        notes = h.notes;
        caches = h.caches;
        batch = h.batch;
        blocks = h.blocks;
        superblocks = h.superblocks;
        roots = h.roots;
      }) where
        found_is : found ≡ (memory_in c k).volatile (cell_at v.setup.capacity word)
        found_is = is ∙ entry_is c.words.items word found 0 (let l = keeps.sound.long in let b = own_below word own in let g = keeps.capacity in
            omega arith)
            ∙ ap (λ n. get_or c.words.items n 0) (sym (own_index word own))
            ∙ sym (read_is k.capacity c.words.items (volatile_at (cell_at v.setup.capacity word))
            (own_cell k (memory_in c k) views i v below at good word own))

  module _ (at_word ticket : ℕ) (here : at_word ≡ 2 * image_words c.geometry.capacity) (is : ticket ≡ get_or c.words.items at_word ticket) where
    found : (memory_in c k).drawn ≡ ticket
    found = drawn_is c k views keeps at_word ticket here is

    budget_is : v.setup.budget ≡ c.budget
    budget_is = ap (λ (s : Setup). s.budget) (good.set_up i v below at).setup ∙ keeps.budget

    pub draw : ticket < c.budget → Steps c (record c {
      words = with_item c.words at_word (ticket + 1);
      seats = with_item c.seats i (record t { ticket = Some ticket });
    }) k views i v (Tick None) Done
    draw less = step_noted c k views i v t (record t { ticket = Some ticket }) (with_item c.words at_word (ticket + 1))
        (Tick None) keeps below at at_t going tt tt tt
        (ap (λ (y : View). y.stopped) drawn ∙ going) (drawn_more c k views keeps at_word ticket here is)
        (subst (HasNotes (record t { ticket = Some ticket })) (sym drawn) (let n = kept.notes in
        record {
          ticket = ap Some found;
          stopped = n.stopped;
          seen_used = n.seen_used;
          seen_head = n.seen_head;
          seen_link = n.seen_link;
          seen_anchor = n.seen_anchor;
        }))
        refl refl (ap parts drawn) where
          drawn : seat_after (memory_in c k) v (Tick None) ≡ drew v (memory_in c k).drawn
          drawn = pick (nat_lt (memory_in c k).drawn v.setup.budget) (drew v (memory_in c k).drawn) (stopped v (memory_in c k).drawn)
              (lt-ltb (memory_in c k).drawn v.setup.budget (let f = found in let b = budget_is in omega arith))

    pub stop : c.budget ≤ ticket → Steps c (record c {
      words = with_item c.words at_word (ticket + 1);
      seats = with_item c.seats i (record t { ticket = None; stopped = Some ticket });
    }) k views i v (Tick None) (Stopped ticket)
    stop past = steps_stopped ticket (record { may = may_step (memory_in c k) v (Tick None) going tt tt; as_seen = tt })
        (ap (λ (y : View). y.stopped) at_end ∙ ap Some found)
        (stands_after c c' k views i v t t' (Tick None) keeps below at at_t (may_step (memory_in c k) v (Tick None) going tt tt)
        (drawn_more c k views keeps at_word ticket here is) refl
        (record { capacity = refl; budget = refl; carriers = refl; blocks = refl; superblocks = refl; roots = refl })
        (subst (IsKept c' i t') (sym at_end) (record {
          notes = (let n = kept.notes in record {
            ticket = refl;
            stopped = ap Some found;
            seen_used = n.seen_used;
            seen_head = n.seen_head;
            seen_link = n.seen_link;
            seen_anchor = n.seen_anchor;
          });
          caches = kept.caches;
          batch = kept.batch;
          blocks = kept.blocks;
          superblocks = kept.superblocks;
          roots = kept.roots;
        }))
        (λ j s u other most h. record {
          notes = h.notes;
          caches = h.caches;
          batch = h.batch;
          blocks = h.blocks;
          superblocks = h.superblocks;
          roots = h.roots;
        })) where
          t' : SeatNotes
          t' = record t { ticket = None; stopped = Some ticket }

          c' : CoreState
          c' = record c { words = with_item c.words at_word (ticket + 1); seats = with_item c.seats i t' }

          at_end : seat_after (memory_in c k) v (Tick None) ≡ stopped v (memory_in c k).drawn
          at_end = skip (nat_lt (memory_in c k).drawn v.setup.budget) (drew v (memory_in c k).drawn) (stopped v (memory_in c k).drawn)
              (not-lt (memory_in c k).drawn v.setup.budget (let f = found in let b = budget_is in omega arith))
