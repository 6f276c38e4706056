-- What a step of the core owes, so that it stands for the state after the step.
use Rattle.std.proofs.Common.{◌≡◌, ◌≢◌, ℕ, ◌<◌, ◌≤◌, inl, inr, List, get_or, set, length, None, refl, ap, sym, subst, ◌∙◌, length-set, arith}
use Rattle.std.specs.Prelude.{Vec}
use Rattle.std.specs.declared.alloc.Global.{Global}
use Rattle.std.specs.Vec.{with_item}
use Rattle.std.proofs.lemmas.Bool.{cases_eq}
use Rattle.std.proofs.lemmas.List.{get_or-set_same, get_or-set_other}
use Rattle.core_model.specs.declared.answer.StepAnswer.TheVariants.{Done, NotNow}
use Rattle.core_model.specs.declared.event.Event.{Event}
use Rattle.seat_state.specs.declared.notes.SeatNotes.{SeatNotes}
use Rattle.crash_core.specs.declared.state.CoreState.{CoreState}
use Rattle.heap_model.specs.Counting.{total}
use Rattle.core_model.specs.Memory.{Memory, memory_of}
use Rattle.core_model.specs.View.{Setup, View, one_if_some}
use Rattle.core_model.proofs.TotalLemmas.{total_at}
use Rattle.seat_state.specs.declared.notes.TheConstants.{NEW_SEAT}
use Rattle.core_model.specs.Guards.{IsAsSeen, IsReadyFor, HasTicketFor, MayStep}
use Rattle.core_model.specs.Sound.{Sound}
use Rattle.core_model.specs.Steps.{words_after, seat_after, state_after}
use Rattle.seat_state.specs.Notes.{HasNotes, HasCaches, HasBatch}
use Rattle.crash_core.specs.Standing.{IsAmong, IsSeatAt, HasBlocksOf, HasRoots, IsKept, KeepsViews, HasNothing, KeepsState, nobody, state_of, Steps, steps_done, steps_not}
use Rattle.seat_state.specs.Superblocks.{HasSuperblocks}
use Rattle.core_model.proofs.EventStepLemmas.{Parts, parts}
use Rattle.core_model.proofs.SoundLemmas.{sound_step}

abbrev pub memory_in : CoreState → Setup → Memory
memory_in c k = memory_of k.capacity c.words.items

-- a seat is among the views
pub among : {c : CoreState} {k : Setup} {views : List View} {i : ℕ} → KeepsViews c k views → i < length c.seats.items → i < length views
among keeps less = let n = keeps.seats in omega arith

-- a seat has the notes that are found there
pub seat_is : {c : CoreState} {i : ℕ} {t : SeatNotes} → i < length c.seats.items → get_or c.seats.items i t ≡ t → IsSeatAt c i t
seat_is less at = record { less = less; at = at }

-- what is in one of the views is counted among all
pub among_most : (f : View → ℕ) (views : List View) (j : ℕ) (u : View) → IsAmong views j u → (HasNothing u → f u ≡ 0) → f u ≤ total f views
among_most f views j u (inl there) none = total_at f views j u there.0 there.1
among_most f views j u (inr nothing) none = let z = none nothing in omega arith

-- what stays but for words, seats and owners
pub record IsSameHeap (c c' : CoreState) : Type 0 where
  pub capacity : c'.geometry.capacity ≡ c.geometry.capacity
  pub budget : c'.budget ≡ c.budget
  pub carriers : c'.carriers ≡ c.carriers
  pub blocks : length c'.blocks.items ≡ length c.blocks.items
  pub superblocks : length c'.superblocks.items ≡ length c.superblocks.items
  pub roots : c'.roots.items ≡ c.roots.items

pub stands_after : (c c' : CoreState) (k : Setup) (views : List View) (i : ℕ) (v : View) (t t' : SeatNotes) (event : Event)
    → KeepsViews c k views → i < length views → get_or views i v ≡ v
    → IsSeatAt c i t → MayStep (memory_in c k) v event
    → c'.words.items ≡ words_after k c.words.items v event → c'.seats.items ≡ set c.seats.items i t' → IsSameHeap c c'
    → IsKept c' i t' (seat_after (memory_in c k) v event)
    → ((j : ℕ) (s : SeatNotes) (u : View) → j ≢ i → IsAmong views j u → IsKept c j s u → IsKept c' j s u)
    → KeepsState c' k (state_after k (state_of c views) i v event)
stands_after c c' k views i v t t' event keeps below at at_t may words seats same mine others = record {
  words = words;
  keeps = record {
    sound = subst (λ ws. Sound k ws (set views i w)) (sym words) (sound_step k c.words.items views i v event below at keeps.sound may);
    capacity = keeps.capacity ∙ sym same.capacity;
    budget = keeps.budget ∙ sym same.budget;
    opened = keeps.opened ∙ sym same_seats;
    low = keeps.low;
    few = subst (λ n. n < 4611686018427387904) (sym (length-set views i w)) keeps.few;
    seats = (let l = length-set views i w in let n = keeps.seats in let s = same_seats in let m = same.carriers in omega arith);
    blocks = same.blocks ∙ keeps.blocks;
    superblocks = same.superblocks ∙ keeps.superblocks;
    roots = ap length same.roots ∙ keeps.roots;
    each = λ j s u below_j at_s at_u. elim (cases_eq j i) [
      | inl here ↦
          let at_w : w ≡ u = sym (get_or-set_same views i w u below) ∙ subst (λ n. get_or (set views i w) n u ≡ u) here at_u in
          let at_t' : t' ≡ s = sym (get_or-set_same c.seats.items i t' s at_t.less)
          ∙ subst (λ n. get_or (set c.seats.items i t') n s ≡ s) here (subst (λ l. get_or l j s ≡ s) seats at_s.at) in
          subst (λ n. IsKept c' n s u) (sym here) (subst (λ x. IsKept c' i x u) at_t' (subst (λ x. IsKept c' i t' x) at_w mine))
      | inr other ↦
          let less : j < length views = subst (λ n. j < n) (length-set views i w) below_j in
          let at_old : get_or views j u ≡ u = sym (get_or-set_other views i j w u other) ∙ at_u in
          others j s u other (inl (less, at_old)) (keeps.each j s u less
          (record {
            less = subst (λ n. j < n) same_seats at_s.less;
            at = sym (get_or-set_other c.seats.items i j t' s other)
                ∙ subst (λ l. get_or l j s ≡ s) seats at_s.at;
          }) at_old)
    ];
    carried = λ j u past below_j at_u.
        let other : j ≢ i = (λ same_j. let p = past in let n = same_seats in let l = at_t.less in omega arith) in
        let less : j < length views = subst (λ n. j < n) (length-set views i w) below_j in
        let at_old : get_or views j u ≡ u = sym (get_or-set_other views i j w u other) ∙ at_u in
        others j NEW_SEAT u other (inl (less, at_old)) (keeps.carried j u (subst (λ n. n ≤ j) same_seats past) less at_old);
    none = λ j past.
        let far : length views ≤ j = subst (λ n. n ≤ j) (length-set views i w) past in
        others j NEW_SEAT (nobody k) (λ same_j. omega (arith, same_j, far, below)) (inr has_nothing) (keeps.none j far);
  };
} where
  w : View
  w = seat_after (memory_in c k) v event

  same_seats : length c'.seats.items ≡ length c.seats.items
  same_seats = ap length seats ∙ length-set c.seats.items i t'

  has_nothing : HasNothing (nobody k)
  has_nothing = record { blocks = λ b. refl; superblocks = λ d. (refl, refl, refl) }

-- the seat goes on, and has a ticket where the event needs one
pub may_step : (m : Memory) (v : View) (event : Event) → v.stopped ≡ None → HasTicketFor v event → IsReadyFor m v event → MayStep m v event
may_step m v event going ticket ready = record { going = ap one_if_some going; ticket = ticket; ready = ready }

-- the step is done
pub step_done : (c c' : CoreState) (k : Setup) (views : List View) (i : ℕ) (v : View) (t t' : SeatNotes) (event : Event) → KeepsViews c k views
    → i < length views → get_or views i v ≡ v
    → IsSeatAt c i t → v.stopped ≡ None → HasTicketFor v event → IsReadyFor (memory_in c k) v event → IsAsSeen (memory_in c k) v event
    → (seat_after (memory_in c k) v event).stopped ≡ None
    → c'.words.items ≡ words_after k c.words.items v event → c'.seats.items ≡ set c.seats.items i t' → IsSameHeap c c'
    → IsKept c' i t' (seat_after (memory_in c k) v event)
    → ((j : ℕ) (s : SeatNotes) (u : View) → j ≢ i → IsAmong views j u → IsKept c j s u → IsKept c' j s u)
    → Steps c c' k views i v event Done
step_done c c' k views i v t t' event keeps below at at_t going ticket ready seen on words seats same mine others =
    let may = may_step (memory_in c k) v event going ticket ready in
    steps_done (record { may = may; as_seen = seen }) on (stands_after c c' k views i v t t' event keeps below at at_t may words seats same mine others)

-- the step may not be taken
pub step_not : (c : CoreState) (k : Setup) (views : List View) (i : ℕ) (v : View) (event : Event)
    → (IsReadyFor (memory_in c k) v event → IsAsSeen (memory_in c k) v event → ⊥) → Steps c c k views i v event NotNow
step_not c k views i v event refused = steps_not (λ may. refused may.may.ready may.as_seen) refl

-- a step that changes words, tickets and snapshots alone
pub step_noted : (c : CoreState) (k : Setup) (views : List View) (i : ℕ) (v : View) (t t' : SeatNotes) (words : Vec ℕ Global) (event : Event)
    → KeepsViews c k views → i < length views → get_or views i v ≡ v
    → IsSeatAt c i t → v.stopped ≡ None → HasTicketFor v event → IsReadyFor (memory_in c k) v event → IsAsSeen (memory_in c k) v event
    → (seat_after (memory_in c k) v event).stopped ≡ None
    → words.items ≡ words_after k c.words.items v event
    → HasNotes t' (seat_after (memory_in c k) v event) → t'.caches ≡ t.caches → t'.batch ≡ t.batch
    → parts (seat_after (memory_in c k) v event) ≡ parts v
    → Steps c (record c { words = words; seats = with_item c.seats i t' }) k views i v event Done
step_noted c k views i v t t' words event keeps below at at_t going ticket ready seen on words_are notes caches batch same =
    step_done c (record c { words = words; seats = with_item c.seats i t' })
    k views i v t t' event keeps below at at_t going ticket ready seen on words_are refl
    (record { capacity = refl; budget = refl; carriers = refl; blocks = refl; superblocks = refl; roots = refl })
    (let old = keeps.each i t v below at_t at in record {
      notes = notes;
      caches = subst (λ l. HasCaches l (seat_after (memory_in c k) v event).caches) (sym caches)
          (subst (λ (p : Parts). HasCaches t.caches p.caches) (sym same) old.caches);
      batch = subst (λ b. HasBatch b (seat_after (memory_in c k) v event).batch) (sym batch)
          (subst (λ (p : Parts). HasBatch t.batch p.batch) (sym same) old.batch);
      blocks = subst (λ (p : Parts). HasBlocksOf c.blocks.items i p.small p.caches p.batch.blocks) (sym same) old.blocks;
      superblocks = subst (λ (p : Parts). HasSuperblocks c.superblocks.items i p.raw p.split p.cutting p.classed p.large) (sym same) old.superblocks;
      roots = subst (λ (p : Parts). HasRoots c.roots.items i p.roots) (sym same) old.roots;
    })
    (λ j s u other most h. record {
      notes = h.notes;
      caches = h.caches;
      batch = h.batch;
      blocks = h.blocks;
      superblocks = h.superblocks;
      roots = h.roots;
    })

-- the capacity of a seat is the core's
pub seat_capacity : (c : CoreState) (k : Setup) (views : List View) (i : ℕ) (v : View) → KeepsViews c k views → i < length views
    → get_or views i v ≡ v → v.setup.capacity ≡ c.geometry.capacity
seat_capacity c k views i v keeps below at = ap (λ (s : Setup). s.capacity) (keeps.sound.good.set_up i v below at).setup ∙ keeps.capacity
