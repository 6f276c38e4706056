-- What a draw leaves of a seat that may have stopped before.
use Rattle.std.proofs.Common.{◌≡◌, ◌<◌, ◌≤◌, ℕ, inl, inr, Option, None, Some, Result, Ok, Err, OnOk, IfErr, refl, ap, sym, subst, ◌∙◌, arith}
use Rattle.std.specs.Bool.{⊤}
use Rattle.core_model.specs.declared.event.Event.TheVariants.{Tick}
use Rattle.core_model.specs.declared.event.Shift.{Shift}
use Rattle.core_model.specs.declared.event.Shift.TheVariants.{Alloc, Cut, Free, Large, Lift, Split}
use Rattle.core_model.specs.Effects.{drew, stopped}
use Rattle.core_model.specs.ViewAfter.{shifted}
use Rattle.core_model.specs.Memory.{Memory, memory_of}
use Rattle.core_model.specs.View.{View}
use Rattle.line_memory.specs.declared.memory.Stopped.{Stopped}
use Rattle.heap_rule.specs.Fences.{Owns, SettlesEarly, a_store, is_own, no_store, not_own}
use Rattle.heap_table.specs.Plays.{HasSoundState, IsEvent}
use Rattle.heap_rule.specs.Seated.{SeatView, TellsDraw}
use Rattle.heap_rule.proofs.WordsLeftLemmas.{draw_done, draw_stops}
use Rattle.heap_rule.proofs.TicketLemmas.{rises}
use Rattle.heap_rule.proofs.ToldLemmas.{drawn_told, stop_told}
use Rattle.seat_costs.specs.Draws.{Settles}
use Rattle.seat_costs.specs.Costs.{one_draw}
use Rattle.seat_costs.specs.Rows.{HasDrawn, SameLooks, Stops, ViewRow, after_ticket, next_of}
use Rattle.seat_costs.specs.Words.{KeepsWord}
use Rattle.seat_costs.proofs.AlikeLemmas.{drew_row, holding, row_as, row_words}
use Rattle.seat_costs.proofs.RowLemmas.{not_both, view_row_none, view_row_within}
use Rattle.seat_costs.proofs.WordLemmas.{owns_held, settled_word, word_same}

-- a draw by chance settles one word at most
pub by_chance : (r : ℕ) (v early : SeatView) → SettlesEarly r v early → Settles v.view early.view
by_chance r v early (no_store none same) = inl (ap (λ (s : SeatView). s.view) same)
by_chance r v early (a_store word at (is_own own found event) keeps) = inr (word, own, (found, event))
by_chance r v early (a_store word at (not_own other same) keeps) = inl same

-- chance changes what is recorded alone
module _ (v early : View) (settles : Settles v early) where
  pub early_rest : early ≡ record v { volatile = early.volatile; durable = early.durable }
  early_rest = elim settles [
    | inl same ↦ subst (λ u. u ≡ record v { volatile = u.volatile; durable = u.durable }) (sym same) refl
    | inr settled ↦ subst (λ u. u ≡ record v { volatile = u.volatile; durable = u.durable }) (sym settled.2.1.after) refl
  ]

  pub early_words : (k : ℕ) → Owns v k → KeepsWord v early k
  early_words k own = elim settles as (λ _. KeepsWord v early k) [
    | inl same ↦ subst (λ u. KeepsWord v u k) (sym same) (word_same v v k refl refl)
    | inr settled ↦ settled_word v early settled.0 settled.2.0 settled.2.1 k own
  ]

  module _ (shift : Option Shift) (w : View) (found : ℕ) (event : IsEvent (Tick shift) early found w) where
    pub early_later : next_of v ≤ found
    early_later = let same = ap next_of early_rest in let most = rises shift early w found event in omega arith

    stop_is : (step : ℕ) → v.stopped ≡ None → w.stopped ≡ Some step → w ≡ record (stopped v step) { volatile = early.volatile; durable = early.durable }
    stop_is step went stop = draw_stops shift early w found step event (ap (λ (u : View). u.stopped) early_rest ∙ went) stop
        ∙ ap (λ (u : View). stopped u step) early_rest

    pub stop_step : (step : ℕ) → v.stopped ≡ None → w.stopped ≡ Some step → (step ≡ found) × (v.setup.budget ≤ step)
    stop_step step went stop = let told = stop_told shift early w found step event (ap (λ (u : View). u.stopped) early_rest ∙ went) stop in
        let budget = ap (λ (u : View). u.setup.budget) early_rest in
        let past = told.1 in let same = told.0 in (same, omega arith)

    pub stops : (step : ℕ) → v.stopped ≡ None → w.stopped ≡ Some step → Stops step v w
    stops step went stop = let told = stop_step step went stop in record {
      at = stop;
      budget = told.1;
      last = ap (λ (u : View). u.last_ticket) (stop_is step went stop);
      now = λ _. let most = early_later in let same = told.0 in omega arith;
      before = λ ticket had. not_both had went;
    }

    pub row_of_stop : (step : ℕ) → v.stopped ≡ None → w.stopped ≡ Some step → ViewRow one_draw v w
    row_of_stop step went stop = row_words v (drew v step) w (ap holding (stop_is step went stop))
        (λ k held. subst (λ (x : View). KeepsWord (drew v step) x k) (sym (stop_is step went stop))
        (let p = early_words k (owns_held v k held) in record { volatile = p.volatile; durable = p.durable }))
        (drew_row v step (let m = early_later in let s = (stop_step step went stop).0 in omega arith))

    -- a ticket that is in hand, once a word may have been settled
    pub ticket_row : ViewRow one_draw v (record (drew v found) { volatile = early.volatile; durable = early.durable })
    ticket_row = row_words v (drew v found) (record (drew v found) { volatile = early.volatile; durable = early.durable }) refl
        (λ k held. let p = early_words k (owns_held v k held) in record { volatile = p.volatile; durable = p.durable }) (drew_row v found early_later)

    -- a draw that goes on leaves its change
    pub shifted_is : w.stopped ≡ None → w ≡ shifted (memory_of early.setup.capacity event.before.words)
        (record (drew v found) { volatile = early.volatile; durable = early.durable }) shift
    shifted_is going = draw_done shift early w found event going ∙ ap
        (λ (u : View). shifted (memory_of early.setup.capacity event.before.words) (drew u found) shift) early_rest

    pub shift_room : w.stopped ≡ None → v.draws < v.setup.budget
    shift_room going = let told = drawn_told shift early w found event going in let a = told.1 in let b = told.2 in
        let c = ap (λ (u : View). u.setup.budget) early_rest in let d = ap (λ (u : View). u.draws) early_rest in omega arith

    -- whether it goes on or stops, its ticket is a later one
    pub drew_later : v.stopped ≡ None → next_of v < next_of w
    drew_later went = by_stop w.stopped refl where
      last_of : (m : Memory) (u : View) (s : Option Shift) → (shifted m u s).last_ticket ≡ u.last_ticket
      last_of m u None = refl
      last_of m u (Some (Cut d)) = refl
      last_of m u (Some (Alloc class)) = refl
      last_of m u (Some (Free block)) = refl
      last_of m u (Some (Lift class)) = refl
      last_of m u (Some (Large d n)) = refl
      last_of m u (Some (Split block)) = refl

      by_stop : (o : Option ℕ) → w.stopped ≡ o → next_of v < next_of w
      by_stop None going =
          let last : w.last_ticket ≡ Some found = ap (λ (u : View). u.last_ticket) (shifted_is going)
          ∙ last_of (memory_of early.setup.capacity event.before.words)
          (record (drew v found) { volatile = early.volatile; durable = early.durable }) shift in
          let is = ap after_ticket last in let least = early_later in omega arith
      by_stop (Some step) stop =
          let last : w.last_ticket ≡ Some step = ap (λ (u : View). u.last_ticket) (stop_is step went stop) in
          let is = ap after_ticket last in let same = (stop_step step went stop).0 in let least = early_later in omega arith

    -- it loses no exchange
    pub lost_none : v.stopped ≡ None → w.losses ≡ v.losses
    lost_none went = by_stop w.stopped refl where
      losses_of : (m : Memory) (u : View) (s : Option Shift) → (shifted m u s).losses ≡ u.losses
      losses_of m u None = refl
      losses_of m u (Some (Cut d)) = refl
      losses_of m u (Some (Alloc class)) = refl
      losses_of m u (Some (Free block)) = refl
      losses_of m u (Some (Lift class)) = refl
      losses_of m u (Some (Large d n)) = refl
      losses_of m u (Some (Split block)) = refl

      by_stop : (o : Option ℕ) → w.stopped ≡ o → w.losses ≡ v.losses
      by_stop None going = ap (λ (u : View). u.losses) (shifted_is going)
          ∙ losses_of (memory_of early.setup.capacity event.before.words)
          (record (drew v found) { volatile = early.volatile; durable = early.durable }) shift
      by_stop (Some step) stop = ap (λ (u : View). u.losses) (stop_is step went stop)

  module _ (w : View) (found : ℕ) (event : IsEvent (Tick None) early found w) where
    drawn_is : w.stopped ≡ None → w ≡ record (drew v found) { volatile = early.volatile; durable = early.durable }
    drawn_is going = draw_done None early w found event going ∙ ap (λ (u : View). drew u found) early_rest

    pub drawn : v.stopped ≡ None → w.stopped ≡ None → HasDrawn v w
    drawn went going = record {
      went = went;
      ticket = found;
      left = subst (λ u. u ≡ record (drew v found) { volatile = u.volatile; durable = u.durable }) (sym (drawn_is going)) refl;
      words = λ k own. subst (λ u. KeepsWord v u k) (sym (drawn_is going)) (let p = early_words k own in
          record { volatile = p.volatile; durable = p.durable });
      later = early_later None w found event;
      room = let told = drawn_told None early w found event going in let a = told.1 in let b = told.2 in
          let c = ap (λ (u : View). u.setup.budget) early_rest in let d = ap (λ (u : View). u.draws) early_rest in omega arith;
    }

    row_of_drawn : w.stopped ≡ None → ViewRow one_draw v w
    row_of_drawn going = row_as v (record (drew v found) { volatile = early.volatile; durable = early.durable }) w (drawn_is going)
        (ticket_row None w found event)

    pub row_of_draw : v.stopped ≡ None → ViewRow one_draw v w
    row_of_draw went = by_stop w.stopped refl where
      by_stop : (o : Option ℕ) → w.stopped ≡ o → ViewRow one_draw v w
      by_stop None going = row_of_drawn going
      by_stop (Some step) stop = row_of_stop None w found event step went stop

    pub looks_of_draw : v.stopped ≡ None → SameLooks v w
    looks_of_draw went = by_stop w.stopped refl where
      by_stop : (o : Option ℕ) → w.stopped ≡ o → SameLooks v w
      by_stop None going = record { used = ap (λ (u : View). u.used_look) (drawn_is going); heads = ap (λ (u : View). u.head_looks) (drawn_is going) }
      by_stop (Some step) stop = let is = stop_is None w found event step went stop in
          record { used = ap (λ (u : View). u.used_look) is; heads = ap (λ (u : View). u.head_looks) is }

-- the clauses of a draw, by what the seat was
module _ (shift : Option Shift) (v w : View) (event : v.stopped ≡ None → (early : View) × Settles v early × (found : ℕ)
    × IsEvent (Tick shift) early found w) (idle : (step : ℕ) → v.stopped ≡ Some step → w ≡ v) where
  pub was_going : w.stopped ≡ None → v.stopped ≡ None
  was_going going = by_stop v.stopped refl where
    by_stop : (o : Option ℕ) → v.stopped ≡ o → v.stopped ≡ None
    by_stop None none = none
    by_stop (Some step) stop = not_both (ap (λ (x : View). x.stopped) (idle step stop) ∙ stop) going

  pub told_stop : HasSoundState v → (step : ℕ) → w.stopped ≡ Some step → Stops step v w
  told_stop has step stop = by_stop v.stopped refl where
    by_stop : (o : Option ℕ) → v.stopped ≡ o → Stops step v w
    by_stop None went = let e = event went in stops v e.0 e.1 shift w e.2 e.3 step went stop
    by_stop (Some before) had =
        let same = idle before had in
        let at : v.stopped ≡ Some step = sym (ap (λ (x : View). x.stopped) same) ∙ stop in
        let of = (has.sound.good.tickets has.seat v has.below has.at).state.stopping step at in record {
          at = stop;
          budget = of.0;
          last = ap (λ (x : View). x.last_ticket) same ∙ of.1;
          now = λ none. not_both at none;
          before = λ ticket at. same;
        }

  pub told_stopped : (result : Result ⊤ Stopped) → TellsDraw w result → HasSoundState v → IfErr result (λ e. Stops e.step v w)
  told_stopped (Ok x) told has = tt
  told_stopped (Err e) told has = told_stop has e.step told

  pub told_losses : w.losses ≡ v.losses
  told_losses = by_stop v.stopped refl where
    by_stop : (o : Option ℕ) → v.stopped ≡ o → w.losses ≡ v.losses
    by_stop None went = let e = event went in lost_none v e.0 e.1 shift w e.2 e.3 went
    by_stop (Some before) had = ap (λ (x : View). x.losses) (idle before had)

-- one with no change
module _ (v w : View) (event : v.stopped ≡ None → (early : View) × Settles v early × (found : ℕ) × IsEvent (Tick None) early found w)
    (idle : (step : ℕ) → v.stopped ≡ Some step → w ≡ v) where
  pub told_drawn : (result : Result ⊤ Stopped) → TellsDraw w result → OnOk result (HasDrawn v w)
  told_drawn (Ok x) going = let went = was_going None v w event idle going in let e = event went in drawn v e.0 e.1 w e.2 e.3 went going
  told_drawn (Err e) told = tt

  pub told_row : ViewRow one_draw v w
  told_row = by_stop v.stopped refl where
    by_stop : (o : Option ℕ) → v.stopped ≡ o → ViewRow one_draw v w
    by_stop None went = let e = event went in row_of_draw v e.0 e.1 w e.2 e.3 went
    by_stop (Some before) had = subst (ViewRow one_draw v) (sym (idle before had))
        (view_row_within one_draw v v (record {
          draws = omega arith;
          wins = omega arith;
          gives = omega arith;
          cuts = omega arith;
          taken = omega arith;
          moves = omega arith;
        }) (view_row_none v))

  pub told_looks : SameLooks v w
  told_looks = by_stop v.stopped refl where
    by_stop : (o : Option ℕ) → v.stopped ≡ o → SameLooks v w
    by_stop None went = let e = event went in looks_of_draw v e.0 e.1 w e.2 e.3 went
    by_stop (Some before) had = subst (SameLooks v) (sym (idle before had)) (record { used = refl; heads = refl })
