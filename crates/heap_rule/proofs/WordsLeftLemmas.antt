-- What a step leaves of the seat's view.
use Rattle.std.proofs.Common.{◌≡◌, ◌≢◌, ◌≤◌, ◌+◌, ℕ, Bool, true, false, cond, nat_eq, nat_lt, Option, None, Some, Result, Ok, Err, IfErr, ap, sym, subst, ◌∙◌, eq-eqb, arith}
use Rattle.std.specs.Bool.{⊤}
use Rattle.core_model.specs.declared.answer.StepAnswer.TheVariants.{Done, Stopped}
use Rattle.core_model.specs.declared.event.Event.{Event}
use Rattle.core_model.specs.declared.event.Event.TheVariants.{Tick, LookUsed, TakeFresh, Pop, Push, TakeAll, Give}
use Rattle.core_model.specs.declared.event.Shift.{Shift}
use Rattle.core_model.specs.declared.event.Shift.TheVariants.{Cut, Free}
use Rattle.core_model.specs.Effects.{before, drew, given, lost, popped, pushed, seen, seen_word, stopped, taken_all, taken_fresh}
use Rattle.core_model.specs.ViewAfter.{after_free, shifted, view_after}
use Rattle.core_model.specs.Guards.{IsAsSeen}
use Rattle.core_model.specs.Steps.{StepsTo, is_done, stops, seat_after, words_after}
use Rattle.core_model.specs.Memory.{memory_of}
use Rattle.core_model.specs.View.{View, one_if_some}
use Rattle.core_model.proofs.PlaceLemmas.{pick, skip, not-eq}
use Rattle.heap_model.specs.Words.{head_first}
use Rattle.heap_rule.specs.Cuts.{cut_for}
use Rattle.heap_table.specs.Plays.{IsEvent, state_before, state_with}
use Rattle.heap_rule.specs.Seated.{HasLostTo, Tells}
use Rattle.heap_rule.specs.Shown.{CanCut, CanFree}
use Rattle.heap_rule.proofs.ToldLemmas.{parts_alone, stop_told}
use Rattle.heap_rule.proofs.ShiftLemmas.{cut_info, free_info}

-- the view that went on is the one that a ticket below the budget leaves
goes_on : (below : Bool) (v w a b : View) (ticket : ℕ) → w ≡ cond below a (stopped b ticket) → w.stopped ≡ None → w ≡ a
goes_on true v w a b ticket after going = after
goes_on false v w a b ticket after going = absurd (let e = ap one_if_some (sym going ∙ ap (λ (u : View). u.stopped) after) in omega arith)

pub draw_done : (shift : Option Shift) (v w : View) (ticket : ℕ) → (e : IsEvent (Tick shift) v ticket w) → w.stopped ≡ None
    → w ≡ shifted (memory_of v.setup.capacity e.before.words) (drew v ticket) shift
draw_done shift v w ticket e going = goes_on (nat_lt ticket v.setup.budget) v w _ v ticket e.after going

by_budget : (below : Bool) (v w a b : View) (ticket step : ℕ) → w ≡ cond below a (stopped b ticket) → a.stopped ≡ None → w.stopped ≡ Some step
    → w ≡ stopped b ticket
by_budget true v w a b ticket step after none stop = absurd (let e = ap one_if_some (sym stop ∙ ap (λ (u : View). u.stopped) after ∙ none) in
    omega arith)
by_budget false v w a b ticket step after none stop = after

pub draw_stops : (shift : Option Shift) (v w : View) (ticket step : ℕ) → IsEvent (Tick shift) v ticket w → v.stopped ≡ None
    → w.stopped ≡ Some step → w ≡ stopped v step
draw_stops shift v w ticket step e going stop =
    by_budget (nat_lt ticket v.setup.budget) v w _ v ticket step e.after
    ((parts_alone (memory_of v.setup.capacity e.before.words) (drew v ticket) shift).stopped_is ∙ going) stop
    ∙ ap (stopped v) (sym (stop_told shift v w ticket step e going stop).0)

pub draw_cuts : (d : ℕ) (v w : View) (ticket : ℕ) → IsEvent (Tick (Some (Cut d))) v ticket w → w.stopped ≡ None → (can : CanCut v d)
    → w ≡ cut_for can.class (drew v ticket) d
draw_cuts d v w ticket e going can = draw_done (Some (Cut d)) v w ticket e going
    ∙ ap (λ class. cut_for class (drew v ticket) d) (cut_info v e.before d can)

pub draw_frees : (block : ℕ) (v w : View) (ticket : ℕ) → IsEvent (Tick (Some (Free block))) v ticket w → w.stopped ≡ None
    → (can : CanFree v block) → w ≡ after_free (drew v ticket) can.class block
draw_frees block v w ticket e going can = draw_done (Some (Free block)) v w ticket e going
    ∙ ap (λ class. after_free (drew v ticket) class block) (free_info v e.before block can)

-- an exchange that compares equal, and one that does not
won_as : (w a b : View) (found seen : ℕ) → w ≡ cond (nat_eq found seen) a b → found ≡ seen → w ≡ a
won_as w a b found seen after same = after ∙ pick (nat_eq found seen) a b (eq-eqb found seen same)

lost_as : (w a b : View) (found seen : ℕ) → w ≡ cond (nat_eq found seen) a b → found ≢ seen → w ≡ b
lost_as w a b found seen after other = after ∙ skip (nat_eq found seen) a b (not-eq found seen other)

pub fresh_won : (n : ℕ) (v w : View) (found : ℕ) → IsEvent (TakeFresh n) v found w → found ≡ seen v.seen_used → w ≡ taken_fresh v n
fresh_won n v w found e same = won_as w (taken_fresh v n) (record (lost v found) { seen_used = None }) found (seen v.seen_used) e.after same

pub fresh_lost : (n : ℕ) (v w : View) (found : ℕ) → IsEvent (TakeFresh n) v found w → found ≢ seen v.seen_used
    → w ≡ record (lost v found) { seen_used = None }
fresh_lost n v w found e other = lost_as w (taken_fresh v n) (record (lost v found) { seen_used = None }) found (seen v.seen_used) e.after other

pub pop_won : (v w : View) (found : ℕ) → IsEvent Pop v found w → found ≡ seen_word v.seen_head
    → w ≡ popped v (before (head_first (seen_word v.seen_head)))
pop_won v w found e same = won_as w (popped v (before (head_first (seen_word v.seen_head)))) (record (lost v found) { seen_head = None }) found
    (seen_word v.seen_head) e.after same

pub pop_lost : (v w : View) (found : ℕ) → IsEvent Pop v found w → found ≢ seen_word v.seen_head → w ≡ record (lost v found) { seen_head = None }
pop_lost v w found e other = lost_as w (popped v (before (head_first (seen_word v.seen_head))))
    (record (lost v found) { seen_head = None }) found (seen_word v.seen_head) e.after other

pub push_won : (d : ℕ) (v w : View) (found : ℕ) → IsEvent (Push d) v found w → found ≡ seen_word v.seen_head → w ≡ pushed v d
push_won d v w found e same = won_as w (pushed v d) (record (lost v found) { seen_head = None }) found (seen_word v.seen_head) e.after same

pub push_lost : (d : ℕ) (v w : View) (found : ℕ) → IsEvent (Push d) v found w → found ≢ seen_word v.seen_head
    → w ≡ record (lost v found) { seen_head = None }
push_lost d v w found e other = lost_as w (pushed v d) (record (lost v found) { seen_head = None }) found (seen_word v.seen_head) e.after other

pub take_all_won : (d : ℕ) (v w : View) (found : ℕ) → (e : IsEvent (TakeAll d) v found w) → found ≡ seen_word v.seen_anchor
    → w ≡ taken_all (memory_of v.setup.capacity e.before.words) v d
take_all_won d v w found e same = won_as w (taken_all (memory_of v.setup.capacity e.before.words) v d)
    (record (lost v found) { seen_anchor = None }) found (seen_word v.seen_anchor) e.after same

pub take_all_lost : (d : ℕ) (v w : View) (found : ℕ) → IsEvent (TakeAll d) v found w → found ≢ seen_word v.seen_anchor
    → w ≡ record (lost v found) { seen_anchor = None }
take_all_lost d v w found e other = lost_as w (taken_all (memory_of v.setup.capacity e.before.words) v d)
    (record (lost v found) { seen_anchor = None }) found (seen_word v.seen_anchor) e.after other

pub give_won : (d : ℕ) (v w : View) (found : ℕ) → IsEvent (Give d) v found w → found ≡ seen_word v.seen_anchor → w ≡ given v d
give_won d v w found e same = won_as w (given v d) (record (lost v found) { seen_anchor = None }) found (seen_word v.seen_anchor) e.after same

pub give_lost : (d : ℕ) (v w : View) (found : ℕ) → IsEvent (Give d) v found w → found ≢ seen_word v.seen_anchor
    → w ≡ record (lost v found) { seen_anchor = None }
give_lost d v w found e other = lost_as w (given v d) (record (lost v found) { seen_anchor = None }) found (seen_word v.seen_anchor) e.after other

-- an exchange that is lost tells the word that it found, which the view keeps
pub told_lost : (event : Event) (v w a : View) (seen found : ℕ) (result : Result ⊤ ℕ) → IsEvent event v found w → (found ≢ seen → w ≡ a)
    → a.lost_to ≡ found → a.losses ≡ v.losses + 1
    → Tells seen found result → IfErr result (λ word. HasLostTo event seen word v w)
told_lost event v w a seen found (Ok x) e after kept count told = tt
told_lost event v w a seen found (Err word) e after kept count told = record {
  other = λ same. told.1 (sym told.0 ∙ same);
  found_is = (e.before, told.0 ∙ e.found_is);
  lost_to = ap (λ (x : View). x.lost_to) (after told.1) ∙ kept ∙ sym told.0;
  losses = ap (λ (x : View). x.losses) (after told.1) ∙ count;
}

-- a mark that is read is that of a sound state
pub used_within : (v w : View) (found : ℕ) → IsEvent LookUsed v found w → found ≤ v.setup.capacity
used_within v w found e = let room = e.before.sound.good.shaped.durable.room in let is = e.found_is in omega arith

-- the event that a seat's step is, as the core takes it
as_taken : (event : Event) (v w : View) (found : ℕ) → (e : IsEvent event v found w) → seat_after (memory_of v.setup.capacity e.before.words) v event ≡ w
as_taken event v w found e = sym (e.after ∙ ap (view_after (memory_of v.setup.capacity e.before.words) v event) e.found_is)

pub step_done : (event : Event) (v w : View) (found : ℕ) → (e : IsEvent event v found w)
    → IsAsSeen (memory_of v.setup.capacity e.before.words) v event → w.stopped ≡ None
    → StepsTo v.setup (state_before e.before) e.before.seat event Done (state_with e.before (words_after v.setup e.before.words v event) w)
step_done event v w found e seen going = let same = as_taken event v w found e in
    subst (λ u. StepsTo v.setup (state_before e.before) e.before.seat event Done
    (state_with e.before (words_after v.setup e.before.words v event) u)) same
    (is_done v e.before.at (record { may = e.may; as_seen = seen }) (ap (λ (u : View). u.stopped) same ∙ going))

pub step_stops : (event : Event) (v w : View) (found step : ℕ) → (e : IsEvent event v found w)
    → IsAsSeen (memory_of v.setup.capacity e.before.words) v event → w.stopped ≡ Some step
    → StepsTo v.setup (state_before e.before) e.before.seat event (Stopped step) (state_with e.before (words_after v.setup e.before.words v event) w)
step_stops event v w found step e seen stop = let same = as_taken event v w found e in
    subst (λ u. StepsTo v.setup (state_before e.before) e.before.seat event (Stopped step)
    (state_with e.before (words_after v.setup e.before.words v event) u)) same
    (stops v step e.before.at (record { may = e.may; as_seen = seen }) (ap (λ (u : View). u.stopped) same ∙ stop))
