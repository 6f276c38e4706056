-- Draws that change the seat's parts.
use Rattle.std.proofs.Common.{◌≡◌, ℕ, ◌+◌, ◌∷◌, max, set, inl, Option, None, Some, refl, ap, sym, subst, ◌∙◌, arith}
use Rattle.line_memory.specs.Marks.{mark_at}
use Rattle.core_model.specs.declared.event.Event.TheVariants.{Tick}
use Rattle.core_model.specs.declared.event.Shift.{Shift}
use Rattle.core_model.specs.declared.event.Shift.TheVariants.{Alloc, Cut, Free, Large, Lift, Split}
use Rattle.heap_model.specs.Geometry.{superblock_of}
use Rattle.core_model.specs.Effects.{class_blocks, cleared, drew, span_count, without_range}
use Rattle.core_model.specs.ViewAfter.{shifted}
use Rattle.core_model.specs.Memory.{Memory, info, memory_of}
use Rattle.core_model.specs.View.{View}
use Rattle.heap_model.specs.Counting.{without}
use Rattle.heap_table.specs.Plays.{IsEvent}
use Rattle.heap_rule.specs.Seated.{KeepsStores, SeatView}
use Rattle.seat_costs.specs.Costs.{one_draw, shift_costs}
use Rattle.seat_costs.specs.Draws.{Settles}
use Rattle.seat_costs.specs.Rows.{HoldingRow, IsHeldBoth, Passes, ViewRow}
use Rattle.seat_costs.specs.Words.{KeepsWord}
use Rattle.seat_costs.proofs.AlikeLemmas.{cut_row, passes_alike, raised_row, row_alike, row_as, then_none, trimmed_row}
use Rattle.seat_costs.proofs.DrawLemmas.{row_of_stop, shifted_is, ticket_row}
use Rattle.seat_costs.proofs.RowLemmas.{row_holding, row_of, view_row_none, view_row_then, view_row_within}
use Rattle.seat_costs.proofs.WordLemmas.{owns_held, trimmed_word, word_then}

-- from the view with the ticket in hand
module _ (m : Memory) (v u : View) (row : ViewRow one_draw v u) where
  shift_passes : (shift : Shift) → Passes (shift_costs shift) v (shifted m u (Some shift))
  shift_passes (Cut d) = passes_alike v (record u { cuts = u.cuts + 1 }) (shifted m u (Some (Cut d))) refl
      (view_row_then v u (record u { cuts = u.cuts + 1 }) row (cut_row u)).passes
  shift_passes (Alloc class) = passes_alike v u (shifted m u (Some (Alloc class))) refl row.passes
  shift_passes (Free block) = passes_alike v u (shifted m u (Some (Free block))) refl row.passes
  shift_passes (Lift class) = passes_alike v u (shifted m u (Some (Lift class))) refl row.passes
  shift_passes (Large d n) = passes_alike v u (shifted m u (Some (Large d n))) refl row.passes
  shift_passes (Split block) = let d = superblock_of u.setup.capacity block in let floor = max u.floor (d + span_count d u.large) in
      passes_alike v (record u { floor = floor }) (shifted m u (Some (Split block))) refl
      (then_none v u (record u { floor = floor }) row (raised_row u floor (omega arith))).passes

  shift_words : (shift : Shift) (k : ℕ) → IsHeldBoth v (shifted m u (Some shift)) k → KeepsWord v (shifted m u (Some shift)) k
  shift_words (Cut d) k both = let x : View = record u {
    caches = set u.caches (info m d) (class_blocks u.setup.capacity (info m d) d);
    cutting = without d u.cutting;
    seen_anchor = cleared d 1 u.seen_anchor;
    cuts = u.cuts + 1;
  } in
      word_then v u (shifted m u (Some (Cut d))) k (row.words k both.0) (let p = trimmed_word x k (owns_held x k both.1) in
      record { volatile = p.volatile; durable = p.durable })
  shift_words (Alloc class) k both = let p = row.words k both.0 in record { volatile = p.volatile; durable = p.durable }
  shift_words (Free block) k both = let p = row.words k both.0 in record { volatile = p.volatile; durable = p.durable }
  shift_words (Lift class) k both = let p = row.words k both.0 in record { volatile = p.volatile; durable = p.durable }
  shift_words (Large d n) k both = let x : View = record u {
    large = record { first = d; count = n } ∷ u.large;
    raw = without_range d n u.raw;
    split = without_range d n u.split;
    seen_anchor = cleared d n u.seen_anchor;
  } in
      word_then v u (shifted m u (Some (Large d n))) k (row.words k both.0) (let p = trimmed_word x k (owns_held x k both.1) in
      record { volatile = p.volatile; durable = p.durable })
  shift_words (Split block) k both = let p = row.words k both.0 in record { volatile = p.volatile; durable = p.durable }

  -- those that change no held block
  cut_shift : (d : ℕ) → ViewRow (record one_draw { cuts = 1 }) v (shifted m u (Some (Cut d)))
  cut_shift d = let y : View = record u { cuts = u.cuts + 1 } in
      let x : View = record u {
        caches = set u.caches (info m d) (class_blocks u.setup.capacity (info m d) d);
        cutting = without d u.cutting;
        seen_anchor = cleared d 1 u.seen_anchor;
        cuts = u.cuts + 1;
      } in
      trimmed_row v x (row_alike v y x refl (view_row_then v u y row (cut_row u)))

  lift_shift : (class : ℕ) → ViewRow one_draw v (shifted m u (Some (Lift class)))
  lift_shift class = row_alike v u (shifted m u (Some (Lift class))) refl row

module _ (v early : View) (settles : Settles v early) (went : v.stopped ≡ None) (w : View) (found : ℕ) where
  abbrev ticket_view : View
  ticket_view = record (drew v found) { volatile = early.volatile; durable = early.durable }

  pub cut_draw_row : (d : ℕ) → IsEvent (Tick (Some (Cut d))) early found w → ViewRow (record one_draw { cuts = 1 }) v w
  cut_draw_row d e = by_stop w.stopped refl where
    by_stop : (o : Option ℕ) → w.stopped ≡ o → ViewRow (record one_draw { cuts = 1 }) v w
    by_stop None going = row_as v _ w (shifted_is v early settles (Some (Cut d)) w found e going)
        (cut_shift (memory_of early.setup.capacity e.before.words) v ticket_view (ticket_row v early settles (Some (Cut d)) w found e) d)
    by_stop (Some step) stop = view_row_within (record one_draw { cuts = 1 }) v w
        (record { draws = omega arith; wins = omega arith; gives = omega arith; cuts = omega arith; taken = omega arith; moves = omega arith })
        (row_of_stop v early settles (Some (Cut d)) w found e step went stop)

  pub lift_draw_row : (class : ℕ) → IsEvent (Tick (Some (Lift class))) early found w → ViewRow one_draw v w
  lift_draw_row class e = by_stop w.stopped refl where
    by_stop : (o : Option ℕ) → w.stopped ≡ o → ViewRow one_draw v w
    by_stop None going = row_as v _ w (shifted_is v early settles (Some (Lift class)) w found e going)
        (lift_shift (memory_of early.setup.capacity e.before.words) v ticket_view (ticket_row v early settles (Some (Lift class)) w found e) class)
    by_stop (Some step) stop = row_of_stop v early settles (Some (Lift class)) w found e step went stop

shift_within : (shift : Shift) (v w : View) → ViewRow one_draw v w → ViewRow (shift_costs shift) v w
shift_within (Cut d) v w row = view_row_within (record one_draw { cuts = 1 }) v w
    (record { draws = omega arith; wins = omega arith; gives = omega arith; cuts = omega arith; taken = omega arith; moves = omega arith }) row
shift_within (Alloc class) v w row = row
shift_within (Free block) v w row = row
shift_within (Lift class) v w row = row
shift_within (Large d n) v w row = row
shift_within (Split block) v w row = row

-- a draw with any change
module _ (v w : SeatView) (stores : KeepsStores v w) (early : View) (settles : Settles v.view early) (went : v.view.stopped ≡ None) (found : ℕ)
    (shift : Shift) (e : IsEvent (Tick (Some shift)) early found w.view) where
  pub shift_row : HoldingRow (shift_costs shift) v w
  shift_row = by_stop w.view.stopped refl where
    by_stop : (o : Option ℕ) → w.view.stopped ≡ o → HoldingRow (shift_costs shift) v w
    by_stop None going =
        let m : Memory = memory_of early.setup.capacity e.before.words in
        let u : View = record (drew v.view found) { volatile = early.volatile; durable = early.durable } in
        let row : ViewRow one_draw v.view u = ticket_row v.view early settles (Some shift) w.view found e in
        let is = shifted_is v.view early settles (Some shift) w.view found e going in record {
          passes = subst (λ (x : View). Passes (shift_costs shift) v.view x) (sym is) (shift_passes m v.view u row shift);
          words = λ k both. subst (λ (x : View). IsHeldBoth v.view x k → KeepsWord v.view x k) (sym is) (shift_words m v.view u row shift k) both;
          marks = λ k both marked. inl (ap (λ marks. mark_at marks k) stores.marks ∙ marked);
        }
    by_stop (Some step) stop = row_holding v w (row_of v w stores (shift_within shift v.view w.view
        (row_of_stop v.view early settles (Some shift) w.view found e step went stop)))

-- by what the seat was
module _ (v w : SeatView) (stores : KeepsStores v w) (shift : Shift) (event : v.view.stopped ≡ None → (early : View) × Settles v.view early
    × (found : ℕ) × IsEvent (Tick (Some shift)) early found w.view) (idle : (step : ℕ) → v.view.stopped ≡ Some step → w ≡ v) where
  pub told_shift_row : HoldingRow (shift_costs shift) v w
  told_shift_row = by_stop v.view.stopped refl where
    by_stop : (o : Option ℕ) → v.view.stopped ≡ o → HoldingRow (shift_costs shift) v w
    by_stop None went = let e = event went in shift_row v w stores e.0 e.1 went e.2 shift e.3
    by_stop (Some step) had = subst (HoldingRow (shift_costs shift) v) (sym (idle step had))
        (row_holding v v (row_of v v (record { stores = refl; marks = refl })
        (shift_within shift v.view v.view (view_row_within one_draw v.view v.view
        (record {
          draws = omega arith;
          wins = omega arith;
          gives = omega arith;
          cuts = omega arith;
          taken = omega arith;
          moves = omega arith;
        }) (view_row_none v.view)))))
