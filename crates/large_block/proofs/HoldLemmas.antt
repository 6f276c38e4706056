-- What the holding of a large block leaves.
use Rattle.std.proofs.Common.{◌≡◌, ◌≢◌, ◌<◌, ◌≤◌, ℕ, ◌+◌, ◌-◌, ◌*◌, inl, inr, cond, nat_eq, Option, None, Some, ap, sym, subst, ◌∙◌, eq-eqb, ne_eqb, arith}
use Rattle.std.proofs.lemmas.Bool.{cases_eq}
use Rattle.heap_model.specs.declared.block.Block.{Block}
use Rattle.heap_model.specs.Counting.{times}
use Rattle.heap_model.specs.Geometry.{info_word, start_word, superblock_words}
use Rattle.heap_model.specs.Words.{large_info}
use Rattle.core_model.specs.declared.event.Event.TheVariants.{Tick}
use Rattle.core_model.specs.declared.event.Shift.{Shift}
use Rattle.core_model.specs.declared.event.Shift.TheVariants.{Large}
use Rattle.core_model.specs.Cells.{info_cell}
use Rattle.core_model.specs.View.{View, times_raw}
use Rattle.heap_table.specs.Plays.{HasSoundState, IsEvent}
use Rattle.heap_rule.specs.Seated.{KeepsStores, SeatView}
use Rattle.heap_rule.specs.Shown.{CanHoldLarge, CanJoin, Shows, ShowsDurable, by_claim}
use Rattle.heap_rule.proofs.RawLemmas.{raw_inside}
use Rattle.large_block.specs.Infos.{HasInfo}
use Rattle.large_block.specs.Holds.{HasHeld, IsFreshClaim, with_large}
use Rattle.large_block.proofs.FreshLemmas.{raw_owns, zero_kept}
use Rattle.seat_costs.specs.Costs.{one_draw}
use Rattle.seat_costs.specs.Draws.{Settles}
use Rattle.seat_costs.specs.Rows.{Parts, Row, Stops, parts}
use Rattle.seat_costs.specs.Words.{KeepsWord}
use Rattle.seat_costs.proofs.DrawLemmas.{row_of_stop, shifted_is, stops}
use Rattle.seat_costs.proofs.RowLemmas.{row_of, stops_later}

-- they lie in the image
module _ (v : View) (has : HasSoundState v) (d n : ℕ) (claim : IsFreshClaim d n v) where
  pub claimed_raw : (e : ℕ) → d ≤ e → e < d + n → 0 < times_raw e v
  claimed_raw e from until = let r = claim.raw e from until in omega arith

  pub span_inside : d + n ≤ v.setup.capacity
  span_inside = let some = claim.some in let last = raw_inside v has (d + n - 1) (claimed_raw (d + n - 1) (omega arith) (omega arith)) in omega arith

  -- once the first info says so
  module _ (x : View) (info : HasInfo d (large_info n) v x) where
    joins : (e : ℕ) → d ≤ e → e < d + n → CanJoin x d n e
    joins e from until = elim (cases_eq e d) as (λ _. CanJoin x d n e) [
      | inl same ↦ record {
        claimed = let r = raw in omega arith;
        empty = inl (by_claim raw);
        info_is = subst (λ i. Shows x (info_cell i) (cond (nat_eq e d) (large_info n) 0)) (sym same) (info.info_is
            ∙ ap (λ t. Some (cond t (large_info n) 0)) (sym (eq-eqb e d same)));
        durable_info_is = subst (λ i. ShowsDurable x (info_cell i) (cond (nat_eq e d) (large_info n) 0)) (sym same) (info.durable_info_is
            ∙ ap (λ t. Some (cond t (large_info n) 0)) (sym (eq-eqb e d same)));
      }
      | inr other ↦ record {
        claimed = let r = raw in omega arith;
        empty = inl (by_claim raw);
        info_is = (words other).volatile 0 (claim.blank.info e from until) ∙ ap (λ t. Some (cond t (large_info n) 0)) (sym (ne_eqb e d other));
        durable_info_is = zero_kept v x (info_word e) (words other) (claim.blank.info e from until) (claim.blank.durable_info e from until)
            ∙ ap (λ t. Some (cond t (large_info n) 0)) (sym (ne_eqb e d other));
      }
    ] where
      raw : 0 < times e x.raw
      raw = let r = claim.raw e from until in let s = ap (λ (p : Parts). times e p.raw) info.parts_are in omega arith

      words : e ≢ d → KeepsWord v x (info_word e)
      words other = info.words (info_word e) (λ same. omega (arith, same, other))
          (raw_owns v e (let i = span_inside in omega arith) (claimed_raw e from until)).0

    pub can_hold : CanHoldLarge x d n
    can_hold = record { some = claim.some; durable = let low = claim.durable in let same = info.floor in omega arith; each = joins }

    module _ (early : View) (settles : Settles x early) (w : View) (found : ℕ) (event : IsEvent (Tick (Some (Large d n))) early found w) where
      pub held : (b : Block) → b ≡ record { first_word = start_word v.setup.capacity d; words = superblock_words * n } → w.stopped ≡ None
          → HasHeld d n b v w
      held b is going = record {
        going = going;
        parts_are = ap parts (shifted_is x early settles (Some (Large d n)) w found event going) ∙ ap (with_large d n) info.parts_are;
        block = is;
        look = ap (λ (y : View). y.used_look) (shifted_is x early settles (Some (Large d n)) w found event going) ∙ info.look;
      }

-- a draw with a change that is refused, and behind a draw that went on
pub refused_row : (v w : SeatView) (early : View) → Settles v.view early → (shift : Option Shift) (found : ℕ)
    → IsEvent (Tick shift) early found w.view → (step : ℕ) → v.view.stopped ≡ None → w.view.stopped ≡ Some step → KeepsStores v w → Row one_draw v w
refused_row v w early settles shift found event step went stop stores =
    row_of v w stores (row_of_stop v.view early settles shift w.view found event step went stop)

pub refused_later : (v x w : SeatView) (early : View) → Settles x.view early → (shift : Option Shift) (found : ℕ)
    → IsEvent (Tick shift) early found w.view → (step : ℕ) → v.view.stopped ≡ None → Row one_draw v x → x.view.stopped ≡ None
    → w.view.stopped ≡ Some step → Stops step v.view w.view
refused_later v x w early settles shift found event step ran row went stop =
    stops_later v.view x.view w.view step ran went row.view (stops x.view early settles shift w.view found event step went stop)
