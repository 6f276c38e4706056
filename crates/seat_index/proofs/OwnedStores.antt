-- What a seat keeps to tell its own words, after a store to one of them.
use Rattle.std.proofs.Common.{◌≡◌, ℕ, zero, suc, ◌+◌, ◌<◌, ◌≤◌, inl, inr, List, [], ◌∷◌, get_or, refl, ap, sym, subst, ◌∙◌, arith}
use Rattle.std.proofs.lemmas.Bool.{cases_eq}
use Rattle.heap_model.specs.Counting.{times, without}
use Rattle.core_model.specs.declared.event.Event.TheVariants.{Store}
use Rattle.core_model.specs.Cells.{Cell, used_cell, head_cell, info_cell, anchor_cell, link_cell, root_cell, data_cell, no_cell, cell_at}
use Rattle.core_model.specs.View.{View, times_raw}
use Rattle.core_model.specs.Effects.{stored, stored_anchor}
use Rattle.core_model.specs.Guards.{IsOwn}
use Rattle.core_model.proofs.TotalLemmas.{eq-eqb-one, ne-eqb-none}
use Rattle.heap_model.proofs.ListLemmas.{without_at}
use Rattle.seat_state.proofs.CountLemmas.{without_off}
use Rattle.seat_index.specs.declared.owned.Ownership.{Ownership}
use Rattle.seat_index.specs.declared.owned.Ownership.TheVariants as ownership
use Rattle.seat_index.specs.declared.owned.Owned.{Owned}
use Rattle.seat_index.specs.Owned.{OwnedParts, parts_of, IsOwnership, HasOwned}
use Rattle.heap_table.specs.Plays.{IsEvent}
use Rattle.seat_index.proofs.OwnedViews.{quiet, with_ownerships}

-- a store to an own anchor keeps the claim
pub anchor_owned : (o : Owned) (v x : View) (d value : ℕ) → parts_of x ≡ parts_of v → 0 < times_raw d v → HasOwned o (parts_of v)
    → HasOwned o (parts_of (stored_anchor x d value))
anchor_owned o v x d value same some own = by value where
  old : HasOwned o (parts_of x)
  old = quiet o v x same own

  some_x : 0 < times_raw d x
  some_x = subst (λ (p : OwnedParts). 0 < times d p.raw + times d p.split + times d p.cutting) (sym same) some

  once : (y : Ownership) → IsOwnership d y (parts_of x) → times_raw d x ≤ 1
  once ownership.Nothing is = let u = is.unclassed in omega arith
  once ownership.Unclassed is = let u = is.unclassed in omega arith
  once (ownership.Classed class) is = let u = is.unclassed in omega arith
  once (ownership.Large count) is = let u = is.unclassed in omega arith

  one : times_raw d x ≡ 1
  one = let m = once (get_or o.ownerships.items d ownership.Nothing) (old.ownerships d) in let s = some_x in omega arith

  keeps : (raw split cutting : List ℕ) → ((e : ℕ) → times e raw + times e split + times e cutting ≡ times_raw e x)
      → HasOwned o (parts_of (record x { raw = raw; split = split; cutting = cutting }))
  keeps raw split cutting alike = with_ownerships o o.ownerships (parts_of x) raw split cutting x.classed x.large old refl
      (λ e. let s = old.ownerships e in record {
        unclassed = alike e ∙ s.unclassed;
        is_classed = s.is_classed;
        class = s.class;
        is_large = s.is_large;
        count = s.count;
      })

  out : (e : ℕ) → (times e (without d x.raw) + times e (without d x.split) + times e (without d x.cutting)) + times e (d ∷ []) ≡ times_raw e x
  out e = elim (cases_eq e d) as (λ _. (times e (without d x.raw) + times e (without d x.split) + times e (without d x.cutting)) + times e
      (d ∷ []) ≡ times_raw e x) [
        | inl here ↦ subst (λ n. (times n (without d x.raw) + times n (without d x.split) + times n (without d x.cutting)) + times n
            (d ∷ []) ≡ times_raw n x) (sym here)
            (let m = one in let i = eq-eqb-one d d refl in let a = without_at d x.raw (omega arith) in let b = without_at d x.split (omega arith) in
            let g = without_at d x.cutting (omega arith) in omega arith)
        | inr other ↦ let z = ne-eqb-none d e (λ h. other (sym h)) in let a = without_off e d x.raw other in
            let b = without_off e d x.split other in let g = without_off e d x.cutting other in omega arith
      ]

  by : (value : ℕ) → HasOwned o (parts_of (stored_anchor x d value))
  by zero = keeps (d ∷ without d x.raw) (without d x.split) (without d x.cutting) (λ e. let n = out e in omega arith)
  by (suc n) = keeps (without d x.raw) (without d x.split) (d ∷ without d x.cutting) (λ e. let n = out e in omega arith)

-- any store to an own word
pub stored_owned : (o : Owned) (v x : View) (cell : Cell) (value : ℕ) → parts_of x ≡ parts_of v → IsOwn v cell → HasOwned o (parts_of v)
    → HasOwned o (parts_of (stored x cell value))
stored_owned o v x used_cell value same is own = quiet o v x same own
stored_owned o v x (head_cell list) value same is own = quiet o v x same own
stored_owned o v x (info_cell d) value same is own = quiet o v x same own
stored_owned o v x (anchor_cell d) value same is own = anchor_owned o v x d value same is own
stored_owned o v x (link_cell d) value same is own = quiet o v x same own
stored_owned o v x (root_cell i) value same is own = quiet o v x same own
stored_owned o v x (data_cell word) value same is own = quiet o v (stored x (data_cell word) value) same own
stored_owned o v x no_cell value same is own = quiet o v x same own

-- a store
pub store_owned : (o : Owned) (v w : View) (word value found : ℕ) → HasOwned o (parts_of v) → IsEvent (Store word value) v found w
    → IsOwn v (cell_at v.setup.capacity word) → HasOwned o (parts_of w)
store_owned o v w word value found own event is = subst (HasOwned o) (sym (ap parts_of event.after))
    (stored_owned o v _ (cell_at v.setup.capacity word) value refl is own)
