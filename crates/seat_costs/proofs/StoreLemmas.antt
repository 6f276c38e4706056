-- Rows of steps on own words: loads, stores, settling, write-backs and fences.
use Rattle.std.proofs.Common.{◌≡◌, ◌≢◌, ℕ, ◌/◌, inl, inr, Bool, true, false, get_or, Option, None, Some, refl, ap, sym, subst, ◌∙◌}
use Rattle.std.proofs.lemmas.Bool.{cases_eq}
use Rattle.std.proofs.lemmas.List.{get_or-set_other}
use Rattle.line_memory.specs.Marks.{IsMarked, mark_at}
use Rattle.core_model.specs.declared.event.Event.TheVariants.{Load, Settle, Store}
use Rattle.core_model.specs.Cells.{cell_at}
use Rattle.core_model.specs.Effects.{learn, used_up}
use Rattle.core_model.specs.View.{View, known}
use Rattle.heap_rule.specs.Fences.{IsLineMarked, IsSeatFence, Owns}
use Rattle.heap_table.specs.Plays.{IsEvent}
use Rattle.heap_rule.specs.Seated.{HasNewStore, SeatView}
use Rattle.heap_rule.proofs.SettleLemmas.{own_below}
use Rattle.seat_costs.specs.Costs.{Costs, no_costs}
use Rattle.seat_costs.specs.Rows.{Row, StoringRow, ViewRow}
use Rattle.seat_costs.specs.Words.{IsDurableAt, IsHeldWord, KeepsWord, MayBe, seen_at}
use Rattle.seat_costs.proofs.AlikeLemmas.{holding, passes_alike, recording, row_as, row_words}
use Rattle.seat_costs.proofs.RowLemmas.{passes_none, view_row_none}
use Rattle.seat_costs.proofs.StoredLemmas.{stored_only}
use Rattle.seat_costs.proofs.WordLemmas.{at_cell, learned_word, owns_held, settled_word, stored_other, word_same, word_then}

pub load_row : (word : ℕ) (v w : View) (found : ℕ) → IsEvent (Load word) v found w → ViewRow no_costs v w
load_row word v w found e = row_words v v w (ap holding e.after)
    (λ k held. subst (λ (x : View). KeepsWord v x k) (sym e.after) (let p = learned_word v e.before word found e.may.ready e.found_is k in
    record { volatile = p.volatile; durable = p.durable }))
    (view_row_none v)

pub settle_row : (word : ℕ) (v w : View) (found : ℕ) → IsEvent (Settle word) v found w → ViewRow no_costs v w
settle_row word v w found e = row_words v v w (ap holding e.after) (λ k held. settled_word v w word found e k (owns_held v k held)) (view_row_none v)

module _ (word value : ℕ) (v w : View) (found : ℕ) (e : IsEvent (Store word value) v found w) where
  abbrev x : View
  x = record (used_up v) { volatile = learn v.volatile word value }

  same : recording w ≡ recording x
  same = ap recording e.after ∙ ap recording (stored_only x (cell_at v.setup.capacity word) value)

  other_word : (k : ℕ) → k ≢ word → KeepsWord v w k
  other_word k other = word_then v x w k (let p = stored_other v word value k other in record { volatile = p.volatile; durable = p.durable })
      (word_same x w k (ap (λ r. get_or r.3 k None) same) (ap (λ r. get_or r.4 k None) same))

  -- a store to a word that is not held
  pub store_row : (IsHeldWord v word → ⊥) → ViewRow no_costs v w
  store_row not_held = row_words v v w (ap (λ r. (r.0, r.1, r.2)) same) (λ k held. other_word k (λ is. not_held (subst (IsHeldWord v) is held)))
      (view_row_none v)

-- its mark is taken back, and no other
other_mark : (v w : SeatView) (word : ℕ) → HasNewStore word v w → (k : ℕ) → k ≢ word → mark_at w.marks k ≡ mark_at v.marks k
other_mark v w word new k other = ap (λ marks. mark_at marks k) new.marks ∙ get_or-set_other v.marks word k false false other

pub row_of_store : {a : Costs} (v w : SeatView) (word : ℕ) → HasNewStore word v w → (IsHeldWord v.view word → ⊥) → ViewRow a v.view w.view → Row a v w
row_of_store v w word new not_held p = record {
  view = p;
  marks = λ k held marked. inl (other_mark v w word new k (λ is. not_held (subst (IsHeldWord v.view) is held)) ∙ marked);
}

-- a store to a held word
pub storing_row : (word value : ℕ) (v w : SeatView) (found : ℕ) → IsEvent (Store word value) v.view found w.view → HasNewStore word v w
    → StoringRow word no_costs v w
storing_row word value v w found e new = let is = same word value v.view w.view found e in record {
  small = ap (λ r. r.1) is;
  large = ap (λ r. r.2) is;
  but = record {
    passes = passes_alike v.view v.view w.view (ap (λ r. r.0) is) (passes_none v.view);
    words = λ k both. other_word word value v.view w.view found e k both.1;
    marks = λ k both marked. inl (other_mark v w word new k both.1 ∙ marked);
  };
}

-- a write-back
pub write_back_row : (word : ℕ) (v w : SeatView) → IsLineMarked word v w → Row no_costs v w
write_back_row word v w line = record {
  view = row_as v.view v.view w.view line.view (view_row_none v.view);
  marks = λ k held marked. inl (elim (cases_eq (k / 8) (word / 8)) as (λ _. IsMarked w.marks k) [
    | inl inside ↦ line.in_line k (own_below v.view k (owns_held v.view k held)) inside
    | inr outside ↦ line.others k outside ∙ marked
  ]);
}

-- a fence
module _ (v w : SeatView) (fence : IsSeatFence v w) where
  pub fenced : (k : ℕ) → Owns v.view k → IsMarked v.marks k → IsDurableAt w.view k
  fenced k own marked = let d = fence.durable k marked own in record {
    value = d.value;
    seen = sym (at_cell v.view k own w.view.volatile) ∙ there w.view.volatile d.volatile;
    left = sym (at_cell v.view k own w.view.durable) ∙ there w.view.durable d.durable;
  } where
    there : {x : ℕ} (values : _) → known values (cell_at w.view.setup.capacity k) ≡ Some x → known values (cell_at v.view.setup.capacity k) ≡ Some x
    there values is = ap (λ (u : View). known values (cell_at u.setup.capacity k)) (sym fence.rest) ∙ is

  fenced_word : (k : ℕ) → Owns v.view k → KeepsWord v.view w.view k
  fenced_word k own = by_mark (mark_at v.marks k) refl where
    seen : (value : ℕ) → seen_at v.view k ≡ Some value → seen_at w.view k ≡ Some value
    seen value is = sym (at_cell v.view k own w.view.volatile) ∙ fence.seen k value own (at_cell v.view k own v.view.volatile ∙ is)

    by_mark : (mark : Bool) → mark_at v.marks k ≡ mark → KeepsWord v.view w.view k
    by_mark true marked = let d = fenced k own marked in record {
      volatile = seen;
      durable = λ value may. inl (by_seen (seen_at v.view k) refl value d (subst (λ o. MayBe o value) d.left may));
    } where
      by_seen : (o : Option ℕ) → seen_at v.view k ≡ o → (value : ℕ) (d : IsDurableAt w.view k) → value ≡ d.value → MayBe o value
      by_seen None none value d is = tt
      by_seen (Some y) some value d is = let e : Some d.value ≡ Some y = sym d.seen ∙ seen y some in is ∙ cc
    by_mark false unmarked = let r = fence.others k own (λ marked. let e : false ≡ true = sym unmarked ∙ marked in absurd (cc)) in
        word_same v.view w.view k (sym (at_cell v.view k own w.view.volatile) ∙ r.volatile ∙ at_cell v.view k own v.view.volatile)
        (sym (at_cell v.view k own w.view.durable) ∙ r.durable ∙ at_cell v.view k own v.view.durable)

  pub fence_row : Row no_costs v w
  fence_row = record {
    view = row_words v.view v.view w.view (ap holding fence.rest) (λ k held. fenced_word k (owns_held v.view k held)) (view_row_none v.view);
    marks = λ k held marked. inr (fenced k (owns_held v.view k held) marked);
  }
