-- What the storing of an info leaves.
use Rattle.std.proofs.Common.{◌≡◌, ◌<◌, ℕ, length, None, Some, refl, ap, sym, subst, ◌∙◌, arith}
use Rattle.std.proofs.lemmas.List.{get_or-set_same}
use Rattle.heap_model.specs.Geometry.{info_word}
use Rattle.core_model.specs.declared.event.Event.TheVariants.{Settle, Store}
use Rattle.core_model.specs.Cells.{Cell, cell_at, info_cell}
use Rattle.core_model.specs.Effects.{drew, learn, used_up}
use Rattle.core_model.specs.Guards.{IsOwn}
use Rattle.core_model.specs.View.{View, times_raw}
use Rattle.heap_table.specs.Plays.{HasSoundState, IsEvent}
use Rattle.heap_rule.specs.Seated.{KeepsStores, SeatView}
use Rattle.heap_rule.specs.Shown.{Can, IsShownFor}
use Rattle.heap_rule.proofs.RawLemmas.{durable_long, raw_inside, settle_left, volatile_long}
use Rattle.heap_rule.proofs.SettleLemmas.{own_below}
use Rattle.heap_rule.specs.Fences.{Owns}
use Rattle.large_block.specs.Infos.{HasInfo}
use Rattle.superblock_lists.proofs.PopLemmas.{still_owns}
use Rattle.seat_costs.specs.Costs.{one_draw}
use Rattle.seat_costs.specs.Rows.{Row, parts}
use Rattle.seat_costs.specs.Stores.{HasStored}
use Rattle.seat_costs.specs.Words.{IsHeldWord, left_at, seen_at}
use Rattle.seat_costs.proofs.RowLemmas.{row_of, row_then}
use Rattle.seat_costs.proofs.StoreLemmas.{settle_row}
use Rattle.seat_costs.proofs.StoredLemmas.{may_store, not_held_at, stored_at}
use Rattle.seat_costs.proofs.WordLemmas.{at_cell, info_at, settled_word, word_then}

module _ (v : View) (has : HasSoundState v) (d : ℕ) (raw : 0 < times_raw d v) (place : ℕ) (at : place ≡ info_word d) where
  is_info : cell_at v.setup.capacity place ≡ info_cell d
  is_info = ap (cell_at v.setup.capacity) at ∙ info_at v.setup.capacity d (raw_inside v has d raw)

  pub may_info : (info : ℕ) → IsShownFor v (Store place info)
  may_info info = may_store v place (info_cell d) is_info info raw tt

  pub info_not_held : IsHeldWord v place → ⊥
  info_not_held = not_held_at v place (info_cell d) is_info refl

  module _ (x : View) (info : ℕ) (stored : HasStored place info v x) where
    left : x ≡ record (used_up (drew v stored.ticket)) { volatile = x.volatile; durable = x.durable }
    left = stored_at v place (info_cell d) is_info x info stored

    own : Owns x place
    own = let same = ap (times_raw d) left in subst (λ (cell : Cell). IsOwn x cell)
        (sym (ap (λ (y : View). cell_at y.setup.capacity place) left ∙ is_info)) (omega arith)

    pub can_settle : Can x (Settle place)
    can_settle = record { going = stored.going; ticket = tt; shown = own }

    module _ (w : View) (found : ℕ) (settle : IsEvent (Settle place) x found w) where
      settled : w ≡ record x { volatile = learn x.volatile place info; durable = learn x.durable place info }
      settled = settle_left place info x w found settle (at_cell x place own x.volatile ∙ stored.seen)

      below : place < length x.volatile
      below = let long = volatile_long x settle.before in let inside = own_below x place own in omega arith

      below_durable : place < length x.durable
      below_durable = let long = durable_long x settle.before in let inside = own_below x place own in omega arith

      pub info_set : HasInfo d info v w
      info_set = record {
        ran = stored.ran;
        going = ap (λ (y : View). y.stopped) settled ∙ stored.going;
        parts_are = ap parts settled ∙ ap parts left;
        floor = ap (λ (y : View). y.floor) settled ∙ ap (λ (y : View). y.floor) left;
        look = ap (λ (y : View). y.used_look) settled ∙ ap (λ (y : View). y.used_look) left;
        losses = ap (λ (y : View). y.losses) settled ∙ ap (λ (y : View). y.losses) left;
        heads = ap (λ (y : View). y.head_looks) settled ∙ ap (λ (y : View). y.head_looks) left;
        info_is = subst (λ n. seen_at w n ≡ Some info) at
            (ap (λ (y : View). seen_at y place) settled ∙ get_or-set_same x.volatile place (Some info) None below);
        durable_info_is = subst (λ n. left_at w n ≡ Some info) at
            (ap (λ (y : View). left_at y place) settled ∙ get_or-set_same x.durable place (Some info) None below_durable);
        words = λ k other own. word_then v x w k (stored.words k (λ is. other (is ∙ at)) own)
            (settled_word x w place found settle k (still_owns v x (ap parts left) k own));
      }

-- its row
pub info_row : (v x w : SeatView) (place found : ℕ) → IsEvent (Settle place) x.view found w.view → KeepsStores x w → Row one_draw v x
    → Row one_draw v w
info_row v x w place found settle stores row = row_then v x w row (row_of x w stores (settle_row place x.view w.view found settle))
