-- The first parcel of a tray is taken, or laid back.
use Rattle.std.proofs.Common.{◌≡◌, ℕ, ◌+◌, List, ◌∷◌, All, length, refl, ap, arith, subst, sym, ◌∙◌}
use Rattle.std.proofs.lemmas.List.Elements.{All-head, All-tail}
use Rattle.heap_model.specs.declared.block.Block.{Block}
use Rattle.atomic_table.specs.Seated.{TableId}
use Rattle.heap_rule.specs.Carried.{CarrierView}
use Rattle.heap_seat.specs.Handing.{Accepts}
use Rattle.heap_seat.specs.View.{View}
use Rattle.dict_requests.specs.Moving.{IsNodeOf}
use Rattle.seat_model.specs.CacheState.{CacheState}
use Rattle.shard_moves.specs.Inboxes.{TakesFirst}
use Rattle.seat_parcels.specs.declared.parcel.Parcel.{Parcel}
use Rattle.seat_parcels.specs.Parcels.{IsParcelOf, all_sent_of, sent_of}
use Rattle.seat_parcels.specs.Trays.{IsInStepWith}

module _ (old rest : List Parcel) (p : Parcel) (was : old ≡ p ∷ rest) where
  first_is : (table : TableId) → All (IsParcelOf table) old → IsParcelOf table p
  first_is table each = All-head (IsParcelOf table) p rest (subst (λ (l : List Parcel). All (IsParcelOf table) l) was each)

  -- its block is held, with the value that it brings
  pub takes_first : (v w : View) (b : Block) → b ≡ p.carrier.block → Accepts p.carrier.block v w → IsNodeOf w p.carrier.block (sent_of p).value
      → TakesFirst p.key b (all_sent_of old) (all_sent_of rest) v w
  takes_first v w b is accepts node = record {
    first = sent_of p;
    left_are = ap all_sent_of was;
    key_is = refl;
    accepts = subst (λ (a : Block). Accepts a v w) (sym is) accepts;
    node_is = subst (λ (a : Block). IsNodeOf w a (sent_of p).value) (sym is) node;
  }

  pub its_fact : (s : CacheState) (came : ℕ) → IsInStepWith came old s → IsParcelOf s.table p
  its_fact s came step = first_is s.table step.each

  -- the seat accepted one more, and one is left less
  pub still_in_step : (s t : CacheState) (came : ℕ) → IsInStepWith came old s → t.table ≡ s.table
      → t.view.accepts ≡ s.view.accepts + 1 → IsInStepWith came rest t
  still_in_step s t came step table more = record {
    each = subst (λ (id : TableId). All (IsParcelOf id) rest) (sym table)
        (All-tail (IsParcelOf s.table) p rest (subst (λ (l : List Parcel). All (IsParcelOf s.table) l) was step.each));
    counted = let long = ap length was in let counted = step.counted in omega (arith, long, counted, more);
  }

  -- the parcel is in front again, with the carrier that came back
  pub again_in_step : (s t : CacheState) (came : ℕ) (carrier : CarrierView) (left : List Parcel) → IsInStepWith came old s
      → t.table ≡ s.table
      → t.view.accepts ≡ s.view.accepts → carrier ≡ p.carrier → left ≡ record p { carrier = carrier } ∷ rest
      → IsInStepWith came left t
  again_in_step s t came carrier left step table same back again = record {
    each = subst (λ (l : List Parcel). All (IsParcelOf t.table) l) (sym is_old)
        (subst (λ (id : TableId). All (IsParcelOf id) old) (sym table) step.each);
    counted = let long = ap length is_old in let counted = step.counted in omega (arith, long, counted, same);
  } where
    is_old : left ≡ old
    is_old = again ∙ ap (λ (c : CarrierView). record p { carrier = c } ∷ rest) back ∙ sym was
