use Rattle.std.proofs.Common.{ℕ, ◌∷◌, List, ap, arith, subst, sym, ◌∙◌}
use Rattle.std.specs.List.Sorted.{IsPermutation}
use Rattle.std.proofs.lemmas.List.Sorted.{IsPermutation-map, length_permutation}
use Rattle.core_model.specs.View.{Role}
use Rattle.seat_model.specs.CacheState.{heap_view}
use Rattle.thread_cache.specs.Handing.{contents_of}
use Rattle.seat_parcels.specs.declared.parcel.Parcel.{Parcel}
use Rattle.seat_parcels.specs.Boxes.{parcels_of, sent_by}
use Rattle.seat_parcels.specs.Parcels.{sent_of}
use Rattle.seat_parcels.proofs.ValueLemmas.{brings_value, is_parcel}
use Rattle.seat_parcels.proofs.sending.PostBoxOutboxCacheSeat.send.Goals as goal

pub put-requires-clause-fact : goal.put-requires-clause-fact
put-requires-clause-fact g c =
    let carrier = c.in_ok-carrier.carrier in
    let sent = c.in_ok-carrier.ensures.sent in
    let has = c.requires.node in
    is_parcel g.J.HeapOf.table (record { number = c.args.number; key = c.args.key; carrier = carrier }) c.args.node has.0
    (sent.table ∙ c.requires.ready.at_table) sent.block
    (c.a_node_goes_with_its_value.ensures.goes (heap_view c.args.seat.now.state) c.args.node (contents_of carrier) has.0 sent.contents has.1)

pub returns-clause-added : goal.returns-clause-added
returns-clause-added g c = λ room.
    let carrier = c.in_ok-carrier.carrier in
    let sent = c.in_ok-carrier.ensures.sent in
    let old = c.args.self.now in
    let new = c.put.new.self in
    let parcel : Parcel = record { number = c.args.number; key = c.args.key; carrier = carrier } in
    let order = IsPermutation-map sent_of (parcel ∷ parcels_of old) (parcels_of new) c.put.ensures.put in
    record {
      added = λ value is.
          let brings = brings_value carrier c.args.node value sent.block
          (c.a_node_goes_with_its_value.ensures.goes (heap_view c.args.seat.now.state) c.args.node (contents_of carrier) value sent.contents is) in
          subst (λ (v : List ℕ). IsPermutation (record { number = c.args.number; key = c.args.key; value = v } ∷ sent_by old) (sent_by new))
          (sym brings) order;
    }

pub returns-clause-ready_on : goal.returns-clause-ready_on
returns-clause-ready_on g c =
    let old = c.args.self.now in
    let new = c.put.new.self in
    let parcel : Parcel = record { number = c.args.number; key = c.args.key; carrier = c.in_ok-carrier.carrier } in
    let long = length_permutation _ _ (IsPermutation-map sent_of (parcel ∷ parcels_of old) (parcels_of new) c.put.ensures.put) in
    let more = ap (λ (r : Role). r.offers) c.in_ok-carrier.ensures.offered in
    let before = c.requires.ready.offered in record {
      at_table = c.offer.ensures.table ∙ c.requires.ready.at_table;
      offered = omega (arith, long, more, before);
    }
