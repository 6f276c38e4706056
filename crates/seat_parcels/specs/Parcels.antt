-- What a parcel brings: the value of its node.
use Rattle.std.specs.Prelude.{◌≡◌, ℕ, List, Option, None, Some, map}
use Rattle.heap_model.specs.Image.{Image}
use Rattle.heap_seat.specs.Handing.{Contents}
use Rattle.dict_model.specs.Nodes.{value_in}
use Rattle.dict_requests.specs.Moving.{IsNodeIn}
use Rattle.atomic_table.specs.Seated.{TableId}
use Rattle.heap_rule.specs.Carried.{CarrierView}
use Rattle.run_model.specs.Sending.{Sent}
use Rattle.thread_cache.specs.Handing.{contents_of}
use Rattle.seat_parcels.specs.declared.parcel.Parcel.{Parcel}

-- the value, where it is known, and else 0
abbrev pub or_zero : Option ℕ → ℕ
or_zero None = 0
or_zero (Some value) = value

-- the words as loads saw them last, and 0 where that isn't known
abbrev pub seen_image : Contents → Image
seen_image c word = or_zero (c.volatile word)

-- the value of the carrier's block, if that is a node
abbrev pub carried_value : CarrierView → List ℕ
carried_value c = value_in (seen_image (contents_of c)) c.block

-- what a parcel sends
abbrev pub sent_of : Parcel → Sent
sent_of p = record { number = p.number; key = p.key; value = carried_value p.carrier }

-- what parcels send, in their order
abbrev pub all_sent_of : List Parcel → List Sent
all_sent_of parcels = map sent_of parcels

-- it brings a node of this value, which a seat at the table may accept
pub record IsParcelOf (table : TableId) (p : Parcel) : Type 0 where
  pub at_table : p.carrier.table ≡ table
  pub node : IsNodeIn (contents_of p.carrier) p.carrier.block (sent_of p).value
