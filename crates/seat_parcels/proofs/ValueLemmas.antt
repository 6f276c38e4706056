-- The value of a node is one, and it is that of the words as loads saw them.
use Rattle.std.proofs.Common.{◌≡◌, ℕ, List, Option, None, Some, refl, sym, subst, inl}
use Rattle.heap_model.specs.declared.block.Block.{Block}
use Rattle.atomic_table.specs.Seated.{TableId}
use Rattle.heap_seat.specs.Handing.{Contents}
use Rattle.heap_seat.specs.Words.{MayBe}
use Rattle.dict_model.specs.Nodes.{value_in}
use Rattle.dict_requests.specs.Moving.{IsNodeIn, MixesBlock}
use Rattle.heap_rule.specs.Carried.{CarrierView}
use Rattle.thread_cache.specs.Handing.{contents_of}
use Rattle.seat_parcels.specs.declared.parcel.Parcel.{Parcel}
use Rattle.seat_parcels.specs.Parcels.{IsParcelOf, carried_value, or_zero, seen_image}

is_or_zero : (known : Option ℕ) → MayBe known (or_zero known)
is_or_zero None = tt
is_or_zero (Some value) = refl

mixes_seen : (c : Contents) (b : Block) → MixesBlock c b (seen_image c)
mixes_seen c b word inside = inl (is_or_zero (c.volatile word))

-- what a block is a node of, its words say
pub said_by_words : (c : Contents) (b : Block) (value : List ℕ) → IsNodeIn c b value → value ≡ value_in (seen_image c) b
said_by_words c b value node = sym (node.each (seen_image c) (mixes_seen c b))

-- a carrier of a node brings the node's value
pub brings_value : (carrier : CarrierView) (b : Block) (value : List ℕ) → carrier.block ≡ b → IsNodeIn (contents_of carrier) b value
    → value ≡ carried_value carrier
brings_value carrier b value is node =
    said_by_words (contents_of carrier) carrier.block value (subst (λ (a : Block). IsNodeIn (contents_of carrier) a value) (sym is) node)

-- so a parcel is made of it
pub is_parcel : (table : TableId) (p : Parcel) (b : Block) (value : List ℕ) → p.carrier.table ≡ table → p.carrier.block ≡ b
    → IsNodeIn (contents_of p.carrier) b value → IsParcelOf table p
is_parcel table p b value at is node = record {
  at_table = at;
  node = subst (λ (v : List ℕ). IsNodeIn (contents_of p.carrier) p.carrier.block v) (brings_value p.carrier b value is node)
      (subst (λ (a : Block). IsNodeIn (contents_of p.carrier) a value) (sym is) node);
}
