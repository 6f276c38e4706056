-- What is kept of a seat: its tickets and snapshots, and where its caches and its batch begin and end.
use Rattle.std.specs.Prelude.{◌≡◌, ℕ, ◌<◌, ◌≤◌, List, get_or, length, Option, None, Some}
use Rattle.heap_model.specs.Geometry.{lists}
use Rattle.seat_state.specs.declared.notes.Seen.{Seen}
use Rattle.seat_state.specs.declared.notes.Cache.{Cache}
use Rattle.seat_state.specs.declared.notes.BatchEnds.{BatchEnds}
use Rattle.seat_state.specs.declared.notes.SeatNotes.{SeatNotes}
use Rattle.core_model.specs.View.{View, Batch, Snapshot, of_class}
use Rattle.core_model.specs.Effects.{first_of, last_of}

-- a word that was seen, as the model has it
abbrev pub snapshot : Option Seen → Option Snapshot
snapshot None = None
snapshot (Some s) = Some (record { of = s.of; word = s.word })

-- the tickets and snapshots of a seat
pub record HasNotes (t : SeatNotes) (v : View) : Type 0 where
  pub ticket : v.ticket ≡ t.ticket
  pub stopped : v.stopped ≡ t.stopped
  pub seen_used : v.seen_used ≡ t.seen_used
  pub seen_head : v.seen_head ≡ snapshot t.seen_head
  pub seen_link : v.seen_link ≡ t.seen_link
  pub seen_anchor : v.seen_anchor ≡ snapshot t.seen_anchor

-- where its caches and its batch begin and end, and how long they are
pub record HasCaches (kept : List Cache) (caches : List (List ℕ)) : Type 0 where
  pub long : length kept ≡ lists
  pub first : (class : ℕ) (c : Cache) → get_or kept class c ≡ c → class < lists → 1 ≤ length (of_class caches class)
      → first_of (of_class caches class) ≡ c.first
  pub count : (class : ℕ) (c : Cache) → get_or kept class c ≡ c → class < lists → length (of_class caches class) ≡ c.count

-- what its batch is of, where it begins and ends, and how long it is
pub record HasBatch (kept : BatchEnds) (batch : Batch) : Type 0 where
  pub descriptor : batch.descriptor ≡ kept.descriptor
  pub class : batch.class ≡ kept.class
  pub first : first_of batch.blocks ≡ kept.first
  pub last : last_of batch.blocks ≡ kept.last
  pub count : length batch.blocks ≡ kept.count
  pub linked : batch.linked ≡ kept.linked
