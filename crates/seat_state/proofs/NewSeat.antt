-- A seat that has done nothing yet.
use Rattle.std.proofs.Common.{◌≡◌, ℕ, ◌<◌, List, [], length, ap, sym, ◌∙◌, arith, false, None, replicate}
use Rattle.heap_model.specs.Geometry.{lists}
use Rattle.seat_state.specs.declared.notes.Cache.{Cache}
use Rattle.seat_state.specs.declared.notes.SeatNotes.{SeatNotes}
use Rattle.core_model.specs.View.{of_class}
use Rattle.seat_state.specs.Notes.{HasCaches}
use Rattle.seat_state.specs.declared.notes.BatchEnds.{BatchEnds}
use Rattle.std.proofs.lemmas.List.{get_or-replicate, length-replicate}

abbrev pub no_cache : Cache
no_cache = record { first = 0; count = 0 }

abbrev pub empty_batch : BatchEnds
empty_batch = record { descriptor = 0; class = 0; first = 0; last = 0; count = 0; linked = false }

-- a seat that has done nothing yet
abbrev pub new_seat : SeatNotes
new_seat = record {
  ticket = None;
  stopped = None;
  seen_used = None;
  seen_head = None;
  seen_link = None;
  seen_anchor = None;
  caches = replicate lists no_cache;
  batch = empty_batch;
}

pub no_caches : HasCaches (replicate lists no_cache) (replicate lists [])
no_caches = record {
  long = length-replicate lists no_cache;
  first = λ class c is less some. absurd (let e = none class less in omega arith);
  count = λ class c is less. none class less ∙ ap (λ (x : Cache). x.count) (sym (get_or-replicate lists class no_cache c less) ∙ is);
} where
  none : (class : ℕ) → class < lists → length (of_class (replicate lists []) class) ≡ 0
  none class less = ap length (get_or-replicate {A = List ℕ} lists class [] [] less)
