-- Worked examples by computation: a heap of two superblocks, both taken, and what a seat's view shows that it may do.
use Rattle.std.specs.Prelude.{◌≡◌, ℕ, true, false, List, [], ◌∷◌, ◌++◌, replicate, Option, None, Some, Ok, Err, refl, slice_set, take}
use Rattle.std.specs.Option.{option_map_or}
use Rattle.std.proofs.Common.{inl, ap, arith}
use Rattle.line_memory.specs.Marks.{mark_at}
use Rattle.core_model.specs.Cells.{info_cell, link_cell}
use Rattle.core_model.specs.View.{View, known}
use Rattle.heap_table.specs.SeatViews.{nobody}
use Rattle.heap_rule.specs.Seated.{SeatView, Tells, HasNewStore}
use Rattle.heap_rule.specs.Shown.{Shows, ShowsEmpty, CanAnchor, CanPush, CanStore, as_empty, as_full, as_free, by_claim, by_anchor}

-- a seat that has nothing, of a heap of two superblocks
abbrev pub seat : View
seat = record nobody { setup = record { capacity = 2; budget = 10; seats = 2; used = 2; opened = [] }; floor = 2; volatile = []; durable = [] }

-- nothing is recorded but of one word
abbrev pub only : ℕ → ℕ → List (Option ℕ)
only word value = replicate word None ++ Some value ∷ []

-- what is recorded of a word is shown, and of another nothing is
pub shows_link : Shows (record seat { volatile = only 1074 1 }) (link_cell 1) 1
shows_link = refl

pub shows_no_info : known (only 1074 1) (info_cell 1) ≡ None
shows_no_info = refl

-- superblock 1 is claimed without a class; the head of the free list, which has superblock 0, was seen
abbrev pub claims : View
claims = record seat { raw = 1 ∷ []; seen_head = Some (record { of = 0; word = 16777217 }); volatile = only 1074 1 }

-- it may be pushed, since its link leads to the first of the list
pub pushes : CanPush claims 1
pushes = record {
  is_seen = refl;
  durable = omega arith;
  linked = refl;
  listed = as_free (record { claimed = omega arith; not_cutting = refl }) (by_claim (omega arith));
}

-- not where the link leads elsewhere
pub leads_elsewhere : CanPush (record claims { volatile = only 1074 2 }) 1 → ⊥
leads_elsewhere can = let two : ℕ = 2 in
    let e : two ≡ 1 = ap (λ (link : Option ℕ). option_map_or (λ (n : ℕ). n) link 0) can.linked in omega arith

-- the anchor of a split superblock must be recorded as empty before that shows
pub split_and_stored : ShowsEmpty (record seat { split = 0 ∷ []; volatile = only 1065 0 }) 0
split_and_stored = by_anchor 0 refl refl

-- an anchor may become 0, or full where all blocks are free
pub anchors_empty : CanAnchor claims 1 0
anchors_empty = as_empty

pub anchors_full : CanAnchor claims 1 2
anchors_full = as_full refl (inl (by_claim (omega arith)))

-- the link of a superblock whose blocks are being made stays
pub link_stays : CanStore (record seat { cutting = 1 ∷ [] }) (link_cell 1) 0 → ⊥
link_stays stored = let one : ℕ = 1 in let e : one ≡ 0 = stored in omega arith

-- an exchange that found what was seen is done; another one tells what it found
pub tells_done : Tells 5 5 (Ok tt)
tells_done = refl

pub tells_found : Tells 5 7 (Err 7)
tells_found = (refl, λ same. omega arith)

pub never_lost_as_seen : Tells 5 5 (Err 5) → ⊥
never_lost_as_seen told = told.1 refl

-- a store comes before the last ones, of which there are at most sixteen, and takes its word's mark back
abbrev pub at_work : SeatView → SeatView
at_work v = record v { stores = take 16 (9 ∷ v.stores); marks = slice_set v.marks 9 false }

pub is_stored : (v : SeatView) → HasNewStore 9 v (at_work v)
is_stored v = record { stores = refl; marks = refl }

pub seventeenth : take {A = ℕ} 16 (9 ∷ replicate 16 8) ≡ 9 ∷ replicate 15 8
seventeenth = refl

pub mark_gone : mark_at (slice_set (false ∷ true ∷ []) 1 false) 1 ≡ false
mark_gone = refl
