-- A worker's post box: what it has sent, and to which worker.
use Rattle.std.specs.Prelude.{◌≡◌, ◌≤◌, ℕ, suc, Bool, List, [], ◌∷◌, ◌++◌, All, filter, flat_map, length, map, nat_eq, ⊤}
use Rattle.std.specs.declared.vec.Vec.{Vec}
use Rattle.atomic_table.specs.Seated.{TableId}
use Rattle.dict_model.specs.Nodes.{shard_of}
use Rattle.parcel_queue.specs.Account.{PassView, QueueView}
use Rattle.run_model.specs.Sending.{Sent}
use Rattle.run_model.specs.Workers.{worker_of}
use Rattle.seat_model.specs.CacheState.{CacheState}
use Rattle.seat_parcels.specs.declared.parcel.Parcel.{Parcel}
use Rattle.seat_parcels.specs.Parcels.{IsParcelOf, all_sent_of}

-- what contracts see of it: the queues and the passes to them, the parcels that it kept and for how many more it has
-- room, and how many workers there are
pub record BoxView : Type 0 where
  pub queues : List QueueView
  pub passes : List (PassView Parcel)
  pub kept : List Parcel
  pub spare : ℕ
  pub workers : ℕ

-- all that was put with these passes
abbrev pub all_put : List (PassView Parcel) → List Parcel
all_put passes = flat_map (λ (p : PassView Parcel). p.account.put) passes

-- all its parcels: those that were put, and those that it kept
abbrev pub parcels_of : BoxView → List Parcel
parcels_of box = all_put box.passes ++ box.kept

-- the values that it sent
abbrev pub sent_by : BoxView → List Sent
sent_by box = all_sent_of (parcels_of box)

-- of so many workers, the one to which a parcel goes: that of the shard of its key
abbrev pub goes_to : ℕ → Parcel → ℕ
goes_to workers p = worker_of workers (shard_of p.key)

-- whether it goes to this one
abbrev pub is_for : ℕ → ℕ → Parcel → Bool
is_for workers worker p = nat_eq (goes_to workers p) worker

-- those of the parcels that go to this one, in their order
abbrev pub parcels_for : ℕ → ℕ → List Parcel → List Parcel
parcels_for workers worker parcels = filter (is_for workers worker) parcels

-- what stands in each of these pieces
abbrev pub pieces_of : {Z : Type 0} → List (Vec Parcel Z) → List (List Parcel)
pieces_of {Z} pieces = map (λ (piece : Vec Parcel Z). piece.items) pieces

-- with these passes, which are to the queues of the workers from this one on, each parcel was put for its worker
abbrev pub ArePutRightly : ℕ → ℕ → List (PassView Parcel) → Type 0
ArePutRightly workers from [] = ⊤
ArePutRightly workers from (p ∷ ps) = All (λ x. goes_to workers x ≡ from) p.account.put × ArePutRightly workers (suc from) ps

-- the pass has so many parts, and nothing was taken with it
pub record HasParts (parts : ℕ) (p : PassView Parcel) : Type 0 where
  pub parts_are : p.account.parts ≡ parts
  pub none_taken : p.account.taken ≡ []

-- each of the passes has
abbrev pub HaveParts : ℕ → List (PassView Parcel) → Type 0
HaveParts parts passes = All (HasParts parts) passes

-- it is one to these queues, of which each worker has one; there is a pass for each, with one part, each parcel went to its worker, and what is
-- kept a seat at the table may accept
pub record IsPostBox (table : TableId) (queues : List QueueView) (box : BoxView) : Type 0 where
  pub queues_are : box.queues ≡ queues
  pub some : 1 ≤ box.workers
  pub queue_each : length queues ≡ box.workers
  pub pass_each : length box.passes ≡ box.workers
  pub parts : HaveParts 1 box.passes
  pub rightly : ArePutRightly box.workers 0 box.passes
  pub kept : All (IsParcelOf table) box.kept

-- the seat is one of the heap, and has offered what the box sent, and nothing else
pub record IsInStep (table : TableId) (box : BoxView) (s : CacheState) : Type 0 where
  pub at_table : s.table ≡ table
  pub offered : s.view.offers ≡ length (sent_by box)
