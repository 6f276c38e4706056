-- The parts of all workers of a run over one heap, and what is left of it.
use Rattle.std.specs.Prelude.{◌≡◌, ℕ, ◌+◌, ◌-◌, ◌<◌, ◌≤◌, ◌↔◌, ◌++◌, Bool, true, false, List, [], length, sum_by, replicate, get_or, slice_index, None, Contains}
use Rattle.heap_model.specs.declared.block.Block.{Block}
use Rattle.heap_model.specs.Durability.{IsClosedImage, IsCrashImage}
use Rattle.heap_model.specs.Rest.{IsReady}
use Rattle.core_model.specs.Carriers.{IsCarrier}
use Rattle.core_model.specs.Opening.{setup_of}
use Rattle.core_model.specs.View.{View}
use Rattle.seat_state.specs.OwnerLists.{OwnerLists}
use Rattle.dict_model.specs.Requests.{Request}
use Rattle.dict_model.specs.Shards.{Map}
use Rattle.heap_table.specs.AtTable.{IsClosedReached, IsClosedSound}
use Rattle.heap_table.specs.Rule.{Opening, opening_of}
use Rattle.seat_model.specs.CacheState.{CacheState}
use Rattle.run_model.specs.Arrivals.{IsWholeMap}
use Rattle.run_model.specs.Opened.{IsDictionary}
use Rattle.run_model.specs.Sending.{Sent, all_sent, coming, worker_numbered}
use Rattle.run_model.specs.Workers.{Replies, worker_numbers, worker_requests, worker_replies}
use Rattle.seat_owners.specs.Owning.{AreOwnersByRoot}
use Rattle.worker_parts.specs.Begun.{IsOpenedFor}
use Rattle.worker_parts.specs.Parts.{IsPart}

-- the image that is left: that of a close or, where the run was stopped, of a crash
abbrev pub IsLeftOf : Bool → List ℕ → List ℕ → List ℕ → Type 0
IsLeftOf false now kept left = IsClosedImage (slice_index now) (slice_index left)
IsLeftOf true now kept left = IsCrashImage (slice_index kept) (slice_index left)

-- a heap at rest as it is opened for so many workers, each with what it owns
abbrev pub opening_for : List ℕ → List Block → OwnerLists → ℕ → ℕ → Opening
opening_for words held owners workers budget = opening_of (record { words = words; held = held }) owners workers budget

-- the workers of a run over a dictionary at rest, with their seats as they were opened and as they were closed, and
-- with the replies of all; the run was stopped exactly where a worker was
pub record HaveWorked (words : List ℕ) (held : List Block) (workers budget : ℕ) (requests : List Request) (replies : Replies) (stopped : Bool)
    (now kept left : List ℕ) : Type 0 where
  pub ready : IsReady words held
  pub dictionary : IsDictionary (slice_index words) (Contains held)
  pub some : 1 ≤ workers
  pub few : workers ≤ 8
  -- the closed heap had the workers' seats and, where the run was stopped, carriers that are left
  pub views : List View
  pub carriers : List View
  pub closed : IsClosedSound (setup_of words budget workers) now kept (views ++ carriers)
  pub count : length views ≡ workers
  pub carry : (v : View) → Contains carriers v → IsCarrier v
  pub none_left : stopped ≡ false → carriers ≡ []
  -- each root and each held block is its worker's at the opening, and the closed words and views are what events of the seats made of that
  pub owners : OwnerLists
  pub by_root : AreOwnersByRoot (slice_index words) held workers owners.held owners.roots
  pub reached : IsClosedReached (opening_for words held owners workers budget) now kept (views ++ carriers)
  -- each worker's part, over the same tables, with what came for it: what the moves of all workers sent to its shards
  pub first : ℕ → CacheState
  pub last : ℕ → CacheState
  pub stops : ℕ → Bool
  pub told : ℕ → Replies
  pub tables : ℕ → Bool
  pub came : ℕ → List Sent
  pub brought : ℕ → List Sent
  -- These are counts, and say of no block which value it is. Each seat has offered as many blocks as its moves sent; it
  -- has accepted as many as values are brought in, or
  -- one more. Of all workers together as many carriers are left as values came beside those that were accepted; a carrier belongs to no worker here.
  pub offered : (whole : Map) → IsWholeMap (slice_index words) whole → (worker : ℕ) → worker < workers
      → (last worker).view.offers ≡ length (all_sent whole (worker_numbered workers worker requests) (told worker))
  pub accepted : (worker : ℕ) → worker < workers → (length (brought worker) ≤ (last worker).view.accepts)
      × ((last worker).view.accepts ≤ length (brought worker) + 1)
  pub remaining : ℕ → ℕ
  pub remain : (worker : ℕ) → worker < workers → (last worker).view.accepts + remaining worker ≡ length (came worker)
  pub carriers_are : length carriers ≡ sum_by remaining (worker_numbers workers)
  pub halted : Bool
  pub halts : halted ≡ true → stopped ≡ true
  pub long : length replies ≡ length requests
  pub padded : (worker : ℕ) → worker < workers → worker_replies workers worker requests replies
      ≡ told worker ++ replicate (length (worker_requests workers worker requests) - length (told worker)) None
  pub came_are : (whole : Map) → IsWholeMap (slice_index words) whole → (worker : ℕ) → worker < workers
      → came worker ≡ coming workers worker whole requests replies
  pub parts : (worker : ℕ) → worker < workers → IsPart (slice_index words) workers requests worker tables (told worker) (came worker)
      (brought worker) halted
      (stops worker) (first worker) (last worker)
  pub fresh : (worker : ℕ) → worker < workers → IsOpenedFor (opening_for words held owners workers budget) workers worker (first worker).view
  pub views_are : (worker : ℕ) (any : View) → worker < workers → get_or views worker any ≡ (last worker).view
  pub stopped_by : (stopped ≡ true) ↔ ((worker : ℕ) × (worker < workers) × (stops worker ≡ true))
  pub left_long : length left ≡ length words
  pub left_is : IsLeftOf stopped now kept left
