-- What an image that a seat of all roots may leave is as a dictionary: nothing in it is outside, and its shards are the maps that the seat has.
use Rattle.std.proofs.Common.{◌≡◌, ℕ, ◌<◌, ◌∙◌, arith}
use Rattle.heap_model.specs.Image.{Image}
use Rattle.heap_model.specs.Reach.{IsOutsideIn}
use Rattle.heap_seat.specs.View.{View, kind_of}
use Rattle.heap_seat.specs.Words.{MixesOwn, NamesAll, StoresKinds}
use Rattle.heap_seat.specs.Sound.{IsSeat}
use Rattle.dict_model.specs.Links.{shards, table_kind, dict_links}
use Rattle.dict_model.specs.Shards.{Map, MapOf}
use Rattle.dict_requests.specs.Maps.{IsMapIn}
use Rattle.dict_requests.specs.Reached.{ReachesOnlyHeld}
use Rattle.dict_requests.specs.Seats.{ShareHeap, MixesSeats}
use Rattle.run_model.specs.Opened.{HasAllRoots}
use Rattle.dict_requests.proofs.ImageLemmas.{walk_of}
use Rattle.dict_requests.proofs.SeatsLemmas.{nothing_outside as nothing_outside_seats, walk_alone}

module _ (v : View) (left : Image) (seat : IsSeat v) (only : ReachesOnlyHeld v) (mixes : MixesOwn v left) (named : NamesAll left v.held)
    (kinds : StoresKinds v left)
    (all : HasAllRoots v) where
  -- the seat is the only one of its heap
  share : ShareHeap 1 (λ _. v)
  share = record {
    only = λ i below. only;
    owner = λ root below. (0, omega arith, all.each root below);
    one_holder = λ i j b i_below j_below hi hj. omega arith;
  }

  mixed : MixesSeats 1 (λ _. v) left
  mixed = record { mixes = λ i below. mixes; names = λ i below. named; kinds = λ i below. kinds.each }

  pub nothing_outside : (at : ℕ) → IsOutsideIn left dict_links at → ⊥
  nothing_outside = nothing_outside_seats 1 (λ _. v) left share mixed

  pub map_left : (shard : ℕ) (map : Map) → shard < shards → kind_of v shard ≡ table_kind → IsMapIn v left shard map → MapOf left shard map
  map_left shard map small is_table is =
      walk_alone 1 (λ _. v) left share mixed shard map small (kinds.each shard (omega arith) ∙ is_table) (walk_of v left shard map named is)
