-- What goes on of a seat over its calls and over the blocks that it offers or accepts.
use Rattle.std.specs.Prelude.{◌≡◌, ℕ}
use Rattle.seat_costs.specs.Asked.{HasAsked}
use Rattle.seat_model.specs.CacheState.{CacheValue}
use Rattle.thread_cache.specs.Keeps.{KeepsCounts}

-- It is a seat of the same heap, its calls cost at most so much, and chance was asked for as many numbers as tickets were drawn.
pub record StaysAtTable {C : Type 0} (gives : C → ℕ → C → Type 0) (s t : CacheValue C) : Type 0 where
  pub table : t.state.table ≡ s.state.table
  pub costs : KeepsCounts s.state t.state
  pub asked : HasAsked gives s.state.view t.state.view s.chance t.chance

-- so it stays, and accepts nothing
pub record OffersAtMost {C : Type 0} (gives : C → ℕ → C → Type 0) (s t : CacheValue C) : Type 0 where
  pub stays : StaysAtTable gives s t
  pub carries : t.state.view.carries ≡ s.state.view.carries
  pub accepts : t.state.view.accepts ≡ s.state.view.accepts

-- so it stays, and offers nothing
pub record AcceptsAtMost {C : Type 0} (gives : C → ℕ → C → Type 0) (s t : CacheValue C) : Type 0 where
  pub stays : StaysAtTable gives s t
  pub carries : t.state.view.carries ≡ s.state.view.carries
  pub offers : t.state.view.offers ≡ s.state.view.offers
