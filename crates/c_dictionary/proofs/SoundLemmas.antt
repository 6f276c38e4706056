-- What an open dictionary keeps over a request, wherever that ends.
use Rattle.std.proofs.Common.{◌≡◌, ℕ, ◌<◌, inl, inr, None, sym, subst, ◌∙◌}
use Rattle.std.proofs.lemmas.Bool.{cases_eq}
use Rattle.heap_seat.specs.View.{View}
use Rattle.heap_seat.specs.Tickets.{Stops}
use Rattle.heap_seat.specs.declared.fault.Looks.{Looks}
use Rattle.block_heap.specs.Closing.{KeepsFixed}
use Rattle.block_heap.specs.Laws.{seat_law, keeps_row_law}
use Rattle.block_heap.specs.SeqState.{seat_of}
use Rattle.dict_model.specs.Links.{shards}
use Rattle.dict_model.specs.Nodes.{shard_of}
use Rattle.dict_model.specs.Shards.{Map}
use Rattle.dict_requests.specs.Changes.{MayChange}
use Rattle.dict_requests.specs.Maps.{GivesEither}
use Rattle.dict_requests.specs.Puts.{PutRefused, of_node, of_node_behind_table, of_table}
use Rattle.dict_requests.proofs.OthersLemmas.{others_give}
use Rattle.c_dictionary.specs.declared.store.Store.{Store}
use Rattle.c_dictionary.specs.Ready.{HasMaps, HasStopped, IsReady, IsSound}
use Rattle.dict_requests.proofs.DeleteLemmas.{shard_below}

module _ (s t : Store) (ready : IsReady s) (sound : IsSound s) (key : ℕ) (may : Map → Map)
    (change : MayChange (shard_of key) may (seat_of s.heap) (seat_of t.heap)) (keeps : KeepsFixed s.heap t.heap) (same : t.length ≡ s.length) where
  maps_after : (shard : ℕ) → shard < shards → HasMaps (seat_of t.heap) shard
  maps_after shard small = elim (cases_eq shard (shard_of key)) as (λ _. HasMaps (seat_of t.heap) shard) [
    | inl is ↦
        let had = ready.shards.each (shard_of key) (shard_below key) in
        record {
          one = had.map;
          other = may had.map;
          either = subst (λ n. GivesEither (seat_of t.heap) n had.map (may had.map)) (sym is) (change.either had.map had.gives);
        }
    | inr differs ↦
        let had = ready.shards.each shard small in
        let gives = others_give (seat_of s.heap) (seat_of t.heap) (shard_of key) may (seat_law s.heap) (shard_below key) change shard had.map differs
        had had.gives in
        record { one = had.map; other = had.map; either = record { each = λ image mixes. inl (gives.each image mixes) } }
  ]

  pub sound_after : IsSound t
  sound_after = record {
    words = sound.words;
    held = sound.held;
    budget = sound.budget;
    begun = sound.begun;
    at_rest = sound.at_rest;
    dictionary = sound.dictionary;
    opened = sound.opened;
    keeps = keeps_row_law sound.begun s.heap t.heap sound.keeps keeps;
    length_is = same ∙ sound.length_is;
    only = change.only;
    maps = maps_after;
  }

-- a call that answers a step stopped there
pub stopped_by : (s t : Store) (step : ℕ) → Stops step (seat_of s.heap) (seat_of t.heap) → HasStopped t
stopped_by s t step stops = record { step = step; stopped = stops.stopped; above = stops.above }

-- a request that was refused for want of room has not stopped
pub refused_runs : (bytes shard : ℕ) (looks : Looks) (v w : View) → PutRefused bytes shard looks v w → w.stopped ≡ None
refused_runs bytes shard looks v w (of_node root refused) = refused.runs.running
refused_runs bytes shard looks v w (of_node_behind_table null root refused) = refused.runs.running
refused_runs bytes shard looks v w (of_table null refused) = refused.runs.running
