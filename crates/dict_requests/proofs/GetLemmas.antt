-- How a get's search and its reading go together.
use Rattle.std.proofs.Common.{◌≡◌, ℕ, List, Option, None, Some, refl, ap, subst, sym, arith}
use Rattle.heap_seat.specs.View.{View}
use Rattle.heap_seat.specs.Words.{KeepsOwn}
use Rattle.heap_seat.specs.Tickets.{Runs}
use Rattle.heap_seat.specs.Sound.{IsSeat}
use Rattle.heap_seat.proofs.RowLemmas.{runs_then}
use Rattle.dict_model.specs.Nodes.{shard_of, value_in}
use Rattle.dict_model.specs.Shards.{Map}
use Rattle.dict_requests.specs.declared.walk.Place.{Place}
use Rattle.dict_requests.specs.Maps.{GivesMap}
use Rattle.dict_requests.specs.Walks.{IsFoundPlace, IsQuietWalk}
use Rattle.dict_requests.specs.Gets.{IsAnswer, Gets, words_of, ReadsFew, ReadsValue, IsQuietRead}
use Rattle.dict_requests.proofs.GrownLemmas.{grown_keeps, gives_grown}
use Rattle.dict_requests.proofs.TrailLemmas.{now_image, now_completes, completes_before}
use Rattle.dict_requests.proofs.DelLemmas.{found_is, few_calls, few_quiet}

-- the key is missing
pub gets_nothing : (v u : View) (key : ℕ) (old : List ℕ) → Runs v u → ((map : Map) → GivesMap v (shard_of key) map → map key ≡ None)
    → Gets key None old old v u
gets_nothing v u key old runs none = record {
  runs = runs;
  tells = λ map gives. subst (λ (o : Option (List ℕ)). IsAnswer o None old old) (sym (none map gives)) (refl, refl);
}

pub few_search : (key : ℕ) (v u : View) → IsQuietWalk 5 (shard_of key) v u → ReadsFew key v u
few_search key v u walk map gives = few_quiet (words_of (map key)) 0 (shard_of key) v u walk

module _ (v u w : View) (key : ℕ) (place : Place) (seat : IsSeat u) where
  -- what the map has of the key, by what loads see after the reading
  has_value : KeepsOwn v u → IsFoundPlace u key place → IsQuietRead place.node u w → (map : Map) → GivesMap v (shard_of key) map
      → map key ≡ Some (value_in (now_image w) place.node)
  has_value keeps found read map gives =
      let later = completes_before u w (now_image w) (grown_keeps u w read.quiet.unchanged) (now_completes w) in
      (found_is u key place seat found map (gives_grown v u (grown_keeps v u keeps) (shard_of key) map gives) (now_image w) later).0

  -- the key's node was found, and its value read
  pub gets_node : KeepsOwn v u → IsFoundPlace u key place → (answer : ℕ) (old new : List ℕ) → Runs v u → IsQuietRead place.node u w
      → ReadsValue place.node answer old new u w
      → Gets key (Some answer) old new v w
  gets_node keeps found answer old new runs quiet reads = record {
    runs = runs_then v u w runs reads.runs;
    tells = λ map gives. subst (λ (o : Option (List ℕ)). IsAnswer o (Some answer) old new) (sym (has_value keeps found quiet map gives))
        (reads.is (now_image w) (now_completes w));
  }

  pub few_read : IsQuietWalk 5 (shard_of key) v u → IsFoundPlace u key place → IsQuietRead place.node u w → ReadsFew key v w
  few_read walk found read map gives =
      let few = read.few (now_image w) (now_completes w) in
      let words : words_of (map key) ≡ words_of (Some (value_in (now_image w) place.node)) =
      ap words_of (has_value walk.quiet.unchanged found read map gives) in
      few_calls read.small 0 0 (words_of (map key)) (shard_of key) v u w (omega arith) (omega arith) walk read.quiet.calls
