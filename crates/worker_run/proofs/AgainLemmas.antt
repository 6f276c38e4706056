-- What a run leaves can be run again; and the keys of a dictionary are finitely many.
use Rattle.std.proofs.Common.{◌≢◌, ℕ, zero, suc, ◌<◌, ◌≤◌, inl, inr, List, [], ◌++◌, Bool, None, Some, Contains, subst, sym, ◌∙◌, arith}
use Rattle.std.proofs.lemmas.Bool.{cases_eq}
use Rattle.std.proofs.lemmas.List.Elements.{Contains-append_left, Contains-append_right}
use Rattle.heap_model.specs.Image.{Image}
use Rattle.heap_model.specs.Header.{HasKindsBelow}
use Rattle.dict_model.specs.Links.{shards, kind_count}
use Rattle.dict_model.specs.Requests.{Request, done, after, after_one}
use Rattle.dict_model.specs.Shards.{Map, LeadsAlone, MapOf}
use Rattle.dict_model.proofs.ShardLemmas.{one_map_of}
use Rattle.run_model.specs.Arrivals.{arrived_for}
use Rattle.run_model.specs.Needs.{ListsKeysOf}
use Rattle.run_model.specs.Opened.{HasMaps, CanBeRun}
use Rattle.run_model.specs.Runs.{answered, worker_unanswered, of_shard, IsMapLeft, LeavesMaps, LeavesHeader, LeavesOthers}
use Rattle.run_model.specs.Workers.{Replies, worker_of}
use Rattle.run_model.proofs.OneMapLemmas.{whole_map}
use Rattle.worker_run.proofs.KeyLemmas.{map_keys}

-- a shard that is left as one map or another is a map
one_left : (left : Image) (shard : ℕ) (m : Map) (stopped : Bool) (rest : List Request) → IsMapLeft left shard m stopped rest → (now : Map)
    × MapOf left shard now
one_left left shard m stopped rest (inl same) = (m, same)
one_left left shard m stopped rest (inr next) = (after_one m next.1.request done, next.1.map_is)

-- the kinds of the roots that are left are those that there are
kinds_left : {image left : Image} {words : ℕ} → HasMaps image → LeavesHeader image words left → HasKindsBelow (Some kind_count) left
kinds_left {image} {left} have header root below =
    let kept = header.kinds root below in let few = have.kinds root below in omega arith

pub can_be_run : (image left : Image) (workers : ℕ) (requests : List Request) (replies : Replies) (stopped : Bool) (words : ℕ) → HasMaps image
    → LeavesMaps image workers requests replies stopped left
    → LeavesHeader image words left → LeavesOthers image left → CanBeRun words left
can_be_run image left workers requests replies stopped words have maps header others = record {
  well_formed = header.well_formed;
  version_is = header.version_is;
  nothing_outside = others.nothing_outside;
  maps = record {
    kinds = kinds_left have header;
    each = λ shard small.
        let first = have.each shard small in
        let whole = whole_map image have in
        let rs = answered requests replies in
        one_left left shard (after first.0 (of_shard shard (rs ++ arrived_for workers shard whole.0 rs maps.arrived))) stopped
        (worker_unanswered workers (worker_of workers shard) requests replies)
        (maps.each whole.0 whole.1 shard first.0 small first.1);
  };
}

-- the keys of the first shards
keys_of : (image : Image) → HasMaps image → (count : ℕ) → count ≤ shards
    → (keys : List ℕ) × ((shard : ℕ) (m : Map) → shard < count → MapOf image shard m → (key : ℕ) → m key ≢ None → Contains keys key)
keys_of image have zero few = ([], λ shard m below is key some. absurd (omega arith))
keys_of image have (suc count) few =
    let rest = keys_of image have count (omega arith) in
    let first = have.each count (omega arith) in
    let more = map_keys (LeadsAlone image count) image count first.0 first.1.is_map in (
      more.0 ++ rest.0,
      λ shard m below is key some. elim (cases_eq count shard) as (λ _. Contains (more.0 ++ rest.0) key) [
        | inl same ↦ Contains-append_left more.0 rest.0 key (more.1 key (λ none.
            some (one_map_of image count m first.0 (subst (λ n. MapOf image n m) (sym same) is) first.1 key ∙ none)))
        | inr other ↦ Contains-append_right more.0 rest.0 key (rest.1 shard m (omega arith) is key some)
      ],
    )

pub has_keys : (image : Image) → HasMaps image → (keys : List ℕ) × ListsKeysOf image keys
has_keys image have = let all = keys_of image have shards (omega arith) in (all.0, record { all = all.1 })
