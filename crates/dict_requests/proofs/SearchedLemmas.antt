-- What a search, which stores nothing, leaves to the rest of its put.
use Rattle.std.proofs.Common.{◌≡◌, ℕ, ◌+◌, ◌≤◌, Result, IfErr, None, Contains, ◌∙◌}
use Rattle.std.proofs.lemmas.Result.{IfErr-weaker}
use Rattle.heap_model.specs.declared.block.Block.{Block}
use Rattle.heap_model.specs.Geometry.{root_word}
use Rattle.heap_model.specs.Sizes.{span_of}
use Rattle.heap_seat.specs.declared.fault.AllocFault.{AllocFault}
use Rattle.heap_seat.specs.declared.fault.AllocFault.TheVariants.{Full}
use Rattle.heap_seat.specs.declared.fault.Looks.{Looks}
use Rattle.heap_seat.specs.View.{View}
use Rattle.heap_seat.specs.Tickets.{Runs}
use Rattle.heap_seat.specs.Sound.{IsSeat}
use Rattle.dict_model.specs.Nodes.{shard_of, table_bytes}
use Rattle.dict_model.specs.Shards.{Map}
use Rattle.dict_requests.specs.Changes.{MayChange, Changes}
use Rattle.dict_requests.specs.Maps.{GivesMap}
use Rattle.dict_requests.specs.Puts.{PutFails, PutAnswers, WasNull}
use Rattle.dict_requests.specs.Quiet.{Grown}
use Rattle.dict_requests.specs.Reached.{ReachesAllHeld}
use Rattle.dict_requests.specs.Removal.{IsShard}
use Rattle.dict_requests.specs.Tables.{MakesTable}
use Rattle.dict_requests.specs.Trails.{pointer_to, IsSettling}
use Rattle.dict_requests.specs.Walks.{IsQuietWalk}
use Rattle.dict_requests.proofs.GrownLemmas.{grown_keeps, gives_grown}
use Rattle.dict_requests.proofs.TrailLemmas.{same_map}
use Rattle.dict_requests.proofs.ChangeLemmas.{change_none, change_after, changes_after}
use Rattle.dict_requests.proofs.ExactCallLemmas.{all_quiet}
use Rattle.dict_requests.proofs.DelLemmas.{shard_still}
use Rattle.dict_requests.proofs.RequestLemmas.{full_keeps, was_null, still_owned, answers_node, answers_table, answers_behind}

-- the search of a put: it went through a shard that is a map
pub record HasSearched (key : ℕ) (v u : View) : Type 0 where
  pub shard : IsShard v (shard_of key)
  pub seat : IsSeat u
  pub walk : IsQuietWalk 5 (shard_of key) v u

pub searched : (key : ℕ) (v u : View) → IsShard v (shard_of key) → IsSeat u → IsQuietWalk 5 (shard_of key) v u → HasSearched key v u
searched key v u shard seat walk = record { shard = shard; seat = seat; walk = walk }

module _ {key : ℕ} {v u : View} (s : HasSearched key v u) where
  grown : Grown v u
  grown = grown_keeps v u s.walk.quiet.unchanged

  kinds : u.kinds ≡ v.kinds
  kinds = s.walk.quiet.calls.goes_on.kinds

  owned : Contains u.roots (shard_of key)
  owned = still_owned v u (shard_of key) s.walk.quiet.unchanged s.shard.owned

  -- the shard is as it was
  pub search_shard : IsShard u (shard_of key)
  search_shard = shard_still v u (shard_of key) s.seat s.walk.quiet.unchanged kinds s.shard

  pub search_lacks : (k : ℕ) → ((map : Map) → GivesMap v (shard_of key) map → map k ≡ None) → (map : Map) → GivesMap u (shard_of key) map
      → map k ≡ None
  search_lacks k none map gives =
      same_map u s.seat (shard_of key) map s.shard.map gives (gives_grown v u grown (shard_of key) s.shard.map s.shard.gives) k
      ∙ none s.shard.map s.shard.gives

  pub search_null : IsSettling u (root_word (shard_of key)) 0 → WasNull v (shard_of key)
  search_null = was_null v u (shard_of key) s.shard.owned grown

  -- what is changed behind it
  pub search_unchanged : (after : Map → Map) → MayChange (shard_of key) after v u
  search_unchanged after = change_none (shard_of key) after v u grown kinds s.seat s.shard.only

  pub search_change : (after : Map → Map) (w : View) → MayChange (shard_of key) after u w → MayChange (shard_of key) after v w
  search_change after w = change_after (shard_of key) after v u w grown kinds s.seat s.shard.only

  pub search_changes : (after : Map → Map) (w : View) → Changes (shard_of key) after u w → Changes (shard_of key) after v w
  search_changes after w = changes_after (shard_of key) after v u w grown

  pub search_all : ReachesAllHeld v → ReachesAllHeld u
  search_all = all_quiet v u s.seat s.walk.quiet.unchanged kinds

  -- why a node's request behind it fails, or a table's
  pub search_cause : {T : Type 0} (result : Result T AllocFault) (bytes : ℕ) (table : Block) (w : View) → Runs v u
      → IsSettling u (root_word (shard_of key)) (pointer_to table) → IfErr result (λ fault. PutFails bytes fault u w)
      → IfErr result (λ fault. PutAnswers bytes (shard_of key) fault v w)
  search_cause result bytes table w runs root =
      IfErr-weaker result (λ fault. PutFails bytes fault u w) (λ fault. PutAnswers bytes (shard_of key) fault v w)
      (λ fault fails. answers_node bytes (shard_of key) fault table v u w runs grown s.walk.quiet.refusals s.walk.quiet.calls.few owned root fails)

  pub search_cause_of_table : (bytes : ℕ) (fault : AllocFault) (w : View) → Runs v u → IsSettling u (root_word (shard_of key)) 0
      → PutFails table_bytes fault u w → PutAnswers bytes (shard_of key) fault v w
  search_cause_of_table bytes fault w runs root =
      answers_table bytes (shard_of key) fault v u w runs grown s.walk.quiet.refusals s.walk.quiet.calls.few owned root

  -- the same behind a table that was made
  pub search_cause_behind : {T : Type 0} (result : Result T AllocFault) (bytes : ℕ) (table : Block) (y w : View) → Runs v u
      → IsSettling u (root_word (shard_of key)) 0 → MakesTable key table u y → y.taken ≤ u.taken + span_of table_bytes
      → IfErr result (λ fault. PutFails bytes fault y w) → IfErr result (λ fault. PutAnswers bytes (shard_of key) fault v w)
  search_cause_behind result bytes table y w runs root makes few =
      IfErr-weaker result (λ fault. PutFails bytes fault y w) (λ fault. PutAnswers bytes (shard_of key) fault v w)
      (λ fault fails. answers_behind bytes key fault table v u y w runs grown s.walk.quiet.refusals s.walk.quiet.calls.few
      (search_null root) makes few fails)

-- a request that was refused leaves all reached that was
pub full_reaches : (bytes : ℕ) (v y w : View) → (ReachesAllHeld v → ReachesAllHeld y) → IsSeat w → w.kinds ≡ y.kinds
    → (fault : AllocFault) → PutFails bytes fault y w → (looks : Looks) → fault ≡ Full looks → ReachesAllHeld v → ReachesAllHeld w
full_reaches bytes v y w before seat kinds fault fails looks is all =
    all_quiet y w seat (full_keeps bytes fault y w looks is fails) kinds (before all)

pub ends_reaching : {T : Type 0} (result : Result T AllocFault) (bytes : ℕ) (v y w : View) → (ReachesAllHeld v → ReachesAllHeld y)
    → IsSeat w → w.kinds ≡ y.kinds → IfErr result (λ fault. PutFails bytes fault y w)
    → IfErr result (λ fault. (looks : Looks) → fault ≡ Full looks → ReachesAllHeld v → ReachesAllHeld w)
ends_reaching result bytes v y w before seat kinds =
    IfErr-weaker result (λ fault. PutFails bytes fault y w) (λ fault. (looks : Looks) → fault ≡ Full looks → ReachesAllHeld v → ReachesAllHeld w)
    (full_reaches bytes v y w before seat kinds)
