-- How a put's search, its table and its node go together.
use Rattle.std.proofs.Common.{ℕ, ◌+◌, ◌≤◌, List, Contains, refl, subst, sym, ◌∙◌, arith, ◌≡◌}
use Rattle.heap_model.specs.declared.block.Block.{Block}
use Rattle.heap_seat.specs.declared.fault.AllocFault.{AllocFault}
use Rattle.heap_seat.specs.declared.fault.Looks.{Looks}
use Rattle.heap_seat.specs.declared.fault.AllocFault.TheVariants.{Full, Stopped}
use Rattle.heap_model.specs.Geometry.{root_word}
use Rattle.heap_model.specs.Sizes.{span_of}
use Rattle.heap_seat.specs.View.{View}
use Rattle.heap_seat.specs.Words.{IsOwn, in_root, KeepsOwn}
use Rattle.dict_requests.specs.Trails.{pointer_to, IsSettling}
use Rattle.heap_seat.specs.Tickets.{Runs}
use Rattle.heap_seat.specs.Calls.{SameRefusals}
use Rattle.heap_seat.proofs.RowLemmas.{runs_then, stops_then, same_refusals_then}
use Rattle.dict_model.specs.Nodes.{shard_of, table_bytes}
use Rattle.dict_model.specs.Shards.{Map}
use Rattle.dict_requests.specs.Quiet.{Grown}
use Rattle.dict_requests.specs.Changes.{MayChange, Changes}
use Rattle.dict_requests.specs.Tables.{MakesTable}
use Rattle.dict_requests.specs.Moving.{TableFails}
use Rattle.dict_requests.specs.Removal.{IsShard}
use Rattle.dict_requests.specs.Puts.{PutFails, PutAnswers, of_node, of_node_behind_table, of_table, WasNull, RootIsSet}
use Rattle.dict_requests.proofs.GrownLemmas.{kind_kept, gives_grown, grown_keeps}
use Rattle.dict_requests.proofs.ChangeLemmas.{table_then}
use Rattle.dict_requests.proofs.PublishLemmas.{others_then}
use Rattle.dict_requests.proofs.FirstLemmas.{refused_before}

-- the root of a shard is the seat's own
root_own : (v : View) (shard : ℕ) → Contains v.roots shard → IsOwn v.held v.roots (root_word shard)
root_own v shard owned = in_root shard (root_word shard) owned refl

pub still_owned : (v u : View) (shard : ℕ) → KeepsOwn v u → Contains v.roots shard → Contains u.roots shard
still_owned v u shard keeps owned = subst (λ (rs : List ℕ). Contains rs shard) (sym keeps.roots) owned

-- a root that is null after quiet calls was null before, if it was known
pub was_null : (v u : View) (shard : ℕ) → Contains v.roots shard → Grown v u → IsSettling u (root_word shard) 0 → WasNull v shard
was_null v u shard owned grown root x seen =
    let now = (grown.words (root_word shard) (root_own v shard owned)).volatile x seen in
    let null = root.seen in
    cc

-- a root that leads to a table isn't null, and stays so where nothing is stored
pub has_table : (u w : View) (shard : ℕ) (table : Block) → Contains u.roots shard → IsSettling u (root_word shard) (pointer_to table)
    → Grown u w → RootIsSet w shard
has_table u w shard table owned root grown = record {
  value = pointer_to table;
  seen = (grown.words (root_word shard) (root_own u shard owned)).volatile (pointer_to table) root.seen;
  some = λ null. omega arith;
}

-- over quiet calls before: a node's refusal, and a table's
pub answers_node : (bytes shard : ℕ) (fault : AllocFault) (table : Block) (v u w : View) → Runs v u → Grown v u → SameRefusals v u
    → u.taken ≤ v.taken + 0
    → Contains u.roots shard → IsSettling u (root_word shard) (pointer_to table) → PutFails bytes fault u w → PutAnswers bytes shard fault v w
answers_node bytes shard (Full looks) table v u w runs grown same taken owned root fails = (
  of_node (has_table u w shard table owned root (grown_keeps u w fails.1))
      (refused_before bytes 0 0 0 looks v u w runs same taken (omega arith) fails.0),
  λ map gives. gives_grown u w (grown_keeps u w fails.1) shard map (gives_grown v u grown shard map gives),
)
answers_node bytes shard (Stopped stopped) table v u w runs grown same taken owned root fails =
    (stops_then stopped.step v u w runs fails.0, same_refusals_then v u w same fails.1)

pub answers_table : (bytes shard : ℕ) (fault : AllocFault) (v u w : View) → Runs v u → Grown v u → SameRefusals v u → u.taken ≤ v.taken + 0
    → Contains u.roots shard → IsSettling u (root_word shard) 0 → PutFails table_bytes fault u w → PutAnswers bytes shard fault v w
answers_table bytes shard (Full looks) v u w runs grown same taken owned root fails = (
  of_table (((grown_keeps u w fails.1).words (root_word shard) (root_own u shard owned)).volatile 0 root.seen)
      (refused_before table_bytes 0 0 0 looks v u w runs same taken (omega arith) fails.0),
  λ map gives. gives_grown u w (grown_keeps u w fails.1) shard map (gives_grown v u grown shard map gives),
)
answers_table bytes shard (Stopped stopped) v u w runs grown same taken owned root fails =
    (stops_then stopped.step v u w runs fails.0, same_refusals_then v u w same fails.1)

-- the same of a table alone
pub fails_table : (shard : ℕ) (fault : AllocFault) (v u w : View) → Runs v u → Grown v u → SameRefusals v u → u.taken ≤ v.taken + 0
    → Contains u.roots shard → IsSettling u (root_word shard) 0 → PutFails table_bytes fault u w → TableFails shard fault v w
fails_table shard (Full looks) v u w runs grown same taken owned root fails = (
  ((grown_keeps u w fails.1).words (root_word shard) (root_own u shard owned)).volatile 0 root.seen,
  refused_before table_bytes 0 0 0 looks v u w runs same taken (omega arith) fails.0,
  λ map gives. gives_grown u w (grown_keeps u w fails.1) shard map (gives_grown v u grown shard map gives),
)
fails_table shard (Stopped stopped) v u w runs grown same taken owned root fails =
    (stops_then stopped.step v u w runs fails.0, same_refusals_then v u w same fails.1)

-- and behind a table that was made
pub answers_behind : (bytes key : ℕ) (fault : AllocFault) (table : Block) (v u y w : View) → Runs v u → Grown v u → SameRefusals v u
    → u.taken ≤ v.taken + 0
    → WasNull v (shard_of key) → MakesTable key table u y → y.taken ≤ u.taken + span_of table_bytes → PutFails bytes fault y w
    → PutAnswers bytes (shard_of key) fault v w
answers_behind bytes key (Full looks) table v u y w runs grown same taken null makes few fails = (
  of_node_behind_table null (has_table y w (shard_of key) table makes.missing.come.owned makes.missing.come.root (grown_keeps y w fails.1))
      (refused_before bytes (span_of table_bytes) 0 (span_of table_bytes) looks v y w (runs_then v u y runs makes.runs)
      (same_refusals_then v u y same makes.refusals) (omega arith) (omega arith) fails.0),
  λ map gives. gives_grown y w (grown_keeps y w fails.1) (shard_of key) map (makes.gives map (gives_grown v u grown (shard_of key) map gives)),
)
answers_behind bytes key (Stopped stopped) table v u y w runs grown same taken null makes few fails = (
  stops_then stopped.step v y w (runs_then v u y runs makes.runs) fails.0,
  same_refusals_then v y w (same_refusals_then v u y same makes.refusals) fails.1,
)

-- a change behind a table that was made
pub change_behind : (key : ℕ) (after : Map → Map) (table : Block) (u y w : View) → MakesTable key table u y → MayChange (shard_of key) after u y
    → MayChange (shard_of key) after y w → MayChange (shard_of key) after u w
change_behind key after table u y w makes made change = record {
  either = λ map gives. change.either map (makes.gives map gives);
  only = change.only;
  table = table_then (shard_of key) u y w (λ _. makes.missing.come.owned) made.table change.table;
  others = others_then (shard_of key) u y w (λ b kind h reached. makes.reached b kind h reached) made.others change.others;
}

pub changes_behind : (key : ℕ) (after : Map → Map) (table : Block) (u y w : View) → MakesTable key table u y → Changes (shard_of key) after y w
    → Changes (shard_of key) after u w
changes_behind key after table u y w makes changes = record { gives = λ map gives. changes.gives map (makes.gives map gives) }

-- the shard is a map behind it
pub shard_behind : (key : ℕ) (after : Map → Map) (table : Block) (u y : View) → IsShard u (shard_of key) → MakesTable key table u y
    → MayChange (shard_of key) after u y → IsShard y (shard_of key)
shard_behind key after table u y shard makes change = record {
  owned = makes.missing.come.owned;
  kind_is = kind_kept u y (shard_of key) change.others.kinds ∙ shard.kind_is;
  only = change.only;
  map = shard.map;
  gives = makes.gives shard.map shard.gives;
}

-- a refused request stored nothing
pub full_keeps : (bytes : ℕ) (fault : AllocFault) (v w : View) (looks : Looks) → fault ≡ Full looks → PutFails bytes fault v w → KeepsOwn v w
full_keeps bytes (Full found) v w looks is fails = fails.1
full_keeps bytes (Stopped stopped) v w looks is fails = absurd (cc)
