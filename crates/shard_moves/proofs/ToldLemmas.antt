-- What loads see of a table, and what was told of it, stands over later calls.
use Rattle.std.proofs.Common.{◌≡◌, ◌≢◌, ℕ, inl, inr, Bool, true, false, Some, Contains, sym, ◌∙◌, arith}
use Rattle.std.proofs.lemmas.Bool.{cases_eq}
use Rattle.heap_model.specs.Geometry.{root_word}
use Rattle.heap_model.specs.Sizes.{span_of}
use Rattle.heap_seat.specs.declared.fault.Looks.{Looks}
use Rattle.heap_seat.specs.Rows.{IsRow}
use Rattle.heap_seat.specs.View.{View}
use Rattle.dict_model.specs.Nodes.{table_bytes}
use Rattle.dict_model.specs.Shards.{Map}
use Rattle.dict_requests.specs.Changes.{MayChange, Changes}
use Rattle.dict_requests.specs.Moving.{TableTakes}
use Rattle.dict_requests.specs.Puts.{WasNull}
use Rattle.dict_requests.specs.Removal.{IsShard}
use Rattle.dict_requests.proofs.HandingLemmas.{set_changed}
use Rattle.run_model.specs.Spending.{sees_table}
use Rattle.run_model.proofs.CountLemmas.{set_value, value_set}
use Rattle.shard_moves.specs.Tables.{TellsTable}

-- what one shard's table leaves: calls to that shard that keep its map
pub record HasTried {S : Type 0} (view : S → View) (keeps : S → S → Type 0) (shard : ℕ) (s t : S) : Type 0 where
  pub maps : Changes shard (λ map. map) (view s) (view t)
  pub change : MayChange shard (λ map. map) (view s) (view t)
  pub takes : TableTakes shard (view s) (view t)
  pub calls : IsRow 512 1 (span_of table_bytes) (view s) (view t)
  pub kept : keeps s t

-- a table that loads see they see over a change of any shard
pub sees_on : (v w : View) (at k : ℕ) (after : Map → Map) → MayChange at after v w → IsShard v k → sees_table v k ≡ true → sees_table w k ≡ true
sees_on v w at k after change is sees =
    let was = set_value (v.volatile (root_word k)) sees in
    let now = set_changed v w at k after change is.owned (record { value = was.0; seen = was.1; some = was.2 }) in
    value_set (w.volatile (root_word k)) now.value now.seen now.some

-- what was told of a shard stands over the next one
pub tells_on : {S : Type 0} (view : S → View) (keeps : S → S → Type 0) (has_none : S → S → ℕ → Looks → Type 0)
    → ((x y z : S) → keeps x y → keeps y z → keeps x z) → (at k : ℕ) (b : Bool) (s t u : S) → k ≢ at
    → IsShard (view t) k → HasTried view keeps at t u → TellsTable view keeps has_none k b s t → TellsTable view keeps has_none k b s u
tells_on view keeps has_none row at k true s t u other is tried set = set_changed (view t) (view u) at k (λ m. m) tried.change is.owned set
tells_on view keeps has_none row at k false s t u other is tried (null, now, refused) = (
  null,
  (tried.change.others.root_words k is.owned other).volatile 0 now,
  record {
    at = refused.at;
    before = refused.before;
    behind = row refused.at t u refused.behind tried.kept;
    null = refused.null;
    knows = let a = refused.knows in let b = tried.calls.goes_on.used in omega arith;
    until = let a = refused.until in let b = tried.calls.taken in omega arith;
    room = refused.room;
    looks = refused.looks;
    none = refused.none;
  },
)

-- where a table doesn't go away, a root that is null was null
null_before : (v w : View) (k : ℕ) → (sees_table v k ≡ true → sees_table w k ≡ true) → WasNull w k → WasNull v k
null_before v w k sees null x is = elim (cases_eq x 0) as (λ _. x ≡ 0) [
  | inl none ↦ none
  | inr some ↦
      let now = set_value (w.volatile (root_word k)) (sees (value_set (v.volatile (root_word k)) x is some)) in
      absurd (now.2 (null now.0 now.1))
]

-- a root that a call found null was null before the call, which keeps a table
pub null_at_first : (v w : View) (k : ℕ) (after : Map → Map) → MayChange k after v w → Contains v.roots k → w.volatile (root_word k) ≡ Some 0
    → WasNull v k
null_at_first v w k after change owned null x is = elim (cases_eq x 0) as (λ _. x ≡ 0) [
  | inl none ↦ none
  | inr some ↦ let e : Some x ≡ Some 0 = sym (change.table.root x owned is some) ∙ null in cc
]

-- and what one shard is told is so from an earlier state on
pub tells_from : {S : Type 0} (view : S → View) (keeps : S → S → Type 0) (has_none : S → S → ℕ → Looks → Type 0)
    → ((x y z : S) → keeps x y → keeps y z → keeps x z) → (k : ℕ) (b : Bool) (s t u : S)
    → keeps s t → (sees_table (view s) k ≡ true → sees_table (view t) k ≡ true) → TellsTable view keeps has_none k b t u
    → TellsTable view keeps has_none k b s u
tells_from view keeps has_none row k true s t u kept sees set = set
tells_from view keeps has_none row k false s t u kept sees (null, now, refused) = (
  null_before (view s) (view t) k sees null,
  now,
  record {
    at = refused.at;
    before = row s t refused.at kept refused.before;
    behind = refused.behind;
    null = refused.null;
    knows = refused.knows;
    until = refused.until;
    room = refused.room;
    looks = refused.looks;
    none = let none = refused.none in
        record {
          before = none.before;
          after = none.after;
          kept_before = row s t none.before kept none.kept_before;
          none = none.none;
          kept_after = none.kept_after;
        };
  },
)
