-- A node that is accepted and brought in: what that leaves.
use Rattle.std.proofs.Common.{◌≡◌, inl, inr, ℕ, ◌+◌, ◌*◌, List, length, Result, Ok, Err, OnErr, Contains, refl, subst, sym, ◌∙◌, arith}
use Rattle.heap_model.specs.declared.block.Block.{Block}
use Rattle.heap_model.specs.Geometry.{root_word}
use Rattle.heap_seat.specs.View.{View}
use Rattle.heap_seat.specs.Words.{in_block, in_root, KeepsOwn}
use Rattle.heap_seat.specs.Calls.{IsSmallCall}
use Rattle.heap_seat.specs.Sound.{IsSeat}
use Rattle.heap_seat.specs.Tickets.{Runs}
use Rattle.heap_seat.proofs.RowLemmas.{row_then, row_more, row_small, runs_then}
use Rattle.heap_seat.proofs.CallerLemmas.{keeps_word_then}
use Rattle.dict_model.specs.Nodes.{shard_of}
use Rattle.dict_model.specs.Requests.{with_key}
use Rattle.dict_requests.specs.Changes.{MayChange, Changes}
use Rattle.dict_requests.specs.Moving.{MayBring, MovesFew}
use Rattle.dict_requests.specs.Puts.{RootIsSet}
use Rattle.dict_requests.specs.Quiet.{Grown}
use Rattle.dict_requests.specs.Reached.{ReachesAllHeld, ReachesAllHeldBut}
use Rattle.dict_requests.specs.Removal.{IsShard, IsLoose}
use Rattle.dict_requests.specs.Walks.{ListsKeys}
use Rattle.dict_requests.proofs.ChangeLemmas.{change_none, table_then, table_grown}
use Rattle.dict_requests.proofs.CountLemmas.{lists_later}
use Rattle.dict_requests.proofs.GrownLemmas.{grown_keeps, gives_grown, reached_before, shard_grown}
use Rattle.dict_requests.proofs.HandingLemmas.{accepts_grown, accepted_loose, accepted_all, set_grown}
use Rattle.shard_moves.specs.Arriving.{HaveTables, MayArrive, HasArrived, StopsAtFirst}
use Rattle.shard_moves.specs.Inboxes.{TakesFirst, IsLeft}
use Rattle.run_model.specs.Sending.{Sent}
use Rattle.heap_model.proofs.MemberLemmas.{in_head}

-- what is so is so on an error
pub on_err_all : {T E P : Type 0} (r : Result T E) → P → OnErr r P
on_err_all (Ok value) is = tt
on_err_all (Err error) is = is

-- where the first came something was left
pub is_left : {key : ℕ} {node : Block} {old new : List Sent} {v w : View} → TakesFirst key node old new v w → IsLeft old
is_left {key} {node} {old} {new} takes = record { first = takes.first; others = new; left_are = takes.left_are }

-- the seat was stopped before the first came
pub stops_before : (old new : List Sent) (v w : View) → IsSeat w → IsLeft old → new ≡ old → HaveTables old v → KeepsOwn v w → IsSmallCall v w
    → StopsAtFirst old new v w
stops_before old new v w seat left same tables keeps call = record {
  first = left.first;
  others = left.others;
  left_are = left.left_are;
  still = inl (same ∙ left.left_are);
  arrives = record {
    may = change_none (shard_of left.first.key) (λ m. with_key m left.first.key left.first.value) v w (grown_keeps v w keeps) call.goes_on.kinds seat
        (tables.shard left.first (subst (λ (xs : List Sent). Contains xs left.first) (sym left.left_are) (in_head left.first left.others))).only;
    calls = λ keys lists. row_more 1 0 0 (512 + 4 * length keys) 1 0 v w (omega arith) (omega arith) (omega arith) (row_small v w call);
  };
}

-- the first has come: the seat is ready to bring it in
module _ (key : ℕ) (node : Block) (old new : List Sent) (v u : View) (seat : IsSeat u) (takes : TakesFirst key node old new v u)
    (call : IsSmallCall v u) (tables : HaveTables old v) where
  grown : Grown v u
  grown = accepts_grown node v u takes.accepts

  is_first : Contains old takes.first
  is_first = subst (λ (xs : List Sent). Contains xs takes.first) (sym takes.left_are) (in_head takes.first new)

  shard_before : IsShard v (shard_of key)
  shard_before = subst (λ k. IsShard v (shard_of k)) takes.key_is (tables.shard takes.first is_first)

  pub shard_there : IsShard u (shard_of key)
  unfolding grown
  shard_there = shard_grown v u (shard_of key) seat grown call.goes_on.kinds shard_before

  pub table_there : RootIsSet u (shard_of key)
  unfolding grown
  table_there = set_grown v u (shard_of key) grown shard_before.owned
      (subst (λ k. RootIsSet v (shard_of k)) takes.key_is (tables.table takes.first is_first))

  pub loose_there : IsLoose node u
  loose_there = accepted_loose node v u seat takes.accepts call shard_before.only

  -- wherever it ended
  module _ (w : View) (may : MayBring node (shard_of key) (λ m. with_key m key takes.first.value) u w) (few : MovesFew 1 (shard_of key) u w) where
    brought : MayChange (shard_of key) (λ m. with_key m key takes.first.value) v w
    unfolding grown
    brought = record {
      either = λ m gives. may.either m (gives_grown v u grown (shard_of key) m gives);
      only = may.only;
      table = table_then (shard_of key) v u w (subst (λ (rs : List ℕ). Contains rs (shard_of key)) (sym grown.roots))
          (table_grown (shard_of key) v u grown) may.table;
      others = record {
        roots = may.others.roots ∙ grown.roots;
        kinds = may.others.kinds ∙ call.goes_on.kinds;
        root_words = λ root owned differs. keeps_word_then v u w (root_word root)
            (grown.words (root_word root) (in_root root (root_word root) owned refl))
            (may.others.root_words root (subst (λ (rs : List ℕ). Contains rs root) (sym grown.roots) owned) differs);
        blocks = λ a h unreached.
            let r = may.others.blocks a (grown.keeps a h) (λ same. takes.accepts.blocks.new (subst (Contains v.held) same h))
            (λ kind reached. unreached kind (reached_before v u grown call.goes_on.kinds seat shard_before.only (shard_of key) a kind reached)) in
            (r.0, λ word inside. keeps_word_then v u w word (grown.words word (in_block a word h inside)) (r.1 word inside));
      };
    }

    pub arrives : MayArrive takes.first v w
    unfolding grown
    arrives = record {
      may = subst (λ k. MayChange (shard_of k) (λ m. with_key m k takes.first.value) v w) (sym takes.key_is) brought;
      calls = λ keys lists.
          let later = lists_later v u (shard_of key) keys grown (subst (λ k. ListsKeys v (shard_of k) keys) takes.key_is lists) in
          row_more (1 + (500 + 4 * length keys)) (0 + 1) (0 + 0) (512 + 4 * length keys) 1 0 v w (omega arith) (omega arith) (omega arith)
          (row_then 1 0 0 (500 + 4 * length keys) 1 0 v u w (row_small v u call) (few keys later));
    }

    pub stops_behind : StopsAtFirst old new v w
    stops_behind = record { first = takes.first; others = new; left_are = takes.left_are; still = inr refl; arrives = arrives }

    pub has_arrived : Runs u w → Changes (shard_of key) (λ m. with_key m key takes.first.value) u w → HasArrived old new v w
    unfolding grown
    has_arrived runs changes = record {
      first = takes.first;
      left_are = takes.left_are;
      runs = runs_then v u w takes.accepts.runs runs;
      changes = subst (λ k. Changes (shard_of k) (λ m. with_key m k takes.first.value) v w) (sym takes.key_is)
          (record { gives = λ m gives. changes.gives m (gives_grown v u grown (shard_of key) m gives) });
      arrives = arrives;
    }

  pub all_there : ReachesAllHeld v → ReachesAllHeldBut node u
  all_there all = accepted_all node v u seat takes.accepts call all
