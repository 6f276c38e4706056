-- A node goes out of its shard and is offered: what that leaves.
use Rattle.std.proofs.Common.{◌≡◌, ◌⊎◌, inl, inr, ℕ, ◌+◌, ◌*◌, List, length, Option, None, Some, Contains, true, false, refl, subst, sym, ◌∙◌, arith}
use Rattle.heap_model.specs.declared.block.Block.{Block}
use Rattle.heap_seat.specs.View.{View}
use Rattle.heap_seat.specs.Words.{in_block, in_root, KeepsOwn}
use Rattle.heap_seat.specs.Calls.{IsSmallCall}
use Rattle.heap_seat.specs.Handing.{Offers}
use Rattle.heap_seat.specs.Sound.{IsSeat}
use Rattle.heap_seat.proofs.RowLemmas.{row_then, row_more, row_small}
use Rattle.heap_seat.proofs.CallerLemmas.{keeps_word_then}
use Rattle.dict_model.specs.Nodes.{shard_of}
use Rattle.dict_model.specs.Requests.{move, done, full, none, without_key, IsReply, move_done, move_full, move_none}
use Rattle.dict_model.specs.Shards.{Map}
use Rattle.dict_requests.specs.Changes.{MayChange, Changes}
use Rattle.dict_requests.specs.Maps.{IsMapIn}
use Rattle.dict_requests.specs.Moving.{IsTakenOut, TakesOut, TellsKey, MovesFew}
use Rattle.dict_requests.specs.Reached.{ReachesAllHeld, ReachesAllHeldBut}
use Rattle.dict_requests.specs.Removal.{IsShard}
use Rattle.dict_requests.proofs.ChangeLemmas.{freed, table_then, table_grown}
use Rattle.dict_requests.proofs.DeleteLemmas.{shard_below}
use Rattle.dict_requests.proofs.HandingLemmas.{offered, offered_all}
use Rattle.dict_requests.proofs.GrownLemmas.{grown_keeps, only_grown, kind_kept, map_grown, mixes_grown}
use Rattle.run_model.specs.Progress.{Answers}
use Rattle.run_model.specs.Working.{MakesCalls}

-- a change, and calls behind it that store nothing
pub change_then : (shard : ℕ) (after : Map → Map) (v u w : View) → IsSeat u → IsSeat w → Contains v.roots shard → KeepsOwn u w
    → w.kinds ≡ u.kinds → MayChange shard after v u → MayChange shard after v w
change_then shard after v u w seat_u seat_w owned keeps kinds may = record {
  either = λ map gives. record {
    each = λ image mixes. elim ((may.either map gives).each image (mixes_grown u w (grown_keeps u w keeps) image mixes))
        as (λ _. IsMapIn w image shard map ⊎ IsMapIn w image shard (after map)) [
          | inl one ↦ inl (map_grown u w (grown_keeps u w keeps) image shard map one)
          | inr two ↦ inr (map_grown u w (grown_keeps u w keeps) image shard (after map) two)
        ];
  };
  only = only_grown u w (grown_keeps u w keeps) kinds seat_w may.only;
  table = table_then shard v u w (subst (λ (rs : List ℕ). Contains rs shard) (sym may.others.roots)) may.table
      (table_grown shard u w (grown_keeps u w keeps));
  others = record {
    roots = keeps.roots ∙ may.others.roots;
    kinds = kinds ∙ may.others.kinds;
    root_words = λ root own differs. keeps_word_then v u w _ (may.others.root_words root own differs)
        (keeps.words _ (in_root root _ (subst (λ (rs : List ℕ). Contains rs root) (sym may.others.roots) own) refl));
    blocks = λ a h unreached.
        let r = may.others.blocks a h unreached in (
          subst (λ (bs : List Block). Contains bs a) (sym keeps.held) r.0,
          λ word inside. keeps_word_then v u w word (r.1 word inside) (keeps.words word (in_block a word r.0 inside)),
        );
  };
}

-- what stands of a node that was taken out, once it is offered
module _ (key : ℕ) (b : Block) (v u w : View) (seat : IsSeat u) (shard : IsShard v (shard_of key)) (out : IsTakenOut key b v u)
    (may : MayChange (shard_of key) (λ m. without_key m key) v u)
    (offers : Offers b u w) (call : IsSmallCall u w) where
  pub gone : Changes (shard_of key) (λ m. without_key m key) v w × MayChange (shard_of key) (λ m. without_key m key) v w
  gone = freed (shard_of key) (λ m. without_key m key) v u w b out.reached.0 (shard_below key) (kind_kept v u (shard_of key) may.others.kinds
      ∙ shard.kind_is) seat
      (subst (λ (rs : List ℕ). Contains rs (shard_of key)) (sym may.others.roots) shard.owned) out.loose.held
      (record { gives = out.gives }) may.only may.table may.others out.reached.1 out.loose.unreached
      (offered b u w seat out.loose offers call) call.goes_on.kinds

  pub all_gone : ReachesAllHeldBut b u → ReachesAllHeld w
  all_gone all = offered_all b u w seat out.loose offers call all

  pub answers_done : (to : ℕ) → Answers (move key to) done v w
  answers_done to = record { right = λ m gives. move_done key to out.value (out.had m gives); gives = gone.0.gives }

-- nothing is done where the key isn't there
pub answers_none : (key to : ℕ) (v w : View) → TakesOut key None v w → Answers (move key to) none v w
answers_none key to v w takes = record { right = λ m gives. move_none key to (takes m gives).0; gives = λ m gives. (takes m gives).1 }

-- a value is there or not
pub there_or_not : (o : Option (List ℕ)) → (o ≡ None) ⊎ ((value : List ℕ) × (o ≡ Some value))
there_or_not None = inl refl
there_or_not (Some value) = inr (value, refl)

-- nor is anything done where there is no table
pub answers_full : (key to : ℕ) (v w : View) → TellsKey key true v w → Changes (shard_of key) (λ m. m) v w → Answers (move key to) full v w
answers_full key to v w tells same = record {
  right = λ m gives. elim (there_or_not (m key)) as (λ _. IsReply m (move key to) full) [
    | inl nothing ↦ absurd ((tells.tells m gives).0 refl nothing)
    | inr value ↦ move_full key to value.0 value.1
  ];
  gives = same.gives;
}

pub answers_missing : (key to : ℕ) (v w : View) → TellsKey key false v w → Changes (shard_of key) (λ m. m) v w → Answers (move key to) none v w
answers_missing key to v w tells same = record {
  right = λ m gives. elim (there_or_not (m key)) as (λ _. IsReply m (move key to) none) [
    | inl nothing ↦ move_none key to nothing
    | inr value ↦ absurd (let yes : false ≡ true = (tells.tells m gives).1 (λ nothing. let e : None ≡ Some value.0 = sym nothing ∙ value.1 in
        absurd (cc)) in cc)
  ];
  gives = same.gives;
}

-- the calls of a search, of a take, and of an offer behind it
pub few_moves : (key to : ℕ) (v w : View) → MovesFew 0 (shard_of key) v w → MakesCalls (move key to) v w
few_moves key to v w few = record {
  few = λ m gives keys lists. row_more (500 + 4 * length keys) 0 0 (512 + 2 * 0 + 4 * length keys) 0 0 v w (omega arith) (omega arith)
      (omega arith) (few keys lists);
}

pub few_sent : (key to : ℕ) (v u w : View) → MovesFew 0 (shard_of key) v u → IsSmallCall u w → MakesCalls (move key to) v w
few_sent key to v u w few call = record {
  few = λ m gives keys lists. row_more (500 + 4 * length keys + 1) (0 + 0) (0 + 0) (512 + 2 * 0 + 4 * length keys) 0 0 v w (omega arith)
      (omega arith) (omega arith)
      (row_then (500 + 4 * length keys) 0 0 1 0 0 v u w (few keys lists) (row_small u w call));
}
