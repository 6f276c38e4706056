-- What an answered request leaves of a dictionary.
use Rattle.std.proofs.Common.{◌≡◌, ℕ, [], Bool, true, false, None, refl, sym, subst}
use Rattle.std.specs.Prelude.{is_some}
use Rattle.std.specs.BTreeSet.{BTreeSet}
use Rattle.block_heap.specs.Laws.{seat_law}
use Rattle.block_heap.specs.SeqState.{seat_of}
use Rattle.dict_model.specs.Nodes.{shard_of}
use Rattle.dict_model.specs.Requests.{with_key, without_key}
use Rattle.dict_model.specs.Shards.{Map}
use Rattle.dict_requests.specs.Changes.{MayChange, Changes}
use Rattle.dict_requests.proofs.OthersLemmas.{shards_on}
use Rattle.c_dictionary.specs.Dictionary.{Holds, Turns}
use Rattle.c_dictionary.specs.Keys.{Lists}
use Rattle.c_dictionary.specs.Ready.{IsReady}
use Rattle.c_dictionary.specs.declared.store.Store.{Store}
use Rattle.c_dictionary.proofs.KeyLemmas.{taken_again}
use Rattle.dict_requests.proofs.DeleteLemmas.{shard_below}
use Rattle.c_dictionary.proofs.TurnLemmas.{IsLocal, turned}

-- a request of the shard of a key, and the keys that are listed then
module _ (s t : Store) (ready : IsReady s) (key : ℕ) (may made : Map → Map)
    (changes : MayChange (shard_of key) may (seat_of s.heap) (seat_of t.heap)) (local : IsLocal key made)
    (done : Changes (shard_of key) made (seat_of s.heap) (seat_of t.heap)) (lists : (map : Map) → Holds map s → Lists t.keys (made map)) where
  pub turns_after : Turns made s t
  turns_after map holds = record {
    gives = turned s.heap t.heap key may ready.shards changes made local done map holds.gives;
    listed = lists map holds;
  }

  pub ready_after : t.heap.stopped ≡ None → IsReady t
  ready_after running = record {
    running = running;
    shards = shards_on (seat_of s.heap) (seat_of t.heap) (shard_of key) may (seat_law s.heap) (shard_below key) changes made ready.shards done;
    map = made ready.map;
    holds = turns_after ready.map ready.holds;
  }

-- keys that are as they were, once a key was added for nothing and taken out again
pub lists_undone : (old added_keys new : BTreeSet ℕ) (key : ℕ) (added : Bool) (map : Map) → Lists old map
    → (added ≡ true → is_some (map key) ≡ false) → Lists added_keys (with_key map key [])
    → (added ≡ false → Lists added_keys map) → (added ≡ true → Lists added_keys (with_key map key [])
    → Lists new (without_key (with_key map key []) key)) → (added ≡ false → new ≡ added_keys) → Lists new map
lists_undone old added_keys new key true map lists was with_it still taken same = taken_again new map key [] (was refl) (taken refl with_it)
lists_undone old added_keys new key false map lists was with_it still taken same =
    subst (λ (ks : BTreeSet ℕ). Lists ks map) (sym (same refl)) (still refl)
