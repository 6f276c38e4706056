-- Worked examples: what a key has in the map of its shard after a run with moves. Keys 1 and 9 are of shard 1, key 2 is of shard 2.
use Rattle.std.specs.Prelude.{◌≡◌, ℕ, ◌<◌, List, [], ◌∷◌, ◌++◌, length, get_or, Option, None, Some}
use Rattle.std.proofs.Common.{subst, arith}
use Rattle.std.specs.BTreeMap.{BTreeMap, get}
use Rattle.std.specs.Ordering.{nat_cmp}
use Rattle.dict_model.specs.Links.{shards}
use Rattle.dict_model.specs.Nodes.{shard_of}
use Rattle.dict_model.specs.Requests.{Request, put, move, Reply, done, full}
use Rattle.dict_model.specs.Shards.{Map}
use Rattle.run_model.specs.Arrivals.{put_done_of}
use Rattle.shared_run.specs.Following.{AreAfter, AreAfterRun, AreMapsOf}

-- two values go to one key, and the trace puts a third one there
abbrev two_come : List (Request × Reply)
two_come = (move 1 2, done) ∷ (move 9 2, done) ∷ (put 2 (99 ∷ []), done) ∷ []

module _ (old new : List (BTreeMap ℕ (List ℕ))) (any : BTreeMap ℕ (List ℕ)) (long : length old ≡ shards) (whole : Map) (are : AreMapsOf whole old) where
  -- what a key has in the map of its shard
  abbrev has : List (BTreeMap ℕ (List ℕ)) → ℕ → Option (List ℕ)
  has maps key = get nat_cmp (get_or maps (shard_of key) any) key

  -- there is a map of either shard
  one_below : 1 < length old
  one_below = omega (arith, long)

  two_below : 2 < length old
  two_below = omega (arith, long)

  -- a value that was moved is under the other key at the end, in the other shard's map, and no more under its own
  comes_over : whole 1 ≡ Some (97 ∷ []) → AreAfterRun ((move 1 2, done) ∷ []) old new → (has new 1 ≡ None) × (has new 2 ≡ Some (97 ∷ []))
  comes_over there follows =
      let then = subst (λ value. AreAfter (((move 1 2, done) ∷ []) ++ (put_done_of value 2 ++ [])) old new) there (follows whole are) in
      (then.each 1 1 any one_below, then.each 2 2 any two_below)

  -- of two that come to one key the later one stays, and not what the trace itself put there
  later_stays : whole 1 ≡ Some (97 ∷ []) → whole 9 ≡ Some (98 ∷ []) → AreAfterRun two_come old new → has new 2 ≡ Some (98 ∷ [])
  later_stays first second follows =
      let one = subst (λ value. AreAfter (two_come ++ (put_done_of value 2 ++ (put_done_of (whole 9) 2 ++ []))) old new) first (follows whole are) in
      let both = subst (λ value. AreAfter (two_come ++ ((put 2 (97 ∷ []), done) ∷ put_done_of value 2 ++ [])) old new) second one in
      both.each 2 2 any two_below

  -- a value that is moved to its own key is back at the end
  comes_back : whole 1 ≡ Some (97 ∷ []) → AreAfterRun ((move 1 1, done) ∷ []) old new → has new 1 ≡ Some (97 ∷ [])
  comes_back there follows =
      let then = subst (λ value. AreAfter (((move 1 1, done) ∷ []) ++ (put_done_of value 1 ++ [])) old new) there (follows whole are) in
      then.each 1 1 any one_below

  -- where a move found no room, nothing goes and nothing comes
  stays : AreAfterRun ((move 1 2, full) ∷ []) old new → (has new 1 ≡ has old 1) × (has new 2 ≡ has old 2)
  stays follows = let then = follows whole are in (then.each 1 1 any one_below, then.each 2 2 any two_below)
