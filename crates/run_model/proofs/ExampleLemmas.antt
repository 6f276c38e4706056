-- Worked examples of replies that workers may have given, and of such that they may not; of runs that are as one
-- thread's, and of such that aren't; and of the room for a get.
use Rattle.std.proofs.Common.{◌≡◌, ℕ, zero, suc, ◌+◌, ◌<◌, ◌≤◌, List, [], ◌∷◌, length, None, Some, inl, inr, refl, subst, sym, ◌∙◌, arith}
use Rattle.std.specs.Prelude.{cond, nat_lt}
use Rattle.std.proofs.Math.Nat.{mod-lt}
use Rattle.std.proofs.lemmas.Bool.{cond-true, cond-false, lt-ltb, le-ltb}
use Rattle.heap_model.specs.Geometry.{root_word}
use Rattle.heap_model.specs.Image.{Image}
use Rattle.heap_model.proofs.MemberLemmas.{in_none, head_or_rest}
use Rattle.dict_model.specs.Nodes.{shard_of}
use Rattle.dict_model.specs.Requests.{put, get, done, full, none, IsReply, get_none}
use Rattle.dict_model.specs.Shards.{Map, MapOf, no_keys, is_empty}
use Rattle.run_model.specs.Examples.{mixed, one_missing, two_puts, two_bytes}
use Rattle.run_model.specs.Arrivals.{IsWholeMap}
use Rattle.run_model.specs.OneMap.{NoneIsFull, IsAsOneThread}
use Rattle.run_model.specs.Runs.{AnswersInOrder, AnswerInOrder}
use Rattle.run_model.specs.Workers.{worker_requests, worker_replies}
use Rattle.run_model.specs.Working.{IsLengthFor, of_none, of_image, of_trace, IsRoomFor}
use Rattle.run_model.proofs.OneMapLemmas.{one_whole}

-- a reply may stand behind a missing one that was another worker's
pub others_go_on : AnswerInOrder 2 mixed one_missing
others_go_on = record { long = refl; each = of_each } where
  of_each : (worker : ℕ) → worker < 2 → AnswersInOrder (worker_requests 2 worker mixed) (worker_replies 2 worker mixed one_missing)
  of_each zero below = record { first = refl; then_none = refl }
  of_each (suc zero) below = record { first = refl; then_none = refl }
  of_each (suc (suc worker)) below = absurd (omega (arith, below))

-- but not where one worker has all
pub one_alone_does_not : AnswerInOrder 1 mixed one_missing → ⊥
one_alone_does_not is = let e = (is.each 0 (omega arith)).then_none in absurd (cc)

-- nor behind a missing one of its own
pub not_behind_its_own : AnswerInOrder 2 mixed (None ∷ Some none ∷ Some done ∷ Some done ∷ []) → ⊥
not_behind_its_own is = let e = (is.each 1 (omega arith)).then_none in absurd (cc)

-- each request has a reply or stands as unanswered, for eight workers too
pub not_too_few : AnswerInOrder 8 mixed (Some done ∷ Some none ∷ []) → ⊥
not_too_few is = let e = is.long in absurd (cc)

-- shard 6 is that of worker 6 of eight
pub not_behind_its_shard : AnswerInOrder 8 mixed (Some done ∷ None ∷ Some done ∷ None ∷ []) → ⊥
not_behind_its_shard is = let e = (is.each 6 (omega arith)).then_none in absurd (cc)

-- an image whose roots are null, each with the kind of a table
unfoldable pub bare : Image
bare word = cond (nat_lt word 1064) 0 1

-- its whole map has no keys
pub no_keys_at_all : IsWholeMap bare no_keys
unfolding bare
no_keys_at_all = record {
  each = λ key.
      let below : shard_of key < 8 = mod-lt key (omega arith) in (
        no_keys,
        record {
          kind_is = cond-false (nat_lt (1064 + shard_of key) 1064) 0 1 (le-ltb (1064 + shard_of key) 1064 (omega arith));
          is_map = is_empty (cond-true (nat_lt (root_word (shard_of key)) 1064) 0 1 (lt-ltb (root_word (shard_of key)) 1064 (omega arith))) (λ k. refl);
        },
        refl,
      );
}

none_of_two : NoneIsFull (Some none ∷ Some none ∷ [])
none_of_two h = elim (head_or_rest (Some none) (Some full) (Some none ∷ []) h) [
  | inl same ↦ absurd (cc)
  | inr later ↦ elim (head_or_rest (Some none) (Some full) [] later) [ inl same ↦ absurd (cc) | inr past ↦ in_none (Some full) past ]
]

-- two gets, of two shards
pub two_gets : IsAsOneThread bare (get 5 ∷ get 14 ∷ []) (Some none ∷ Some none ∷ []) bare
two_gets = record {
  none_full = none_of_two;
  whole = no_keys;
  begins = no_keys_at_all;
  requests_are = refl;
  replies_are = refl;
  right = (get_none 5 refl, (get_none 14 refl, tt));
  leaves = no_keys_at_all;
}

-- no request may be left, none refused, and no reply too many
pub not_unanswered : (image left : Image) → IsAsOneThread image (get 5 ∷ []) (None ∷ []) left → ⊥
not_unanswered image left is = let e = is.requests_are in absurd (cc)

pub not_refused : (image left : Image) → IsAsOneThread image (put 5 [] ∷ []) (Some full ∷ []) left → ⊥
not_refused image left is = is.none_full (0, omega arith, refl)

pub not_too_many : (image left : Image) → IsAsOneThread image [] (Some done ∷ []) left → ⊥
not_too_many image left is = let e = is.replies_are in absurd (cc)

not_there : (whole : Map) (key : ℕ) (value : List ℕ) → whole key ≡ Some value → IsReply whole (get key) none → ⊥
not_there whole key value there (get_none _ missing) = let e : Some value ≡ None = sym there ∙ missing in absurd (cc)

-- what was put is found
pub not_forgotten : (image left : Image) → IsAsOneThread image (put 5 [] ∷ get 5 ∷ []) (Some done ∷ Some none ∷ []) left → ⊥
not_forgotten image left is = not_there _ 5 [] refl is.right.1.0

-- and is left
pub not_lost : IsAsOneThread bare (put 5 [] ∷ []) (Some done ∷ []) bare → ⊥
not_lost is = let e : Some [] ≡ None = one_whole bare _ no_keys is.leaves no_keys_at_all 5 in absurd (cc)

-- over an image that has no value of the key, the room for a get is as long as the longest value that the trace puts
module _ (image : Image) (no_value : (shard : ℕ) (map : Map) → MapOf image shard map → map 5 ≡ None) where
  at_most_two : (n : ℕ) → IsLengthFor image two_puts 5 n → n ≤ 2
  at_most_two _ of_none = omega arith
  at_most_two _ (of_image shard map value small is found) = let e : None ≡ Some value = sym (no_value shard map is) ∙ found in absurd (cc)
  at_most_two _ (of_trace value (zero, below, is)) = let same : (97 ∷ 98 ∷ []) ≡ value = cc in subst (λ (xs : List ℕ). length xs ≤ 2) same (omega arith)
  at_most_two _ (of_trace value (suc zero, below, is)) = absurd (cc)
  at_most_two _ (of_trace value (suc (suc zero), below, is)) = let same : [] ≡ value = cc in subst (λ (xs : List ℕ). length xs ≤ 2) same (omega arith)
  at_most_two _ (of_trace value (suc (suc (suc k)), below, is)) = absurd (omega (arith, below))

  pub room_for_two : (room : ℕ) → IsRoomFor image two_puts 5 room → room ≡ 2
  room_for_two room is = let enough = is.enough 2 (two_bytes image) in let needed = at_most_two room is.needed in omega (arith, enough, needed)
