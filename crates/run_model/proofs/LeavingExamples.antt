-- Worked examples of what a run may not tell or leave: a refusal where there is room, a stop with enough budget, a
-- reply that isn't right, a shard without its answered requests or with another one, and other words that are to stay.
use Rattle.std.proofs.Common.{◌≡◌, ◌≢◌, ℕ, zero, suc, ◌+◌, ◌<◌, ◌≤◌, inl, inr, List, [], ◌∷◌, ◌++◌, map, take, None, Some, true, false, refl, subst, sym, ◌∙◌, arith}
use Rattle.std.specs.Prelude.{nat_lt}
use Rattle.std.proofs.Math.Seq.{take-nil}
use Rattle.std.proofs.lemmas.Bool.{cond-true, cond-false, lt-ltb, le-ltb}
use Rattle.heap_model.specs.declared.block.Block.{Block}
use Rattle.heap_model.specs.Blocks.{IsIn}
use Rattle.heap_model.specs.Examples.{formatted}
use Rattle.heap_model.specs.Geometry.{root_word, in_header}
use Rattle.heap_model.specs.Header.{used_of, kinds_of}
use Rattle.heap_model.specs.Image.{Image}
use Rattle.heap_model.specs.Pointers.{Leads}
use Rattle.heap_model.specs.Reach.{ReachFrom, by_start}
use Rattle.heap_model.proofs.MemberLemmas.{in_head, in_rest}
use Rattle.dict_model.specs.Links.{shards, dict_links}
use Rattle.dict_model.specs.Requests.{Request, put, get, move, Reply, done, full, found, with_key, after, after_one, IsReply, get_found}
use Rattle.dict_model.specs.Shards.{Map, MapOf, no_keys, is_empty}
use Rattle.dict_model.proofs.ShardLemmas.{one_map_of}
use Rattle.run_model.specs.Arrivals.{arrivals}
use Rattle.run_model.specs.Examples.{moved_once}
use Rattle.run_model.specs.Needs.{is_to}
use Rattle.run_model.specs.Workers.{worker_of}
use Rattle.run_model.specs.Runs.{of_shard, worker_unanswered, HaveArrived, IsAfterFirst, IsOtherRoot, StopsRightly, IsFullRightly, RepliesRightly, LeavesMaps, LeavesHeader, LeavesOthers, LeavesUsed, LeavesState}
use Rattle.run_model.proofs.ExampleLemmas.{bare, no_keys_at_all}

-- an empty image of so many superblocks, of which so many are taken
abbrev sized : ℕ → ℕ → Image
sized capacity used = formatted capacity ((8, used) ∷ [])

-- a put isn't refused where one superblock is left for its node and one for its table
pub not_full_with_room : IsFullRightly (sized 4 2) 1 (put 5 [] ∷ []) (Some full ∷ []) → ⊥
not_full_with_room is =
    let past : 4 < 2 + 1 + 0 + 0 + 1 = is.cause 0 (omega arith) [] [] 5 [] refl in omega (arith, past)

-- what was refused before it took nothing, nor does what its worker puts later count
pub refused_takes_nothing : IsFullRightly (sized 4 2) 1 (put 5 [] ∷ put 13 [] ∷ []) (Some full ∷ Some full ∷ []) → ⊥
refused_takes_nothing is =
    let past : 4 < 2 + 1 + 0 + 0 + 1 = is.cause 0 (omega arith) ((put 5 [], full) ∷ []) [] 13 [] refl in omega (arith, past)

pub later_takes_nothing : IsFullRightly (sized 4 2) 1 (put 5 [] ∷ put 13 [] ∷ []) (Some full ∷ Some done ∷ []) → ⊥
later_takes_nothing is =
    let past : 4 < 2 + 1 + 0 + 0 + 1 = is.cause 0 (omega arith) [] ((put 13 [], done) ∷ []) 5 [] refl in omega (arith, past)

-- of what another worker has left the first request alone counts
pub first_left_takes : IsFullRightly (sized 5 1) 2 (put 6 [] ∷ put 14 [] ∷ put 5 [] ∷ []) (None ∷ None ∷ Some full ∷ []) → ⊥
first_left_takes is =
    let past : 5 < 1 + 1 + 0 + 1 + 2 = is.cause 1 (omega arith) [] [] 5 [] refl in omega (arith, past)

-- each shard of the image without keys is a map without keys
no_keys_in : (shard : ℕ) → shard < shards → MapOf bare shard no_keys
unfolding bare
no_keys_in shard small = record {
  kind_is = cond-false (nat_lt (1064 + shard) 1064) 0 1 (le-ltb (1064 + shard) 1064 (omega arith));
  is_map = is_empty (cond-true (nat_lt (root_word shard) 1064) 0 1 (lt-ltb (root_word shard) 1064 (omega arith))) (λ key. refl);
}

-- a run of no request over it, by one worker, ends with a budget of its bound
pub not_stopped_with_budget : StopsRightly bare 1 [] 2097152 [] true → ⊥
not_stopped_with_budget is =
    let past : 2097152 < 2097152 = is.cause refl [] (record {
      all = λ shard map small there key some. absurd (some (one_map_of bare shard map no_keys there (no_keys_in shard small) key));
    }) in omega (arith, past)

-- and none that isn't stopped leaves a request
pub not_left : (image : Image) (budget : ℕ) → StopsRightly image 1 (get 5 ∷ []) budget (None ∷ []) false → ⊥
not_left image budget is = let e = is.all refl in absurd (cc)

not_there : (key : ℕ) (value : List ℕ) → IsReply no_keys (get key) (found value) → ⊥
not_there key value (get_found _ _ is) = let e : None ≡ Some value = is in absurd (cc)

-- no value is made up
pub not_made_up : RepliesRightly bare (get 5 ∷ []) (Some (found []) ∷ []) → ⊥
not_made_up is = not_there 5 [] (is.right 5 no_keys (omega arith) (no_keys_in 5 (omega arith))).0

-- a key that is not in the image
not_in_bare : (m : Map) → m 5 ≡ Some [] → MapOf bare 5 m → ⊥
not_in_bare m there is =
    let e : Some [] ≡ None = sym there ∙ one_map_of bare 5 m no_keys is (no_keys_in 5 (omega arith)) 5 in absurd (cc)

-- the map after a put of that key
abbrev one_put : Map
one_put = with_key no_keys 5 []

-- a run without moves brings nothing in
nothing_came : (left : Image) (rs : List (Request × Reply)) (arrived : ℕ) → MapOf left 5 (after no_keys (of_shard 5 (rs ++ take arrived [])))
    → MapOf left 5 (after no_keys (of_shard 5 (rs ++ [])))
nothing_came left rs arrived is = subst (λ xs. MapOf left 5 (after no_keys (of_shard 5 (rs ++ xs)))) (take-nil {A = Request × Reply} arrived) is

-- where a run is stopped, what was answered is left
pub answered_is_left : LeavesMaps bare 1 (put 5 [] ∷ put 13 [] ∷ []) (Some done ∷ None ∷ []) true bare → ⊥
answered_is_left leaves = elim (leaves.each no_keys no_keys_at_all 5 no_keys (omega arith) (no_keys_in 5 (omega arith))) [
  | inl as_answered ↦ not_in_bare one_put refl (nothing_came bare ((put 5 [], done) ∷ []) (leaves.arrived 0) as_answered)
  | inr more ↦
      let same : put 13 [] ≡ more.1.request = let first = more.1.first in cc in
      let is = subst (λ q. MapOf bare 5 (after_one (after no_keys (of_shard 5 ((put 5 [], done) ∷ take (leaves.arrived 0) []))) q done))
      (sym same) more.1.map_is in
      not_in_bare (after_one one_put (put 13 []) done) refl
      (subst (λ xs. MapOf bare 5 (after_one (after no_keys (of_shard 5 ((put 5 [], done) ∷ xs))) (put 13 []) done))
      (take-nil {A = Request × Reply} (leaves.arrived 0)) is)
]

-- and of what was not, the worker's first request alone may have been done
pub no_other_is_done : (left : Image) (m : Map) → MapOf left 5 m → m 13 ≡ Some [] → m 5 ≡ None
    → LeavesMaps bare 1 (put 5 [] ∷ put 13 [] ∷ []) (None ∷ None ∷ []) true left → ⊥
no_other_is_done left m is there none leaves = elim (leaves.each no_keys no_keys_at_all 5 no_keys (omega arith) (no_keys_in 5 (omega arith))) [
  | inl as_answered ↦ let e : Some [] ≡ None = sym there ∙ one_map_of left 5 m no_keys is
      (nothing_came left [] (leaves.arrived 0) as_answered) 13 in absurd (cc)
  | inr more ↦
      let same : put 5 [] ≡ more.1.request = let first = more.1.first in cc in
      let as_first = subst (λ q. MapOf left 5 (after_one (after no_keys (of_shard 5 (take (leaves.arrived 0) []))) q done)) (sym same) more.1.map_is in
      let done_first = subst (λ xs. MapOf left 5 (after_one (after no_keys (of_shard 5 xs)) (put 5 []) done))
      (take-nil {A = Request × Reply} (leaves.arrived 0)) as_first in
      let e : Some [] ≡ None = sym there ∙ one_map_of left 5 m (after_one no_keys (put 5 []) done) is done_first 13 in absurd (cc)
]

-- nor may a request to another shard, which changes nothing in this one
pub not_to_another_shard : (left : Image) (map : Map) (rest : List Request) → IsAfterFirst left 5 map (get 6 ∷ rest) → ⊥
not_to_another_shard left map rest is =
    let same : get 6 ≡ is.request = let first = is.first in cc in
    let e : false ≡ true = subst (λ q. is_to 5 q ≡ true) (sym same) is.to_shard in
    absurd (cc)

-- the capacity, a word without a meaning and the kind of a root that is no shard's are as they were
pub header_stays : (image left : Image) (words : ℕ) → LeavesHeader image words left
    → (left 2 ≡ image 2) × (left 9 ≡ image 9) × (kinds_of left 8 ≡ kinds_of image 8)
header_stays image left words leaves = (
  leaves.capacity,
  leaves.without_meaning 9 (in_header 9 (omega arith) (omega arith) (λ e. omega arith) (inl (omega arith))),
  leaves.kinds 8 (omega arith),
)

-- so are that root and the words of the block that it leads to, which is a block still, and reached as one of that kind
module _ (image left : Image) (leaves : LeavesOthers image left) where
  pub root_stays : left 48 ≡ image 48
  root_stays = leaves.roots_are 8 (omega arith) (omega arith)

  module _ (b : Block) (leads : Leads image (image 48) b) where
    by_root : ReachFrom image IsOtherRoot (kinds_of image) dict_links b (kinds_of image 8)
    by_root = by_start b (kinds_of image 8) (record { root = 8; below = omega arith; is_chosen = omega arith; kind_is = refl; leads = leads })

    pub words_stay : (word : ℕ) → IsIn b word → left word ≡ image word
    words_stay word inside = leaves.blocks_are b (kinds_of image 8) word by_root inside

    pub block_stays : ReachFrom left IsOtherRoot (kinds_of left) dict_links b (kinds_of image 8)
    block_stays = leaves.still_reached b (kinds_of image 8) by_root

-- a put takes a superblock for its node and one for a table at most, a refused one that for a table alone, and none is lost
pub two_taken : (left : Image) → LeavesUsed (sized 8 3) 1 (put 5 [] ∷ []) (Some done ∷ []) left → (3 ≤ used_of left) × (used_of left ≤ 5)
two_taken left leaves = (leaves.least, leaves.most)

pub one_taken : (left : Image) → LeavesUsed (sized 8 3) 1 (put 5 [] ∷ []) (Some full ∷ []) left → used_of left ≤ 4
one_taken left leaves = leaves.most

-- the state word tells whether the run was stopped
pub closed : (left : Image) → LeavesState false left → left 3 ≡ 1
closed left is = is

pub not_closed : (left : Image) → LeavesState true left → left 3 ≡ 2
not_closed left is = is

-- a move isn't refused where a superblock is left for the table of its other key
pub move_not_full_with_room : IsFullRightly (sized 4 2) 1 (move 5 6 ∷ []) (Some full ∷ []) → ⊥
move_not_full_with_room is =
    let past : 4 < 2 + 1 + 0 + 1 = is.move_cause 0 (omega arith) [] [] 5 6 refl in omega (arith, past)

-- nor where the image has a table there, nor of one alone of two moves to a shard
pub move_not_full_with_table : (image : Image) → image (root_word 6) ≢ 0 → IsFullRightly image 1 (move 5 6 ∷ []) (Some full ∷ []) → ⊥
move_not_full_with_table image some is = some (is.no_table 5 6 (in_head (move 5 6, full) []))

pub moves_not_apart : (image : Image) → IsFullRightly image 1 (move 5 6 ∷ move 7 14 ∷ []) (Some full ∷ Some done ∷ []) → ⊥
moves_not_apart image is =
    is.alike 5 6 7 14 refl (in_head (move 5 6, full) ((move 7 14, done) ∷ []))
    (in_rest (move 5 6, full) (move 7 14, done) ((move 7 14, done) ∷ []) (in_head (move 7 14, done) []))

-- nor is a key of another shard
not_in_one : (m : Map) (value : List ℕ) → m 9 ≡ Some value → MapOf bare 1 m → ⊥
not_in_one m value there is =
    let e : Some value ≡ None = sym there ∙ one_map_of bare 1 m no_keys is (no_keys_in 1 (omega arith)) 9 in absurd (cc)

-- a run that moved a value and wasn't stopped leaves it under its other key
pub moved_is_left : LeavesMaps bare 1 (put 5 (97 ∷ []) ∷ move 5 9 ∷ []) (Some done ∷ Some done ∷ []) false bare → ⊥
moved_is_left leaves =
    let some = leaves.have_arrived.all refl no_keys no_keys_at_all 1 (omega arith) in
    elim (leaves.each no_keys no_keys_at_all 1 no_keys (omega arith) (no_keys_in 1 (omega arith))) [
      | inl there ↦
          let is = subst (λ n. MapOf bare 1 (after no_keys (of_shard 1 (moved_once ++ take n (arrivals no_keys moved_once))))) some there in
          not_in_one (after no_keys (of_shard 1 (moved_once ++ take 1 (arrivals no_keys moved_once)))) (97 ∷ []) refl is
      | inr stop ↦ let e : false ≡ true = stop.0 in absurd (cc)
    ]

-- without a stop all has arrived
pub all_arrive : (arrived : ℕ → ℕ) → HaveArrived bare 1 (put 5 [] ∷ move 5 9 ∷ []) (Some done ∷ Some done ∷ []) false arrived → arrived 0 ≡ 1
all_arrive arrived is = is.all refl no_keys no_keys_at_all 0 (omega arith)

-- and nothing where the worker has a request left; the other one may have brought all in
pub none_arrives : (arrived : ℕ → ℕ) → HaveArrived bare 2 (put 5 [] ∷ move 5 2 ∷ get 6 ∷ []) (Some done ∷ Some done ∷ None ∷ []) true arrived
    → arrived 0 ≡ 0
none_arrives arrived is = is.none 0 (omega arith) (λ e. absurd (cc))

pub other_arrives : HaveArrived bare 2 (put 5 [] ∷ move 5 1 ∷ get 6 ∷ []) (Some done ∷ Some done ∷ None ∷ []) true (λ worker. worker)
other_arrives = record {
  all = λ e. absurd (cc);
  none = λ shard below some. odd_has_none shard below some;
} where
  odd_has_none : (shard : ℕ) → shard < shards
      → worker_unanswered 2 (worker_of 2 shard) (put 5 [] ∷ move 5 1 ∷ get 6 ∷ []) (Some done ∷ Some done ∷ None ∷ []) ≢ [] → worker_of 2 shard ≡ 0
  odd_has_none zero below some = refl
  odd_has_none (suc zero) below some = absurd (some refl)
  odd_has_none (suc (suc zero)) below some = refl
  odd_has_none (suc (suc (suc zero))) below some = absurd (some refl)
  odd_has_none (suc (suc (suc (suc zero)))) below some = refl
  odd_has_none (suc (suc (suc (suc (suc zero))))) below some = absurd (some refl)
  odd_has_none (suc (suc (suc (suc (suc (suc zero)))))) below some = refl
  odd_has_none (suc (suc (suc (suc (suc (suc (suc zero))))))) below some = absurd (some refl)
  odd_has_none (suc (suc (suc (suc (suc (suc (suc (suc shard)))))))) below some = absurd (omega (arith, below))

-- of a moved key no stop leaves both: where the value is under its other key, it is not under the first
pub never_both : (map (after no_keys (moved_once ++ take 0 (arrivals no_keys moved_once))) (5 ∷ 9 ∷ []) ≡ None ∷ None ∷ [])
    × (map (after no_keys (moved_once ++ take 1 (arrivals no_keys moved_once))) (5 ∷ 9 ∷ []) ≡ None ∷ Some (97 ∷ []) ∷ [])
never_both = (refl, refl)
