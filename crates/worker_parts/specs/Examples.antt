-- Worked examples: where a worker ended, what was done behind its last answer, which calls are few, which values are
-- left, and which keys have a table.
use Rattle.std.specs.Prelude.{◌≡◌, ◌≢◌, ℕ, ◌+◌, ◌≤◌, Bool, true, false, nat_eq, List, [], ◌∷◌, length, map, None, Some, Contains, refl}
use Rattle.std.proofs.Common.{arith, ap, subst, sym, inl, inr, ◌∙◌}
use Rattle.heap_model.specs.declared.block.Block.{Block}
use Rattle.heap_model.specs.Geometry.{root_word}
use Rattle.heap_model.specs.Image.{Image}
use Rattle.core_model.specs.View.{Setup}
use Rattle.heap_seat.specs.Examples.{look_with, seat_with}
use Rattle.heap_seat.specs.Sound.{IsSeat}
use Rattle.heap_seat.specs.View.{View}
use Rattle.dict_model.specs.Requests.{Request, put, get, move, Reply, done}
use Rattle.run_model.specs.Needs.{ListsKeysOf}
use Rattle.run_model.specs.Progress.{HasAnswered}
use Rattle.run_model.specs.Sending.{Sent}
use Rattle.run_model.specs.Workers.{Replies}
use Rattle.seat_model.specs.CacheState.{CacheState, heap_view}
use Rattle.worker_parts.specs.Ending.{EndsIn, HasEnded, IsBehind, SettlesBehind, at_rest, in_arrival, in_request, not_begun}
use Rattle.worker_parts.specs.Going.{GoesOn, HasSettled, had_stopped, is_empty, stops_now}
use Rattle.worker_parts.specs.Jobs.{AreLeftOf, HasTableFor}
use Rattle.worker_parts.specs.Parts.{ArrivalsAreFew, IsPart, LacksTable, SpendsFew}

-- "ab" on its way to key 9
abbrev third : Sent
third = record { number = 3; key = 9; value = 97 ∷ 98 ∷ [] }

-- no words on their way to key 1
abbrev fifth : Sent
fifth = record { number = 5; key = 1; value = [] }

-- a seat that draws this ticket next
abbrev drawing : ℕ → View
drawing next = seat_with (look_with 0 0) next

-- one with a root of its own
abbrev rooted : View
rooted = record (drawing 7) { roots = 2 ∷ [] }

-- at rest behind all of it, whatever was brought in; or not begun, with all requests left
ends : (v : View) → EndsIn [] (third ∷ []) [] false false v v × EndsIn (get 5 ∷ []) [] [] true false v v
ends v = (at_rest refl refl refl refl, not_begun refl refl refl)

-- it doesn't rest while a request or a value is left
ends_not_early : (request : Request) (others : List Request) (brought later : List Sent) (v w : View)
    → EndsIn (request ∷ others) brought later false false v w → ⊥
ends_not_early request others brought later v w (at_rest going none all same) = let e : request ∷ others ≡ [] = none in absurd (cc)
ends_not_early request others brought later v w (not_begun halted none same) = let e : false ≡ true = halted in absurd (cc)
ends_not_early request others brought later v w (in_request going stop none first rest are may) = let e : false ≡ true = stop in absurd (cc)
ends_not_early request others brought later v w (in_arrival going stop none next rest are may) = let e : false ≡ true = stop in absurd (cc)

ends_not_before : (next : Sent) (later brought : List Sent) (left : List Request) (v w : View) → EndsIn left brought (next ∷ later) false false v w → ⊥
ends_not_before next later brought left v w (at_rest going none all same) = let e : next ∷ later ≡ [] = all in absurd (cc)
ends_not_before next later brought left v w (not_begun halted none same) = let e : false ≡ true = halted in absurd (cc)
ends_not_before next later brought left v w (in_request going stop none first rest are may) = let e : false ≡ true = stop in absurd (cc)
ends_not_before next later brought left v w (in_arrival going stop none first rest are may) = let e : false ≡ true = stop in absurd (cc)

-- one that was halted isn't in a request: it is left as it was, also where its seat was stopped
ends_as_it_was : (request : Request) (others : List Request) (brought later : List Sent) (v w : View)
    → EndsIn (request ∷ others) brought later true true v w → w ≡ v
ends_as_it_was request others brought later v w (at_rest going none all same) = same
ends_as_it_was request others brought later v w (not_begun halted none same) = same
ends_as_it_was request others brought later v w (in_request going stop none first rest are may) = let e : true ≡ false = going in absurd (cc)
ends_as_it_was request others brought later v w (in_arrival going stop none next rest are may) = let e : true ≡ false = going in absurd (cc)

-- a worker that was halted has all its requests left
halts : (image : Image) (v : View) → IsSeat v → HasAnswered image [] v → HasEnded image (get 5 ∷ []) [] [] [] true false v
halts image v seat answered = record {
  rs = [];
  left = get 5 ∷ [];
  later = [];
  requests_are = refl;
  replies_are = refl;
  came_are = refl;
  before = v;
  seat = seat;
  answered = answered;
  unbegun = λ halted. refl;
  ends = (ends v).1;
}

-- it has no reply, none brings in what didn't come, and none rests while a value is left
ended_not : (image : Image) (requests : List Request) (stopped : Bool) (v : View) → (HasEnded image requests (Some done ∷ []) [] [] true stopped v → ⊥)
    × (HasEnded image requests [] [] (third ∷ []) false stopped v → ⊥) × (HasEnded image requests [] (third ∷ []) [] false false v → ⊥)
ended_not image requests stopped v = (
  λ ended. let e : Some done ∷ [] ≡ [] = ended.replies_are ∙ ap (λ rs. map (λ (r : Request × Reply). Some r.1) rs) (ended.unbegun refl) in absurd (cc),
  λ ended. let e : [] ≡ third ∷ ended.later = ended.came_are in absurd (cc),
  λ ended. ends_not_before third [] [] ended.left ended.before v (subst (λ later. EndsIn ended.left [] later false false ended.before v)
      (sym ended.came_are) ended.ends),
)

-- Behind the last answer nothing is done where nothing is left. A request that is left goes first, and neither it nor a
-- value that came gives the seat a root.
behind_not : (later : List Sent) → (IsBehind [] [] (drawing 7) (drawing 8) → ⊥) × (IsBehind (get 5 ∷ []) later (drawing 7) rooted → ⊥)
    × (IsBehind [] (third ∷ later) (drawing 7) rooted → ⊥)
behind_not later = (
  λ same. let n : 8 ≡ 7 = ap (λ (v : View). v.next) same in omega arith,
  λ under_way. let n : 1 ≡ 0 = ap length under_way.0.others.roots in omega arith,
  λ arriving. let n : 1 ≡ 0 = ap length arriving.may.others.roots in omega arith,
)

-- one that was halted is left as it is, and makes no call
settles_halted : (left : List Request) (later : List Sent) (after : Bool) (s : CacheState) → GoesOn s s → SettlesBehind left later true after s s
settles_halted left later after s goes = record {
  worked = s;
  goes_on = goes;
  under_way = λ going. let e : true ≡ false = going in absurd (cc);
  before = true;
  all = λ going. let e : true ≡ false = going in absurd (cc);
  settled = λ going. let e : true ≡ false = going in absurd (cc);
  left_as_is = λ halted. (refl, refl);
}

settles_unchanged : (left : List Request) (later : List Sent) (after : Bool) (s t : CacheState) → t.large_calls ≢ s.large_calls
    → SettlesBehind left later true after s t → ⊥
settles_unchanged left later after s t more settles = let as_is = settles.left_as_is refl in
    more (ap (λ (x : CacheState). x.large_calls) (as_is.1 ∙ as_is.0))

-- another isn't done while a request is left, unless it was stopped
settles_all : (left : List Request) (later : List Sent) (s t : CacheState) → SettlesBehind left later false false s t → left ≡ []
settles_all left later s t settles = by_case (settles.settled refl) where
  by_case : HasSettled settles.before false settles.worked t → left ≡ []
  by_case (had_stopped was is same) = let e : false ≡ true = is in absurd (cc)
  by_case (is_empty was is empty going quieted) = (settles.all refl was).0
  by_case (stops_now was is ticket at quieted) = let e : false ≡ true = is in absurd (cc)

-- where nothing is left, no block is freed or allocated behind the last answer, also where its caches are emptied
settles_held : (after : Bool) (s t : CacheState) → SettlesBehind [] [] false after s t → (heap_view t).held ≡ (heap_view s).held
settles_held after s t settles = by_case (settles.settled refl) where
  as_worked : (heap_view settles.worked).held ≡ (heap_view s).held
  as_worked = ap (λ (v : View). v.held) (settles.under_way refl)

  by_case : HasSettled settles.before after settles.worked t → (heap_view t).held ≡ (heap_view s).held
  by_case (had_stopped was is same) = ap (λ (x : CacheState). (heap_view x).held) same ∙ as_worked
  by_case (is_empty was is empty going quieted) = quieted.own.held ∙ as_worked
  by_case (stops_now was is ticket at quieted) = quieted.own.held ∙ as_worked

frees_behind : (b : Block) (after : Bool) (s t : CacheState) → Contains (heap_view s).held b → (Contains (heap_view t).held b → ⊥)
    → SettlesBehind [] [] false after s t → ⊥
frees_behind b after s t held freed settles = freed (subst (λ bs. Contains bs b) (sym (settles_held after s t settles)) held)

-- a shard with a table in the image doesn't lack one; nor does one of a heap whose mark was never seen above 0, over which the seat took nothing
lacks_not : (shard tables : ℕ) (s t : CacheState) → LacksTable (λ word. 9) tables shard s t → ⊥
lacks_not shard tables s t lacks = omega (arith, lacks.null)

lacks_not_with_room : (image : Image) (shard : ℕ) (s t : CacheState) → s.view.taken ≡ 0 → (heap_view t).used_look.seen ≡ 0
    → 1 ≤ (heap_view t).capacity → LacksTable image 0 shard s t → ⊥
lacks_not_with_room image shard s t none unseen some lacks =
    let past = lacks.room.past in
    let now = lacks.room.now in
    let knows = lacks.knows in
    let taken = lacks.taken in
    let same = ap (λ (k : Setup). k.capacity) lacks.behind.1.setup in
    omega arith

-- over a table and a put five large calls are few, and six are too many; and what came allows no call where none came
spends : (t : CacheState) → t.small_calls ≡ 0 → t.large_calls ≡ 5 → SpendsFew 1 (put 5 [] ∷ []) 0 0 t
spends t none five = record { small = omega (arith, none); large = omega (arith, five) }

spends_not : (t : CacheState) → t.large_calls ≡ 6 → SpendsFew 1 (put 5 [] ∷ []) 0 0 t → ⊥
spends_not t six few = let large = few.large in omega (arith, six, large)

spends_none : (t : CacheState) → t.small_calls ≡ 1 → SpendsFew 0 [] 0 0 t → ⊥
spends_none t one few = let small = few.small in omega (arith, one, small)

-- where two values came, three large calls behind the last answer are few, and four are too many; nor is there a small one where none came
arrivals : (s t : CacheState) → t.small_calls ≡ s.small_calls → t.large_calls ≡ s.large_calls + 3 → ArrivalsAreFew [] 2 0 s t
arrivals s t none three = record { small = omega (arith, none); large = omega (arith, three) }

arrivals_not : (s t : CacheState) → t.large_calls ≡ s.large_calls + 4 → ArrivalsAreFew [] 2 0 s t → ⊥
arrivals_not s t four few = let large = few.large in omega (arith, four, large)

arrivals_none : (mine : List Request) (keys : ℕ) (s t : CacheState) → t.small_calls ≡ s.small_calls + 1 → ArrivalsAreFew mine 0 keys s t → ⊥
arrivals_none mine keys s t one few = let small = few.small in omega (arith, one, small)

-- all that was left, or all but the first
left_over : AreLeftOf (third ∷ fifth ∷ []) (third ∷ fifth ∷ []) × AreLeftOf (third ∷ fifth ∷ []) (fifth ∷ [])
left_over = (inl refl, inr (third, refl))

-- by whose request the first of them is, or 0 where there is none
abbrev first_number : List Sent → ℕ
first_number [] = 0
first_number (s ∷ rest) = s.number

-- by whose the second is
abbrev second_number : List Sent → ℕ
second_number [] = 0
second_number (s ∷ rest) = first_number rest

-- not where two were dropped, nor the last one, nor where one was added
two_dropped : AreLeftOf (third ∷ fifth ∷ []) [] → ⊥
two_dropped (inl same) = let e : [] ≡ third ∷ fifth ∷ [] = same in absurd (cc)
two_dropped (inr one) = let e : third ∷ fifth ∷ [] ≡ one.0 ∷ [] = one.1 in absurd (cc)

last_dropped : AreLeftOf (third ∷ fifth ∷ []) (third ∷ []) → ⊥
last_dropped (inl same) = let e : third ∷ [] ≡ third ∷ fifth ∷ [] = same in absurd (cc)
last_dropped (inr one) = let e : third ∷ fifth ∷ [] ≡ one.0 ∷ third ∷ [] = one.1 in let n : ◌≡◌ {A = ℕ} 5 3 = ap second_number e in omega (arith, n)

one_added : AreLeftOf [] (third ∷ []) → ⊥
one_added (inl same) = let e : third ∷ [] ≡ [] = same in absurd (cc)
one_added (inr one) = let e : [] ≡ one.0 ∷ third ∷ [] = one.1 in absurd (cc)

-- of two workers the second has the shard of key 9, to which a move is; not the first, not a shard that no move is to,
-- and not where it is told to have no table
has_table : HasTableFor (λ shard. nat_eq shard 1) (move 5 9 ∷ []) 2 1 9
has_table = record { table = refl; target = refl }

has_no_table : (tables : ℕ → Bool) → (HasTableFor tables (move 5 9 ∷ []) 2 0 9 → ⊥) × (HasTableFor tables (move 5 9 ∷ []) 2 1 11 → ⊥)
    × (HasTableFor (λ shard. false) (move 5 9 ∷ []) 2 1 9 → ⊥)
has_no_table tables = (
  λ has. let e : false ≡ true = has.target in absurd (cc),
  λ has. let e : false ≡ true = has.target in absurd (cc),
  λ has. let e : false ≡ true = has.table in absurd (cc),
)

-- A worker whose seat was stopped was stopped, and one whose seat had stopped before the first request was halted.
-- Before the first request each target that is told to
-- have a table has one.
part_stops : (image : Image) (workers worker : ℕ) (requests : List Request) (tables : ℕ → Bool) (replies : Replies) (came brought : List Sent)
    (halted : Bool) (s t : CacheState) (ticket : ℕ)
    → t.view.stopped ≡ Some ticket → IsPart image workers requests worker tables replies came brought halted false s t → ⊥
part_stops image workers worker requests tables replies came brought halted s t ticket at part =
    let e : false ≡ true = part.stops.1 (λ none. let clash : Some ticket ≡ None = sym at ∙ none in absurd (cc)) in absurd (cc)

part_halted : (image : Image) (workers worker : ℕ) (requests : List Request) (tables : ℕ → Bool) (replies : Replies) (came brought : List Sent)
    (stopped : Bool) (s t : CacheState) (ticket : ℕ)
    → (part : IsPart image workers requests worker tables replies came brought false stopped s t) → part.steps.begun.view.stopped ≡ Some ticket → ⊥
part_halted image workers worker requests tables replies came brought stopped s t ticket part at =
    let clash : Some ticket ≡ None = sym at ∙ part.going refl in absurd (cc)

part_has_table : (image : Image) (replies : Replies) (came brought : List Sent) (stopped : Bool) (s t : CacheState)
    → (part : IsPart image 2 (move 5 9 ∷ []) 1 (λ shard. true) replies came brought false stopped s t)
    → (heap_view part.steps.begun).volatile (root_word 1) ≡ Some 0 → ⊥
part_has_table image replies came brought stopped s t part null =
    let set = part.told refl 1 (omega arith) refl in
    let e : Some 0 ≡ Some set.value = sym null ∙ set.seen in
    let z : 0 ≡ set.value = cc in
    set.some (sym z)

-- a worker doesn't bring in one value by three large calls, though a put may make so many: the value is not copied to
-- another block, with the first one freed
part_copies : (image : Image) (tables : ℕ → Bool) (brought : List Sent) (halted stopped : Bool) (s t : CacheState) (keys : List ℕ)
    → ListsKeysOf image keys
    → (part : IsPart image 1 [] 0 tables [] (third ∷ []) brought halted stopped s t) → t.large_calls ≡ part.steps.asked.large_calls + 3 → ⊥
part_copies image tables brought halted stopped s t keys lists part three = let large = (part.arrivals_few refl keys lists).large in
    omega (arith, three, large)
