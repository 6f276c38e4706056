-- What is sent is what arrives, in the order of the requests' numbers; and what all workers send, put together, is what the trace sends.
use Rattle.std.proofs.Common.{◌≡◌, ℕ, zero, suc, ◌+◌, ◌<◌, ◌≤◌, Bool, true, false, cond, nat_eq, List, [], ◌∷◌, ◌++◌, length, map, filter, Option, None, Some, get_or, refl, subst, ap, ◌∙◌, arith}
use Rattle.std.specs.List.Sorted.{IsStrictlyIncreasing}
use Rattle.std.proofs.lemmas.List.{map-append}
use Rattle.dict_model.specs.Nodes.{shard_of}
use Rattle.dict_model.specs.Requests.{Request, put, get, del, move, Reply, done, full, none, found, after_one}
use Rattle.dict_model.specs.Shards.{Map}
use Rattle.run_model.specs.Arrivals.{put_done_of, arrival, arrivals, worker_arrivals}
use Rattle.run_model.specs.Runs.{answered}
use Rattle.run_model.specs.Sending.{Sent, put_of, puts_of, numbered, on_its_way, sends, all_sent, coming}
use Rattle.run_model.specs.Workers.{Replies, worker_of, is_of_worker}

-- what a request sends, as a put, is what arrives by it
way_arrives : (o : Option (List ℕ)) (number to : ℕ) → puts_of (on_its_way o number to) ≡ put_done_of o to
way_arrives None number to = refl
way_arrives (Some value) number to = refl

one_arrives : (whole : Map) (number : ℕ) (q : Request) (a : Reply) → puts_of (sends whole number q a) ≡ arrival whole q a
one_arrives whole number (put key value) a = refl
one_arrives whole number (get key) a = refl
one_arrives whole number (del key) a = refl
one_arrives whole number (move key to) done = way_arrives (whole key) number to
one_arrives whole number (move key to) full = refl
one_arrives whole number (move key to) none = refl
one_arrives whole number (move key to) (found v) = refl

pub all_arrive : (whole : Map) (number : ℕ) (qs : List Request) (told : Replies)
    → puts_of (all_sent whole (numbered number qs) told) ≡ arrivals whole (answered qs told)
all_arrive whole number [] told = refl
all_arrive whole number (q ∷ qs) [] = refl
all_arrive whole number (q ∷ qs) (None ∷ told) = all_arrive whole (number + 1) qs told
all_arrive whole number (q ∷ qs) (Some a ∷ told) =
    let later = all_sent (after_one whole q a) (numbered (number + 1) qs) told in
    map-append put_of (sends whole number q a) later
    ∙ ap (λ xs. xs ++ puts_of later) (one_arrives whole number q a)
    ∙ ap (λ xs. arrival whole q a ++ xs) (all_arrive (after_one whole q a) (number + 1) qs told)

-- at each worker too
puts_there : (workers worker : ℕ) (xs : List Sent)
    → puts_of (filter (λ s. nat_eq (worker_of workers (shard_of s.key)) worker) xs) ≡ filter (λ r. is_of_worker workers worker r.0) (puts_of xs)
puts_there workers worker [] = refl
puts_there workers worker (x ∷ xs) =
    by_case (nat_eq (worker_of workers (shard_of x.key)) worker) (filter (λ s. nat_eq (worker_of workers (shard_of s.key)) worker) xs)
    (filter (λ r. is_of_worker workers worker r.0) (puts_of xs)) (puts_there workers worker xs) where
      by_case : (b : Bool) (some : List Sent) (puts : List (Request × Reply)) → puts_of some ≡ puts
          → puts_of (cond b (x ∷ some) some) ≡ cond b (put_of x ∷ puts) puts
      by_case true some puts same = ap (λ ys. put_of x ∷ ys) same
      by_case false some puts same = same

pub all_come : (workers worker : ℕ) (whole : Map) (qs : List Request) (told : Replies)
    → puts_of (coming workers worker whole qs told) ≡ worker_arrivals workers worker whole (answered qs told)
all_come workers worker whole qs told =
    puts_there workers worker (all_sent whole (numbered 0 qs) told) ∙ ap (filter (λ r. is_of_worker workers worker r.0)) (all_arrive whole 0 qs told)

-- the numbers rise, from this one on
abbrev Rise : ℕ → List Sent → Type 0
Rise low [] = Unit {0}
Rise low (x ∷ xs) = (low ≤ x.number) × Rise (x.number + 1) xs

rise_lower : (low high : ℕ) (xs : List Sent) → low ≤ high → Rise high xs → Rise low xs
rise_lower low high [] less rise = tt
rise_lower low high (x ∷ xs) less rise = let from = rise.0 in (omega (arith, from), rise.1)

rise_filter : (p : Sent → Bool) (low : ℕ) (xs : List Sent) → Rise low xs → Rise low (filter p xs)
rise_filter p low [] rise = tt
rise_filter p low (x ∷ xs) rise = by_case (p x) (rise_filter p (x.number + 1) xs rise.1) where
  by_case : (b : Bool) → Rise (x.number + 1) (filter p xs) → Rise low (cond b (x ∷ filter p xs) (filter p xs))
  by_case true later = (rise.0, later)
  by_case false later = let from = rise.0 in rise_lower low (x.number + 1) (filter p xs) (omega (arith, from)) later

-- a request sends under its number
way_rises : (o : Option (List ℕ)) (number to : ℕ) (later : List Sent) → Rise (number + 1) later → Rise number (on_its_way o number to ++ later)
way_rises None number to later rise = rise_lower number (number + 1) later (omega arith) rise
way_rises (Some value) number to later rise = (omega arith, rise)

one_rises : (whole : Map) (number : ℕ) (q : Request) (a : Reply) (later : List Sent) → Rise (number + 1) later
    → Rise number (sends whole number q a ++ later)
one_rises whole number (put key value) a later rise = rise_lower number (number + 1) later (omega arith) rise
one_rises whole number (get key) a later rise = rise_lower number (number + 1) later (omega arith) rise
one_rises whole number (del key) a later rise = rise_lower number (number + 1) later (omega arith) rise
one_rises whole number (move key to) done later rise = way_rises (whole key) number to later rise
one_rises whole number (move key to) full later rise = rise_lower number (number + 1) later (omega arith) rise
one_rises whole number (move key to) none later rise = rise_lower number (number + 1) later (omega arith) rise
one_rises whole number (move key to) (found v) later rise = rise_lower number (number + 1) later (omega arith) rise

all_rise : (whole : Map) (number : ℕ) (qs : List Request) (told : Replies) → Rise number (all_sent whole (numbered number qs) told)
all_rise whole number [] told = tt
all_rise whole number (q ∷ qs) [] = tt
all_rise whole number (q ∷ qs) (None ∷ told) =
    rise_lower number (number + 1) (all_sent whole (numbered (number + 1) qs) told) (omega arith) (all_rise whole (number + 1) qs told)
all_rise whole number (q ∷ qs) (Some a ∷ told) =
    one_rises whole number q a (all_sent (after_one whole q a) (numbered (number + 1) qs) told) (all_rise (after_one whole q a) (number + 1) qs told)

-- so each number is below the next one
abbrev numbers_of : List Sent → List ℕ
numbers_of xs = map (λ s. s.number) xs

next_above : (low : ℕ) (xs : List Sent) (k : ℕ) → Rise low xs → suc k < length (numbers_of xs)
    → get_or (numbers_of xs) k 0 < get_or (numbers_of xs) (suc k) 0
next_above low [] k rise below = absurd (omega (arith, below))
next_above low (x ∷ []) k rise below = absurd (omega (arith, below))
next_above low (x ∷ y ∷ xs) zero rise below = let above = rise.1.0 in omega (arith, above)
next_above low (x ∷ y ∷ xs) (suc k) rise below = next_above (x.number + 1) (y ∷ xs) k rise.1 (omega (arith, below))

pub in_order : (workers worker : ℕ) (whole : Map) (qs : List Request) (told : Replies)
    → IsStrictlyIncreasing (numbers_of (coming workers worker whole qs told))
in_order workers worker whole qs told k below =
    let all = all_sent whole (numbered 0 qs) told in
    let rise = rise_filter (λ s. nat_eq (worker_of workers (shard_of s.key)) worker) 0 all (all_rise whole 0 qs told) in
    let is : suc k ≡ k + 1 = omega arith in
    subst (λ n. get_or (numbers_of (coming workers worker whole qs told)) k 0 < get_or (numbers_of (coming workers worker whole qs told)) n 0) is
    (next_above 0 (coming workers worker whole qs told) k rise (omega (arith, below)))
