-- Sums over the numbers of the workers, and over what is theirs of a trace: each request is one worker's.
use Rattle.std.proofs.Common.{◌≡◌, ◌≢◌, ℕ, zero, suc, ◌+◌, ◌*◌, ◌<◌, ◌≤◌, inl, inr, Bool, true, false, nat_eq, cond, List, [], ◌∷◌, length, get_or, sum_by, refl, sym, ap, ◌∙◌, arith}
use Rattle.std.proofs.Math.Nat.{mul-add}
use Rattle.std.proofs.lemmas.Bool.{cases_eq, cases_lt, eq-eqb, ne_eqb}
use Rattle.std.proofs.lemmas.List.Sums.{sum_by-cons}
use Rattle.heap_model.specs.Counting.{total}
use Rattle.heap_model.specs.Image.{words_from}
use Rattle.dict_model.specs.Requests.{Request}
use Rattle.run_model.specs.Workers.{shard_asked, worker_of, is_of_worker, worker_requests, worker_numbers}

-- a sum over so many numbers, from one on
abbrev pub sum_over : (ℕ → ℕ) → ℕ → ℕ → ℕ
sum_over f from count = sum_by f (words_from (λ i. i) from count)

pub sum_step : (f : ℕ → ℕ) (from count : ℕ) → sum_over f from (suc count) ≡ f from + sum_over f (from + 1) count
sum_step f from count = sum_by-cons f from (words_from (λ i. i) (from + 1) count)

pub sum_within : (f g : ℕ → ℕ) (from count : ℕ) → ((i : ℕ) → from ≤ i → i < from + count → f i ≤ g i) → sum_over f from count ≤ sum_over g from count
sum_within f g from zero less = let none : 0 ≤ 0 = omega arith in none
sum_within f g from (suc count) less =
    let a = sum_step f from count in
    let b = sum_step g from count in
    let here = less from (omega arith) (omega arith) in
    let rest = sum_within f g (from + 1) count (λ i low high. less i (omega arith) (omega arith)) in
    omega arith

pub sum_both : (f g : ℕ → ℕ) (from count : ℕ) → sum_over (λ i. f i + g i) from count ≡ sum_over f from count + sum_over g from count
sum_both f g from zero = refl
sum_both f g from (suc count) =
    let a = sum_step f from count in
    let b = sum_step g from count in
    let c = sum_step (λ i. f i + g i) from count in
    let rest = sum_both f g (from + 1) count in
    omega arith

pub sum_times : (f : ℕ → ℕ) (by from count : ℕ) → sum_over (λ i. by * f i) from count ≡ by * sum_over f from count
sum_times f by from zero = let none : 0 ≡ by * 0 = omega arith in none
sum_times f by from (suc count) =
    let a = sum_step f from count in
    let b = sum_step (λ i. by * f i) from count in
    let product = ap (λ n. by * n) a in
    let parts = mul-add by (f from) (sum_over f (from + 1) count) in
    let rest = sum_times f by (from + 1) count in
    omega arith

pub sum_same : (by from count : ℕ) → sum_over (λ i. by) from count ≡ count * by
sum_same by from zero = let none : 0 ≡ 0 * by = omega arith in none
sum_same by from (suc count) =
    let a = sum_step (λ i. by) from count in
    let rest = sum_same by (from + 1) count in
    omega arith

-- where the function is 0 but at one of the numbers, the sum is its value there
pub sum_none : (f : ℕ → ℕ) (from count : ℕ) → ((i : ℕ) → from ≤ i → i < from + count → f i ≡ 0) → sum_over f from count ≡ 0
sum_none f from zero none = refl
sum_none f from (suc count) none =
    let a = sum_step f from count in
    let here = none from (omega arith) (omega arith) in
    let rest = sum_none f (from + 1) count (λ i low high. none i (omega arith) (omega arith)) in
    omega arith

pub sum_one : (f : ℕ → ℕ) (at from count : ℕ) → from ≤ at → at < from + count → ((i : ℕ) → i ≢ at → f i ≡ 0) → sum_over f from count ≡ f at
sum_one f at from zero low high none = absurd (omega arith)
sum_one f at from (suc count) low high none = elim (cases_eq from at) as (λ _. sum_over f from (suc count) ≡ f at) [
  | inl same ↦
      let a = sum_step f from count in
      let here = ap f same in
      let rest = sum_none f (from + 1) count (λ i above below. none i (omega arith)) in
      omega arith
  | inr other ↦
      let a = sum_step f from count in
      let here = none from other in
      let rest = sum_one f at (from + 1) count (omega arith) (omega arith) none in
      omega arith
]

-- the sum is what it is at one of the numbers, and what it is without that
pub sum_beside : (f : ℕ → ℕ) (test : ℕ → Bool) (at from count : ℕ) → from ≤ at → at < from + count → test at ≡ true
    → ((i : ℕ) → i ≢ at → test i ≡ false)
    → sum_over f from count ≡ f at + sum_over (λ i. cond (test i) 0 (f i)) from count
sum_beside f test at from count low high here others =
    let parts = sum_both (λ i. cond (test i) (f i) 0) (λ i. cond (test i) 0 (f i)) from count in
    let less = sum_within f (λ i. cond (test i) (f i) 0 + cond (test i) 0 (f i)) from count (λ i above below. let e = both (test i) (f i) in
    omega arith) in
    let more = sum_within (λ i. cond (test i) (f i) 0 + cond (test i) 0 (f i)) f from count (λ i above below. let e = both (test i) (f i) in
    omega arith) in
    let one = sum_one (λ i. cond (test i) (f i) 0) at from count low high (λ i other. ap (λ b. cond b (f i) 0) (others i other)) in
    let is : cond (test at) (f at) 0 ≡ f at = ap (λ b. cond b (f at) 0) here in
    omega arith
  where
    both : (b : Bool) (n : ℕ) → cond b n 0 + cond b 0 n ≡ n
    both true n = omega arith
    both false n = omega arith

-- a sum over a list is one over its indices
pub total_over : {X : Type 0} (of : X → ℕ) (xs : List X) (f : ℕ → ℕ) (from : ℕ) → ((i : ℕ) (x : X) → i < length xs → of (get_or xs i x) ≡ f (from + i))
    → total of xs ≡ sum_over f from (length xs)
total_over of [] f from same = refl
total_over of (x ∷ xs) f from same =
    let a = sum_step f from (length xs) in
    let here = same 0 x (omega arith) ∙ ap f (let e : from + 0 ≡ from = omega arith in e) in
    let rest = total_over of xs f (from + 1) (λ i y below. same (suc i) y (omega arith)
    ∙ ap f (let e : from + suc i ≡ from + 1 + i = omega arith in e)) in
    omega arith

-- one worker's part and those of the others, each within what it has
pub beside_fits : (workers worker : ℕ) (all span : ℕ → ℕ) (x : ℕ) → worker < workers → x ≤ all worker → ((other : ℕ) → span other ≤ all other)
    → x + sum_by (λ other. cond (nat_eq other worker) 0 (span other)) (worker_numbers workers) ≤ sum_by all (worker_numbers workers)
beside_fits workers worker all span x small mine fits =
    let parts = sum_beside all (λ other. nat_eq other worker) worker 0 workers (omega arith) (omega arith) (eq-eqb worker worker refl)
    (λ i other. ne_eqb i worker other) in
    let others = sum_within (λ other. cond (nat_eq other worker) 0 (span other)) (λ other. cond (nat_eq other worker) 0 (all other)) 0 workers
    (λ i low high. at (nat_eq i worker) (fits i)) in
    omega arith where
      at : (b : Bool) {m n : ℕ} → m ≤ n → cond b 0 m ≤ cond b 0 n
      at true few = let none : 0 ≤ 0 = omega arith in none
      at false few = few

-- what one worker has alone counts once at most
one_most : (owner workers x : ℕ) → sum_over (λ worker. cond (nat_eq owner worker) x 0) 0 workers ≤ x
one_most owner workers x = elim (cases_lt owner workers) as (λ _. sum_over (λ worker. cond (nat_eq owner worker) x 0) 0 workers ≤ x) [
  | inl below ↦
      let one = sum_one (λ worker. cond (nat_eq owner worker) x 0) owner 0 workers (omega arith) (omega arith)
      (λ i other. ap (λ b. cond b x 0) (ne_eqb owner i (λ e. other (sym e)))) in
      let here : cond {A = ℕ} (nat_eq owner owner) x 0 ≡ x = ap (λ b. cond {A = ℕ} b x 0) (eq-eqb owner owner refl) in
      omega arith
  | inr above ↦
      let none = sum_none (λ worker. cond (nat_eq owner worker) x 0) 0 workers
      (λ i low high. ap (λ b. cond b x 0) (ne_eqb owner i (λ e. omega arith))) in
      omega arith
]

-- what is counted over all workers' requests is counted once over the trace
pub workers_sum : (workers : ℕ) (f : Request → ℕ) (requests : List Request)
    → sum_by (λ worker. sum_by f (worker_requests workers worker requests)) (worker_numbers workers) ≤ sum_by f requests
workers_sum workers f [] = let none = sum_none (λ worker. 0) 0 workers (λ i low high. refl) in omega arith
workers_sum workers f (q ∷ qs) =
    let rest = workers_sum workers f qs in
    let more = sum_by-cons f q qs in
    let parts = sum_both (λ worker. cond (is_of_worker workers worker q) (f q) 0) (λ worker. sum_by f (worker_requests workers worker qs)) 0 workers in
    let one = one_most (worker_of workers (shard_asked q)) workers (f q) in
    let within = sum_within (λ worker. sum_by f (worker_requests workers worker (q ∷ qs)))
    (λ worker. cond (is_of_worker workers worker q) (f q) 0 + sum_by f (worker_requests workers worker qs)) 0 workers
    (λ i low high. at (worker_requests workers i qs) (is_of_worker workers i q)) in
    omega arith where
      at : (own : List Request) (b : Bool) → sum_by f (cond b (q ∷ own) own) ≤ cond b (f q) 0 + sum_by f own
      at own true = let first = sum_by-cons f q own in let all : sum_by f (q ∷ own) ≤ f q + sum_by f own = omega arith in all
      at own false = let all : sum_by f own ≤ 0 + sum_by f own = omega arith in all
