-- Why a run draws few tickets: a bound over plain numbers.
use Rattle.std.proofs.Common.{ℕ, zero, suc, ◌+◌, ◌*◌, ◌^◌, ◌<◌, ◌≤◌, arith}
use Rattle.std.proofs.Math.Nat.{mul-le-mul_left}
use Rattle.thread_cache.specs.Keeps.{most_draws, most_gives, most_wins}
use Rattle.run_model.proofs.SumLemmas.{sum_over, sum_step, sum_within, sum_both, sum_same, sum_times}

-- the costs of each add up to costs of all
pub draws_add : (draws small large losses moves : ℕ → ℕ) (from count : ℕ)
    → ((i : ℕ) → from ≤ i → i < from + count → draws i ≤ small i + most_draws * large i + 16 * losses i + 16 * moves i)
    → sum_over draws from count ≤ sum_over small from count + most_draws * sum_over large from count + 16 * sum_over losses from count + 16 *
    sum_over moves from count
draws_add draws small large losses moves from zero few = let none : 0 ≤ 0 + most_draws * 0 + 16 * 0 + 16 * 0 = omega arith in none
draws_add draws small large losses moves from (suc count) few =
    let a = sum_step draws from count in
    let b = sum_step small from count in
    let c = sum_step large from count in
    let d = sum_step losses from count in
    let e = sum_step moves from count in
    let here = few from (omega arith) (omega arith) in
    let rest = draws_add draws small large losses moves (from + 1) count (λ i low high. few i (omega arith) (omega arith)) in
    omega arith

pub wins_add : (wins large moves : ℕ → ℕ) (from count : ℕ)
    → ((i : ℕ) → from ≤ i → i < from + count → wins i ≤ most_wins * large i + 2 * moves i)
    → sum_over wins from count ≤ most_wins * sum_over large from count + 2 * sum_over moves from count
wins_add wins large moves from zero few = let none : 0 ≤ most_wins * 0 + 2 * 0 = omega arith in none
wins_add wins large moves from (suc count) few =
    let a = sum_step wins from count in
    let b = sum_step large from count in
    let c = sum_step moves from count in
    let here = few from (omega arith) (omega arith) in
    let rest = wins_add wins large moves (from + 1) count (λ i low high. few i (omega arith) (omega arith)) in
    omega arith

pub times_add : (f g : ℕ → ℕ) (by from count : ℕ) → ((i : ℕ) → from ≤ i → i < from + count → f i ≤ by * g i)
    → sum_over f from count ≤ by * sum_over g from count
times_add f g by from count few = let all = sum_within f (λ i. by * g i) from count few in let is = sum_times g by from count in omega arith

pub losses_add : (losses wins : ℕ → ℕ) (most from count : ℕ) → ((i : ℕ) → from ≤ i → i < from + count → losses i + wins i ≤ most)
    → sum_over losses from count + sum_over wins from count ≤ count * most
losses_add losses wins most from count few =
    let all = sum_within (λ i. losses i + wins i) (λ i. most) from count few in
    let parts = sum_both losses wins from count in
    let is = sum_same most from count in
    omega arith

-- small calls of tables, of own requests and of what came; and large ones, with one more each
pub small_add : (small targets own came : ℕ → ℕ) (by_own by_came from count : ℕ)
    → ((i : ℕ) → from ≤ i → i < from + count → small i ≤ 512 * targets i + by_own * own i + by_came * came i)
    → sum_over small from count ≤ 512 * sum_over targets from count + by_own * sum_over own from count + by_came * sum_over came from count
small_add small targets own came by_own by_came from count few =
    let all = sum_within small (λ i. 512 * targets i + by_own * own i + by_came * came i) from count few in
    let both = sum_both (λ i. 512 * targets i + by_own * own i) (λ i. by_came * came i) from count in
    let first = sum_both (λ i. 512 * targets i) (λ i. by_own * own i) from count in
    let a = sum_times targets 512 from count in
    let b = sum_times own by_own from count in
    let c = sum_times came by_came from count in
    omega arith

pub large_add : (large targets calls came : ℕ → ℕ) (from count : ℕ)
    → ((i : ℕ) → from ≤ i → i < from + count → large i ≤ targets i + calls i + came i + 1)
    → sum_over large from count ≤ sum_over targets from count + sum_over calls from count + sum_over came from count + count
large_add large targets calls came from count few =
    let all = sum_within large (λ i. targets i + calls i + came i + 1) from count few in
    let last = sum_both (λ i. targets i + calls i + came i) (λ i. 1) from count in
    let both = sum_both (λ i. targets i + calls i) came from count in
    let first = sum_both targets calls from count in
    let a = sum_same 1 from count in
    omega arith

-- the small calls of all are few for each request, where no more tables are made and no more values come than there are requests
pub small_bound : (requests keys small targets own came : ℕ) → targets ≤ requests → own ≤ requests → came ≤ requests
    → small ≤ 512 * targets + (33280 + 4 * (keys + requests)) * own + (512 + 4 * (keys + requests)) * came
    → small ≤ requests * (34304 + 8 * (keys + requests))
small_bound requests keys small targets own came few_targets few_own few_came spent =
    let a : (33280 + 4 * (keys + requests)) * own ≤ (33280 + 4 * (keys + requests)) * requests =
    mul-le-mul_left (33280 + 4 * (keys + requests)) few_own in
    let b : (512 + 4 * (keys + requests)) * came ≤ (512 + 4 * (keys + requests)) * requests = mul-le-mul_left (512 + 4 * (keys + requests)) few_came in
    omega arith

-- so many tickets are within the bound
pub within_bound : (requests keys workers capacity small large losses moves wins gives draws : ℕ) → 1 ≤ workers → capacity ≤ 4096
    → draws ≤ small + most_draws * large + 16 * losses + 16 * moves → losses + wins ≤ workers * wins → wins ≤ most_wins * large + 2 * moves
    → moves ≤ gives + capacity → gives ≤ most_gives * large → large ≤ 3 * requests + workers → small ≤ requests * (34304 + 8 * (keys + requests))
    → draws ≤ (3 * requests + 2 * workers) * workers * 2 ^ 20 + requests * (2 ^ 16 + 8 * (keys + requests))
within_bound requests keys zero capacity small large losses moves wins gives draws some low drawn lost won moved gave few_large few_small =
    absurd (omega arith)
within_bound requests keys (suc n) capacity small large losses moves wins gives draws some low drawn lost won moved gave few_large few_small =
    let few_losses : losses ≤ n * wins = omega arith in
    let few_wins : wins ≤ 65536 * large + 8192 = omega arith in
    let by_wins : n * wins ≤ n * (65536 * large + 8192) = mul-le-mul_left n few_wins in
    let by_large : n * large ≤ n * (3 * requests + suc n) = mul-le-mul_left n few_large in
    omega arith
