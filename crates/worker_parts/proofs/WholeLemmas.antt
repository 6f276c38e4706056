-- The part of a worker that was stopped in a request, of one that was halted, and of one that brings in what came.
use Rattle.std.proofs.Common.{◌≡◌, ℕ, ◌+◌, ◌*◌, ◌≤◌, Bool, true, false, List, [], length, Some, Contains, refl, subst, sym, ap, arith}
use Rattle.heap_model.proofs.MemberLemmas.{in_none}
use Rattle.heap_seat.specs.Looks.{KnowsNoLess}
use Rattle.heap_seat.specs.Rows.{IsRow}
use Rattle.heap_rule.specs.Seated.{SeatView}
use Rattle.heap_table.specs.AtTable.{SharedView}
use Rattle.dict_model.specs.Requests.{Request}
use Rattle.dict_requests.specs.Reached.{ReachesAllHeld}
use Rattle.seat_model.specs.CacheState.{CacheState, heap_view}
use Rattle.run_model.specs.Needs.{ListsKeysOf, is_target_of, puts_among, worker_tables}
use Rattle.run_model.specs.Sending.{Sent}
use Rattle.run_model.specs.Spending.{AreFullRightly}
use Rattle.run_model.specs.Workers.{Replies, worker_requests}
use Rattle.shard_moves.specs.Arriving.{HaveTables, ListAllKeys}
use Rattle.worker_run.proofs.AgainLemmas.{has_keys}
use Rattle.worker_run.proofs.SpendLemmas.{answered_none, knows_then, refused_none}
use Rattle.worker_parts.specs.Asking.{HasExecuted}
use Rattle.worker_parts.specs.Begun.{IsBegun}
use Rattle.worker_parts.specs.Going.{GoesOn, HasSettled}
use Rattle.worker_parts.specs.Jobs.{IsFirst, IsPartOf, image_of}
use Rattle.worker_parts.proofs.BeginLemmas.{first_opened}
use Rattle.worker_parts.proofs.EndLemmas.{arrival_ends, halt_ends, stop_ends}
use Rattle.worker_parts.proofs.SettleLemmas.{CostsOne, settled_costs}
use Rattle.worker_parts.proofs.StateLemmas.{goes_none, goes_then}
use Rattle.worker_parts.proofs.ArrivalLemmas.{BringsIn, ends_emptied, ends_exact, ends_stopped}
use Rattle.worker_parts.proofs.BroughtLemmas.{tables_wanted}
use Rattle.worker_parts.proofs.KeyLemmas.{arrival_keys, arrival_keys_long, arrivals_listed}
use Rattle.worker_parts.proofs.PartLemmas.{part_of, part_of_seat, roots_on, seat_on}

-- a worker that was stopped in a request, and ends so
pub left_part : (shared : SharedView) (requests : List Request) (workers worker : ℕ) (tables : ℕ → Bool) (replies : Replies)
    (first begun t : CacheState) → IsFirst shared workers worker first
    → IsBegun (image_of shared) (is_target_of workers worker requests) tables false first begun
    → HasExecuted (image_of shared) (worker_requests workers worker requests) tables replies true begun t → (seat : SeatView) (came : List Sent)
    → seat.table ≡ t.table → seat.view ≡ t.view
    → IsPartOf shared requests workers worker tables seat replies came [] false true
left_part shared requests workers worker tables replies first begun t is_first made part seat came table view =
    let same : KnowsNoLess (heap_view t) (heap_view t) = omega arith in
    let all : t.view.taken ≤ t.view.taken = omega arith in
    let ends = stop_ends (image_of shared) (worker_requests workers worker requests) replies came first begun t made.goes_on
    (part.in_one refl) part.steps in
    part_of_seat shared requests workers worker tables replies true first begun t t is_first made part
    (goes_none t) same all seat came [] true table view
    (part_of shared requests workers worker tables replies true first begun t t is_first made part
    (goes_none t) same all came [] true ends.0 ends.1 ends.2 ends.3 (λ keys lists. omega arith) (omega arith) part.stops
    (λ going. let both : true ≡ false = going in absurd (cc)) (λ going. let both : true ≡ false = going in absurd (cc)))

-- a worker that was halted before its first request, and ends so
pub halted_part : (shared : SharedView) (requests : List Request) (workers worker : ℕ) (made tables : ℕ → Bool) (stopped : Bool)
    (first t : CacheState) → IsFirst shared workers worker first
    → IsBegun (image_of shared) (is_target_of workers worker requests) made stopped first t → (seat : SeatView) → seat.table ≡ t.table
    → seat.view ≡ t.view
    → IsPartOf shared requests workers worker tables seat [] [] [] true stopped
halted_part shared requests workers worker made tables stopped first t is_first begun seat table view =
    let mine = worker_requests workers worker requests in
    let ends = halt_ends (image_of shared) mine stopped first t begun.goes_on begun.answered in
    record {
      seat_of = seat_on shared workers worker first is_first t seat begun.goes_on table view;
      first = first;
      last = t;
      fresh = is_first.fresh;
      last_is = sym view;
      part = record {
        roots_own = roots_on shared workers worker first is_first t begun.goes_on;
        unused = is_first.unused;
        goes_on = begun.goes_on;
        ended = ends.0;
        steps = ends.1;
        few = λ keys lists. record {
          small = let a = begun.calls.small_few in let none = is_first.unused.small in omega (arith, a, none);
          large = let a = begun.calls.large_few in let none = is_first.unused.large in omega (arith, a, none);
        };
        arrivals_few = λ none keys lists. record {
          small = let same = ap (λ (x : CacheState). x.small_calls) ends.2 in omega (arith, same);
          large = let same = ap (λ (x : CacheState). x.large_calls) ends.2 in omega (arith, same);
        };
        full = subst (λ rs. AreFullRightly heap_view GoesOn (worker_tables workers worker requests) rs first t) (sym (answered_none mine))
            (refused_none heap_view GoesOn (worker_tables workers worker requests) first t);
        lacks = λ halted. let both : true ≡ false = halted in absurd (cc);
        told = λ halted. let both : true ≡ false = halted in absurd (cc);
        going = λ halted. let both : true ≡ false = halted in absurd (cc);
        by_tables = λ request reply among. absurd (in_none (request, reply) (subst (λ rs. Contains rs (request, reply)) (answered_none mine) among));
        taken = record {
          taken = let a = begun.most in let wanted = tables_wanted workers worker requests (heap_view first) in
              omega (arith, a, wanted);
        };
        stops = begun.stops;
        emptied = λ halted. let both : true ≡ false = halted in absurd (cc);
        exact = begun.exact;
      };
    }

-- a worker that has worked off its requests, brings in what came, and empties its caches
module _ (shared : SharedView) (requests : List Request) (workers worker : ℕ) (tables : ℕ → Bool) (replies : Replies)
    (first begun asked arrived t : CacheState)
    (is_first : IsFirst shared workers worker first)
    (made : IsBegun (image_of shared) (is_target_of workers worker requests) tables false first begun)
    (part : HasExecuted (image_of shared) (worker_requests workers worker requests) tables replies false begun asked)
    (came left : List Sent) (before after : Bool) (brings : BringsIn came left before asked arrived)
    (cause : before ≡ true → (ticket : ℕ) × (arrived.view.stopped ≡ Some ticket)) (settled : HasSettled before after arrived t)
    (goes : GoesOn asked arrived)
    (have : HaveTables came (heap_view asked))
    (calls : (keys : List ℕ) → ListAllKeys came (heap_view asked) keys
    → IsRow (length came * (512 + 4 * length keys)) (length came) 0 (heap_view asked) (heap_view arrived))
    (taken : arrived.view.taken ≡ asked.view.taken) (exact : before ≡ false → ReachesAllHeld (heap_view asked)
    → ReachesAllHeld (heap_view arrived)) where
  costs : CostsOne arrived t
  costs = settled_costs before after arrived t settled

  row : (keys : List ℕ) → ListsKeysOf (image_of shared) keys
      → IsRow (length came * (512 + 4 * length (arrival_keys keys (worker_requests workers worker requests) came))) (length came) 0
      (heap_view asked) (heap_view arrived)
  row keys lists = calls (arrival_keys keys (worker_requests workers worker requests) came)
      (arrivals_listed (image_of shared) (worker_requests workers worker requests) replies (heap_view asked) came keys
      (first_opened shared workers worker first is_first).maps lists (part.worked refl) have)

  any_row : (keys : List ℕ) × ListsKeysOf (image_of shared) keys
  any_row = has_keys (image_of shared) (first_opened shared workers worker first is_first).maps

  knows : KnowsNoLess (heap_view asked) (heap_view t)
  knows = knows_then (heap_view asked) (heap_view arrived) (heap_view t) (row any_row.0 any_row.1).goes_on.used costs.knows

  few_taken : t.view.taken ≤ asked.view.taken
  few_taken = let a = costs.taken in omega (arith, a, taken)

  small : (keys : List ℕ) → ListsKeysOf (image_of shared) keys
      → t.small_calls ≤ asked.small_calls + length came * (512 + 4 * (length keys + puts_among (worker_requests workers worker requests) + length came))
  small keys lists =
      let few = (row keys lists).small_few in
      let named = subst (λ n. arrived.small_calls ≤ asked.small_calls + length came * (512 + 4 * n))
      (arrival_keys_long keys (worker_requests workers worker requests) came) few in
      let none = costs.small in
      omega (arith, named, none)

  large : t.large_calls ≤ asked.large_calls + length came + 1
  large = let few = (row any_row.0 any_row.1).large_few in let one = costs.large in omega (arith, few, one)

  pub arrived_part : (seat : SeatView) → seat.table ≡ t.table → seat.view ≡ t.view
      → IsPartOf shared requests workers worker tables seat replies came brings.brought false after
  arrived_part seat table view =
      let mine = worker_requests workers worker requests in
      let on = goes_then asked arrived t goes costs.goes_on in
      let ends = arrival_ends (image_of shared) mine replies came first begun asked arrived t before after made.goes_on
      (part.worked refl) part.steps left brings settled in
      part_of_seat shared requests workers worker tables replies false first begun asked t is_first made part on knows few_taken seat came
      brings.brought after table view
      (part_of shared requests workers worker tables replies false first begun asked t is_first made part on knows few_taken came brings.brought
      after ends.0 ends.1 ends.2 (λ none. ends.3) small large
      (ends_stopped before after arrived t settled cause) (ends_emptied before after arrived t settled)
      (ends_exact before after arrived t settled (λ ran. exact ran (part.exact refl))))
