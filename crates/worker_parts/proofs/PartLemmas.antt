-- A worker's part of a run: its tables are made, its requests worked off, and what comes behind costs little.
use Rattle.std.proofs.Common.{◌≡◌, ◌≢◌, ℕ, ◌+◌, ◌*◌, ◌<◌, ◌≤◌, ◌↔◌, Bool, true, false, List, [], length, None, Some, Contains, refl, subst, sym, ap, ◌∙◌, arith}
use Rattle.heap_model.specs.Geometry.{roots, root_word}
use Rattle.heap_model.specs.Image.{Image}
use Rattle.core_model.specs.View.{View}
use Rattle.heap_seat.specs.Looks.{KnowsNoLess}
use Rattle.heap_seat.specs.View.{View as HeapView}
use Rattle.heap_seat.specs.Words.{in_root}
use Rattle.heap_rule.specs.Seated.{IsSeatOf, SeatView}
use Rattle.heap_table.specs.AtTable.{SharedView}
use Rattle.dict_model.specs.Links.{shards}
use Rattle.dict_model.specs.Requests.{Request}
use Rattle.dict_requests.specs.Reached.{ReachesAllHeld}
use Rattle.seat_model.specs.CacheState.{CacheState, heap_view}
use Rattle.thread_cache.specs.Quiet.{HasEmptyCaches}
use Rattle.run_model.specs.Needs.{ListsKeysOf, is_target_of, puts_among, targets_of, worker_tables}
use Rattle.run_model.specs.Runs.{answered, unanswered}
use Rattle.run_model.specs.Sending.{Sent}
use Rattle.run_model.specs.Spending.{AreFullRightly, HasTakenFew}
use Rattle.run_model.specs.Workers.{Replies, root_owner, worker_of, worker_requests}
use Rattle.run_model.proofs.TargetLemmas.{target_is_own}
use Rattle.shard_moves.specs.Tables.{TellsTable}
use Rattle.worker_run.proofs.AgainLemmas.{has_keys}
use Rattle.worker_run.proofs.SpendLemmas.{knows_then}
use Rattle.worker_parts.specs.Asking.{HasExecuted}
use Rattle.worker_parts.specs.Begun.{IsBegun}
use Rattle.worker_parts.specs.Ending.{HasEnded, HasStepped}
use Rattle.worker_parts.specs.Going.{GoesOn, TurnsAway}
use Rattle.worker_parts.specs.Jobs.{IsFirst, IsPartOf, image_of}
use Rattle.worker_parts.specs.Parts.{IsPart, LacksTable, SpendsFew}
use Rattle.worker_parts.proofs.AskLemmas.{begun_going}
use Rattle.worker_parts.proofs.BeginLemmas.{first_opened, first_owns}
use Rattle.worker_parts.proofs.BroughtLemmas.{tables_both}
use Rattle.worker_parts.proofs.StateLemmas.{goes_then}

-- a worker's first state
module _ (shared : SharedView) (workers worker : ℕ) (first : CacheState) (is_first : IsFirst shared workers worker first) where
  -- it sees the roots' words of its shards as they are in the image
  pub first_sees : (shard : ℕ) → shard < shards → worker_of workers shard ≡ worker
      → (heap_view first).volatile (root_word shard) ≡ Some (image_of shared (root_word shard))
  first_sees shard small is =
      ((first_opened shared workers worker first is_first).words (root_word shard)
      (in_root shard (root_word shard) (first_owns shared workers worker first is_first shard small is) refl)).seen

  -- it goes on to a seat of the same heap, with the same roots
  pub seat_on : (t : CacheState) (seat : SeatView) → GoesOn first t → seat.table ≡ t.table → seat.view ≡ t.view → IsSeatOf shared seat
  seat_on t seat goes table view = record {
    table = table ∙ goes.0 ∙ is_first.table;
    setup = ap (λ (v : View). v.setup) view ∙ goes.1.setup ∙ is_first.setup;
  }

  pub roots_on : (t : CacheState) → GoesOn first t → (root : ℕ) → root < roots → Contains t.view.roots root ↔ (root_owner workers root ≡ worker)
  roots_on t goes root below = subst (λ (ns : List ℕ). Contains ns root ↔ (root_owner workers root ≡ worker)) (sym goes.1.roots)
      (is_first.fresh.roots_own root below)

-- tables were made and requests worked off, and then the seat went on to another state, where it took nothing more and forgot nothing of the mark
module _ (shared : SharedView) (requests : List Request) (workers worker : ℕ) (tables : ℕ → Bool) (replies : Replies) (before : Bool)
    (first begun asked t : CacheState)
    (is_first : IsFirst shared workers worker first)
    (made : IsBegun (image_of shared) (is_target_of workers worker requests) tables false first begun)
    (part : HasExecuted (image_of shared) (worker_requests workers worker requests) tables replies before begun asked)
    (goes : GoesOn asked t) (knows : KnowsNoLess (heap_view asked) (heap_view t)) (taken : t.view.taken ≤ asked.view.taken) where
  abbrev mine : List Request
  mine = worker_requests workers worker requests

  abbrev image : Image
  image = image_of shared

  from_begun : GoesOn begun t
  from_begun = goes_then begun asked t part.goes_on goes

  pub from_first : GoesOn first t
  from_first = goes_then first begun t made.goes_on from_begun

  knows_asked : KnowsNoLess (heap_view begun) (heap_view asked)
  knows_asked =
      let keys = has_keys (image_of shared) (first_opened shared workers worker first is_first).maps in
      (part.few keys.0 keys.1).goes_on.used

  part_full : AreFullRightly heap_view GoesOn (worker_tables workers worker requests)
      (answered (worker_requests workers worker requests) replies) first t
  part_full = record {
    each = λ earlier later key value is.
        let at = part.full.each earlier later key value is in (
          at.0,
          goes_then first begun at.0 made.goes_on at.1,
          goes_then at.0 asked t at.2 goes,
          knows_then (heap_view at.0) (heap_view asked) (heap_view t) at.3 knows,
          record {
            room = at.4.room;
            taken = let a = at.4.taken in
                let b = made.taken refl in
                let both = tables_both workers worker requests (heap_view first) (heap_view begun) in
                omega (arith, a, b, both);
          },
        );
  }

  part_taken : HasTakenFew (worker_tables workers worker requests) (answered (worker_requests workers worker requests) replies)
      (unanswered (worker_requests workers worker requests) replies)
      (heap_view first) (heap_view t)
  part_taken = record {
    taken = let a = part.taken.taken in
        let b = made.taken refl in
        let both = tables_both workers worker requests (heap_view first) (heap_view begun) in
        omega (arith, a, b, both, taken);
  }

  part_lacks : (shard : ℕ) → shard < shards → is_target_of workers worker requests shard ≡ true → tables shard ≡ false
      → LacksTable (image_of shared) (worker_tables workers worker requests) shard first t
  part_lacks shard small target none =
      let told = subst (λ b. TellsTable heap_view GoesOn TurnsAway shard b first begun) none (made.told refl shard small target) in
      let was = told.2 in
      record {
        null = told.0 (image_of shared (root_word shard)) (first_sees shared workers worker first is_first shard small
            (target_is_own workers worker requests shard target));
        at = was.at;
        before = was.before;
        behind = goes_then was.at begun t was.behind from_begun;
        none_yet = was.null;
        knows = knows_then (heap_view was.at) (heap_view begun) (heap_view t) was.knows
            (knows_then (heap_view begun) (heap_view asked) (heap_view t) knows_asked knows);
        room = was.room;
        taken = let a = was.until in
            let b = made.taken refl in
            let both = tables_both workers worker requests (heap_view first) (heap_view begun) in
            omega (arith, a, b, both);
      }

  part_few : (came : ℕ) (keys : List ℕ) → ListsKeysOf image keys → t.small_calls ≤ asked.small_calls + came *
      (512 + 4 * (length keys + puts_among mine + came)) → t.large_calls ≤ asked.large_calls + came + 1
      → SpendsFew (targets_of workers worker requests) mine came (length keys) t
  part_few came keys lists small large =
      let few = part.few keys lists in
      let tables = made.calls in
      record {
        small = let a = tables.small_few in let b = few.small_few in let none = is_first.unused.small in omega (arith, a, b, none, small);
        large = let a = tables.large_few in let b = few.large_few in let none = is_first.unused.large in omega (arith, a, b, none, large);
      }

  -- all of it, by how it ended, behind the same first requests
  pub part_of : (came brought : List Sent) (after : Bool) (ended : HasEnded image mine replies came brought false after (heap_view t))
      (steps : HasStepped (answered mine replies) brought (unanswered mine replies) ended.later false after first t) → steps.begun ≡ begun
      → (unanswered mine replies ≡ [] → heap_view asked ≡ heap_view steps.asked)
      → ((keys : List ℕ) → ListsKeysOf image keys → t.small_calls ≤ asked.small_calls + length came *
      (512 + 4 * (length keys + puts_among mine + length came)))
      → t.large_calls ≤ asked.large_calls + length came + 1
      → (after ≡ true) ↔ (t.view.stopped ≢ None) → (after ≡ false → HasEmptyCaches t) → (after ≡ false → ReachesAllHeld (heap_view t))
      → IsPart image workers requests worker tables replies came brought false after first t
  part_of came brought after ended steps same alike small large stops emptied exact = record {
    roots_own = roots_on shared workers worker first is_first t from_first;
    unused = is_first.unused;
    goes_on = from_first;
    ended = ended;
    steps = steps;
    few = λ keys lists. part_few (length came) keys lists (small keys lists) large;
    arrivals_few = λ none keys lists.
        let seen = alike none in
        record {
          small = let few = small keys lists in let same = ap (λ (v : HeapView). v.small_calls) seen in omega (arith, few, same);
          large = let same = ap (λ (v : HeapView). v.large_calls) seen in omega (arith, large, same);
        };
    full = part_full;
    lacks = λ going. part_lacks;
    told = λ going shard small target.
        subst (λ (x : CacheState). TellsTable heap_view GoesOn TurnsAway shard (tables shard) first x) (sym same) (made.told refl shard small target);
    going = λ going. subst (λ (x : CacheState). x.view.stopped ≡ None) (sym same)
        (begun_going shared workers worker (is_target_of workers worker requests) tables false refl first begun is_first made);
    by_tables = part.by_tables;
    taken = part_taken;
    stops = stops;
    emptied = λ going. emptied;
    exact = exact;
  }

  -- and as a seat of the heap
  pub part_of_seat : (seat : SeatView) (came brought : List Sent) (after : Bool) → seat.table ≡ t.table → seat.view ≡ t.view
      → IsPart image workers requests worker tables replies came brought false after first t
      → IsPartOf shared requests workers worker tables seat replies came brought false after
  part_of_seat seat came brought after table view is = record {
    seat_of = seat_on shared workers worker first is_first t seat from_first table view;
    first = first;
    last = t;
    fresh = is_first.fresh;
    last_is = sym view;
    part = is;
  }
