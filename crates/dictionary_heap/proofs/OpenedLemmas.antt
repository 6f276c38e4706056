-- A heap for one thread that was opened over a dictionary has its shards and its maps, and a run over it begins.
use Rattle.std.proofs.Common.{ℕ, ◌<◌, ◌↔◌, List, [], Some, Contains, slice_index, sym, ap, arith}
use Rattle.heap_model.specs.declared.block.Block.{Block}
use Rattle.heap_model.specs.Geometry.{roots}
use Rattle.heap_model.specs.Header.{kinds_of}
use Rattle.heap_model.specs.Image.{Image}
use Rattle.heap_model.specs.Reach.{AnyRoot, ReachFrom, ReachIn, IsReachedIn}
use Rattle.heap_model.proofs.ListLemmas.{in_numbers}
use Rattle.heap_model.proofs.ReachLemmas.{closure_included, more_roots}
use Rattle.line_memory.specs.View.{View, volatile_at, durable_at}
use Rattle.block_heap.specs.Closing.{IsOpened}
use Rattle.block_heap.specs.Laws.{seat_law, keeps_none_law}
use Rattle.block_heap.specs.SeqState.{SeqState, all_roots, seat_of}
use Rattle.block_heap.proofs.FixedLemmas.{kinds_opened}
use Rattle.dict_model.specs.Links.{dict_links}
use Rattle.dict_requests.specs.Reached.{ReachesAllHeld}
use Rattle.dict_requests.specs.Shards.{HasShards}
use Rattle.dictionary.specs.Reading.{RecoversTo}
use Rattle.dictionary.proofs.SameLemmas.{map_kept}
use Rattle.run_model.specs.Opened.{IsDictionary, IsReachedFrom, IsOpenedOver, HasAllRoots}
use Rattle.run_model.specs.Progress.{HasAnswered}
use Rattle.worker_run.proofs.OpenLemmas.{all_opened}
use Rattle.worker_run.proofs.ProgressLemmas.{begins}
use Rattle.run_model.proofs.GoesOnLemmas.{asked_shard}
use Rattle.dictionary_heap.specs.Opened.{GivesMapsOf, HasDoneNothing}

-- one thread has every root
pub has_root : (root : ℕ) → root < roots → Contains all_roots root
has_root root below = in_numbers 0 roots root (omega arith) (omega arith)

pub has_all : (s : SeqState) → HasAllRoots (seat_of s)
has_all s = record { each = has_root }

-- so it reaches what the image does
all_reach : (image : Image) (b : Block) → IsReachedIn image dict_links b ↔ IsReachedFrom image (Contains all_roots) b
all_reach image b = (
  λ r. record { kind = r.kind; reach = from_each b r.kind r.reach },
  λ r. record {
    kind = r.kind;
    reach = more_roots {chosen = Contains all_roots} {chosen' = AnyRoot} image (kinds_of image) dict_links
        (λ root h. tt) b r.kind r.reach;
  },
) where
  from_each : (b : Block) (kind : ℕ) → ReachIn image dict_links b kind → ReachFrom image (Contains all_roots) (kinds_of image) dict_links b kind
  from_each = closure_included
      (λ b kind start. record {
        root = start.root;
        below = start.below;
        is_chosen = has_root start.root start.below;
        kind_is = start.kind_is;
        leads = start.leads;
      })
      (λ a b from kind reached link. link)

module _ (words : List ℕ) (held : List Block) (budget : ℕ) (s : SeqState) (is : IsOpened words held budget s) where
  -- it has this budget, and nothing has been done
  pub opened_nothing : HasDoneNothing budget (seat_of s)
  opened_nothing = record {
    budget_is = ap (λ (m : View). m.budget) is.opens.words_are;
    next = ap (λ (m : View). m.drawn) is.opens.words_are;
    stopped = is.stopped;
    small_calls = is.small;
    large_calls = is.large;
    taken = is.opens.taken;
    refusals = is.refusals;
  }

  module _ (has : IsDictionary (slice_index words) (Contains held)) where
    pub opened_over : IsOpenedOver (slice_index words) (seat_of s)
    opened_over = record {
      kinds = record { each = λ root below. sym (kinds_opened words held budget s s is (keeps_none_law s) root below) };
      nothing_outside = has.nothing_outside;
      maps = has.maps;
      exact = λ b. (
        λ h. (all_reach (slice_index words) b).0 ((has.exact b).0 ((is.opens.same b).0 h)),
        λ r. (is.opens.same b).1 ((has.exact b).1 ((all_reach (slice_index words) b).1 r)),
      );
      words = λ word own. record {
        seen = ap (λ (m : View). Some (volatile_at m word)) is.opens.words_are;
        left = ap (λ (m : View). Some (durable_at m word)) is.opens.words_are;
      };
    }

    pub run_begins : HasAnswered (slice_index words) [] (seat_of s)
    run_begins = begins (slice_index words) (seat_of s) (seat_law s) opened_over

    -- a request to any shard may be made
    pub opened_shards : HasShards (seat_of s)
    opened_shards = record {
      each = λ shard small. asked_shard (slice_index words) [] (seat_of s) shard has.maps small (has_root shard (omega arith)) run_begins;
    }

    -- each held block is reached
    pub all_reached : ReachesAllHeld (seat_of s)
    all_reached = all_opened (slice_index words) (seat_of s) (seat_law s) opened_over

    -- and each shard gives the map of the image that was recovered
    pub opened_maps : (image : Image) → RecoversTo image (slice_index words) → GivesMapsOf image (seat_of s)
    opened_maps image to = record {
      each = λ shard small.
          let first = has.maps.each shard small in (
            first.0,
            map_kept image (slice_index words) to shard first.0 small first.1,
            run_begins.gives shard first.0 small (has_root shard (omega arith)) first.1,
          );
    }
