-- A run that is neither stopped nor refuses a request is that of one thread, and so are all of its kind alike.
use Rattle.std.proofs.Common.{◌≡◌, ℕ, ◌+◌, ◌≤◌, Bool, true, false, List, [], ◌∷◌, length, map, Option, None, Some, slice_index, refl, subst, sym, ap, ◌∙◌, arith}
use Rattle.heap_model.specs.Image.{Image}
use Rattle.heap_model.specs.Header.{capacity_of, used_of}
use Rattle.dict_model.specs.Requests.{Request, Reply, done, full, none, found}
use Rattle.dict_model.specs.Shards.{Map}
use Rattle.trace_text.specs.declared.reply.Reply.TheVariants.{Ok, Full, None as NotThere, Value, Unanswered}
use Rattle.run_model.specs.Needs.{superblocks_needed, ListsKeysOf, step_bound}
use Rattle.run_model.specs.Arrivals.{IsWholeMap}
use Rattle.run_model.specs.OneMap.{NoneIsFull, IsAsOneThread}
use Rattle.run_model.specs.Opened.{HasMaps}
use Rattle.run_model.specs.Runs.{StopsRightly, LeavesMaps}
use Rattle.run_model.proofs.AlikeLemmas.{same_replies, same_left}
use Rattle.run_model.proofs.OneMapLemmas.{as_one_thread, room_for_all}
use Rattle.worker_run.specs.Said.{Told, reply_of, replies_of}
use Rattle.image_run.specs.Running.{Options, RunsRequests}

module _ (image : Image) (requests : List Request) (options : Options) (put text : List ℕ) where
  pub run_thread : HasMaps image → (run : RunsRequests image requests options put text) → run.stopped ≡ false → NoneIsFull (replies_of run.told)
      → IsAsOneThread image requests (replies_of run.told) (slice_index run.left)
  run_thread have run ended none_full =
      as_one_thread image (slice_index run.left) options.workers options.budget requests (replies_of run.told) have run.leaves.answers
      (subst (λ b. StopsRightly image options.workers requests options.budget (replies_of run.told) b) ended run.leaves.stops) run.leaves.replies
      (subst (λ b. LeavesMaps image options.workers requests (replies_of run.told) b (slice_index run.left)) ended run.leaves.maps) none_full

  pub run_ends : (keys : List ℕ) (run : RunsRequests image requests options put text) → ListsKeysOf image keys
      → step_bound (length requests) (length keys) options.workers ≤ options.budget → run.stopped ≡ false
  run_ends keys run lists enough = by_case run.stopped refl where
    by_case : (b : Bool) → run.stopped ≡ b → b ≡ false
    by_case true is = let few = run.leaves.stops.cause is keys lists in absurd (omega arith)
    by_case false is = refl

  pub run_room : HasMaps image → (run : RunsRequests image requests options put text) → used_of image + superblocks_needed requests ≤ capacity_of image
      → NoneIsFull (replies_of run.told)
  run_room have run enough =
      room_for_all image options.workers requests (replies_of run.told)
      run.leaves.worked.worked.some have run.leaves.answers run.leaves.replies run.leaves.full enough

-- each reply is told in one way
told_of : Option Reply → Told
told_of (Some done) = Ok
told_of (Some full) = Full
told_of (Some none) = NotThere
told_of (Some (found value)) = Value value
told_of None = Unanswered

told_back : (told : Told) → told_of (reply_of told) ≡ told
unfolding told_of
told_back Ok = refl
told_back Full = refl
told_back NotThere = refl
told_back (Value value) = refl
told_back Unanswered = refl

all_back : (told : List Told) → map told_of (replies_of told) ≡ told
all_back [] = refl
all_back (t ∷ ts) = ap (λ x. x ∷ map told_of (replies_of ts)) (told_back t) ∙ ap (λ xs. t ∷ xs) (all_back ts)

module _ (image : Image) (requests : List Request) (options others : Options) (put text saved shown : List ℕ) (have : HasMaps image)
    (run : RunsRequests image requests options put text) (other : RunsRequests image requests others saved shown) (ended : run.stopped ≡ false)
    (also : other.stopped ≡ false)
    (none_full : NoneIsFull (replies_of run.told)) (none_either : NoneIsFull (replies_of other.told)) where
  one : IsAsOneThread image requests (replies_of run.told) (slice_index run.left)
  one = run_thread image requests options put text have run ended none_full

  two : IsAsOneThread image requests (replies_of other.told) (slice_index other.left)
  two = run_thread image requests others saved shown have other also none_either

  pub told_alike : other.told ≡ run.told
  told_alike =
      sym (all_back other.told)
      ∙ ap (map told_of) (same_replies image (slice_index run.left) (slice_index other.left) requests (replies_of run.told)
      (replies_of other.told) one two)
      ∙ all_back run.told

  pub left_alike : (whole : Map) → IsWholeMap (slice_index run.left) whole → IsWholeMap (slice_index other.left) whole
  left_alike = same_left image (slice_index run.left) (slice_index other.left) requests (replies_of run.told) (replies_of other.told) one two
