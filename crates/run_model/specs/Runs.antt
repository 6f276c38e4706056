-- What a run of a trace by some workers is: which requests are answered, with which replies, and what image is left.
use Rattle.std.specs.Prelude.{◌≡◌, ◌≢◌, ℕ, ◌+◌, ◌*◌, ◌<◌, ◌≤◌, ◌⊎◌, Bool, true, false, cond, nat_eq, List, [], ◌∷◌, ◌++◌, length, map, filter, replicate, sum_by, None, Some, Contains}
use Rattle.heap_model.specs.declared.block.Block.{Block}
use Rattle.heap_model.specs.Image.{Image}
use Rattle.heap_model.specs.Geometry.{clean, dirty, version, state_word, version_word, root_word, roots, IsReserved}
use Rattle.heap_model.specs.Header.{header_fault, capacity_of, used_of, kinds_of}
use Rattle.heap_model.specs.Blocks.{IsIn}
use Rattle.heap_model.specs.Reach.{ReachFrom, IsOutsideIn}
use Rattle.dict_model.specs.Links.{shards, dict_links, kind_count}
use Rattle.dict_model.specs.Nodes.{shard_of}
use Rattle.dict_model.specs.Requests.{Request, put, move, Reply, done, full, after, after_one, AreReplies}
use Rattle.dict_model.specs.Shards.{Map, MapOf}
use Rattle.run_model.specs.Arrivals.{IsWholeMap, worker_arrivals, arrived_for}
use Rattle.run_model.specs.Workers.{Replies, worker_of, worker_requests, worker_replies, worker_numbers}
use Rattle.run_model.specs.Needs.{is_to, node_span, tables_needed, ListsKeysOf, step_bound}

-- the requests that have a reply, each with it
abbrev pub answered : List Request → Replies → List (Request × Reply)
answered [] replies = []
answered (request ∷ requests) [] = []
answered (request ∷ requests) (None ∷ replies) = answered requests replies
answered (request ∷ requests) (Some reply ∷ replies) = (request, reply) ∷ answered requests replies

-- the requests that have none
abbrev pub unanswered : List Request → Replies → List Request
unanswered [] replies = []
unanswered (request ∷ requests) [] = request ∷ unanswered requests []
unanswered (request ∷ requests) (None ∷ replies) = request ∷ unanswered requests replies
unanswered (request ∷ requests) (Some reply ∷ replies) = unanswered requests replies

-- those of one shard
abbrev pub of_shard : ℕ → List (Request × Reply) → List (Request × Reply)
of_shard shard rs = filter (λ r. is_to shard r.0) rs

-- a first part of the requests is answered, and the rest is not
pub record AnswersInOrder (requests : List Request) (replies : Replies) : Type 0 where
  pub first : requests ≡ map (λ r. r.0) (answered requests replies) ++ unanswered requests replies
  pub then_none : replies ≡ map (λ r. Some r.1) (answered requests replies) ++ replicate (length (unanswered requests replies)) None

-- the requests that a worker has answered, with their replies
abbrev pub worker_answered : ℕ → ℕ → List Request → Replies → List (Request × Reply)
worker_answered workers worker requests replies =
    answered (worker_requests workers worker requests) (worker_replies workers worker requests replies)

-- those of its requests that are unanswered
abbrev pub worker_unanswered : ℕ → ℕ → List Request → Replies → List Request
worker_unanswered workers worker requests replies =
    unanswered (worker_requests workers worker requests) (worker_replies workers worker requests replies)

-- so it is of each worker's requests; each request has a reply or stands as unanswered
pub record AnswerInOrder (workers : ℕ) (requests : List Request) (replies : Replies) : Type 0 where
  pub long : length replies ≡ length requests
  pub each : (worker : ℕ) → worker < workers
      → AnswersInOrder (worker_requests workers worker requests) (worker_replies workers worker requests replies)

-- the run is stopped only where its budget is below the bound, and where it isn't stopped all is answered
pub record StopsRightly (image : Image) (workers : ℕ) (requests : List Request) (budget : ℕ) (replies : Replies) (stopped : Bool) : Type 0 where
  pub all : stopped ≡ false → unanswered requests replies ≡ []
  pub cause : stopped ≡ true → (keys : List ℕ) → ListsKeysOf image keys → budget < step_bound (length requests) (length keys) workers

-- the superblocks that a request took at most, by its reply
abbrev pub span_taken : Request × Reply → ℕ
span_taken (request, done) = node_span request
span_taken (request, reply) = 0

-- those that the first of the requests may have taken
abbrev pub first_span : List Request → ℕ
first_span [] = 0
first_span (request ∷ requests) = node_span request

-- the superblocks that a worker took at most for nodes: those of its answered requests, and of the first that is unanswered
abbrev pub worker_span : ℕ → ℕ → List Request → Replies → ℕ
worker_span workers worker requests replies =
    sum_by span_taken (worker_answered workers worker requests replies) + first_span (worker_unanswered workers worker requests replies)

-- those of all the other workers
abbrev pub spans_beside : ℕ → ℕ → List Request → Replies → ℕ
spans_beside workers worker requests replies =
    sum_by (λ other. cond (nat_eq other worker) 0 (worker_span workers other requests replies)) (worker_numbers workers)

-- a put is told that there is no room only where too few superblocks were left for its node, with those that its
-- worker's puts before it, the other workers' requests and the tables of the trace may take
pub record IsFullRightly (image : Image) (workers : ℕ) (requests : List Request) (replies : Replies) : Type 0 where
  pub cause : (worker : ℕ) → worker < workers → (before later : List (Request × Reply)) (key : ℕ) (value : List ℕ)
      → worker_answered workers worker requests replies ≡ before ++ (put key value, full) ∷ later
      → capacity_of image < used_of image + node_span (put key value) + sum_by span_taken before + spans_beside workers worker requests replies
      + tables_needed requests
  -- a move is told so only where no superblock was left for the table of its other key's shard, with those that the
  -- workers beside that shard's own and the tables of the trace may take
  pub move_cause : (worker : ℕ) → worker < workers → (before later : List (Request × Reply)) (key to : ℕ)
      → worker_answered workers worker requests replies ≡ before ++ (move key to, full) ∷ later
      → capacity_of image < used_of image + 1 + spans_beside workers (worker_of workers (shard_of to)) requests replies + tables_needed requests
  -- and only where that shard had no table in the image; then each move to the shard is refused whose key is there
  pub no_table : (key to : ℕ) → Contains (answered requests replies) (move key to, full) → image (root_word (shard_of to)) ≡ 0
  pub alike : (key to other target : ℕ) → shard_of target ≡ shard_of to → Contains (answered requests replies) (move key to, full)
      → Contains (answered requests replies) (move other target, done) → ⊥

-- in each shard the replies are right, one after the other from its map in the image on
pub record RepliesRightly (image : Image) (requests : List Request) (replies : Replies) : Type 0 where
  pub right : (shard : ℕ) (map : Map) → shard < shards → MapOf image shard map
      → AreReplies map (of_shard shard (answered requests replies))

-- the shard is the map after the first of the unanswered requests too, which is one to this shard
pub record IsAfterFirst (left : Image) (shard : ℕ) (map : Map) (rest : List Request) : Type 0 where
  pub request : Request
  pub others : List Request
  pub first : rest ≡ request ∷ others
  pub to_shard : is_to shard request ≡ true
  pub map_is : MapOf left shard (after_one map request done)

-- what is left of a shard is this map; where the run was stopped it may be that after the first unanswered request too
abbrev pub IsMapLeft : Image → ℕ → Map → Bool → List Request → Type 0
IsMapLeft left shard map stopped rest = MapOf left shard map ⊎ ((stopped ≡ true) × IsAfterFirst left shard map rest)

-- So many of its arrivals a shard's worker has brought in, the first ones: all of them where the run wasn't stopped,
-- and none where one of its requests
-- is unanswered.
pub record HaveArrived (image : Image) (workers : ℕ) (requests : List Request) (replies : Replies) (stopped : Bool) (arrived : ℕ → ℕ) : Type 0 where
  pub all : stopped ≡ false → (whole : Map) → IsWholeMap image whole → (shard : ℕ) → shard < shards
      → arrived (worker_of workers shard) ≡ length (worker_arrivals workers (worker_of workers shard) whole (answered requests replies))
  pub none : (shard : ℕ) → shard < shards → worker_unanswered workers (worker_of workers shard) requests replies ≢ []
      → arrived (worker_of workers shard) ≡ 0

-- What is left of each shard is its map after its answered requests and what has arrived of its worker's. Where the run was stopped it may be the map
-- after the first unanswered request of that worker too.
pub record LeavesMaps (image : Image) (workers : ℕ) (requests : List Request) (replies : Replies) (stopped : Bool) (left : Image) : Type 0 where
  pub arrived : ℕ → ℕ
  pub have_arrived : HaveArrived image workers requests replies stopped arrived
  pub each : (whole : Map) → IsWholeMap image whole → (shard : ℕ) (map : Map) → shard < shards → MapOf image shard map
      → IsMapLeft left shard
      (after map (of_shard shard (answered requests replies ++ arrived_for workers shard whole (answered requests replies) arrived))) stopped
      (worker_unanswered workers (worker_of workers shard) requests replies)

-- a root that is no shard's
abbrev pub IsOtherRoot : ℕ → Type 0
IsOtherRoot root = shards ≤ root

-- the image that is left has a good header, of the same capacity and kinds, and its words without a meaning are as they were
pub record LeavesHeader (image : Image) (words_left : ℕ) (left : Image) : Type 0 where
  pub well_formed : header_fault (Some kind_count) (8 * words_left) left ≡ None
  pub version_is : left version_word ≡ version
  pub capacity : capacity_of left ≡ capacity_of image
  pub kinds : (root : ℕ) → root < roots → kinds_of left root ≡ kinds_of image root
  pub without_meaning : (word : ℕ) → IsReserved (capacity_of image) word → left word ≡ image word

-- nothing is outside in it, so it can be opened again; and what belongs to no shard is in it as it was
pub record LeavesOthers (image left : Image) : Type 0 where
  pub nothing_outside : (at : ℕ) → IsOutsideIn left dict_links at → ⊥
  pub roots_are : (root : ℕ) → IsOtherRoot root → root < roots → left (root_word root) ≡ image (root_word root)
  pub blocks_are : (b : Block) (kind word : ℕ) → ReachFrom image IsOtherRoot (kinds_of image) dict_links b kind → IsIn b word
      → left word ≡ image word
  pub still_reached : (b : Block) (kind : ℕ) → ReachFrom image IsOtherRoot (kinds_of image) dict_links b kind
      → ReachFrom left IsOtherRoot (kinds_of left) dict_links b kind

-- no superblock is lost: there are taken those from before, and at most those that the workers' requests and the tables of the trace took
pub record LeavesUsed (image : Image) (workers : ℕ) (requests : List Request) (replies : Replies) (left : Image) : Type 0 where
  pub least : used_of image ≤ used_of left
  pub most : used_of left ≤ used_of image + sum_by (λ worker. worker_span workers worker requests replies) (worker_numbers workers)
      + tables_needed requests

-- it was closed where the run wasn't stopped
abbrev pub LeavesState : Bool → Image → Type 0
LeavesState stopped left = left state_word ≡ cond stopped dirty clean
