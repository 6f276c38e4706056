-- A run comes to a request of the worker's own: what it finds there, how few calls it has made behind it, and what it was told until then.
use Rattle.std.proofs.Common.{◌≡◌, ℕ, ◌+◌, ◌*◌, List, ◌∷◌, [], ◌++◌, length, true, Bool, sum_by, refl, subst, sym, arith}
use Rattle.std.proofs.lemmas.List.{nil_from_length}
use Rattle.std.proofs.lemmas.List.Sums.{sum_by-cons}
use Rattle.heap_model.specs.Image.{Image}
use Rattle.heap_seat.specs.Looks.{KnowsNoLess}
use Rattle.heap_seat.specs.Sound.{IsSeat}
use Rattle.heap_seat.specs.View.{View}
use Rattle.dict_model.specs.Requests.{Request, Reply, full}
use Rattle.run_model.specs.Needs.{ListsKeysOf}
use Rattle.run_model.specs.Opened.{HasMaps}
use Rattle.run_model.specs.Runs.{answered}
use Rattle.run_model.specs.Spending.{AreFullRightly, IsFullBehind, IsPut, MakeFew}
use Rattle.run_model.specs.Workers.{Replies, is_of_worker, worker_requests}
use Rattle.run_model.specs.Working.{Fits, HasWorked, HaveRoom, MakesCalls, large_calls_of}
use Rattle.worker_run.specs.Said.{IsShort, Line, Told, ValuesAreShort, request_of, requests_of, replies_of}
use Rattle.worker_run.proofs.MineLemmas.{IsNext, OwnsShards, is_next, mine_among, owns_still, rooms_next}
use Rattle.worker_run.proofs.SpendLemmas.{few_more, few_next, larges_of, larges_push, larges_worked, refused_next, refused_on, worked_count}
use Rattle.worker_run.proofs.WorkLemmas.{room_fits}

-- the request is the worker's next one, its value is short, and it fits the room that was made for it
pub record IsAtOwn (image : Image) (workers worker : ℕ) (lines left rest : List Line) (line : Line) (told : Replies) (v : View) : Type 0 where
  pub next : IsNext image (worker_requests workers worker (requests_of lines)) (worker_requests workers worker (requests_of rest))
      (request_of line) told v
  pub short : IsShort (request_of line)
  pub fits : (rooms others : List (List ℕ)) (room : List ℕ) → rooms ≡ room ∷ others
      → HaveRoom image (requests_of lines) (worker_requests workers worker (requests_of left)) rooms → Fits v (request_of line) (length room)

pub at_own : (workers worker : ℕ) (start v : View) (left rest : List Line) (line : Line) (has : Bool) → left ≡ line ∷ rest
    → has ≡ is_of_worker workers worker (request_of line) → has ≡ true → (image : Image) (lines : List Line) (told : Replies) → IsSeat v
    → HasMaps image → OwnsShards workers worker start → ValuesAreShort (requests_of lines) → v.roots ≡ start.roots
    → HasWorked image (worker_requests workers worker (requests_of lines)) (worker_requests workers worker (requests_of left)) told v
    → IsAtOwn image workers worker lines left rest line told v
at_own workers worker start v left rest line has is tells is_own image lines told seat maps owns short same worked =
    let mine = worker_requests workers worker (requests_of lines) in
    let after = worker_requests workers worker (requests_of rest) in
    let q = request_of line in
    let among = mine_among workers worker (requests_of lines) in
    let next = is_next workers worker left rest line has is tells is_own image lines told v maps (owns_still workers worker start v same owns) worked in
    record {
      next = next;
      short = short.each q (among q next.among);
      fits = λ rooms others room at have.
          let there = rooms_next workers worker left rest line has is tells is_own image (requests_of lines) rooms others room at have in
          room_fits image (requests_of lines) mine maps among q (q ∷ after) told v (length room) seat next.owned next.worked there.0;
    }

-- where no line is left no request of the worker's is
pub worked_through : (workers worker : ℕ) (image : Image) (mine : List Request) (left : List Line) (told : Replies) (v : View) → length left ≡ 0
    → HasWorked image mine (worker_requests workers worker (requests_of left)) told v → HasWorked image mine [] told v
worked_through workers worker image mine left told v none worked =
    subst (λ (ls : List Line). HasWorked image mine (worker_requests workers worker (requests_of ls)) told v) (nil_from_length left none) worked

-- the calls of the answered requests, with those of one more
module _ (image : Image) (mine rest : List Request) (q : Request) (told : List Told) (start v w : View) (room : ℕ) (keys : List ℕ)
    (maps : HasMaps image) (next : IsNext image mine rest q (replies_of told) v) (short : IsShort q) (fits : Fits v q room)
    (lists : ListsKeysOf image keys) (calls : MakesCalls q v w)
    (few : MakeFew (length told) (33280 + 4 * (length keys + length mine)) (larges_of (answered mine (replies_of told))) start v) where
  calls_behind : MakeFew (length told + 1) (33280 + 4 * (length keys + length mine))
      (larges_of (answered mine (replies_of told)) + large_calls_of q) start w
  calls_behind = few_next (length told) (33280 + 4 * (length keys + length mine)) (larges_of (answered mine (replies_of told))) image mine rest q
      (replies_of told) start v w room keys refl maps next.owned next.worked lists short fits calls few

  -- they are no more than those of all
  pub calls_stopped : MakeFew (length mine) (33280 + 4 * (length keys + length mine)) (sum_by large_calls_of mine) start w
  calls_stopped =
      few_more (length told + 1) (length mine) (33280 + 4 * (length keys + length mine))
      (larges_of (answered mine (replies_of told)) + large_calls_of q) (sum_by large_calls_of mine) start w
      (let count = worked_count image mine (q ∷ rest) told v next.worked in omega arith)
      (let all = larges_worked image mine (q ∷ rest) (replies_of told) v next.worked in let one = sum_by-cons large_calls_of q rest in omega arith)
      calls_behind

  pub calls_answered : (now : List Told) (r : Reply) → length told + 1 ≡ length now
      → answered mine (replies_of now) ≡ answered mine (replies_of told) ++ ((q, r) ∷ [])
      → MakeFew (length now) (33280 + 4 * (length keys + length mine)) (larges_of (answered mine (replies_of now))) start w
  calls_answered now r one_more is =
      subst (λ rs. MakeFew (length now) (33280 + 4 * (length keys + length mine)) (larges_of rs) start w) (sym is)
      (subst (λ n. MakeFew (length now) (33280 + 4 * (length keys + length mine)) n start w)
      (sym (larges_push (answered mine (replies_of told)) q r))
      (subst (λ n. MakeFew n (33280 + 4 * (length keys + length mine)) (larges_of (answered mine (replies_of told)) + large_calls_of q) start w)
      one_more calls_behind))

-- what was refused was so rightly, with one request more
pub refused_answered : {S : Type 0} (view : S → View) (keeps : S → S → Type 0) (tables : ℕ) (rs : List (Request × Reply)) (q : Request) (r : Reply)
    (s t u : S) → AreFullRightly view keeps tables rs s t → ((x : S) → keeps x t → keeps x u) → KnowsNoLess (view t) (view u)
    → keeps s u → keeps u u → (IsPut q → r ≡ full → IsFullBehind tables rs q (view s) (view u))
    → AreFullRightly view keeps tables (rs ++ ((q, r) ∷ [])) s u
refused_answered view keeps tables rs q r s t u was on knows kept same behind =
    refused_next view keeps tables rs q r s u (refused_on view keeps tables rs s t u was on knows) kept same behind
