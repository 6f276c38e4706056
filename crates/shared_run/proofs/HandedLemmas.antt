-- All the seats of a run, and each carrier that is left: what they offered is what went to each of them, and no block is lost on its way.
use Rattle.std.proofs.Common.{◌≡◌, ℕ, zero, suc, ◌+◌, ◌<◌, ◌≤◌, Bool, true, false, nat_eq, cond, List, [], ◌∷◌, get_or, length, length-append, refl, subst, sym, ap, ◌∙◌, arith}
use Rattle.std.specs.Prelude.{flat_map}
use Rattle.std.proofs.Math.Nat.{mod-lt}
use Rattle.std.proofs.lemmas.Bool.{eq-eqb, ne_eqb}
use Rattle.std.proofs.lemmas.List.{get_or_default}
use Rattle.std.proofs.lemmas.List.Sorted.{length_permutation}
use Rattle.heap_model.specs.Counting.{total}
use Rattle.heap_model.specs.Image.{words_from}
use Rattle.core_model.specs.View.{View}
use Rattle.dict_model.specs.Nodes.{shard_of}
use Rattle.dict_model.specs.Requests.{Request}
use Rattle.dict_model.specs.Shards.{Map}
use Rattle.heap_rule.specs.Carried.{AreAllOf, CarrierView}
use Rattle.heap_rule.specs.Seated.{IsSeatOf, SeatView}
use Rattle.heap_rule.specs.Seats.{views_of}
use Rattle.heap_table.specs.AtTable.{SharedView}
use Rattle.run_model.specs.Opened.{HasMaps}
use Rattle.run_model.specs.Sending.{Sent}
use Rattle.run_model.specs.Workers.{Replies, worker_of}
use Rattle.run_model.proofs.OneMapLemmas.{whole_map}
use Rattle.run_model.proofs.SumLemmas.{sum_over, sum_step, sum_both, sum_none, sum_one}
use Rattle.run_rows.specs.Posts.{all_sent_to, sent_by_worker, sent_to}
use Rattle.worker_parts.specs.Jobs.{image_of}
use Rattle.shared_run.specs.Dealing.{Queue}
use Rattle.shared_run.specs.Gathering.{AreParts}

-- a sum with its last number, and sums that are the same number by number
pub sum_last : (f : ℕ → ℕ) (from count : ℕ) → sum_over f from (suc count) ≡ sum_over f from count + f (from + count)
sum_last f from zero =
    let a = sum_step f from 0 in
    let here : f from ≡ f (from + 0) = ap f (let e : from ≡ from + 0 = omega arith in e) in
    omega arith
sum_last f from (suc count) =
    let a = sum_step f from (suc count) in
    let b = sum_step f from count in
    let rest = sum_last f (from + 1) count in
    let here : f (from + 1 + count) ≡ f (from + suc count) = ap f (let e : from + 1 + count ≡ from + suc count = omega arith in e) in
    omega arith

sum_alike : (f g : ℕ → ℕ) (from count : ℕ) → ((i : ℕ) → from ≤ i → i < from + count → f i ≡ g i) → sum_over f from count ≡ sum_over g from count
sum_alike f g from zero same = refl
sum_alike f g from (suc count) same =
    let a = sum_step f from count in
    let b = sum_step g from count in
    let here = same from (omega arith) (omega arith) in
    let rest = sum_alike f g (from + 1) count (λ i low high. same i (omega arith) (omega arith)) in
    omega arith

-- sums of sums, the other way round
sum_across : (f : ℕ → ℕ → ℕ) (all from count : ℕ) → sum_over (λ i. sum_over (f i) from count) 0 all ≡ sum_over
    (λ j. sum_over (λ i. f i j) 0 all) from count
sum_across f all from zero = sum_none (λ i. 0) 0 all (λ i low high. refl)
sum_across f all from (suc count) =
    let each = sum_alike (λ i. sum_over (f i) from (suc count)) (λ i. f i from + sum_over (f i) (from + 1) count) 0 all
    (λ i low high. sum_step (f i) from count) in
    let both = sum_both (λ i. f i from) (λ i. sum_over (f i) (from + 1) count) 0 all in
    let rest = sum_across f all (from + 1) count in
    let step = sum_step (λ j. sum_over (λ i. f i j) 0 all) from count in
    omega arith

-- how long lists are that are put together
flat_long : {X : Type 0} (f : ℕ → List X) (from count : ℕ) → length (flat_map f (words_from (λ i. i) from count)) ≡ sum_over
    (λ i. length (f i)) from count
flat_long f from zero = refl
flat_long f from (suc count) =
    let a = sum_step (λ i. length (f i)) from count in
    let b = length-append (f from) (flat_map f (words_from (λ i. i) (from + 1) count)) in
    let rest = flat_long f (from + 1) count in
    omega arith

-- each value that is sent goes to one worker
each_goes : (workers : ℕ) → 1 ≤ workers → (sent : List Sent) → sum_over (λ worker. length (sent_to workers worker sent)) 0 workers ≡ length sent
each_goes workers some [] = sum_none (λ worker. 0) 0 workers (λ i low high. refl)
each_goes workers some (s ∷ sent) =
    let owner = worker_of workers (shard_of s.key) in
    let below : owner < workers = mod-lt (shard_of s.key) some in
    let one = sum_one (λ w. cond (nat_eq owner w) 1 0) owner 0 workers (omega arith) (omega (arith, below))
    (λ w other. ap (λ b. cond b 1 0) (ne_eqb owner w (λ e. other (sym e)))) in
    let is : cond {A = ℕ} (nat_eq owner owner) 1 0 ≡ 1 = ap (λ b. cond {A = ℕ} b 1 0) (eq-eqb owner owner refl) in
    let rest = each_goes workers some sent in
    let each = sum_alike (λ w. length (sent_to workers w (s ∷ sent))) (λ w. cond (nat_eq owner w) 1 0 + length (sent_to workers w sent)) 0 workers
    (λ w low high. longer (nat_eq owner w) (sent_to workers w sent)) in
    let parts = sum_both (λ w. cond (nat_eq owner w) 1 0) (λ w. length (sent_to workers w sent)) 0 workers in
    let all : sum_over (λ w. length (sent_to workers w (s ∷ sent))) 0 workers ≡ 1 + length sent = omega (arith, one, is, rest, each, parts) in
    omega (arith, all)
  where
    longer : (b : Bool) (xs : List Sent) → length (cond b (s ∷ xs) xs) ≡ cond b 1 0 + length xs
    longer true xs = omega arith
    longer false xs = omega arith

-- so as many go to the workers as all of them send
all_go : (workers : ℕ) (requests : List Request) (whole : Map) (told : ℕ → Replies) → 1 ≤ workers
    → sum_over (λ worker. length (all_sent_to workers requests whole told worker)) 0 workers
    ≡ sum_over (λ from. length (sent_by_worker workers requests whole from (told from))) 0 workers
all_go workers requests whole told some =
    sum_alike (λ worker. length (all_sent_to workers requests whole told worker))
    (λ worker. sum_over (λ from. length (sent_to workers worker (sent_by_worker workers requests whole from (told from)))) 0 workers) 0 workers
    (λ worker low high. flat_long (λ from. sent_to workers worker (sent_by_worker workers requests whole from (told from))) 0 workers)
    ∙ sum_across (λ worker from. length (sent_to workers worker (sent_by_worker workers requests whole from (told from)))) workers 0 workers
    ∙ sum_alike (λ from. sum_over (λ worker. length (sent_to workers worker (sent_by_worker workers requests whole from (told from)))) 0 workers)
    (λ from. length (sent_by_worker workers requests whole from (told from))) 0 workers
    (λ from low high. each_goes workers some (sent_by_worker workers requests whole from (told from)))

-- a sum over seats is one over their places
views_total : (of : View → ℕ) (seats : List SeatView) (f : ℕ → ℕ) (from : ℕ)
    → ((i : ℕ) (any : SeatView) → i < length seats → of (get_or seats i any).view ≡ f (from + i))
    → total of (views_of seats) ≡ sum_over f from (length seats)
views_total of [] f from same = refl
views_total of (s ∷ seats) f from same =
    let a = sum_step f from (length seats) in
    let here = same 0 s (omega arith) ∙ ap f (let e : from + 0 ≡ from = omega arith in e) in
    let rest = views_total of seats f (from + 1) (λ i any below. same (suc i) any (omega arith)
    ∙ ap f (let e : from + suc i ≡ from + 1 + i = omega arith in e)) in
    omega arith

module _ (shared : SharedView) (requests : List Request) (workers : ℕ) (seats : List SeatView) (told : List Queue) (carriers : List CarrierView)
    (stopped : Bool)
    (parts : AreParts shared requests workers seats told carriers stopped) (any : SeatView) (some : 1 ≤ workers)
    (have : HasMaps (image_of shared)) where
  by_number : (of : View → ℕ) → total of (views_of seats) ≡ sum_over (λ i. of (get_or seats i any).view) 0 workers
  by_number of =
      views_total of seats (λ i. of (get_or seats i any).view) 0
      (λ i d below. ap (λ (s : SeatView). of s.view) (get_or_default seats i d any below)
      ∙ ap (λ n. of (get_or seats n any).view) (let e : i ≡ 0 + i = omega arith in e))
      ∙ ap (sum_over (λ i. of (get_or seats i any).view) 0) parts.seats_long

  none_lost : length carriers + total (λ (v : View). v.accepts) (views_of seats) ≡ total (λ (v : View). v.offers) (views_of seats)
  none_lost =
      let whole = whole_map (image_of shared) have in
      let accepts = by_number (λ (v : View). v.accepts) in
      let offers = by_number (λ (v : View). v.offers) in
      let left = parts.carriers_are in
      let both = sum_both (λ i. (get_or seats i any).view.accepts) parts.remaining 0 workers in
      let came = sum_alike (λ i. (get_or seats i any).view.accepts + parts.remaining i)
      (λ i. length (all_sent_to workers requests whole.0 parts.replies i)) 0 workers
      (λ i low high. parts.remain i any (omega (arith, high))
      ∙ length_permutation (all_sent_to workers requests whole.0 parts.replies i) (parts.came i)
      (parts.sent i (omega (arith, high)) whole.0 whole.1)) in
      let go = all_go workers requests whole.0 parts.replies some in
      let sent = sum_alike (λ i. (get_or seats i any).view.offers) (λ i. length (sent_by_worker workers requests whole.0 i (parts.replies i))) 0 workers
      (λ i low high. (parts.offered i any (omega (arith, high))).count whole.0 whole.1) in
      omega (arith, accepts, offers, left, both, came, go, sent)

  pub all_back : workers ≡ shared.opening.seats → AreAllOf shared seats carriers
  all_back opened = record {
    seats_are = record {
      count = parts.seats_long ∙ opened;
      each = λ seat there.
          let below = there.1 in
          let long = parts.seats_long in
          subst (IsSeatOf shared) there.2 (parts.each there.0 seat (omega (arith, below, long))).seat_of;
    };
    at_table = parts.at_table;
    none_lost = none_lost;
  }
