-- How a worker's part ends: what came is brought in or left, and the caches are emptied, or it was stopped before.
use Rattle.std.proofs.Common.{◌≡◌, Bool, true, false, List, [], ◌∷◌, ◌++◌, append-nil, refl, subst, sym, ap, ◌∙◌}
use Rattle.heap_model.specs.Image.{Image}
use Rattle.dict_model.specs.Requests.{Request, put}
use Rattle.heap_seat.specs.View.{View}
use Rattle.seat_model.specs.CacheState.{CacheState, heap_view, opened_kinds}
use Rattle.seat_model.proofs.HeldLemmas.{seat_law}
use Rattle.run_model.specs.Progress.{HasAnswered, MayAnswer}
use Rattle.run_model.specs.Runs.{answered, unanswered}
use Rattle.run_model.specs.Sending.{Sent, puts_of}
use Rattle.run_model.specs.Workers.{Replies}
use Rattle.run_model.specs.Working.{HasStopped, HasWorked, IsUnderWay, TakesRequests}
use Rattle.shard_moves.specs.Arriving.{MayArrive}
use Rattle.worker_run.proofs.ProgressLemmas.{still}
use Rattle.worker_run.proofs.SpendLemmas.{answered_none, unanswered_now}
use Rattle.worker_parts.specs.Ending.{HasEnded, HasStepped, IsArriving, IsBehind, at_rest, in_arrival, in_request, not_begun}
use Rattle.worker_parts.specs.Going.{GoesOn, HasSettled, TurnsAway, WasQuieted, had_stopped, is_empty, stops_now}
use Rattle.worker_parts.proofs.StateLemmas.{goes_none, goes_then}
use Rattle.worker_parts.proofs.RequestLemmas.{all_before}
use Rattle.worker_parts.proofs.ArrivalLemmas.{BringsIn}

-- a worker that has worked off its requests, and brings in what came
module _ (image : Image) (mine : List Request) (replies : Replies) (came : List Sent) (first begun asked arrived t : CacheState) (before after : Bool)
    (tables : GoesOn first begun) (worked : HasWorked image mine [] replies (heap_view asked))
    (steps : (u : CacheState) × TakesRequests heap_view GoesOn TurnsAway (answered mine replies) begun u
    × IsUnderWay (unanswered mine replies) (heap_view u) (heap_view asked) × GoesOn u asked)
    (left : List Sent) (brings : BringsIn came left before asked arrived) (settled : HasSettled before after arrived t) where
  none_left : unanswered mine replies ≡ []
  none_left = unanswered_now image mine [] replies (heap_view asked) worked

  seen_alike : heap_view asked ≡ heap_view steps.0
  seen_alike = subst (λ left. IsUnderWay left (heap_view steps.0) (heap_view asked)) none_left steps.2

  abbrev Ends : Type 0
  Ends = (ended : HasEnded image mine replies came brings.brought false after (heap_view t))
      × (stepped : HasStepped (answered mine replies) brings.brought (unanswered mine replies) ended.later false after first t)
      × (stepped.begun ≡ begun) × (heap_view asked ≡ heap_view stepped.asked)

  -- behind the last value that is brought in it came so far in the next
  under_way : (x : CacheState) → heap_view brings.behind ≡ heap_view x → IsArriving brings.later (heap_view x) (heap_view arrived)
  under_way x same = by_case before refl where
    by_case : (b : Bool) → before ≡ b → IsArriving brings.later (heap_view x) (heap_view arrived)
    by_case false ran = subst (λ (later : List Sent). IsArriving later (heap_view x) (heap_view arrived)) (sym (brings.all ran))
        (ap heap_view (brings.there ran) ∙ same)
    by_case true was =
        let next = brings.next was in
        subst (λ (later : List Sent). IsArriving later (heap_view x) (heap_view arrived)) (sym next.2)
        (subst (λ (v : View). MayArrive next.0 v (heap_view arrived)) same next.3)

  stepped : (stepped : HasStepped (answered mine replies) brings.brought (unanswered mine replies) brings.later false after first t)
      × (stepped.begun ≡ begun)
      × (heap_view asked ≡ heap_view stepped.asked)
  stepped =
      let shown = all_before steps.0 asked seen_alike steps.3 (puts_of brings.brought) brings.behind brings.steps in (
        record {
          begun = begun;
          asked = steps.0;
          arrived = shown.0;
          tables = tables;
          requests = steps.1;
          arrivals = shown.1;
          settles = record {
            worked = arrived;
            goes_on = goes_then shown.0 brings.behind arrived shown.2 brings.goes_on;
            under_way = λ going. subst (λ (left : List Request). IsBehind left brings.later (heap_view shown.0) (heap_view arrived))
                (sym none_left) (under_way shown.0 shown.3);
            before = before;
            all = λ going ran. (none_left, brings.all ran);
            settled = λ going. settled;
            left_as_is = λ halted. let both : false ≡ true = halted in absurd (cc);
          };
        },
        refl,
        seen_alike,
      )

  pub arrival_ends : Ends
  arrival_ends = by_case settled where
    -- it was brought in whole, and rests there
    rests : before ≡ false → WasQuieted arrived t → Ends
    rests ran quieted = (
      record {
        rs = worked.rs;
        left = [];
        later = brings.later;
        requests_are = worked.requests_are;
        replies_are = worked.replies_are;
        came_are = brings.came_are;
        before = heap_view t;
        seat = seat_law t;
        answered = still image (worked.rs ++ puts_of brings.brought) (heap_view arrived) (heap_view t) (seat_law arrived)
            (seat_law t) quieted.own (ap opened_kinds quieted.kept.1.setup)
            (subst (λ (x : CacheState). HasAnswered image (worked.rs ++ puts_of brings.brought) (heap_view x)) (sym (brings.there ran))
            (brings.answered image worked.rs worked.answered));
        unbegun = λ halted. let both : false ≡ true = halted in absurd (cc);
        ends = at_rest refl refl (brings.all ran) refl;
      },
      stepped.0,
      stepped.1,
      stepped.2,
    )

    by_case : HasSettled before after arrived t → Ends
    by_case (had_stopped was is same) =
        let next = brings.next was in (
          record {
            rs = worked.rs;
            left = [];
            later = brings.later;
            requests_are = worked.requests_are;
            replies_are = worked.replies_are;
            came_are = brings.came_are;
            before = heap_view brings.behind;
            seat = seat_law brings.behind;
            answered = brings.answered image worked.rs worked.answered;
            unbegun = λ halted. let both : false ≡ true = halted in absurd (cc);
            ends = in_arrival refl is refl next.0 next.1 next.2
                (subst (λ (x : CacheState). MayAnswer (put next.0.key next.0.value) (heap_view brings.behind) (heap_view x)) (sym same) next.3.may);
          },
          stepped.0,
          stepped.1,
          stepped.2,
        )
    by_case (is_empty was is empty going quieted) = rests was quieted
    by_case (stops_now was is ticket at quieted) = rests was quieted

-- a worker that was stopped in a request ends there, and nothing is brought in
pub stop_ends : (image : Image) (mine : List Request) (replies : Replies) (came : List Sent) (first begun t : CacheState) → GoesOn first begun
    → HasStopped image mine replies (heap_view t)
    → (u : CacheState) × TakesRequests heap_view GoesOn TurnsAway (answered mine replies) begun u
    × IsUnderWay (unanswered mine replies) (heap_view u) (heap_view t) × GoesOn u t
    → (ended : HasEnded image mine replies came [] false true (heap_view t))
    × (stepped : HasStepped (answered mine replies) [] (unanswered mine replies) ended.later false true first t) × (stepped.begun ≡ begun)
    × (unanswered mine replies ≡ [] → heap_view t ≡ heap_view stepped.asked)
stop_ends image mine replies came first begun t tables stopped steps = (
  record {
    rs = stopped.worked.rs;
    left = stopped.request ∷ stopped.others;
    later = came;
    requests_are = stopped.worked.requests_are;
    replies_are = stopped.worked.replies_are;
    came_are = refl;
    before = stopped.before;
    seat = stopped.seat;
    answered = subst (λ rs. HasAnswered image rs stopped.before) (sym (append-nil stopped.worked.rs)) stopped.worked.answered;
    unbegun = λ halted. let both : false ≡ true = halted in absurd (cc);
    ends = in_request refl refl refl stopped.request stopped.others refl stopped.may;
  },
  record {
    begun = begun;
    asked = steps.0;
    arrived = steps.0;
    tables = tables;
    requests = steps.1;
    arrivals = refl;
    settles = record {
      worked = t;
      goes_on = steps.3;
      under_way = λ going.
          let left_are = unanswered_now image mine (stopped.request ∷ stopped.others) replies stopped.before stopped.worked in
          subst (λ (left : List Request). IsBehind left came (heap_view steps.0) (heap_view t)) (sym left_are)
          (subst (λ (left : List Request). IsUnderWay left (heap_view steps.0) (heap_view t)) left_are steps.2);
      before = true;
      all = λ going ran. let both : true ≡ false = ran in absurd (cc);
      settled = λ going. had_stopped refl refl refl;
      left_as_is = λ halted. let both : false ≡ true = halted in absurd (cc);
    };
  },
  refl,
  λ none.
      let left_are = unanswered_now image mine (stopped.request ∷ stopped.others) replies stopped.before stopped.worked in
      let clash : stopped.request ∷ stopped.others ≡ [] = sym left_are ∙ none in absurd (cc),
)

-- and so does one that was halted before its first request
pub halt_ends : (image : Image) (mine : List Request) (stopped : Bool) (first t : CacheState) → GoesOn first t → HasAnswered image [] (heap_view t)
    → (ended : HasEnded image mine [] [] [] true stopped (heap_view t))
    × (stepped : HasStepped (answered mine []) [] (unanswered mine []) ended.later true stopped first t)
    × (stepped.asked ≡ t)
halt_ends image mine stopped first t goes has = (
  record {
    rs = [];
    left = mine;
    later = [];
    requests_are = refl;
    replies_are = refl;
    came_are = refl;
    before = heap_view t;
    seat = seat_law t;
    answered = has;
    unbegun = λ halted. refl;
    ends = not_begun refl refl refl;
  },
  record {
    begun = t;
    asked = t;
    arrived = t;
    tables = goes;
    requests = subst (λ rs. TakesRequests heap_view GoesOn TurnsAway rs t t) (sym (answered_none mine)) refl;
    arrivals = refl;
    settles = record {
      worked = t;
      goes_on = goes_none t;
      under_way = λ going. let both : true ≡ false = going in absurd (cc);
      before = true;
      all = λ going ran. let both : true ≡ false = going in absurd (cc);
      settled = λ going. let both : true ≡ false = going in absurd (cc);
      left_as_is = λ halted. (refl, refl);
    };
  },
  refl,
)
