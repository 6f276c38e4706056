-- What the workers were told of the shards, and workers that end before their first request.
use Rattle.std.proofs.Common.{◌≡◌, ◌<◌, ◌+◌, ◌-◌, ◌%◌, ◌++◌, append-nil, ℕ, zero, suc, inl, inr, List, [], ◌∷◌, Bool, true, false, length, get_or, set, map, All, refl, ap, sym, subst, ◌∙◌, arith}
use Rattle.std.specs.Prelude.{Contains, filter, flat_map, nat_eq, ◌||◌}
use Rattle.std.specs.List.{AllZip, list_any}
use Rattle.std.specs.List.Sorted.{IsPermutation}
use Rattle.std.proofs.lemmas.Bool.{cases_eq}
use Rattle.std.proofs.lemmas.List.{get_or-map, length-map}
use Rattle.std.proofs.lemmas.List.Elements.{All-head, All-tail}
use Rattle.std.proofs.lemmas.List.Sorted.{IsPermutation-refl}
use Rattle.core_model.specs.View.{Role, View}
use Rattle.heap_rule.specs.Carried.{CarrierView}
use Rattle.heap_table.specs.AtTable.{SharedView}
use Rattle.dict_model.specs.Links.{shards}
use Rattle.dict_model.specs.Nodes.{shard_of}
use Rattle.dict_model.specs.Requests.{Request}
use Rattle.dict_model.specs.Shards.{Map}
use Rattle.run_model.specs.Sending.{Sent, all_sent, worker_numbered}
use Rattle.run_model.specs.Workers.{Replies, worker_numbers, worker_of}
use Rattle.run_model.proofs.TargetLemmas.{target_is_own}
use Rattle.run_model.proofs.TogetherLemmas.{none_told as sent_none}
use Rattle.shard_moves.specs.Tables.{is_flagged}
use Rattle.shard_moves.proofs.TableLemmas.{flag_set, flag_stays}
use Rattle.worker_run.specs.declared.worker.Worker.{Worker}
use Rattle.worker_run.specs.Said.{replies_of}
use Rattle.worker_parts.specs.declared.beginning.Begun.{Begun}
use Rattle.worker_parts.specs.Jobs.{IsBegunOf, IsWorkedOf}
use Rattle.run_rows.specs.declared.arriving.Ended.{Ended}
use Rattle.run_rows.specs.Ended.{HaveEnded, IsEndedOf}
use Rattle.run_rows.specs.Rows.{AgreesWith}
use Rattle.run_rows.specs.Turns.{AreInTurn}

-- the first so many flags are what the shards' workers were told
pub record AreToldOf {C : Type 0} (all : List (Begun C)) (workers : ℕ) (flags : List Bool) (number : ℕ) : Type 0 where
  pub long : length flags ≡ shards
  pub each : (shard : ℕ) (any : Begun C) → shard < number → is_flagged flags shard ≡ is_flagged
      (get_or all (workers - 1 - shard % workers) any).tables shard

pub told_none : {C : Type 0} (all : List (Begun C)) (workers : ℕ) (flags : List Bool) → length flags ≡ shards → AreToldOf all workers flags 0
told_none all workers flags long = record { long = long; each = λ shard any below. absurd (omega arith) }

pub told_next : {C : Type 0} (all : List (Begun C)) (workers number : ℕ) (flags now : List Bool) (has : Bool) → number < shards
    → now ≡ set flags number has → length now ≡ shards
    → ((any : Begun C) → has ≡ is_flagged (get_or all (workers - 1 - number % workers) any).tables number) → AreToldOf all workers flags number
    → AreToldOf all workers now (number + 1)
told_next all workers number flags now has small is long has_is told = record {
  long = long;
  each = λ shard any below. elim (cases_eq shard number) as (λ _. is_flagged now shard ≡ is_flagged
      (get_or all (workers - 1 - shard % workers) any).tables shard) [
        | inl same ↦ subst (λ n. is_flagged now n ≡ is_flagged (get_or all (workers - 1 - n % workers) any).tables n) (sym same)
            (ap (λ fs. is_flagged fs number) is ∙ flag_set flags number has (let l = told.long in omega arith) ∙ has_is any)
        | inr other ↦ ap (λ fs. is_flagged fs shard) is ∙ flag_stays flags number shard has other ∙ told.each shard any (omega arith)
      ];
}

pub told_all : {C : Type 0} (all : List (Begun C)) (workers : ℕ) (flags : List Bool) → AreInTurn (λ (one : Begun C). one.worker) workers all
    → AreToldOf all workers flags shards → (requests : List Request) → All (AgreesWith (is_flagged flags) requests) all
told_all all workers flags turns told requests = λ k d less. record {
  each = λ shard small target.
      let w = (get_or all k d).worker in
      let turn = turns.each k d less in
      let owner : shard % w.workers ≡ w.number = target_is_own w.workers w.number requests shard target in
      let here : shard % workers ≡ w.number = subst (λ n. shard % n ≡ w.number) turn.0 owner in
      let last : w.number + k + 1 ≡ workers = turn.1 in
      let at : workers - 1 - shard % workers ≡ k = subst (λ n. workers - 1 - n ≡ k) (sym here) (omega (arith, last)) in
      told.each shard d small ∙ ap (λ i. is_flagged (get_or all i d).tables shard) at;
}

-- nothing is sent without a reply
none_from : (workers : ℕ) (requests : List Request) (whole : Map) (test : Sent → Bool) (froms : List ℕ)
    → flat_map (λ from. filter test (all_sent whole (worker_numbered workers from requests) [])) froms ≡ []
none_from workers requests whole test [] = refl
none_from workers requests whole test (from ∷ froms) =
    ap (λ xs. filter test xs ++ flat_map (λ n. filter test (all_sent whole (worker_numbered workers n requests) [])) froms)
    (sent_none whole (worker_numbered workers from requests)) ∙ none_from workers requests whole test froms

-- what a worker ended with that was left before its first request
pub record IsLeftOf {C : Type 0} (shared : SharedView) (requests : List Request) (begun : Begun C) (ended : Ended) : Type 0 where
  pub is_begun : IsBegunOf shared requests begun
  pub worker : ended.worked.worker ≡ begun.worker
  pub replies : ended.worked.replies ≡ begun.replies
  pub worked : (tables : ℕ → Bool) → IsWorkedOf shared requests tables [] [] true ended.worked
  pub view : ended.worked.seat.view ≡ begun.seat.state.view
  pub stopped : ended.worked.stopped ≡ begun.stopped
  pub empty : ended.carriers.items ≡ []

abbrev none_told : ℕ → Replies
none_told worker = []

module _ {C : Type 0} (shared : SharedView) (requests : List Request) where
  left_ended : (tables : ℕ → Bool) (begun : Begun C) (ended : Ended) → IsLeftOf shared requests begun ended
      → IsEndedOf shared requests tables true none_told ended
  left_ended tables begun ended left =
      let w = ended.worked.worker in
      let role_is = left.is_begun.part.role_is in
      let first_is = left.is_begun.is_first.fresh.view_is in
      let offers : ended.worked.seat.view.offers ≡ 0 = ap (λ (v : View). v.offers) left.view ∙ ap (λ (r : Role). r.offers) role_is
      ∙ ap (λ (v : View). v.offers) first_is in
      let accepts : ended.worked.seat.view.accepts ≡ 0 = ap (λ (v : View). v.accepts) left.view ∙ ap (λ (r : Role). r.accepts) role_is
      ∙ ap (λ (v : View). v.accepts) first_is in
      record {
        came = [];
        brought = [];
        worked = left.worked tables;
        told_is = sym (ap (λ r. replies_of r.items) left.replies ∙ ap replies_of left.is_begun.empty);
        sorted = λ i j d up below. absurd (omega (arith, below));
        sent = λ whole are. subst (λ xs. IsPermutation xs []) (sym (none_from w.workers requests whole
            (λ (s : Sent). nat_eq (worker_of w.workers (shard_of s.key)) w.number) (worker_numbers w.workers)))
            (IsPermutation-refl []);
        offered = record { count = λ whole are. offers ∙ sym (ap length (sent_none whole (worker_numbered w.workers w.number requests))) };
        accepted = (omega arith, omega (arith, accepts));
        remain = accepts_none ended.worked.seat.view.accepts accepts ended.carriers.items left.empty;
        at_table = λ c has. none_in ended.carriers.items c left.empty has;
        none_left = λ e. left.empty;
      } where
        accepts_none : (n : ℕ) → n ≡ 0 → (cs : List CarrierView) → cs ≡ [] → n + length cs ≡ 0
        accepts_none n none cs empty = let l : length cs ≡ 0 = ap length empty in omega (arith, none, l)

        none_in : (cs : List CarrierView) (c : CarrierView) → cs ≡ [] → Contains cs c → c.table ≡ shared.table
        none_in cs c empty has = let l : length cs ≡ 0 = ap length empty in let b = has.1 in absurd (omega (arith, l, b))

  left_all : (tables : ℕ → Bool) (all : List (Begun C)) (ended : List Ended) → AllZip (IsLeftOf shared requests) all ended → (i : ℕ) (d : Ended)
      → i < length ended
      → IsEndedOf shared requests tables true none_told (get_or ended i d)
  left_all tables [] [] left i d below = absurd (omega (arith, below))
  left_all tables [] (e ∷ ended) left i d below = absurd left
  left_all tables (b ∷ all) [] left i d below = absurd left
  left_all tables (b ∷ all) (e ∷ ended) left zero d below = left_ended tables b e left.0
  left_all tables (b ∷ all) (e ∷ ended) left (suc i) d below = left_all tables all ended left.1 i d (omega (arith, below))

  pub left_count : (all : List (Begun C)) (ended : List Ended) → AllZip (IsLeftOf shared requests) all ended → length ended ≡ length all
  left_count [] [] left = refl
  left_count [] (e ∷ ended) left = absurd left
  left_count (b ∷ all) [] left = absurd left
  left_count (b ∷ all) (e ∷ ended) left = ap suc (left_count all ended left.1)

  left_at : (all : List (Begun C)) (ended : List Ended) → AllZip (IsLeftOf shared requests) all ended → (i : ℕ) (d : Ended) → i < length ended
      → (b : Begun C) × ((any : Begun C) → get_or all i any ≡ b) × IsLeftOf shared requests b (get_or ended i d)
  left_at [] [] left i d below = absurd (omega (arith, below))
  left_at [] (e ∷ ended) left i d below = absurd left
  left_at (b ∷ all) [] left i d below = absurd left
  left_at (b ∷ all) (e ∷ ended) left zero d below = (b, λ any. refl, left.0)
  left_at (b ∷ all) (e ∷ ended) left (suc i) d below = left_at all ended left.1 i d (omega (arith, below))

  -- all of them, one of whom was stopped
  pub all_left : (all : List (Begun C)) (ended : List Ended) → AllZip (IsLeftOf shared requests) all ended
      → AreInTurn (λ (one : Begun C). one.worker) (length all) all
      → (at : ℕ) × (at < length all) × ((any : Begun C) → (get_or all at any).stopped ≡ true) → HaveEnded shared requests (length all) ended
  all_left all ended left turns stopped = record {
    count = left_count all ended left;
    turns = record { each = turn };
    tables = λ shard. false;
    halted = true;
    told = none_told;
    each = λ k d less. left_all (λ shard. false) all ended left k d less;
    halts = λ halted. (stopped.0, inside, λ any. stops any);
  } where
    inside : stopped.0 < length ended
    inside = let count = left_count all ended left in let below = stopped.1 in omega (arith, count, below)

    turn : (i : ℕ) (any : Ended) → i < length ended
        → ((get_or ended i any).worked.worker.workers ≡ length all) × ((get_or ended i any).worked.worker.number + i + 1 ≡ length all)
    turn i any below =
        let one = left_at all ended left i any below in
        let here : i < length all = let count = left_count all ended left in omega (arith, count, below) in
        let of_it = subst (λ (b : Begun C). (b.worker.workers ≡ length all) × (b.worker.number + i + 1 ≡ length all)) (one.1 one.0)
        (turns.each i one.0 here) in
        subst (λ (w : Worker). (w.workers ≡ length all) × (w.number + i + 1 ≡ length all)) (sym one.2.worker) of_it

    stops : (any : Ended) → (get_or ended stopped.0 any).worked.stopped ≡ true
    stops any =
        let one = left_at all ended left stopped.0 any inside in
        one.2.stopped ∙ subst (λ (b : Begun C). b.stopped ≡ true) (one.1 one.0) (stopped.2 one.0)

-- of a list that is gone through, the next element is as all are
pub next_of_all : {X : Type 0} (P : X → Type 0) (all done now rest : List X) (x : X) → All P all → done ++ now ≡ all → now ≡ x ∷ rest → P x
next_of_all {X} P all done now rest x each whole next = All-head P x rest (subst (All P) next (later done (subst (All P) (sym whole) each))) where
  later : (before : List X) → All P (before ++ now) → All P now
  later [] h = h
  later (y ∷ ys) h = later ys (All-tail P y (ys ++ now) h)

-- a list that is gone through, one element more, and at its end
pub whole_more : {X : Type 0} (all done now rest : List X) (x : X) → done ++ now ≡ all → now ≡ x ∷ rest → (done ++ (x ∷ [])) ++ rest ≡ all
whole_more all done now rest x whole next = moved done ∙ ap (λ xs. done ++ xs) (sym next) ∙ whole where
  moved : (before : List _) → (before ++ (x ∷ [])) ++ rest ≡ before ++ (x ∷ rest)
  moved [] = refl
  moved (y ∷ ys) = ap (λ xs. y ∷ xs) (moved ys)

pub whole_done : {X : Type 0} (all done now : List X) → done ++ now ≡ all → length now ≡ 0 → done ≡ all
whole_done all done [] whole none = sym (append-nil done) ∙ whole
whole_done all done (x ∷ xs) whole none = absurd (omega (arith, none))

-- where a test is passed by one of a list, it stands somewhere
abbrev Passes : {X : Type 0} → (X → Bool) → List X → Type 0
Passes {X} test xs = (at : ℕ) × (at < length xs) × ((any : X) → test (get_or xs at any) ≡ true)

passes_more : {X : Type 0} (test : X → Bool) (x : X) (xs : List X) → Passes test xs → Passes test (x ∷ xs)
passes_more test x xs rest = let below = rest.1 in (suc rest.0, omega (arith, below), λ any. rest.2 any)

passes_first : {X : Type 0} (test : X → Bool) (x : X) (xs : List X) (b : Bool) → test x ≡ b → (b || list_any test xs) ≡ true
    → (list_any test xs ≡ true → Passes test xs)
    → Passes test (x ∷ xs)
passes_first test x xs true is passed later = (0, omega arith, λ any. is)
passes_first test x xs false is passed later = passes_more test x xs (later passed)

pub passes_at : {X : Type 0} (test : X → Bool) (xs : List X) → list_any test xs ≡ true → (at : ℕ) × (at < length xs)
    × ((any : X) → test (get_or xs at any) ≡ true)
passes_at test [] passed = let both : false ≡ true = passed in absurd (cc)
passes_at test (x ∷ xs) passed = passes_first test x xs (test x) refl passed (passes_at test xs)

-- what is so of all images is so of what they are of
pub before_map : {X Y : Type 0} (P : Y → Type 0) (f : X → Y) (xs : List X) → All P (map f xs) → All (λ x. P (f x)) xs
before_map P f xs each = λ k d less.
    let inside : k < length (map f xs) = let l = length-map xs f in omega (arith, l, less) in
    subst P (get_or-map f xs k d (f d) less) (each k (f d) inside)
