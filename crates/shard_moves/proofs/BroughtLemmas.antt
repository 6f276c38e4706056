-- Values that are brought in one after the other: how far that has come.
use Rattle.std.proofs.Common.{◌≡◌, ◌⊎◌, inl, inr, ℕ, ◌+◌, ◌*◌, ◌<◌, ◌≤◌, List, [], ◌∷◌, ◌++◌, length, Some, Contains, nat_eq, refl, subst, sym, ap, ◌∙◌, arith, append_assoc, length-append, add-mul, mul-le-mul_right}
use Rattle.std.proofs.Math.Nat.{mod-lt}
use Rattle.std.proofs.lemmas.List.{append-nil}
use Rattle.std.proofs.lemmas.Bool.{cases_eq, cond-false, ne_eqb}
use Rattle.heap_model.proofs.MemberLemmas.{in_head, in_rest}
use Rattle.heap_model.specs.Image.{Image}
use Rattle.heap_seat.specs.declared.fault.Looks.{Looks}
use Rattle.heap_seat.specs.Calls.{SameRefusals}
use Rattle.heap_seat.specs.Rows.{IsRow}
use Rattle.heap_seat.specs.Sound.{IsSeat}
use Rattle.heap_seat.specs.Tickets.{Runs}
use Rattle.heap_seat.specs.View.{View}
use Rattle.heap_seat.proofs.RowLemmas.{row_none, row_then, row_more, runs_then, same_refusals_then}
use Rattle.dict_model.specs.Links.{shards}
use Rattle.dict_model.specs.Nodes.{shard_of}
use Rattle.dict_model.specs.Requests.{Request, put, Reply, done, with_key, put_done}
use Rattle.dict_requests.specs.Reached.{ReachesAllHeld}
use Rattle.dict_requests.specs.Walks.{ListsKeys}
use Rattle.dict_requests.proofs.HandingLemmas.{set_changed}
use Rattle.dict_requests.proofs.OthersLemmas.{others_give, shard_on}
use Rattle.run_model.specs.Progress.{Answers, HasAnswered}
use Rattle.run_model.specs.Working.{most_taken, TakesRequest, TakesRequests}
use Rattle.run_model.proofs.GoesOnLemmas.{goes_on, takes_push}
use Rattle.shard_moves.specs.Arriving.{HaveTables, ListAllKeys, HasArrived, StopsAtFirst, StopsInOne}
use Rattle.run_model.specs.Sending.{Sent, put_of, puts_of}

-- so many are brought in, and these are left
pub record HasBrought {S : Type 0} (view : S → View) (goes : S → S → Type 0) (has_none : S → S → ℕ → Looks → Type 0) (old now : List Sent)
    (s t : S) : Type 0 where
  pub brought : List Sent
  pub left_are : old ≡ brought ++ now
  pub tables : HaveTables now (view t)
  pub answered : (image : Image) (rs : List (Request × Reply)) → HasAnswered image rs (view s) → HasAnswered image (rs ++ puts_of brought) (view t)
  pub exact : ReachesAllHeld (view s) → ReachesAllHeld (view t)
  pub done : (view t ≡ view s) ⊎ Runs (view s) (view t)
  pub calls : (keys : List ℕ) → ListAllKeys old (view s) keys → ListAllKeys now (view t) keys
      × IsRow (length brought * (512 + 4 * length keys)) (length brought) 0 (view s) (view t)
  pub taken : (view t).taken ≡ (view s).taken
  pub refusals : SameRefusals (view s) (view t)
  pub roots : (view t).roots ≡ (view s).roots
  pub steps : TakesRequests view goes has_none (puts_of brought) s t
  pub kept : goes s t

-- none is brought in yet
pub brought_none : {S : Type 0} (view : S → View) (goes : S → S → Type 0) (has_none : S → S → ℕ → Looks → Type 0) (old : List Sent) (s : S)
    → goes s s → HaveTables old (view s)
    → HasBrought view goes has_none old old s s
brought_none view goes has_none old s same tables = record {
  brought = [];
  left_are = refl;
  tables = tables;
  answered = λ image rs has. subst (λ xs. HasAnswered image xs (view s)) (sym (append-nil rs)) has;
  exact = λ all. all;
  done = inl refl;
  calls = λ keys lists. (
    lists,
    row_more 0 0 0 (0 * (512 + 4 * length keys)) 0 0 (view s) (view s) (omega arith) (omega arith) (omega arith)
        (row_none (view s)),
  );
  taken = refl;
  refusals = record { count = refl; bytes = refl; looks = refl };
  roots = refl;
  steps = refl;
  kept = same;
}

-- the puts of one more
puts_push : (xs : List Sent) (x : Sent) → puts_of (xs ++ (x ∷ [])) ≡ puts_of xs ++ (put_of x ∷ [])
puts_push [] x = refl
puts_push (y ∷ ys) x = ap (λ zs. put_of y ∷ zs) (puts_push ys x)

module _ {S : Type 0} (view : S → View) (goes : S → S → Type 0) (has_none : S → S → ℕ → Looks → Type 0) (row : (x y z : S) → goes x y → goes y z
    → goes x z) (old now : List Sent) (s t : S)
    (was : HasBrought view goes has_none old now s t) (seat : IsSeat (view t)) where
  -- one more is brought in
  module _ (new : List Sent) (u : S) (arrived : HasArrived now new (view t) (view u)) (kept : goes t u)
      (refusals : SameRefusals (view t) (view u)) (taken : (view u).taken ≡ (view t).taken)
      (all : ReachesAllHeld (view t) → ReachesAllHeld (view u)) where
    abbrev first : Sent
    first = arrived.first

    small : shard_of first.key < shards
    small = mod-lt first.key (omega arith)

    of_left : (x : Sent) → Contains new x → Contains now x
    of_left x h = subst (λ (xs : List Sent). Contains xs x) (sym arrived.left_are) (in_rest first x new h)

    is_first : Contains now first
    is_first = subst (λ (xs : List Sent). Contains xs first) (sym arrived.left_are) (in_head first new)

    answers : Answers (put first.key first.value) done (view t) (view u)
    answers = record { right = λ m gives. put_done first.key first.value; gives = arrived.changes.gives }

    tables_on : HaveTables new (view u)
    tables_on = record {
      shard = λ x h. shard_on (view t) (view u) (shard_of first.key) (λ m. with_key m first.key first.value) seat small arrived.arrives.may
          (λ m. with_key m first.key first.value) (shard_of x.key)
          (was.tables.shard x (of_left x h)) arrived.changes;
      table = λ x h. set_changed (view t) (view u) (shard_of first.key) (shard_of x.key)
          (λ m. with_key m first.key first.value) arrived.arrives.may (was.tables.shard x (of_left x h)).owned (was.tables.table x (of_left x h));
    }

    -- the keys of a shard, with that which arrived
    lists_on : (keys : List ℕ) → ListAllKeys now (view t) keys → ListAllKeys new (view u) keys
    lists_on keys lists = record {
      there = λ x h. elim (cases_eq (shard_of x.key) (shard_of first.key)) as (λ _. ListsKeys (view u) (shard_of x.key) keys) [
        | inl same ↦
            let there = lists.there first is_first in
            subst (λ n. ListsKeys (view u) n keys) (sym same) (record {
              map = with_key there.map first.key first.value;
              gives = arrived.changes.gives there.map there.gives;
              all = λ key some. elim (cases_eq first.key key) as (λ _. Contains keys key) [
                | inl is ↦ subst (Contains keys) is (lists.coming first is_first)
                | inr other ↦ there.all key (λ none. some (cond-false (nat_eq first.key key) (Some first.value) (there.map key)
                    (ne_eqb first.key key other) ∙ none))
              ];
            })
        | inr differs ↦
            let there = lists.there x (of_left x h) in
            record {
              map = there.map;
              gives = others_give (view t) (view u) (shard_of first.key) (λ m. with_key m first.key first.value) seat small arrived.arrives.may
                  (shard_of x.key) there.map differs
                  (was.tables.shard x (of_left x h)) there.gives;
              all = there.all;
            }
      ];
      coming = λ x h. lists.coming x (of_left x h);
    }

    step : TakesRequest view goes has_none (put first.key first.value) done t u
    step = record {
      answers = answers;
      may = arrived.arrives.may;
      runs = arrived.runs;
      calls = record {
        few = λ m gives keys lists. row_more (512 + 4 * length keys) 1 0 _ 3 (most_taken (put first.key first.value)) (view t) (view u)
            (omega arith) (omega arith) (omega arith) (arrived.arrives.calls keys lists);
      };
      keeps_it = kept;
      refused = λ is e. absurd (cc);
      granted = λ not. refusals;
    }

    pub brought_on : HasBrought view goes has_none old new s u
    brought_on = record {
      brought = was.brought ++ (first ∷ []);
      left_are = was.left_are ∙ ap (λ xs. was.brought ++ xs) arrived.left_are ∙ sym (append_assoc was.brought (first ∷ []) new);
      tables = tables_on;
      answered = λ image rs has.
          subst (λ xs. HasAnswered image xs (view u)) (append_assoc rs (puts_of was.brought) (put_of first ∷ [])
          ∙ ap (λ xs. rs ++ xs) (sym (puts_push was.brought first)))
          (goes_on image (rs ++ puts_of was.brought) (view t) (view u) (put first.key first.value) seat
          (was.answered image rs has) arrived.arrives.may done answers);
      exact = λ reached. all (was.exact reached);
      done = inr (elim was.done as (λ _. Runs (view s) (view u)) [
        | inl same ↦ subst
            (λ x. Runs x (view u)) same arrived.runs
        | inr ran ↦ runs_then (view s) (view t) (view u) ran arrived.runs
      ]);
      calls = λ keys lists.
          let both = was.calls keys lists in
          let more = length-append was.brought (first ∷ []) in (
            lists_on keys both.0,
            subst (λ n. IsRow (n * (512 + 4 * length keys)) n 0 (view s) (view u)) (sym more)
                (row_more (length was.brought * (512 + 4 * length keys) + (512 + 4 * length keys)) (length was.brought + 1) 0
                ((length was.brought + 1) * (512 + 4 * length keys)) (length was.brought + 1) 0
                (view s) (view u) (times (length was.brought) (512 + 4 * length keys)) (omega arith) (omega arith)
                (row_then (length was.brought * (512 + 4 * length keys)) (length was.brought) 0 (512 + 4 * length keys) 1 0 (view s) (view t)
                (view u) both.1
                (arrived.arrives.calls keys (both.0.there first is_first)))),
          );
      taken = taken ∙ was.taken;
      refusals = same_refusals_then (view s) (view t) (view u) was.refusals refusals;
      roots = arrived.arrives.may.others.roots ∙ was.roots;
      steps = subst (λ xs. TakesRequests view goes has_none xs s u) (sym (puts_push was.brought first))
          (takes_push view goes has_none (puts_of was.brought) (put first.key first.value) done s t u was.steps step);
      kept = row s t u was.kept kept;
    } where
      times : (n k : ℕ) → n * k + k ≤ (n + 1) * k
      times n k = let product = add-mul n 1 k in omega arith

  -- it was stopped in the next one
  module _ (new : List Sent) (u : S) (stops : StopsAtFirst now new (view t) (view u)) (kept : goes t u) where
    pub stopped_on : StopsInOne view goes has_none old new s u
    stopped_on = record {
      brought = was.brought;
      next = stops.first;
      others = stops.others;
      left_are = was.left_are ∙ ap (λ xs. was.brought ++ xs) stops.left_are;
      still = stops.still;
      before = t;
      answered = was.answered;
      steps = was.steps;
      arrives = stops.arrives;
      goes_on = kept;
    }

    pub calls_stopped : (keys : List ℕ) → ListAllKeys old (view s) keys → IsRow (length old * (512 + 4 * length keys)) (length old) 0 (view s) (view u)
    calls_stopped keys lists =
        let both = was.calls keys lists in
        let is_first = subst (λ (xs : List Sent). Contains xs stops.first) (sym stops.left_are) (in_head stops.first stops.others) in
        let more : length was.brought + 1 ≤ length old =
        let all = ap length was.left_are in let some = length-append was.brought now in let one = ap length stops.left_are in omega arith in
        let product = add-mul (length was.brought) 1 (512 + 4 * length keys) in
        let few : (length was.brought + 1) * (512 + 4 * length keys) ≤ length old * (512 + 4 * length keys) =
        mul-le-mul_right (512 + 4 * length keys) more in
        row_more (length was.brought * (512 + 4 * length keys) + (512 + 4 * length keys)) (length was.brought + 1) 0
        (length old * (512 + 4 * length keys)) (length old) 0 (view s) (view u)
        (omega arith) more (omega arith)
        (row_then (length was.brought * (512 + 4 * length keys)) (length was.brought) 0 (512 + 4 * length keys) 1 0 (view s) (view t) (view u) both.1
        (stops.arrives.calls keys (both.0.there stops.first is_first)))

  -- all are brought in
  module _ (none : now ≡ []) where
    pub all_are : old ≡ was.brought
    all_are = was.left_are ∙ ap (λ xs. was.brought ++ xs) none ∙ append-nil was.brought

    pub answered_all : (image : Image) (rs : List (Request × Reply)) → HasAnswered image rs (view s) → HasAnswered image (rs ++ puts_of old) (view t)
    answered_all image rs has = subst (λ xs. HasAnswered image (rs ++ puts_of xs) (view t)) (sym all_are) (was.answered image rs has)

    pub steps_all : TakesRequests view goes has_none (puts_of old) s t
    steps_all = subst (λ xs. TakesRequests view goes has_none (puts_of xs) s t) (sym all_are) was.steps

    pub calls_all : (keys : List ℕ) → ListAllKeys old (view s) keys → IsRow (length old * (512 + 4 * length keys)) (length old) 0 (view s) (view t)
    calls_all keys lists = subst (λ (xs : List Sent). IsRow (length xs * (512 + 4 * length keys)) (length xs) 0 (view s) (view t)) (sym all_are)
        (was.calls keys lists).1
