-- Why a put or a move is told that there is no room only where too few superblocks were left.
use Rattle.std.proofs.Common.{◌≡◌, ℕ, ◌+◌, ◌<◌, ◌≤◌, Bool, true, false, cond, nat_eq, List, [], ◌∷◌, ◌++◌, slice_index, sum_by, map, Some, Contains, refl, subst, ap, sym, ◌∙◌, arith}
use Rattle.std.proofs.lemmas.Bool.{and_from, eq-eqb, false_from_ne_true, ne_eqb}
use Rattle.std.proofs.lemmas.List.Elements.{Contains-append_right}
use Rattle.heap_model.specs.declared.block.Block.{Block}
use Rattle.heap_model.specs.Header.{capacity_of, used_of}
use Rattle.heap_model.proofs.MemberLemmas.{in_head, in_none}
use Rattle.heap_rule.proofs.ClosedLemmas.{looked_at_most}
use Rattle.dict_model.specs.Nodes.{shard_of}
use Rattle.dict_model.specs.Requests.{Request, put, get, move, Reply, done, full}
use Rattle.core_model.specs.Opening.{setup_of}
use Rattle.core_model.specs.View.{Setup}
use Rattle.run_model.specs.Needs.{is_moved_to, node_span, tables_needed}
use Rattle.run_model.specs.Runs.{answered, IsFullRightly, span_taken, spans_beside, worker_answered, worker_span}
use Rattle.run_model.specs.Workers.{Replies, shard_asked, worker_of, worker_requests}
use Rattle.run_model.proofs.FullLemmas.{answered_of}
use Rattle.run_model.proofs.OneMapLemmas.{small_shard}
use Rattle.run_model.proofs.SumLemmas.{sum_over, sum_within, sum_both, sum_beside}
use Rattle.worker_parts.specs.Parts.{LacksTable}
use Rattle.worker_run.proofs.SpendLemmas.{answered_none}
use Rattle.run_outcome.specs.Together.{HaveWorked}
use Rattle.run_outcome.proofs.CountLemmas.{tables_all, worker_below}
use Rattle.run_outcome.proofs.AnsweredLemmas.{answered_move}
use Rattle.run_outcome.proofs.WorkerLemmas.{all_views, of_each, answered_told, opened_setup, unused, taken_of, tables_of, taken_few, used_now}

cond_within : (b : Bool) (n x y : ℕ) → n ≤ x + y → cond b 0 n ≤ cond b 0 x + cond b 0 y
cond_within true n x y few = let none : 0 ≤ 0 + 0 = omega arith in none
cond_within false n x y few = few

module _ (words : List ℕ) (held : List Block) (workers budget : ℕ) (requests : List Request) (replies : Replies) (stopped : Bool)
    (now kept left : List ℕ)
    (h : HaveWorked words held workers budget requests replies stopped now kept left) where
  -- a sum over the others
  abbrev beside : ℕ → (ℕ → ℕ) → ℕ
  beside worker f = sum_over (λ other. cond (nat_eq other worker) 0 (f other)) 0 workers

  with_beside : (worker : ℕ) (f : ℕ → ℕ) → worker < workers → sum_over f 0 workers ≡ f worker + beside worker f
  with_beside worker f below = sum_beside f (λ other. nat_eq other worker) worker 0 workers (omega arith) (omega arith)
      (eq-eqb worker worker refl) (λ i other. ne_eqb i worker other)

  -- what the others took, with the tables of all
  taken_beside : (worker : ℕ) → worker < workers → beside worker (taken_of h)
      + tables_of h worker ≤ spans_beside workers worker requests replies + tables_needed requests
  taken_beside worker below =
      let few = sum_within (λ other. cond (nat_eq other worker) 0 (taken_of h other))
      (λ other. cond (nat_eq other worker) 0 (worker_span workers other requests replies) + cond (nat_eq other worker) 0 (tables_of h other)) 0 workers
      (λ i low high. cond_within (nat_eq i worker) (taken_of h i) (worker_span workers i requests replies) (tables_of h i)
      (taken_few h i (omega arith))) in
      let parts = sum_both (λ other. cond (nat_eq other worker) 0 (worker_span workers other requests replies))
      (λ other. cond (nat_eq other worker) 0 (tables_of h other)) 0 workers in
      let tables = with_beside worker (tables_of h) below in
      let most = tables_all workers requests in
      omega arith

  cause : (worker : ℕ) → worker < workers → (before later : List (Request × Reply)) (key : ℕ) (value : List ℕ)
      → worker_answered workers worker requests replies ≡ before ++ (put key value, full) ∷ later
      → capacity_of (slice_index words) < used_of (slice_index words) + node_span
      (put key value) + sum_by span_taken before + spans_beside workers worker requests replies
      + tables_needed requests
  cause worker below before later key value is =
      let at = (h.parts worker below).full.each before later key value (sym (answered_told h worker below) ∙ is) in
      let past = at.4.room.past in
      let same = at.4.room.now in
      let taken = at.4.taken in
      let knows = at.3 in
      let none = (unused h worker below).nothing.counts in
      let capacity = ap (λ (k : Setup). k.capacity) (at.1.1.setup ∙ opened_setup h worker below) in
      let looked = of_each h _ (looked_at_most (setup_of words budget workers) now kept (all_views h) h.closed) worker below in
      let all = used_now h in
      let parts = with_beside worker (taken_of h) below in
      let others = taken_beside worker below in
      omega arith

  -- where a worker has answered a request, no worker was stopped before the first one
  begun : (worker : ℕ) → worker < workers → (x : Request × Reply)
      → Contains (answered (worker_requests workers worker requests) (h.told worker)) x → h.halted ≡ false
  begun worker below x there = false_from_ne_true h.halted (λ is.
      let ended = (h.parts worker below).ended in
      let none : h.told worker ≡ [] = ended.replies_are ∙ ap (map (λ (r : Request × Reply). Some r.1)) (ended.unbegun is) in
      in_none x (subst (λ rs. Contains rs x) (ap (answered (worker_requests workers worker requests)) none
      ∙ answered_none (worker_requests workers worker requests)) there))

  -- so a shard that a refused move is to has no table, as its own worker found
  lacks_table : (worker : ℕ) → worker < workers → (key to : ℕ) → Contains (answered (worker_requests workers worker requests) (h.told worker))
      (move key to, full)
      → (h.tables (shard_of to) ≡ false) × LacksTable (slice_index words) (tables_of h (worker_of workers (shard_of to))) (shard_of to)
      (h.first (worker_of workers (shard_of to))) (h.last (worker_of workers (shard_of to)))
  lacks_table worker below key to there =
      let shard = shard_of to in
      let owner = worker_of workers shard in
      let own = worker_below workers shard h.some in
      let none : h.tables shard ≡ false = (h.parts worker below).by_tables (move key to) full there in
      let target = and_from (nat_eq owner owner) (is_moved_to requests shard) (eq-eqb owner owner refl)
      (answered_move workers worker requests (h.told worker) key to full there) in
      (none, (h.parts owner own).lacks (begun worker below (move key to, full) there) shard (small_shard (get to)) target none)

  move_cause : (worker : ℕ) → worker < workers → (before later : List (Request × Reply)) (key to : ℕ)
      → worker_answered workers worker requests replies ≡ before ++ (move key to, full) ∷ later
      → capacity_of (slice_index words) < used_of (slice_index words) + 1 + spans_beside workers
      (worker_of workers (shard_of to)) requests replies + tables_needed requests
  move_cause worker below before later key to is =
      let x : Request × Reply = (move key to, full) in
      let there = subst (λ rs. Contains rs x) (sym is ∙ answered_told h worker below) (Contains-append_right before (x ∷ later) x (in_head x later)) in
      let owner = worker_of workers (shard_of to) in
      let own = worker_below workers (shard_of to) h.some in
      let lacks = (lacks_table worker below key to there).1 in
      let past = lacks.room.past in
      let same = lacks.room.now in
      let taken = lacks.taken in
      let knows = lacks.knows in
      let none = (unused h owner own).nothing.counts in
      let capacity = ap (λ (k : Setup). k.capacity) (lacks.before.1.setup ∙ opened_setup h owner own) in
      let looked = of_each h _ (looked_at_most (setup_of words budget workers) now kept (all_views h) h.closed) owner own in
      let all = used_now h in
      let parts = with_beside owner (taken_of h) own in
      let others = taken_beside owner own in
      omega arith

  -- an answered request is one of its worker's
  told : (x : Request × Reply) → Contains (answered requests replies) x
      → Contains (answered (worker_requests workers (worker_of workers (shard_asked x.0)) requests) (h.told (worker_of workers (shard_asked x.0)))) x
  told x there =
      let owner = worker_of workers (shard_asked x.0) in
      subst (λ rs. Contains rs x) (answered_told h owner (worker_below workers (shard_asked x.0) h.some))
      (answered_of workers owner requests replies x (eq-eqb owner owner refl) there)

  pub full_rightly : IsFullRightly (slice_index words) workers requests replies
  full_rightly = record {
    cause = cause;
    move_cause = move_cause;
    no_table = λ key to there. (lacks_table (worker_of workers (shard_of key)) (worker_below workers (shard_of key) h.some) key to
        (told (move key to, full) there)).1.null;
    alike = λ key to other target same there also.
        let none = (lacks_table (worker_of workers (shard_of key)) (worker_below workers (shard_of key) h.some) key to
        (told (move key to, full) there)).0 in
        let some : h.tables (shard_of target) ≡ true =
        (h.parts (worker_of workers (shard_of other)) (worker_below workers (shard_of other) h.some)).by_tables (move other target) done
        (told (move other target, done) also) in
        let e : true ≡ false = sym some ∙ ap h.tables same ∙ none in absurd (cc);
  }
