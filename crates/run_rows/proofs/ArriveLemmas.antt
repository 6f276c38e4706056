-- What came for a worker, what of it is brought in, and what the worker ends with.
use Rattle.std.proofs.Common.{◌≡◌, ◌<◌, ◌≤◌, ℕ, ◌+◌, suc, inl, inr, List, [], ◌∷◌, ◌++◌, Bool, true, false, Result, Ok, Err, length, map, get_or, All, refl, ap, sym, subst, ◌∙◌, arith}
use Rattle.std.specs.Prelude.{Contains, IfOk}
use Rattle.std.specs.List.Sorted.{IsNonDecreasingBy, IsPermutation}
use Rattle.std.proofs.lemmas.List.{get_or-map, length-append, length-map}
use Rattle.std.proofs.lemmas.List.Elements.{All-contains, All-map, All-weaker}
use Rattle.std.proofs.lemmas.List.Sorted.{IsPermutation-map, IsPermutation-trans}
use Rattle.core_model.specs.View.{Role, role}
use Rattle.heap_rule.specs.Carried.{CarrierView}
use Rattle.heap_table.specs.AtTable.{SharedView}
use Rattle.dict_model.specs.Requests.{Request}
use Rattle.parcel_queue.specs.Account.{QueueView}
use Rattle.run_model.specs.Sending.{Sent}
use Rattle.run_model.specs.Workers.{Replies}
use Rattle.seat_model.specs.CacheState.{CacheState, CacheValue}
use Rattle.seat_parcels.specs.declared.parcel.Parcel.{Parcel}
use Rattle.seat_parcels.specs.Going.{AcceptsAtMost}
use Rattle.seat_parcels.specs.Parcels.{IsParcelOf, all_sent_of, sent_of}
use Rattle.seat_parcels.specs.Trays.{IsInStepWith}
use Rattle.worker_run.specs.declared.worker.Worker.{Worker}
use Rattle.worker_run.specs.Said.{replies_of}
use Rattle.worker_parts.specs.declared.asking.Asked.{Asked}
use Rattle.worker_parts.specs.Going.{GoesOn}
use Rattle.worker_parts.specs.Jobs.{AreLeftOf, HasTableFor, IsAskedOf, IsWorkedOf}
use Rattle.run_rows.specs.declared.arriving.Arriving.{Arriving}
use Rattle.run_rows.specs.declared.arriving.Ended.{Ended}
use Rattle.run_rows.specs.Ended.{HaveEnded, IsEndedOf}
use Rattle.run_rows.specs.Posts.{HasOffered, all_sent_to}
use Rattle.run_rows.specs.Rows.{AreAllOk, IsArrivingOf}
use Rattle.run_rows.specs.Turns.{AreInTurn}

-- a worker that has worked off its requests has a seat at the heap's table
pub asked_table : {C : Type 0} (shared : SharedView) (requests : List Request) (tables : ℕ → Bool) (asked : Asked C)
    → IsAskedOf shared requests tables asked
    → asked.seat.state.table ≡ shared.table
asked_table shared requests tables asked is = is.part.goes_on.0 ∙ is.made.goes_on.0 ∙ is.is_first.table

-- which has accepted nothing, and may accept what came
pub in_step : (shared : SharedView) (came : List Parcel) (count : ℕ) (s : CacheState) → s.table ≡ shared.table → s.view.accepts ≡ 0
    → count ≡ length came → All (IsParcelOf shared.table) came
    → IsInStepWith count came s
in_step shared came count s at none is each = record {
  each = subst (λ t. All (IsParcelOf t) came) (sym at) each;
  counted = omega (arith, none, is);
}

-- each value that came has a table
pub sent_tables : (tables : ℕ → Bool) (requests : List Request) (workers worker : ℕ) (came : List Parcel)
    → All (λ (p : Parcel). HasTableFor tables requests workers worker p.key) came
    → All (λ (s : Sent). HasTableFor tables requests workers worker s.key) (all_sent_of came)
sent_tables tables requests workers worker came each = All-map (λ (s : Sent). HasTableFor tables requests workers worker s.key) sent_of came each

pub takes_goes : {C : Type 0} (gives : C → ℕ → C → Type 0) (s t : CacheValue C) → AcceptsAtMost gives s t → GoesOn s.state t.state
takes_goes gives s t takes = (takes.stays.table, takes.stays.costs, takes.carries)

-- emptied caches keep what was accepted
pub kept_accepts : (s t : CacheState) → role t.view ≡ role s.view → t.view.accepts ≡ s.view.accepts
kept_accepts s t same = ap (λ (r : Role). r.accepts) same

-- the blocks of what is brought in were accepted, and of one more at most
pub brought_counted : (came : List Parcel) (brought later : List Sent) (left : List Parcel) (accepts : ℕ) → all_sent_of came ≡ brought ++ later
    → AreLeftOf later (all_sent_of left)
    → accepts + length left ≡ length came → (length brought ≤ accepts) × (accepts ≤ length brought + 1)
brought_counted came brought later left accepts are left_are counted = by_left left_are where
  long : length brought + length later ≡ length came
  long = sym (length-append brought later) ∙ sym (ap length are) ∙ length-map came sent_of

  same_length : length (all_sent_of left) ≡ length left
  same_length = length-map left sent_of

  by_left : AreLeftOf later (all_sent_of left) → (length brought ≤ accepts) × (accepts ≤ length brought + 1)
  by_left (inl all) =
      let l : length later ≡ length left = sym (ap length all) ∙ same_length in
      let n = long in
      (omega (arith, n, l, counted), omega (arith, n, l, counted))
  by_left (inr next) =
      let l : length later ≡ suc (length (all_sent_of left)) = ap length next.1 in
      let n = long in
      let m = same_length in
      (omega (arith, n, l, m, counted), omega (arith, n, l, m, counted))

-- none are left where no values are
pub none_sent : (left : List Parcel) → all_sent_of left ≡ [] → left ≡ []
none_sent [] none = refl
none_sent (p ∷ left) none = let e : suc (length (all_sent_of left)) ≡ 0 = ap length none in absurd (omega (arith, e))

-- parcels of a heap have carriers of its table
pub carriers_at : (shared : SharedView) (left : List Parcel) (carriers : List CarrierView) → carriers ≡ map (λ (p : Parcel). p.carrier) left
    → All (IsParcelOf shared.table) left
    → (c : CarrierView) → Contains carriers c → c.table ≡ shared.table
carriers_at shared left carriers are each c has = All-contains (λ (k : CarrierView). k.table ≡ shared.table) carriers c
    (subst (λ ks. All (λ (k : CarrierView). k.table ≡ shared.table) ks) (sym are)
    (All-map (λ (k : CarrierView). k.table ≡ shared.table) (λ (p : Parcel). p.carrier) left
    (All-weaker (IsParcelOf shared.table) (λ (p : Parcel). p.carrier.table ≡ shared.table) (λ p is. is.at_table) left each))) has

-- the values that parcels bring stand in the parcels' order
pub sorted_sent : (came : List Parcel) → IsNonDecreasingBy (λ (p : Parcel). p.number) came
    → IsNonDecreasingBy (λ (s : Sent). s.number) (all_sent_of came)
sorted_sent [] sorted = λ i j d up below. absurd (omega arith)
sorted_sent (p ∷ came) sorted = λ i j d up below.
    let inside : j < length (p ∷ came) = let l = length-map (p ∷ came) sent_of in omega (arith, below, l) in
    let before : i < length (p ∷ came) = omega (arith, inside, up) in
    let at_i : get_or (all_sent_of (p ∷ came)) i d ≡ sent_of (get_or (p ∷ came) i p) = get_or-map sent_of (p ∷ came) i p d before in
    let at_j : get_or (all_sent_of (p ∷ came)) j d ≡ sent_of (get_or (p ∷ came) j p) = get_or-map sent_of (p ∷ came) j p d inside in
    let less : (get_or (p ∷ came) i p).number ≤ (get_or (p ∷ came) j p).number = sorted i j p up inside in
    subst (λ (s : Sent). s.number ≤ (get_or (all_sent_of (p ∷ came)) j d).number) (sym at_i)
    (subst (λ (s : Sent). (get_or (p ∷ came) i p).number ≤ s.number) (sym at_j) less)

-- what a worker ended with, of what came for it
pub record HasBrought (shared : SharedView) (requests : List Request) (tables : ℕ → Bool) (came : List Parcel) (ended : Ended) : Type 0 where
  pub brought : List Sent
  pub accepted : (length brought ≤ ended.worked.seat.view.accepts) × (ended.worked.seat.view.accepts ≤ length brought + 1)
  pub worked : IsWorkedOf shared requests tables (all_sent_of came) brought false ended.worked
  pub remain : ended.worked.seat.view.accepts + length ended.carriers.items ≡ length came
  pub at_table : (c : CarrierView) → Contains ended.carriers.items c → c.table ≡ shared.table
  pub none_left : ended.worked.stopped ≡ false → ended.carriers.items ≡ []

pub has_ended : {C : Type 0} (shared : SharedView) (requests : List Request) (tables : ℕ → Bool) (queues : List QueueView) (told : ℕ → Replies)
    (one : Arriving C)
    (came : List Parcel) (ended : Ended) → IsArrivingOf shared requests tables queues told one
    → IsPermutation (one.pass.account.put ++ one.kept.items) came
    → IsNonDecreasingBy (λ (p : Parcel). p.number) came → HasBrought shared requests tables came ended → ended.worked.worker ≡ one.asked.worker
    → ended.worked.replies ≡ one.asked.replies → ended.worked.seat.view.offers ≡ one.asked.seat.state.view.offers
    → IsEndedOf shared requests tables false told ended
has_ended shared requests tables queues told one came ended is moved sorted has worker replies offers = record {
  came = all_sent_of came;
  brought = has.brought;
  worked = has.worked;
  told_is = ap (λ (w : Worker). told w.number) worker ∙ is.told_is ∙ sym (ap (λ r. replies_of r.items) replies);
  sorted = sorted_sent came sorted;
  sent = λ whole are. subst (λ (w : Worker). IsPermutation (all_sent_to w.workers requests whole told w.number) (all_sent_of came)) (sym worker)
      (IsPermutation-trans _ _ _ (is.sent.same whole are) (IsPermutation-map sent_of _ _ moved));
  offered = subst (λ (w : Worker). HasOffered shared w.workers requests w.number (told w.number) ended.worked.seat.view) (sym worker)
      (record { count = λ whole are. offers ∙ is.offered.count whole are });
  accepted = has.accepted;
  remain = has.remain ∙ sym (length-map came sent_of);
  at_table = has.at_table;
  none_left = has.none_left;
}

-- the answers that are all values, one by one
pub ok_at : {T E : Type 0} (all : List (Result T E)) (values : List T) → AreAllOk all values → (i : ℕ) (d : T) → i < length values
    → get_or all i (Ok d) ≡ Ok (get_or values i d)
ok_at all values are i d below = ap (λ xs. get_or xs i (Ok d)) are ∙ get_or-map Ok values i d (Ok d) below

pub ok_count : {T E : Type 0} (all : List (Result T E)) (values : List T) → AreAllOk all values → length all ≡ length values
ok_count all values are = ap length are ∙ length-map values Ok

-- what was brought in for one that was arriving, unless memory was short
pub finished : {C E : Type 0} (shared : SharedView) (requests : List Request) (tables : ℕ → Bool) (queues : List QueueView) (one : Arriving C)
    (came : List Parcel)
    (result : Result Ended E) → IsPermutation (one.pass.account.put ++ one.kept.items) came → IsNonDecreasingBy (λ (p : Parcel). p.number) came
    → IfOk result (λ ended. (brought : List Sent) × (length brought ≤ ended.worked.seat.view.accepts)
    × (ended.worked.seat.view.accepts ≤ length brought + 1)
    × IsWorkedOf shared requests tables (all_sent_of came) brought false ended.worked)
    → IfOk result (λ ended. ended.worked.worker ≡ one.asked.worker) → IfOk result (λ ended. ended.worked.replies ≡ one.asked.replies)
    → IfOk result (λ ended. ended.worked.seat.view.offers ≡ one.asked.seat.state.view.offers)
    → IfOk result (λ ended. ended.worked.seat.view.accepts + length ended.carriers.items ≡ length came)
    → IfOk result (λ ended. (c : CarrierView) → Contains ended.carriers.items c → c.table ≡ shared.table)
    → IfOk result (λ ended. ended.worked.stopped ≡ false → ended.carriers.items ≡ [])
    → IfOk result (λ ended. (told : ℕ → Replies) → IsArrivingOf shared requests tables queues told one
    → IsEndedOf shared requests tables false told ended)
finished shared requests tables queues one came (Ok ended) moved sorted has worker replies offers remain at_table none_left = λ told is.
    has_ended shared requests tables queues told one came ended is moved sorted
    (record { brought = has.0; accepted = (has.1, has.2); worked = has.3; remain = remain; at_table = at_table; none_left = none_left })
    worker replies offers
finished shared requests tables queues one came (Err e) moved sorted has worker replies offers remain at_table none_left = tt

-- each in its thread
module _ {C E : Type 0} (shared : SharedView) (requests : List Request) (tables : ℕ → Bool) (queues : List QueueView) where
  abbrev pub Finishes : Arriving C → Result Ended E → Type 0
  Finishes one r = IfOk r (λ ended. (told : ℕ → Replies) → IsArrivingOf shared requests tables queues told one
      → IsEndedOf shared requests tables false told ended)
      × IfOk r (λ ended. ended.worked.worker ≡ one.asked.worker)

  abbrev pub AllFinish : List (Arriving C) → List (Result Ended E) → Type 0
  AllFinish jobs rs = (i : ℕ) (d : Result Ended E) → i < length jobs
      → (job : Arriving C) × ((any : Arriving C) → get_or jobs i any ≡ job) × Finishes job (get_or rs i d)

  module _ {V : Type 0} (items : V → List Ended) (jobs : List (Arriving C)) (rs : List (Result Ended E)) (each : AllFinish jobs rs)
      (count : length rs ≡ length jobs) where
    same_count : (v : V) → AreAllOk rs (items v) → length (items v) ≡ length jobs
    same_count v are = sym (ok_count rs (items v) are) ∙ count

    pub all_counted : (result : Result V E) → IfOk result (λ v. AreAllOk rs (items v)) → IfOk result (λ v. length (items v) ≡ length jobs)
    all_counted (Ok v) are = same_count v are
    all_counted (Err e) are = tt

    pub all_finished : (result : Result V E) → IfOk result (λ v. AreAllOk rs (items v))
        → IfOk result (λ v. (told : ℕ → Replies) → All (IsArrivingOf shared requests tables queues told) jobs
        → All (IsEndedOf shared requests tables false told) (items v))
    all_finished (Ok v) are = λ told arriving. λ k d less.
        let inside : k < length jobs = let n = same_count v are in omega (arith, less, n) in
        let one = each k (Ok d) inside in
        let of_job : IsArrivingOf shared requests tables queues told one.0 =
        subst (IsArrivingOf shared requests tables queues told) (one.1 one.0) (arriving k one.0 inside) in
        (subst (λ (r : Result Ended E). IfOk r (λ ended. (said : ℕ → Replies) → IsArrivingOf shared requests tables queues said one.0
        → IsEndedOf shared requests tables false said ended))
        (ok_at rs (items v) are k d less) one.2.0) told of_job
    all_finished (Err e) are = tt

    pub all_in_turn : AreInTurn (λ (one : Arriving C). one.asked.worker) (length jobs) jobs → (result : Result V E)
        → IfOk result (λ v. AreAllOk rs (items v))
        → IfOk result (λ v. AreInTurn (λ (one : Ended). one.worked.worker) (length jobs) (items v))
    all_in_turn turns (Ok v) are = record {
      each = λ k d less.
          let inside : k < length jobs = let n = same_count v are in omega (arith, less, n) in
          let one = each k (Ok d) inside in
          let worker : (get_or (items v) k d).worked.worker ≡ one.0.asked.worker =
          subst (λ (r : Result Ended E). IfOk r (λ ended. ended.worked.worker ≡ one.0.asked.worker)) (ok_at rs (items v) are k d less) one.2.1 in
          let turn = subst (λ (job : Arriving C). (job.asked.worker.workers ≡ length jobs) × (job.asked.worker.number + k + 1 ≡ length jobs))
          (one.1 one.0) (turns.each k one.0 inside) in
          subst (λ (w : Worker). (w.workers ≡ length jobs) × (w.number + k + 1 ≡ length jobs)) (sym worker) turn;
    }
    all_in_turn turns (Err e) are = tt

-- all workers have ended, once for each what came is brought in
pub have_ended : {C E V : Type 0} (items : V → List Ended) (shared : SharedView) (requests : List Request) (tables : ℕ → Bool)
    (queues : List QueueView) (workers : ℕ)
    (jobs : List (Arriving C)) (told : ℕ → Replies) → All (IsArrivingOf shared requests tables queues told) jobs → length jobs ≡ workers
    → (result : Result V E)
    → IfOk result (λ v. (said : ℕ → Replies) → All (IsArrivingOf shared requests tables queues said) jobs
    → All (IsEndedOf shared requests tables false said) (items v))
    → IfOk result (λ v. AreInTurn (λ (one : Ended). one.worked.worker) (length jobs) (items v)) → IfOk result (λ v. length (items v) ≡ length jobs)
    → IfOk result (λ v. HaveEnded shared requests workers (items v))
have_ended items shared requests tables queues workers jobs told arriving are (Ok v) ended turns count = record {
  count = count ∙ are;
  turns = subst (λ n. AreInTurn (λ (one : Ended). one.worked.worker) n (items v)) are turns;
  tables = tables;
  halted = false;
  told = told;
  each = ended told arriving;
  halts = λ halted. let both : false ≡ true = halted in absurd (cc);
}
have_ended items shared requests tables queues workers jobs told arriving are (Err e) ended turns count = tt
