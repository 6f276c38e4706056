-- What each step on the words of an open heap leaves, and how rows of steps go together.
use Rattle.std.proofs.Common.{◌≡◌, ℕ, ◌+◌, ◌<◌, ◌⊎◌, List, length, get_or, set, refl, sym, ◌∙◌, ap, subst, arith, inl, inr, None, Result, Ok, Err, OnErr, length-set, get_or-set_other}
use Rattle.std.proofs.lemmas.Bool.{cases_eq}
use Rattle.line_memory.specs.View.{View, volatile_at, durable_at, IsPending, IsSound, line_of}
use Rattle.line_memory.specs.Crash.{IsValueOf, MayLeaveStore}
use Rattle.line_memory.specs.Steps.{TakesBy, RefusesBy, SameTickets, IsLoad, IsStore, IsWriteBack, IsFence, after_draw}
use Rattle.line_memory.proofs.CallerLemmas.{draw_adds, contains_or_not}
use Rattle.block_heap.specs.Medium.{StoresOnly, RunsWithin, StopsWithin, IsLoaded, IsStored, IsWritten, IsFenced}

-- a draw leaves all but the durable words
pub draw_stores : (r : ℕ) (v w : View) → w ≡ after_draw r v → StoresOnly (λ _. ⊥) v w
draw_stores r v w e =
    subst (λ (x : View). StoresOnly (λ _. ⊥) v x) (sym e)
    (record {
      words = refl;
      budget = refl;
      drawn = omega arith;
      volatile = λ word out. refl;
      durable = λ word out. (draw_adds r v).durable word;
      pending = λ word out p. inl p;
    })

-- two rows of steps
pub stores_then : (to : ℕ → Type 0) (v u w : View) → StoresOnly to v u → StoresOnly to u w → StoresOnly to v w
stores_then to v u w a b =
    record {
      words = b.words ∙ a.words;
      budget = b.budget ∙ a.budget;
      drawn = let p = a.drawn in let q = b.drawn in omega arith;
      volatile = λ word out. b.volatile word out ∙ a.volatile word out;
      durable = λ word out.
          elim (b.durable word out) as (λ _. IsValueOf v word (durable_at w word)) [
            | inl e ↦ subst (λ (x : ℕ). IsValueOf v word x) (sym e) (a.durable word out)
            | inr e ↦ inr (e ∙ a.volatile word out)
          ];
      pending = λ word out p.
          elim (a.pending word out p) as (λ _. IsPending w word ⊎ (durable_at w word ≡ volatile_at w word)) [
            | inl q ↦ b.pending word out q
            | inr done ↦
                elim (b.durable word out) as (λ _. IsPending w word ⊎ (durable_at w word ≡ volatile_at w word)) [
                  | inl e ↦ inr (e ∙ done ∙ sym (b.volatile word out))
                  | inr e ↦ inr (e ∙ sym (b.volatile word out))
                ]
          ];
    }

-- steps that store to fewer words
pub stores_more : (to more : ℕ → Type 0) (v w : View) → ((word : ℕ) → to word → more word) → StoresOnly to v w → StoresOnly more v w
stores_more to more v w wider a =
    record {
      words = a.words;
      budget = a.budget;
      drawn = a.drawn;
      volatile = λ word out. a.volatile word (λ t. out (wider word t));
      durable = λ word out. a.durable word (λ t. out (wider word t));
      pending = λ word out. a.pending word (λ t. out (wider word t));
    }

-- steps that store to no word
pub stores_none : (to : ℕ → Type 0) (v w : View) → StoresOnly (λ _. ⊥) v w → StoresOnly to v w
stores_none to v w a = stores_more (λ _. ⊥) to v w (λ word t. absurd t) a

-- a refused step
pub refused_stores : (gives : ℕ → Type 0) (ticket : ℕ) (v w : View) → RefusesBy gives ticket v w → StoresOnly (λ _. ⊥) v w
refused_stores gives ticket v w refused =
    elim refused [
      | inl had ↦ subst (λ (x : View). StoresOnly (λ _. ⊥) v x) (sym had.unchanged)
          (record {
            words = refl;
            budget = refl;
            drawn = omega arith;
            volatile = λ word out. refl;
            durable = λ word out. inl refl;
            pending = λ word out p. inl p;
          })
      | inr stops ↦ subst (λ (x : View). StoresOnly (λ _. ⊥) v x) (sym stops.done)
          (let drawn = draw_stores stops.number v (after_draw stops.number v) refl in
          record {
            words = drawn.words;
            budget = drawn.budget;
            drawn = drawn.drawn;
            volatile = drawn.volatile;
            durable = drawn.durable;
            pending = drawn.pending;
          })
    ]

pub refused_stops_within : (gives : ℕ → Type 0) (ticket : ℕ) (v w : View) → v.stopped ≡ None → RefusesBy gives ticket v w → StopsWithin ticket 1 v w
refused_stops_within gives ticket v w running refused =
    elim refused [
      | inl had ↦ let e = had.stopped in absurd (cc)
      | inr stops ↦
          let is_ticket : ticket ≡ v.drawn = stops.is_ticket in
          let above = stops.above in
          subst (λ (x : View). StopsWithin ticket 1 v x) (sym stops.done)
          (record {
            stopped = refl;
            above = omega arith;
            from = omega arith;
            until = omega arith;
            last = omega arith;
            few = omega arith;
          })
    ]

-- tickets of a step that was done
same_runs_within : (r : ℕ) (v w : View) → v.stopped ≡ None → v.drawn < v.budget → SameTickets (after_draw r v) w → RunsWithin 1 v w
same_runs_within r v w running allowed same =
    let drawn : w.drawn ≡ v.drawn + 1 = same.drawn in
    let budget : w.budget ≡ v.budget = same.budget in
    record { running = same.stopped ∙ running; drew = omega arith; few = omega arith; below = omega arith }

pub load_is : (gives : ℕ → Type 0) (word value : ℕ) (v w : View) → TakesBy gives (IsLoad word value) v w → IsLoaded word value v w
    × StoresOnly (λ _. ⊥) v w
load_is gives word value v w takes =
    let done = takes.done in
    let same : SameTickets (after_draw takes.number v) w = subst (λ (x : View). SameTickets (after_draw takes.number v) x) (sym done.unchanged)
    (record { drawn = refl; budget = refl; stopped = refl }) in (
      record {
        runs_within = same_runs_within takes.number v w takes.running takes.allowed same;
        seen = done.seen;
        volatile = ap (λ (x : View). x.volatile) done.unchanged;
        pending = ap (λ (x : View). x.pending) done.unchanged;
      },
      draw_stores takes.number v w done.unchanged,
    )

pub store_is : (gives : ℕ → Type 0) (word value : ℕ) (v w : View) → TakesBy gives (IsStore word value) v w → IsStored word value v w
    × StoresOnly (λ other. other ≡ word) v w
store_is gives word value v w takes =
    let done = takes.done in
    let drawn = draw_stores takes.number v (after_draw takes.number v) refl in
    let volatile : w.volatile ≡ set v.volatile word value = done.volatile in
    let durable : w.durable ≡ (after_draw takes.number v).durable = done.durable in
    let tickets : w.drawn ≡ v.drawn + 1 = done.tickets.drawn in (
      record {
        runs_within = same_runs_within takes.number v w takes.running takes.allowed done.tickets;
        volatile = volatile;
        pending = λ other out p. (done.pending other out).1 p;
      },
      record {
        words = ap (λ (xs : List ℕ). length xs) volatile ∙ length-set v.volatile word value;
        budget = done.tickets.budget;
        drawn = omega arith;
        volatile = λ other out. ap (λ (xs : List ℕ). get_or xs other 0) volatile ∙ get_or-set_other v.volatile word other value 0 out;
        durable = λ other out. subst (λ (xs : List ℕ). IsValueOf v other (get_or xs other 0)) (sym durable) (drawn.durable other (λ f. f));
        pending = λ other out p. inl ((done.pending other out).1 p);
      },
    )

pub write_back_is : (gives : ℕ → Type 0) (line word : ℕ) (v w : View) → IsSound v → line ≡ line_of word → TakesBy gives (IsWriteBack line) v w
    → IsWritten word v w × StoresOnly (λ _. ⊥) v w
write_back_is gives line word v w sound at takes =
    let done = takes.done in
    let drawn = draw_stores takes.number v (after_draw takes.number v) refl in
    let volatile : w.volatile ≡ v.volatile = done.volatile in
    let durable : w.durable ≡ (after_draw takes.number v).durable = done.durable in
    let tickets : w.drawn ≡ v.drawn + 1 = done.tickets.drawn in (
      record {
        runs_within = same_runs_within takes.number v w takes.running takes.allowed done.tickets;
        volatile = volatile;
        line = λ other within same. done.in_line other within (same ∙ sym at);
        pending = λ other p.
            elim (cases_eq (line_of other) line) as (λ _. IsPending w other) [
              | inl same ↦ done.in_line other (sound.pending_within other p) same
              | inr differs ↦ (done.pending other differs).1 p
            ];
      },
      record {
        words = ap (λ (xs : List ℕ). length xs) volatile;
        budget = done.tickets.budget;
        drawn = omega arith;
        volatile = λ other out. ap (λ (xs : List ℕ). get_or xs other 0) volatile;
        durable = λ other out. subst (λ (xs : List ℕ). IsValueOf v other (get_or xs other 0)) (sym durable) (drawn.durable other (λ f. f));
        pending = λ other out p.
            elim (cases_eq (line_of other) line) as (λ _. IsPending w other ⊎ (durable_at w other ≡ volatile_at w other)) [
              | inl same ↦ inl (done.in_line other (sound.pending_within other p) same)
              | inr differs ↦ inl ((done.pending other differs).1 p)
            ];
      },
    )

pub fence_is : (gives : ℕ → Type 0) (v w : View) → TakesBy gives IsFence v w → IsFenced v w × StoresOnly (λ _. ⊥) v w
fence_is gives v w takes =
    let done = takes.done in
    let drawn = draw_stores takes.number v (after_draw takes.number v) refl in
    let volatile : w.volatile ≡ v.volatile = done.volatile in
    let tickets : w.drawn ≡ v.drawn + 1 = done.tickets.drawn in (
      record {
        runs_within = same_runs_within takes.number v w takes.running takes.allowed done.tickets;
        volatile = volatile;
        durable = λ word p. done.durable word p ∙ sym (ap (λ (xs : List ℕ). get_or xs word 0) volatile);
      },
      record {
        words = ap (λ (xs : List ℕ). length xs) volatile;
        budget = done.tickets.budget;
        drawn = omega arith;
        volatile = λ word out. ap (λ (xs : List ℕ). get_or xs word 0) volatile;
        durable = λ word out.
            elim (contains_or_not v.pending word) as (λ _. IsValueOf v word (durable_at w word)) [
              | inl p ↦ inr (done.durable word p)
              | inr none ↦ subst (λ (x : ℕ). IsValueOf v word x) (sym (done.others word none)) (drawn.durable word (λ f. f))
            ];
        pending = λ word out p. inr (done.durable word p ∙ sym (ap (λ (xs : List ℕ). get_or xs word 0) volatile));
      },
    )

-- no step at all
pub stores_nothing : (to : ℕ → Type 0) (v : View) → StoresOnly to v v
stores_nothing to v =
    record {
      words = refl;
      budget = refl;
      drawn = omega arith;
      volatile = λ word out. refl;
      durable = λ word out. inl refl;
      pending = λ word out p. inl p;
    }

-- a store, and then steps that store to no word
pub may_then : (word value : ℕ) (v u w : View) → MayLeaveStore word value v u → StoresOnly (λ _. ⊥) u w → MayLeaveStore word value v w
may_then word value v u w may none =
    record {
      words = none.words ∙ may.words;
      others = λ other differs. none.volatile other (λ f. f) ∙ may.others other differs;
      others_durable = λ other differs.
          elim (none.durable other (λ f. f)) as (λ _. IsValueOf v other (durable_at w other)) [
            | inl e ↦ subst (λ x. IsValueOf v other x) (sym e) (may.others_durable other differs)
            | inr e ↦ inr (e ∙ may.others other differs)
          ];
      seen = subst (λ x. (x ≡ value) ⊎ (x ≡ volatile_at v word)) (sym (none.volatile word (λ f. f))) may.seen;
      left =
          elim (none.durable word (λ f. f)) as (λ _. (durable_at w word ≡ value) ⊎ IsValueOf v word (durable_at w word)) [
            | inl e ↦ subst (λ x. (x ≡ value) ⊎ IsValueOf v word x) (sym e) may.left
            | inr e ↦ subst (λ x. (x ≡ value) ⊎ IsValueOf v word x) (sym e)
                (elim may.seen as (λ _. (volatile_at u word ≡ value) ⊎ IsValueOf v word (volatile_at u word))
                [ inl new ↦ inl new | inr old ↦ inr (inr old) ])
          ];
    }

-- steps that store to no word, and then a store
pub none_then : (word value : ℕ) (v u w : View) → StoresOnly (λ _. ⊥) v u → MayLeaveStore word value u w → MayLeaveStore word value v w
none_then word value v u w none may =
    record {
      words = may.words ∙ none.words;
      others = λ other differs. may.others other differs ∙ none.volatile other (λ f. f);
      others_durable = λ other differs. before other (durable_at w other) (may.others_durable other differs);
      seen = subst (λ x. (volatile_at w word ≡ value) ⊎ (volatile_at w word ≡ x)) (none.volatile word (λ f. f)) may.seen;
      left = elim may.left as (λ _. (durable_at w word ≡ value) ⊎ IsValueOf v word (durable_at w word)) [
        | inl new ↦ inl new
        | inr old ↦ inr (before word (durable_at w word) old)
      ];
    } where
      before : (other x : ℕ) → IsValueOf u other x → IsValueOf v other x
      before other x (inl e) = subst (λ y. IsValueOf v other y) (sym e) (none.durable other (λ f. f))
      before other x (inr e) = inr (e ∙ none.volatile other (λ f. f))

-- no step stores to a word
pub none_may : (word value : ℕ) (v w : View) → StoresOnly (λ _. ⊥) v w → MayLeaveStore word value v w
none_may word value v w none =
    record {
      words = none.words;
      others = λ other differs. none.volatile other (λ f. f);
      others_durable = λ other differs. none.durable other (λ f. f);
      seen = inr (none.volatile word (λ f. f));
      left = inr (none.durable word (λ f. f));
    }

-- a fact that holds anyway holds at `Err`
pub at_err : {T E : Type 0} (r : Result T E) (P : Type 0) → P → OnErr r P
at_err (Ok t) P p = tt
at_err (Err e) P p = p
