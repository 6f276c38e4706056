use Rattle.std.proofs.Common.{ℕ, ◌*◌, List, length, sym, ap, subst}
use Rattle.std.specs.BTreeMap.{BTreeMap}
use Rattle.c_dictionary.specs.Images.{IsMapOf}
use Rattle.c_dictionary.specs.Keys.{ListsAll}
use Rattle.c_dictionary.specs.Ready.{HasAllSteps, IsReady, IsSound}
use Rattle.c_dictionary.proofs.OpenLemmas.{opened_ready, opened_sound, opened_steps, opened_words}
use Rattle.c_dictionary.proofs.opening.open_store.Goals as goal

pub returns-in-Ok-clause-ready : goal.returns-in-Ok-clause-ready
returns-in-Ok-clause-ready c =
    let all = subst (λ (ms : List (BTreeMap ℕ (List ℕ))). ListsAll ms c.in_ok-keys.keys) c.deref.ensures.value c.in_ok-keys.ensures in
    subst IsReady (sym c.in-Ok.ensures.ok) (opened_ready c.args.words.now c.in_ok-found.found c.in_ok-found.ensures.ok _ c.args.budget
    c.in_ok-heap.ensures all (ap (λ (ws : List ℕ). 8 * length ws) c.words.ensures.words))

pub returns-in-Ok-clause-sound : goal.returns-in-Ok-clause-sound
returns-in-Ok-clause-sound c =
    let all = subst (λ (ms : List (BTreeMap ℕ (List ℕ))). ListsAll ms c.in_ok-keys.keys) c.deref.ensures.value c.in_ok-keys.ensures in
    subst IsSound (sym c.in-Ok.ensures.ok) (opened_sound c.args.words.now c.in_ok-found.found c.in_ok-found.ensures.ok _ c.args.budget
    c.in_ok-heap.ensures all (ap (λ (ws : List ℕ). 8 * length ws) c.words.ensures.words))

pub returns-in-Ok-clause-opens : goal.returns-in-Ok-clause-opens
returns-in-Ok-clause-opens c =
    let all = subst (λ (ms : List (BTreeMap ℕ (List ℕ))). ListsAll ms c.in_ok-keys.keys) c.deref.ensures.value c.in_ok-keys.ensures in
    subst (IsMapOf c.args.words.now) (sym c.in-Ok.ensures.ok) (opened_words c.args.words.now c.in_ok-found.found c.in_ok-found.ensures.ok _
    c.args.budget c.in_ok-heap.ensures all (ap (λ (ws : List ℕ). 8 * length ws) c.words.ensures.words))

pub returns-in-Ok-clause-steps : goal.returns-in-Ok-clause-steps
returns-in-Ok-clause-steps c =
    let all = subst (λ (ms : List (BTreeMap ℕ (List ℕ))). ListsAll ms c.in_ok-keys.keys) c.deref.ensures.value c.in_ok-keys.ensures in
    subst (HasAllSteps c.args.budget) (sym c.in-Ok.ensures.ok) (opened_steps c.args.words.now c.in_ok-found.found c.in_ok-found.ensures.ok _
    c.args.budget c.in_ok-heap.ensures all (ap (λ (ws : List ℕ). 8 * length ws) c.words.ensures.words))
