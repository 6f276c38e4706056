-- Words stored one after the other over an image: how far they have come, and what stands where a call is refused.
use Rattle.std.proofs.Common.{◌≡◌, ◌≢◌, ℕ, suc, ◌+◌, ◌-◌, ◌*◌, ◌/◌, ◌<◌, ◌≤◌, ◌⊎◌, inl, inr, List, [], ◌∷◌, length, slice_index, refl, sym, ap, subst, ◌∙◌, arith, get_or-set_same, get_or-set_other, length-set}
use Rattle.std.proofs.lemmas.Bool.{cases_eq, cases_lt}
use Rattle.std.proofs.lemmas.List.{get_or_past}
use Rattle.line_memory.specs.View.{View, volatile_at, durable_at, IsPending, IsSound}
use Rattle.line_memory.specs.Crash.{AddsNothing}
use Rattle.line_memory.specs.Steps.{TakesBy, RefusesBy, after_draw, IsStore, IsWriteBack, IsFence}
use Rattle.line_memory.proofs.CallerLemmas.{store_leaves, write_back_adds, fence_adds, refused_adds, refused_stopped, contains_or_not, draw_adds}
use Rattle.heap_recover.specs.InPlace.{differences, steps_until, steps_between, HasReached, HoldsDurably, IsBetween, IsStoredTo, IsStoppedBetween, IsStoppedAt, Differ}
use Rattle.heap_recover.proofs.DifferenceLemmas.{lines_from, same_there}

-- lists with the same numbers at each index are one
same_lists : (xs ys : List ℕ) → length xs ≡ length ys → ((i : ℕ) → slice_index xs i ≡ slice_index ys i) → xs ≡ ys
same_lists [] [] long same = refl
same_lists [] (y ∷ ys) long same = absurd (omega arith)
same_lists (x ∷ xs) [] long same = absurd (omega arith)
same_lists (x ∷ xs) (y ∷ ys) long same = ap (λ h. h ∷ xs) (same 0) ∙ ap (λ t. y ∷ t) (same_lists xs ys (omega arith) (λ i. same (suc i)))

-- an image before its first word is stored
pub none_stored : (old new : List ℕ) (v : View) → HoldsDurably old v → IsStoredTo old new 0 0 v
none_stored old new v has = record {
  count = ap (λ (xs : List ℕ). length xs) has.volatile;
  stored = λ word below. absurd (omega arith);
  rest = λ word past. ap (λ (xs : List ℕ). slice_index xs word) has.volatile;
  durable = λ word. inl (ap (λ (xs : List ℕ). slice_index xs word) has.durable);
  kept = λ word past. ap (λ (xs : List ℕ). slice_index xs word) has.durable;
  settling = λ word below. absurd (omega arith);
}

module _ (old new : List ℕ) (settled done : ℕ) (v : View) (so_far : IsStoredTo old new settled done v) where
  -- the word is the same in both
  pub stored_same : slice_index old done ≡ slice_index new done → IsStoredTo old new settled (done + 1) v
  stored_same same = record {
    count = so_far.count;
    stored = λ word below. elim (cases_eq word done) as (λ _. volatile_at v word ≡ slice_index new word) [
      | inl at ↦ so_far.rest word (omega arith) ∙ subst (λ k. slice_index old k ≡ slice_index new k) (sym at) same
      | inr before ↦ so_far.stored word (omega arith)
    ];
    rest = λ word past. so_far.rest word (omega arith);
    durable = so_far.durable;
    kept = λ word past. so_far.kept word (omega arith);
    settling = so_far.settling;
  }

  -- what loads see of a word is one of the two
  pub seen_between : (word : ℕ) → (volatile_at v word ≡ slice_index old word) ⊎ (volatile_at v word ≡ slice_index new word)
  seen_between word = elim (cases_lt word done) as (λ _. (volatile_at v word ≡ slice_index old word) ⊎ (volatile_at v word ≡ slice_index new word)) [
    | inl below ↦ inr (so_far.stored word below)
    | inr past ↦ inl (so_far.rest word past)
  ]

  -- and so is each value that a step leaves of them
  left_between : (word x : ℕ) → (x ≡ durable_at v word) ⊎ (x ≡ volatile_at v word) → (x ≡ slice_index old word) ⊎ (x ≡ slice_index new word)
  left_between word x value = elim value as (λ _. (x ≡ slice_index old word) ⊎ (x ≡ slice_index new word)) [
    | inl e ↦ elim (so_far.durable word) as (λ _. (x ≡ slice_index old word) ⊎ (x ≡ slice_index new word)) [ inl o ↦ inl (e ∙ o) | inr n ↦ inr (e ∙ n) ]
    | inr e ↦ elim (seen_between word) as (λ _. (x ≡ slice_index old word) ⊎ (x ≡ slice_index new word)) [ inl o ↦ inl (e ∙ o) | inr n ↦ inr (e ∙ n) ]
  ]

  -- a settled word that was durable as loads see it stays so
  stays_new : (word x : ℕ) → settled ≤ done → word < settled → durable_at v word ≡ slice_index new word
      → (x ≡ durable_at v word) ⊎ (x ≡ volatile_at v word) → x ≡ slice_index new word
  stays_new word x low below is value = elim value as (λ _. x ≡ slice_index new word) [
    | inl e ↦ e ∙ is
    | inr e ↦ e ∙ so_far.stored word (omega arith)
  ]

  -- and one of a word that no store has come to is the old one
  stays_old : (word x : ℕ) → done ≤ word → (x ≡ durable_at v word) ⊎ (x ≡ volatile_at v word) → x ≡ slice_index old word
  stays_old word x past value = elim value as (λ _. x ≡ slice_index old word) [
    | inl e ↦ e ∙ so_far.kept word past
    | inr e ↦ e ∙ so_far.rest word past
  ]

  -- the next word is stored
  pub stored_more : {gives : ℕ → Type 0} (w : View) → settled ≤ done → done < length old
      → TakesBy gives (IsStore done (slice_index new done)) v w → IsStoredTo old new settled (done + 1) w
  stored_more w low within takes = record {
    count = ap (λ (xs : List ℕ). length xs) takes.done.volatile ∙ length-set v.volatile done (slice_index new done) ∙ so_far.count;
    stored = λ word below. elim (cases_eq word done) as (λ _. volatile_at w word ≡ slice_index new word) [
      | inl at ↦ subst (λ k. volatile_at w k ≡ slice_index new k) (sym at)
          (ap (λ (xs : List ℕ). slice_index xs done) takes.done.volatile
          ∙ get_or-set_same v.volatile done (slice_index new done) 0 (let c = so_far.count in omega arith))
      | inr before ↦ other word before ∙ so_far.stored word (omega arith)
    ];
    rest = λ word past. other word (omega arith) ∙ so_far.rest word (omega arith);
    durable = λ word. left_between word (durable_at w word) (leaves word);
    kept = λ word past. stays_old word (durable_at w word) (omega arith) (leaves word);
    settling = λ word below. elim (so_far.settling word below) as (λ _. (durable_at w word ≡ slice_index new word) ⊎ IsPending w word) [
      | inl is ↦ inl (stays_new word (durable_at w word) low below is (leaves word))
      | inr waits ↦ inr ((takes.done.pending word (omega arith)).1 waits)
    ];
  } where
    other : (word : ℕ) → word ≢ done → volatile_at w word ≡ volatile_at v word
    other word ne = ap (λ (xs : List ℕ). slice_index xs word) takes.done.volatile ∙ get_or-set_other v.volatile done word (slice_index new done) 0 ne

    leaves : (word : ℕ) → (durable_at w word ≡ durable_at v word) ⊎ (durable_at w word ≡ volatile_at v word)
    leaves = store_leaves _ done (slice_index new done) v w takes

  -- the line whose words are stored is written back
  pub line_written : {gives : ℕ → Type 0} (w : View) (line : ℕ) → settled ≡ 8 * line → done ≡ 8 * line + 8 → done ≤ length old
      → TakesBy gives (IsWriteBack line) v w
      → IsStoredTo old new done done w
  line_written w line from to within takes = record {
    count = ap (λ (xs : List ℕ). length xs) adds.volatile ∙ so_far.count;
    stored = λ word below. seen word ∙ so_far.stored word below;
    rest = λ word past. seen word ∙ so_far.rest word past;
    durable = λ word. left_between word (durable_at w word) (adds.durable word);
    kept = λ word past. stays_old word (durable_at w word) past (adds.durable word);
    settling = λ word below. elim (cases_lt word settled) as (λ _. (durable_at w word ≡ slice_index new word) ⊎ IsPending w word) [
      | inl before ↦ elim (so_far.settling word before) as (λ _. (durable_at w word ≡ slice_index new word) ⊎ IsPending w word) [
        | inl is ↦ inl (stays_new word (durable_at w word) (omega arith) before is (adds.durable word))
        | inr waits ↦ inr ((takes.done.pending word (omega arith)).1 waits)
      ]
      | inr there ↦ inr (takes.done.in_line word (let c = so_far.count in omega arith) (omega arith))
    ];
  } where
    adds : AddsNothing v w
    adds = write_back_adds _ line v w takes

    seen : (word : ℕ) → volatile_at w word ≡ volatile_at v word
    seen word = ap (λ (xs : List ℕ). slice_index xs word) adds.volatile

  -- no word of the line differs
  pub line_same : (Differ old new settled done → ⊥) → IsStoredTo old new done done v
  line_same none = record {
    count = so_far.count;
    stored = so_far.stored;
    rest = so_far.rest;
    durable = so_far.durable;
    kept = so_far.kept;
    settling = λ word below. elim (cases_lt word settled) as (λ _. (durable_at v word ≡ slice_index new word) ⊎ IsPending v word) [
      | inl before ↦ so_far.settling word before
      | inr there ↦
          let same = same_there (slice_index old) (slice_index new) settled done word no_more there below in
          elim (so_far.durable word) as (λ _. (durable_at v word ≡ slice_index new word) ⊎ IsPending v word) [ inl o ↦ inl (o ∙ same) | inr n ↦ inl n ]
    ];
  } where
    no_more : differences (slice_index old) (slice_index new) done ≤ differences (slice_index old) (slice_index new) settled
    no_more = elim (cases_lt (differences (slice_index old) (slice_index new) settled) (differences (slice_index old) (slice_index new) done)) as
        (λ _. differences (slice_index old) (slice_index new) done ≤ differences (slice_index old) (slice_index new) settled) [
          | inl more ↦ absurd (none more)
          | inr same ↦ same
        ]

  -- a step that stores nothing
  pub adds_between : (w : View) → AddsNothing v w → IsBetween old new w
  adds_between w adds = record {
    count = ap (λ (xs : List ℕ). length xs) adds.volatile ∙ so_far.count;
    volatile = λ word. subst (λ (xs : List ℕ). (slice_index xs word ≡ slice_index old word) ⊎ (slice_index xs word ≡ slice_index new word))
        (sym adds.volatile) (seen_between word);
    durable = λ word. left_between word (durable_at w word) (adds.durable word);
  }

  -- no word from there on is stored to by such a step
  pub adds_reached : (before : ℕ) (u w : View) → AddsNothing v w → IsSound v → v.budget ≡ u.budget → v.stopped ≡ u.stopped
      → u.drawn + steps_until (slice_index old) (slice_index new) done ≤ v.drawn + before → HasReached old new before u w
  adds_reached before u w adds sound same stays steps = record {
    at = done;
    stored = λ word below. ap (λ (xs : List ℕ). slice_index xs word) adds.volatile ∙ so_far.stored word below;
    rest = λ word past. ap (λ (xs : List ℕ). slice_index xs word) adds.volatile ∙ so_far.rest word past;
    rest_durable = λ word past. stays_old word (durable_at w word) past (adds.durable word);
    steps = λ going. let below = sound.running (stays ∙ going) in omega arith;
  }

  -- a fence, behind the last word: each is the new one
  pub fence_stores : {gives : ℕ → Type 0} (w : View) → settled ≡ length old → done ≡ length old → length new ≡ length old → IsSound w
      → TakesBy gives IsFence v w → HoldsDurably new w
  fence_stores w all end same sound takes = record {
    volatile = seen_new;
    durable = same_lists w.durable new (sound.lengths ∙ ap (λ (xs : List ℕ). length xs) seen_new) durable_new;
  } where
    adds : AddsNothing v w
    adds = fence_adds _ v w takes

    seen : (word : ℕ) → volatile_at v word ≡ slice_index new word
    seen word = elim (cases_lt word done) as (λ _. volatile_at v word ≡ slice_index new word) [
      | inl below ↦ so_far.stored word below
      | inr past ↦ get_or_past v.volatile word 0 (let c = so_far.count in omega arith) ∙ sym (get_or_past new word 0 (omega arith))
    ]

    seen_new : w.volatile ≡ new
    seen_new = adds.volatile ∙ same_lists v.volatile new (so_far.count ∙ sym same) seen

    durable_new : (word : ℕ) → durable_at w word ≡ slice_index new word
    durable_new word = elim (cases_lt word settled) as (λ _. durable_at w word ≡ slice_index new word) [
      | inl below ↦ elim (contains_or_not v.pending word) as (λ _. durable_at w word ≡ slice_index new word) [
        | inl waits ↦ takes.done.durable word waits ∙ seen word
        | inr none ↦ takes.done.others word none ∙ draw_stays word below none
      ]
      | inr past ↦ get_or_past w.durable word 0 (let l = sound.lengths in let c = so_far.count in
          let a = ap (λ (xs : List ℕ). length xs) adds.volatile in omega arith)
          ∙ sym (get_or_past new word 0 (omega arith))
    ] where
      draw_stays : (word : ℕ) → word < settled → (IsPending v word → ⊥) → durable_at (after_draw takes.number v) word ≡ slice_index new word
      draw_stays word below none = elim (so_far.settling word below) as (λ _. durable_at (after_draw takes.number v) word ≡ slice_index new word) [
        | inl is ↦ stays_new word (durable_at (after_draw takes.number v) word) (omega arith) below is ((draw_adds takes.number v).durable word)
        | inr waits ↦ absurd (none waits)
      ]

  -- wherever that is so, each word is one of the two
  pub stored_between : IsBetween old new v
  stored_between = record { count = so_far.count; volatile = seen_between; durable = so_far.durable }

-- a refused call draws one ticket at most
pub refused_draws : {gives : ℕ → Type 0} (v w : View) (ticket : ℕ) → RefusesBy gives ticket v w → w.drawn ≤ v.drawn + 1
refused_draws v w ticket refuses = elim refuses as (λ _. w.drawn ≤ v.drawn + 1) [
  | inl had ↦ let same = ap (λ (u : View). u.drawn) had.unchanged in omega arith
  | inr stops ↦ let same = ap (λ (u : View). u.drawn) stops.done in omega arith
]

pub refused_budget : {gives : ℕ → Type 0} (v w : View) (ticket : ℕ) → RefusesBy gives ticket v w → w.budget ≡ v.budget
refused_budget v w ticket refuses = elim refuses as (λ _. w.budget ≡ v.budget) [
  | inl had ↦ ap (λ (u : View). u.budget) had.unchanged
  | inr stops ↦ ap (λ (u : View). u.budget) stops.done
]

-- where it stopped is told by what it drew
pub stopped_at : (old new : List ℕ) (most ticket : ℕ) (v w : View) → IsSound w → IsStoppedBetween old new 0 most ticket v w
    → IsStoppedAt old new most ticket v w
stopped_at old new most ticket v w sound cut = record {
  stopped = cut.stopped;
  above = let above = sound.stopping ticket cut.stopped in let same = cut.budget in omega arith;
  few = let last = sound.last_ticket ticket cut.stopped in let few = cut.drawn in omega arith;
  reached = cut.reached;
}

-- a call is refused after few tickets
pub refused_cut : {gives : ℕ → Type 0} (old new : List ℕ) (settled done before most : ℕ) (v u w : View) (ticket : ℕ)
    → IsStoredTo old new settled done u → RefusesBy gives ticket u w
    → u.budget ≡ v.budget → u.stopped ≡ v.stopped → IsSound u → u.drawn + 1 ≤ v.drawn + most
    → v.drawn + steps_until (slice_index old) (slice_index new) done ≤ u.drawn + before → IsStoppedBetween old new before most ticket v w
refused_cut old new settled done before most v u w ticket so_far refuses same stays sound few steps = record {
  stopped = refused_stopped _ ticket u w refuses;
  between = adds_between old new settled done u so_far w (refused_adds _ ticket u w refuses);
  budget = refused_budget u w ticket refuses ∙ same;
  drawn = let one = refused_draws u w ticket refuses in omega arith;
  reached = adds_reached old new settled done u so_far before v w (refused_adds _ ticket u w refuses) sound same stays steps;
}

-- the fence behind all stores is refused
pub fence_cut : {gives : ℕ → Type 0} (old new : List ℕ) (ticket : ℕ) (v u w : View) → IsStoredTo old new (length old) (length old) u
    → RefusesBy gives ticket u w → u.budget ≡ v.budget → u.stopped ≡ v.stopped
    → IsSound u → IsSound w → u.drawn + 1 ≡ v.drawn + steps_between (slice_index old) (slice_index new) (length old)
    → IsStoppedAt old new (steps_between (slice_index old) (slice_index new) (length old)) ticket v w
fence_cut old new ticket v u w so_far refuses same stays sound sound_then all =
    let lines = lines_from (slice_index old) (slice_index new) ((length old - 1) / 8) (length old / 8) (omega arith) in
    stopped_at old new (steps_between (slice_index old) (slice_index new) (length old)) ticket v w sound_then
    (refused_cut old new (length old) (length old) 0 (steps_between (slice_index old) (slice_index new) (length old))
    v u w ticket so_far refuses same stays sound (omega arith) (omega arith))

-- a store and a write-back draw one ticket each
pub store_draws : {gives : ℕ → Type 0} (word value : ℕ) (v w : View) → TakesBy gives (IsStore word value) v w → w.drawn ≡ v.drawn + 1
store_draws word value v w takes = takes.done.tickets.drawn

pub store_budget : {gives : ℕ → Type 0} (word value : ℕ) (v w : View) → TakesBy gives (IsStore word value) v w → w.budget ≡ v.budget
store_budget word value v w takes = takes.done.tickets.budget

pub store_going : {gives : ℕ → Type 0} (word value : ℕ) (v w : View) → TakesBy gives (IsStore word value) v w → w.stopped ≡ v.stopped
store_going word value v w takes = takes.done.tickets.stopped

pub write_back_going : {gives : ℕ → Type 0} (line : ℕ) (v w : View) → TakesBy gives (IsWriteBack line) v w → w.stopped ≡ v.stopped
write_back_going line v w takes = takes.done.tickets.stopped

pub write_back_budget : {gives : ℕ → Type 0} (line : ℕ) (v w : View) → TakesBy gives (IsWriteBack line) v w → w.budget ≡ v.budget
write_back_budget line v w takes = takes.done.tickets.budget

pub write_back_draws : {gives : ℕ → Type 0} (line : ℕ) (v w : View) → TakesBy gives (IsWriteBack line) v w → w.drawn ≡ v.drawn + 1
write_back_draws line v w takes = takes.done.tickets.drawn

-- a fence draws one ticket too, below the budget
fence_draws : {gives : ℕ → Type 0} (v w : View) → TakesBy gives IsFence v w → w.drawn ≡ v.drawn + 1
fence_draws v w takes = takes.done.tickets.drawn

pub fence_drew : {gives : ℕ → Type 0} (steps : ℕ) (v u w : View) → u.drawn + 1 ≡ v.drawn + steps → TakesBy gives IsFence u w → w.drawn ≡ v.drawn + steps
fence_drew steps v u w before takes = fence_draws u w takes ∙ before

pub fence_within : {gives : ℕ → Type 0} (v u w : View) → u.budget ≡ v.budget → TakesBy gives IsFence u w → w.drawn ≤ v.budget
fence_within v u w same takes = let draws = fence_draws u w takes in let allowed = takes.allowed in omega arith

-- where a step behind another cuts off, so many tickets were drawn in all
pub cut_later : (old new : List ℕ) (before then few most ticket : ℕ) (v u w : View) → IsStoppedBetween old new then few ticket u w
    → u.budget ≡ v.budget → u.stopped ≡ v.stopped
    → u.drawn + few ≤ v.drawn + most
    → v.drawn + then ≤ u.drawn + before → IsStoppedBetween old new before most ticket v w
cut_later old new before then few most ticket v u w cut same stays less steps = record {
  stopped = cut.stopped;
  between = cut.between;
  budget = cut.budget ∙ same;
  drawn = let d = cut.drawn in omega arith;
  reached = record {
    at = cut.reached.at;
    stored = cut.reached.stored;
    rest = cut.reached.rest;
    rest_durable = cut.reached.rest_durable;
    steps = λ going. let below = cut.reached.steps (stays ∙ going) in omega arith;
  };
}
