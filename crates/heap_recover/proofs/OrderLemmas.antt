-- Steps taken in their order: one row behind another, and which steps are the first of which.
use Rattle.std.proofs.Common.{◌≡◌, ◌≢◌, ℕ, zero, suc, ◌+◌, ◌-◌, ◌*◌, ◌≤◌, ◌<◌, inl, inr, List, [], ◌∷◌, ◌++◌, refl, sym, ap, subst, ◌∙◌, arith, cond, eq-eqb, ne_eqb, length, slice_index, length-append}
use Rattle.std.proofs.lemmas.Bool.{cases_eq, cases_lt}
use Rattle.heap_model.specs.Image.{Image}
use Rattle.line_memory.specs.View.{View}
use Rattle.line_memory.specs.Steps.{TakesBy, RefusesBy, IsStore, IsWriteBack, IsFence}
use Rattle.heap_recover.specs.InPlace.{differences, Differ}
use Rattle.heap_recover.proofs.DifferenceLemmas.{differ_more, differ_same}
use Rattle.heap_recover.specs.InOrder.{Step, store, write_back, does, store_of, stores_from, written_back, steps_in, TakesAll, IsDoneBy, IsCutOffIn}

append_assoc : (xs ys zs : List Step) → (xs ++ ys) ++ zs ≡ xs ++ (ys ++ zs)
append_assoc [] ys zs = refl
append_assoc (x ∷ xs) ys zs = ap (λ (l : List Step). x ∷ l) (append_assoc xs ys zs)

append_none : (xs : List Step) → xs ++ [] ≡ xs
append_none [] = refl
append_none (x ∷ xs) = ap (λ (l : List Step). x ∷ l) (append_none xs)

-- these are the first of those
abbrev pub AreFirst : List Step → List Step → Type 0
AreFirst xs ys = (others : List Step) × (xs ++ others ≡ ys)

pub first_all : (xs : List Step) → AreFirst xs xs
first_all xs = ([], append_none xs)

first_then : (xs ys zs : List Step) → AreFirst xs ys → AreFirst ys zs → AreFirst xs zs
first_then xs ys zs f g = (f.0 ++ g.0, sym (append_assoc xs f.0 g.0) ∙ ap (λ (l : List Step). l ++ g.0) f.1 ∙ g.1)

first_behind : (before xs ys : List Step) → AreFirst xs ys → AreFirst (before ++ xs) (before ++ ys)
first_behind before xs ys f = (f.0, append_assoc before xs f.0 ∙ ap (λ (l : List Step). before ++ l) f.1)

first_written : (line : ℕ) (xs : List Step) → AreFirst xs (written_back line xs)
first_written line [] = ([], refl)
first_written line (x ∷ xs) = (write_back line ∷ [], refl)

first_stores : (old new : Image) (first k more : ℕ) → AreFirst (stores_from old new first k) (stores_from old new first (k + more))
first_stores old new first k zero = subst (λ n. AreFirst (stores_from old new first k) (stores_from old new first n)) {x = k} {y = k + zero}
    (omega arith) (first_all _)
first_stores old new first k (suc more) =
    subst (λ n. AreFirst (stores_from old new first k) (stores_from old new first n)) {x = suc (k + more)} {y = k + suc more} (omega arith)
    (first_then _ _ _ (first_stores old new first k more) (store_of old new (first + (k + more)), refl))

first_lines : (old new : Image) (line more : ℕ) → AreFirst (steps_in old new line) (steps_in old new (line + more))
first_lines old new line zero = subst (λ n. AreFirst (steps_in old new line) (steps_in old new n)) {x = line} {y = line + zero} (omega arith)
    (first_all _)
first_lines old new line (suc more) =
    subst (λ n. AreFirst (steps_in old new line) (steps_in old new n)) {x = suc (line + more)} {y = line + suc more} (omega arith)
    (first_then _ _ _ (first_lines old new line more) (written_back (line + more) (stores_from old new (8 * (line + more)) 8), refl))

-- the first stores of a line, behind the steps of those before it
first_of_line : (old new : Image) (line lines : ℕ) (taken : List Step) → line < lines → AreFirst taken (stores_from old new (8 * line) 8)
    → AreFirst (steps_in old new line ++ taken) (steps_in old new lines)
first_of_line old new line lines taken below first =
    first_then _ _ _
    (first_behind (steps_in old new line) _ _ (first_then _ _ _ first (first_written line (stores_from old new (8 * line) 8))))
    (subst (λ n. AreFirst (steps_in old new (suc line)) (steps_in old new n)) {x = suc line + (lines - suc line)} {y = lines} (omega arith)
    (first_lines old new (suc line) (lines - suc line)))

-- a store for each word that differs
stores_long : (old new : Image) (first n : ℕ) → length (stores_from old new first n) + differences old new first ≡ differences old new (first + n)
stores_long old new first zero = let same = ap (differences old new) {x = first} {y = first + zero} (omega arith) in omega arith
stores_long old new first (suc n) =
    let so_far = stores_long old new first n in
    let next = ap (differences old new) {x = first + n + 1} {y = first + suc n} (omega arith) in
    let long = length-append (stores_from old new first n) (store_of old new (first + n)) in
    elim (cases_eq (old (first + n)) (new (first + n))) as (λ _. length
    (stores_from old new first (suc n)) + differences old new first ≡ differences old new (first + suc n)) [
      | inl same ↦
          let none = ap (λ t. length (cond t [] (store (first + n) (new (first + n)) ∷ []))) (eq-eqb (old (first + n)) (new (first + n)) same) in
          let stays = differ_same old new (first + n) same in omega arith
      | inr other ↦
          let one = ap (λ t. length (cond t [] (store (first + n) (new (first + n)) ∷ []))) (ne_eqb (old (first + n)) (new (first + n)) other) in
          let more = differ_more old new (first + n) other in omega arith
    ]

no_steps : (steps : List Step) → length steps ≡ 0 → steps ≡ []
no_steps [] none = refl
no_steps (x ∷ xs) none = absurd (omega arith)

written_some : (line : ℕ) (steps : List Step) → 0 < length steps → written_back line steps ≡ steps ++ (write_back line ∷ [])
written_some line [] some = absurd (omega arith)
written_some line (x ∷ xs) some = refl

-- a line in which a word differs is written back behind its stores
line_with : (old new : List ℕ) (line : ℕ) → Differ old new (8 * line) (8 * line + 8)
    → written_back line (stores_from (slice_index old) (slice_index new) (8 * line) 8) ≡ stores_from (slice_index old) (slice_index new)
    (8 * line) 8 ++ (write_back line ∷ [])
line_with old new line differ = let long = stores_long (slice_index old) (slice_index new) (8 * line) 8 in written_some line _ (omega arith)

-- and of another one there is no step
line_without : (old new : List ℕ) (line : ℕ) → (Differ old new (8 * line) (8 * line + 8) → ⊥)
    → written_back line (stores_from (slice_index old) (slice_index new) (8 * line) 8) ≡ stores_from (slice_index old) (slice_index new) (8 * line) 8
line_without old new line none =
    ap (written_back line) empty ∙ sym empty
  where
    few : differences (slice_index old) (slice_index new) (8 * line + 8) ≤ differences (slice_index old) (slice_index new) (8 * line)
    few = elim (cases_lt (differences (slice_index old) (slice_index new) (8 * line))
        (differences (slice_index old) (slice_index new) (8 * line + 8))) as
        (λ _. differences (slice_index old) (slice_index new) (8 * line + 8) ≤ differences (slice_index old) (slice_index new) (8 * line)) [
          | inl more ↦ absurd (none more)
          | inr no_more ↦ no_more
        ]

    empty : stores_from (slice_index old) (slice_index new) (8 * line) 8 ≡ []
    empty = let long = stores_long (slice_index old) (slice_index new) (8 * line) 8 in no_steps _ (omega arith)

module _ {M : Type 0} (view : M → View) (draws : M → M → ℕ → Type 0) where
  -- one row behind another
  pub takes_then : (xs ys : List Step) (from m to : M) → TakesAll view draws from xs m → TakesAll view draws m ys to
      → TakesAll view draws from (xs ++ ys) to
  takes_then [] ys from m to before after = subst (λ (n : M). TakesAll view draws n ys to) before after
  takes_then (x ∷ xs) ys from m to before after = (before.0, before.1, takes_then xs ys before.0 m to before.2 after)

  pub takes_one : (step : Step) (from to : M) → TakesBy (draws from to) (does step) (view from) (view to) → TakesAll view draws from (step ∷ []) to
  takes_one step from to takes = (to, takes, refl)

  -- the word differs, and is stored to
  pub stored_one : (old new : Image) (word : ℕ) (from to : M) → old word ≢ new word
      → TakesBy (draws from to) (IsStore word (new word)) (view from) (view to)
      → TakesAll view draws from (store_of old new word) to
  stored_one old new word from to other takes =
      subst (λ t. TakesAll view draws from (cond t [] (store word (new word) ∷ [])) to) (sym (ne_eqb (old word) (new word) other))
      (takes_one (store word (new word)) from to takes)

  -- or it doesn't, and is left alone
  pub stored_none : (old new : Image) (word : ℕ) (from to : M) → old word ≡ new word → to ≡ from → TakesAll view draws from (store_of old new word) to
  stored_none old new word from to same stays =
      subst (λ t. TakesAll view draws from (cond t [] (store word (new word) ∷ [])) to) (sym (eq-eqb (old word) (new word) same)) stays

  -- the next word of a line
  pub stored_next : (old new : Image) (first word : ℕ) (from m to : M) → first ≤ word
      → TakesAll view draws from (stores_from old new first (word - first)) m
      → TakesAll view draws m (store_of old new word) to → TakesAll view draws from (stores_from old new first (word + 1 - first)) to
  stored_next old new first word from m to low before after =
      subst (λ n. TakesAll view draws from (stores_from old new first n) to) {x = suc (word - first)} {y = word + 1 - first} (omega arith)
      (takes_then (stores_from old new first (word - first)) (store_of old new (first + (word - first))) from m to before
      (subst (λ w. TakesAll view draws m (store_of old new w) to) {x = word} {y = first + (word - first)} (omega arith) after))

  -- a store of a line is refused
  pub store_cut : (old new : Image) (first word ticket : ℕ) (from last to : M) → first ≤ word → word < first + 8
      → TakesAll view draws from (stores_from old new first (word - first)) last → RefusesBy (draws last to) ticket (view last) (view to)
      → IsCutOffIn view draws (stores_from old new first 8) ticket from to
  store_cut old new first word ticket from last to low below took refused = record {
    taken = stores_from old new first (word - first);
    others = f.0;
    are_first = f.1;
    last = last;
    took = took;
    refused = refused;
  } where
    f : AreFirst (stores_from old new first (word - first)) (stores_from old new first 8)
    f = subst (λ n. AreFirst (stores_from old new first (word - first)) (stores_from old new first n)) {x =
        (word - first) + (8 - (word - first))} {y = 8} (omega arith)
        (first_stores old new first (word - first) (8 - (word - first)))

  -- a line more, with its write-back
  pub line_next : (old new : List ℕ) (line : ℕ) (from m n to : M) → Differ old new (8 * line) (8 * line + 8)
      → TakesAll view draws from (steps_in (slice_index old) (slice_index new) line) m
      → TakesAll view draws m (stores_from (slice_index old) (slice_index new) (8 * line) 8) n
      → TakesBy (draws n to) (IsWriteBack line) (view n) (view to) → TakesAll view draws from
      (steps_in (slice_index old) (slice_index new) (line + 1)) to
  line_next old new line from m n to differ before stores written =
      subst (λ k. TakesAll view draws from (steps_in (slice_index old) (slice_index new) k) to) {x = suc line} {y = line + 1} (omega arith)
      (takes_then (steps_in (slice_index old) (slice_index new) line) _ from m to before
      (subst (λ (xs : List Step). TakesAll view draws m xs to) (sym (line_with old new line differ))
      (takes_then (stores_from (slice_index old) (slice_index new) (8 * line) 8) (write_back line ∷ []) m n to stores
      (takes_one (write_back line) n to written))))

  -- or without one
  pub line_skipped : (old new : List ℕ) (line : ℕ) (from m to : M) → (Differ old new (8 * line) (8 * line + 8) → ⊥)
      → TakesAll view draws from (steps_in (slice_index old) (slice_index new) line) m
      → TakesAll view draws m (stores_from (slice_index old) (slice_index new) (8 * line) 8) to
      → TakesAll view draws from (steps_in (slice_index old) (slice_index new) (line + 1)) to
  line_skipped old new line from m to none before stores =
      subst (λ k. TakesAll view draws from (steps_in (slice_index old) (slice_index new) k) to) {x = suc line} {y = line + 1} (omega arith)
      (takes_then (steps_in (slice_index old) (slice_index new) line) _ from m to before
      (subst (λ (xs : List Step). TakesAll view draws m xs to) (sym (line_without old new line none)) stores))

  -- a store of a line is refused, behind the lines before it
  pub line_cut : (old new : Image) (line lines ticket : ℕ) (from m to : M) → line < lines → TakesAll view draws from (steps_in old new line) m
      → IsCutOffIn view draws (stores_from old new (8 * line) 8) ticket m to → IsCutOffIn view draws (steps_in old new lines) ticket from to
  line_cut old new line lines ticket from m to below before cut = record {
    taken = steps_in old new line ++ cut.taken;
    others = f.0;
    are_first = f.1;
    last = cut.last;
    took = takes_then (steps_in old new line) cut.taken from m cut.last before cut.took;
    refused = cut.refused;
  } where
    f : AreFirst (steps_in old new line ++ cut.taken) (steps_in old new lines)
    f = first_of_line old new line lines cut.taken below (cut.others, cut.are_first)

  -- and so is its write-back
  pub write_back_cut : (old new : Image) (line lines ticket : ℕ) (from m last to : M) → line < lines
      → TakesAll view draws from (steps_in old new line) m
      → TakesAll view draws m (stores_from old new (8 * line) 8) last → RefusesBy (draws last to) ticket (view last) (view to)
      → IsCutOffIn view draws (steps_in old new lines) ticket from to
  write_back_cut old new line lines ticket from m last to below before stores refused =
      line_cut old new line lines ticket from m to below before
      (record { taken = stores_from old new (8 * line) 8; others = []; are_first = append_none _; last = last; took = stores; refused = refused })

  -- the fence is taken behind all steps
  pub fence_behind : (steps : List Step) (from last to : M) → TakesAll view draws from steps last
      → TakesBy (draws last to) IsFence (view last) (view to)
      → IsDoneBy view draws steps from to
  fence_behind steps from last to took fenced = record { last = last; took = took; fenced = fenced }

  -- or refused
  pub fence_refused : (steps : List Step) (ticket : ℕ) (from last to : M) → TakesAll view draws from steps last
      → RefusesBy (draws last to) ticket (view last) (view to)
      → IsCutOffIn view draws steps ticket from to
  fence_refused steps ticket from last to took refused =
      record { taken = steps; others = []; are_first = append_none steps; last = last; took = took; refused = refused }
