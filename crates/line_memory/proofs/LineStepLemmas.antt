-- A step that follows a ticket, and what marks say of pending words.
use Rattle.std.proofs.Common.{◌≡◌, ◌≢◌, ℕ, ◌<◌, Bool, true, false, List, [], ◌∷◌, length, get_or, set, take, replicate, refl, ap, subst, arith, Contains, cond, suc, zero, None, inl, inr, get_or-set_same, get_or-set_other, length-set}
use Rattle.std.proofs.lemmas.Bool.{cases_Bool}
use Rattle.std.proofs.lemmas.Grind.{elements}
use Rattle.line_memory.specs.View.{View, opened}
use Rattle.line_memory.specs.Marks.{marked_words, completed_at}
use Rattle.line_memory.specs.Marked.{marked_words-has, marked_words-only, marked_words-none}
use Rattle.line_memory.specs.Steps.{TakesBy}

-- what is done once the ticket is drawn
pub takes_after : (gives : ℕ → Type 0) (step : View → View → Type 0) (v u w : View) → TakesBy gives (λ a b. b ≡ a) v u → step u w
    → TakesBy gives step v w
takes_after gives step v u w d s =
    record {
      running = d.running;
      allowed = d.allowed;
      number = d.number;
      given = d.given;
      done = subst (λ (x : View). step x w) d.done s;
    }

-- no mark is set at first
pub unmarked : (n k : ℕ) → get_or (replicate n false) k false ≡ false
unmarked zero k = refl
unmarked (suc n) zero = refl
unmarked (suc n) (suc k) = unmarked n k

-- a memory as it is opened
pub opened_is : (words durable : List ℕ) (marks : List Bool) (recent : List ℕ) (limit n : ℕ) → durable ≡ words → marks ≡ replicate n false
    → recent ≡ [] → ◌≡◌ {A = View} (record {
      volatile = words;
      durable = durable;
      pending = marked_words marks;
      recent = recent;
      drawn = 0;
      budget = limit;
      stopped = None;
    }) (opened words limit)
opened_is words durable marks recent limit n d m r =
    let none : marked_words marks ≡ [] = rw m (marked_words-none (replicate n false) (unmarked n)) in
    rw (d, none, r) refl

-- a word whose mark is taken back is not pending
pub not_pending : (marks new : List Bool) (word : ℕ) → word < length marks → new ≡ set marks word false → Contains (marked_words new) word → ⊥
not_pending marks new word l e h =
    let on : get_or new word false ≡ true = marked_words-only new word h in
    let off : get_or new word false ≡ false = rw e (get_or-set_same marks word false false l) in
    absurd (cc)

-- the other marks stay
pub other_mark : (marks new : List Bool) (word other : ℕ) → new ≡ set marks word false → other ≢ word
    → get_or new other false ≡ get_or marks other false
other_mark marks new word other e ne = rw e (get_or-set_other marks word other false false ne)

-- what holds of each number of a list holds of its first ones
each_first : (n : ℕ) (xs : List ℕ) (bound : ℕ) → ((k : ℕ) → k < length xs → get_or xs k 0 < bound) → (k : ℕ) → k < length (take n xs)
    → get_or (take n xs) k 0 < bound
each_first n xs bound each k lt = grind (arith, elements)

-- the latest store's word is like those before
each_later : (word : ℕ) (recent : List ℕ) (bound : ℕ) → ((k : ℕ) → k < length recent → get_or recent k 0 < bound) → word < bound → (k : ℕ)
    → k < length (word ∷ recent) → get_or (word ∷ recent) k 0 < bound
each_later word recent bound each l zero lt = l
each_later word recent bound each l (suc k) lt = each k (omega arith)

-- the words of the last stores lie in the memory
pub recent_pushed : (recent new : List ℕ) (word bound after : ℕ) → ((k : ℕ) → k < length recent → get_or recent k 0 < bound) → word < bound
    → new ≡ take 16 (word ∷ recent) → after ≡ bound → (k : ℕ) → k < length new → get_or new k 0 < after
recent_pushed recent new word bound after each l e a =
    rw (e, a) (each_first 16 (word ∷ recent) bound (each_later word recent bound each l))

-- a word written and a mark taken back leave the lengths
pub lengths_stay : (marks new : List Bool) (words : List ℕ) (word value : ℕ) → length marks ≡ length words → new ≡ set marks word false
    → length new ≡ length (set words word value)
lengths_stay marks new words word value l e = rw e (omega (arith, length-set {A = Bool}, length-set {A = ℕ}))

-- a pending word is completed
pub completed_pending : (marks : List Bool) (volatile durable : List ℕ) (word : ℕ) → Contains (marked_words marks) word
    → completed_at marks volatile durable word ≡ get_or volatile word 0
completed_pending marks volatile durable word h =
    ap (λ (b : Bool). cond b (get_or volatile word 0) (get_or durable word 0)) (marked_words-only marks word h)

-- and no other
pub completed_other : (marks : List Bool) (volatile durable : List ℕ) (word : ℕ) → (Contains (marked_words marks) word → ⊥)
    → completed_at marks volatile durable word ≡ get_or durable word 0
completed_other marks volatile durable word no_mark =
    elim (cases_Bool (get_or marks word false)) [
      | inl m ↦ absurd (no_mark (marked_words-has marks word m))
      | inr e ↦ ap (λ (b : Bool). cond b (get_or volatile word 0) (get_or durable word 0)) e
    ]
