-- What steps on the words of an open heap do, and what a row of steps leaves alone.
use Rattle.std.specs.Prelude.{◌≡◌, ◌≢◌, ℕ, ◌+◌, ◌<◌, ◌≤◌, ◌⊎◌, None, Some, slice_set}
use Rattle.line_memory.specs.View.{View, word_count, volatile_at, durable_at, IsPending, line_of}
use Rattle.line_memory.specs.Crash.{IsValueOf}

-- a word that is pending still is, or a fence came in between
abbrev pub StaysPending : View → View → ℕ → Type 0
StaysPending v w word = IsPending v word → IsPending w word ⊎ (durable_at w word ≡ volatile_at w word)

-- no word but such a one is stored to
pub record StoresOnly (to : ℕ → Type 0) (v w : View) : Type 0 where
  pub words : word_count w ≡ word_count v
  pub budget : w.budget ≡ v.budget
  pub drawn : v.drawn ≤ w.drawn
  pub volatile : (word : ℕ) → (to word → ⊥) → volatile_at w word ≡ volatile_at v word
  pub durable : (word : ℕ) → (to word → ⊥) → IsValueOf v word (durable_at w word)
  pub pending : (word : ℕ) → (to word → ⊥) → StaysPending v w word

-- one step, which stored nothing
abbrev pub LooksOnce : View → View → Type 0
LooksOnce v w = StoresOnly (λ _. ⊥) v w × (w.drawn ≡ v.drawn + 1)

-- the steps were done: they drew at least one ticket and at most so many, all below the budget
pub record RunsWithin (most : ℕ) (v w : View) : Type 0 where
  pub running : w.stopped ≡ None
  pub drew : v.drawn < w.drawn
  pub few : w.drawn ≤ v.drawn + most
  pub below : w.drawn ≤ w.budget

-- the steps stopped at this ticket, which they drew
pub record StopsWithin (ticket most : ℕ) (v w : View) : Type 0 where
  pub stopped : w.stopped ≡ Some ticket
  pub above : w.budget ≤ ticket
  pub from : v.drawn ≤ ticket
  pub until : ticket < w.drawn
  pub last : w.drawn ≡ ticket + 1
  pub few : w.drawn ≤ v.drawn + most

-- the value of the word was loaded, and nothing stored
pub record IsLoaded (word value : ℕ) (v w : View) : Type 0 where
  pub runs_within : RunsWithin 1 v w
  pub seen : value ≡ volatile_at v word
  pub volatile : w.volatile ≡ v.volatile
  pub pending : w.pending ≡ v.pending

-- the value was stored to the word, and to no other
pub record IsStored (word value : ℕ) (v w : View) : Type 0 where
  pub runs_within : RunsWithin 1 v w
  pub volatile : w.volatile ≡ slice_set v.volatile word value
  pub pending : (other : ℕ) → other ≢ word → IsPending v other → IsPending w other

-- the line of the word was written back: its words are pending
pub record IsWritten (word : ℕ) (v w : View) : Type 0 where
  pub runs_within : RunsWithin 1 v w
  pub volatile : w.volatile ≡ v.volatile
  pub line : (other : ℕ) → other < word_count v → line_of other ≡ line_of word → IsPending w other
  pub pending : (other : ℕ) → IsPending v other → IsPending w other

-- the fence was done: each word that was pending is durable
pub record IsFenced (v w : View) : Type 0 where
  pub runs_within : RunsWithin 1 v w
  pub volatile : w.volatile ≡ v.volatile
  pub durable : (word : ℕ) → IsPending v word → durable_at w word ≡ volatile_at w word

-- the value was stored to the word and is durable
pub record IsPersisted (word value : ℕ) (v w : View) : Type 0 where
  pub runs_within : RunsWithin 3 v w
  pub volatile : w.volatile ≡ slice_set v.volatile word value
  pub durable : durable_at w word ≡ value
