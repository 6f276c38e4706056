-- What a call does: it draws a ticket and a number by chance, and takes its step or is refused.
use Rattle.std.specs.Prelude.{◌≡◌, ◌≢◌, ℕ, ◌+◌, ◌/◌, ◌%◌, ◌<◌, ◌≤◌, ◌⊎◌, ◌↔◌, List, [], ◌∷◌, take, slice_get, slice_set, slice_index, Option, None, Some, ◌==◌, if◌then◌else◌, ⊤}
use Rattle.std.specs.Option.{option_map_or}
use Rattle.line_memory.specs.View.{View, word_count, volatile_at, durable_at, IsPending, line_of}

-- the word that a draw of r writes back early: for odd r the recent store numbered (r / 2) % 16
abbrev pub early_word : ℕ → List ℕ → Option ℕ
early_word r recent = if r % 2 == 1 then slice_get recent (r / 2 % 16) else None

-- the durable words once the word is written back
abbrev pub written_back : List ℕ → List ℕ → ℕ → List ℕ
written_back volatile durable word = slice_set durable word (slice_index volatile word)

-- the durable words after a draw of r
abbrev pub durable_after : ℕ → List ℕ → List ℕ → List ℕ → List ℕ
durable_after r recent volatile durable =
    option_map_or (written_back volatile durable) (early_word r recent) durable

-- the view after a draw of r: one ticket more, and at most one word written back early
abbrev pub after_draw : ℕ → View → View
after_draw r v =
    record v { durable = durable_after r v.recent v.volatile v.durable; drawn = v.drawn + 1 }

-- the ticket allows the step, which follows a draw of some number that chance gives
pub record TakesBy (gives : ℕ → Type 0) (step : View → View → Type 0) (v w : View) : Type 0 where
  pub running : v.stopped ≡ None
  pub allowed : v.drawn < v.budget
  pub number : ℕ
  pub given : gives number
  pub done : step (after_draw number v) w

-- the same, whatever chance gives
abbrev pub Takes : (View → View → Type 0) → View → View → Type 0
Takes step v w = TakesBy (λ _. ⊤) step v w

-- a memory that stops at the ticket
abbrev pub stopped_at : ℕ → View → View
stopped_at ticket v = record v { stopped = Some ticket }

-- it had stopped: the same ticket again, and nothing changes
pub record HadStopped (ticket : ℕ) (v w : View) : Type 0 where
  pub stopped : v.stopped ≡ Some ticket
  pub unchanged : w ≡ v

-- the ticket drawn is refused: it stops, and nothing but the draw is done
pub record StopsBy (gives : ℕ → Type 0) (ticket : ℕ) (v w : View) : Type 0 where
  pub running : v.stopped ≡ None
  pub above : v.budget ≤ v.drawn
  pub is_ticket : ticket ≡ v.drawn
  pub number : ℕ
  pub given : gives number
  pub done : w ≡ stopped_at ticket (after_draw number v)

-- a call that answers the ticket in place of its step
abbrev pub RefusesBy : (ℕ → Type 0) → ℕ → View → View → Type 0
RefusesBy gives ticket v w = HadStopped ticket v w ⊎ StopsBy gives ticket v w

-- the same, whatever chance gives
abbrev pub Refuses : ℕ → View → View → Type 0
Refuses ticket v w = RefusesBy (λ _. ⊤) ticket v w

-- tickets and stop stay
pub record SameTickets (v w : View) : Type 0 where
  pub drawn : w.drawn ≡ v.drawn
  pub budget : w.budget ≡ v.budget
  pub stopped : w.stopped ≡ v.stopped

-- a load gives what loads see, and changes nothing
pub record IsLoad (word value : ℕ) (v w : View) : Type 0 where
  pub seen : value ≡ volatile_at v word
  pub unchanged : w ≡ v

-- a store changes what loads see of its word alone, and that word is pending no more
pub record IsStore (word value : ℕ) (v w : View) : Type 0 where
  pub volatile : w.volatile ≡ slice_set v.volatile word value
  pub durable : w.durable ≡ v.durable
  pub not_pending : ¬ IsPending w word
  pub pending : (other : ℕ) → other ≢ word → (IsPending w other ↔ IsPending v other)
  pub recent : w.recent ≡ take 16 (word ∷ v.recent)
  pub tickets : SameTickets v w

-- a write-back makes each word of its line pending, and no other
pub record IsWriteBack (line : ℕ) (v w : View) : Type 0 where
  pub volatile : w.volatile ≡ v.volatile
  pub durable : w.durable ≡ v.durable
  pub in_line : (word : ℕ) → word < word_count v → line_of word ≡ line → IsPending w word
  pub pending : (other : ℕ) → line_of other ≢ line → (IsPending w other ↔ IsPending v other)
  pub recent : w.recent ≡ v.recent
  pub tickets : SameTickets v w

-- a fence makes the pending words durable at what loads see, and no other word
pub record IsFence (v w : View) : Type 0 where
  pub volatile : w.volatile ≡ v.volatile
  pub durable : (word : ℕ) → IsPending v word → durable_at w word ≡ volatile_at v word
  pub others : (word : ℕ) → ¬ IsPending v word → durable_at w word ≡ durable_at v word
  pub pending : w.pending ≡ []
  pub recent : w.recent ≡ v.recent
  pub tickets : SameTickets v w
