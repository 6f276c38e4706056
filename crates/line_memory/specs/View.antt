-- What contracts see of a memory: two values of each word, and what is still open.
use Rattle.std.specs.Prelude.{◌≡◌, ℕ, ◌+◌, ◌*◌, ◌/◌, ◌<◌, ◌≤◌, List, [], length, slice_index, Contains, None, Some, Option}

-- a memory, as its caller sees it
pub record View : Type 0 where
  -- what loads see, one value a word
  pub volatile : List ℕ
  -- what a crash leaves, one value a word
  pub durable : List ℕ
  -- pending write-backs: the words whose volatile value the next fence makes durable
  pub pending : List ℕ
  -- the words of the last sixteen stores, the latest first
  pub recent : List ℕ
  -- how many tickets were drawn: also the next ticket
  pub drawn : ℕ
  -- the first ticket that allows no step
  pub budget : ℕ
  -- the ticket at which it stopped
  pub stopped : Option ℕ

-- how many words it has
abbrev pub word_count : View → ℕ
word_count v = length v.volatile

-- what a load of the word sees
abbrev pub volatile_at : View → ℕ → ℕ
volatile_at v word = slice_index v.volatile word

-- what a crash leaves of the word
abbrev pub durable_at : View → ℕ → ℕ
durable_at v word = slice_index v.durable word

-- the next fence makes the word's volatile value durable
abbrev pub IsPending : View → ℕ → Type 0
IsPending v word = Contains v.pending word

-- the 64-byte line of a word of 8 bytes
abbrev pub line_of : ℕ → ℕ
line_of word = word / 8

-- the line has a word in the memory
abbrev pub HasLine : View → ℕ → Type 0
HasLine v line = 8 * line < word_count v

-- each number of the list is below the bound
abbrev pub AllBelow : List ℕ → ℕ → Type 0
AllBelow xs bound = (k : ℕ) → k < length xs → slice_index xs k < bound

-- what is so of every memory at every moment
pub record IsSound (v : View) : Type 0 where
  pub lengths : length v.durable ≡ length v.volatile
  pub pending_within : (word : ℕ) → IsPending v word → word < word_count v
  pub recent_within : AllBelow v.recent (word_count v)
  pub recent_few : length v.recent ≤ 16
  pub running : v.stopped ≡ None → v.drawn ≤ v.budget
  pub stopping : (ticket : ℕ) → v.stopped ≡ Some ticket → v.budget ≤ ticket
  pub last_ticket : (ticket : ℕ) → v.stopped ≡ Some ticket → v.drawn ≡ ticket + 1

-- a memory as it is opened: every word durable, and no ticket drawn
abbrev pub opened : List ℕ → ℕ → View
opened words limit =
    record {
      volatile = words;
      durable = words;
      pending = [];
      recent = [];
      drawn = 0;
      budget = limit;
      stopped = None;
    }
