-- Marks, one for each word, as the list of the words that are marked.
use Rattle.std.specs.Prelude.{◌≡◌, ℕ, ◌+◌, ◌*◌, ◌/◌, ◌<◌, ◌≤◌, Bool, true, false, List, [], ◌∷◌, length, slice_index_or, slice_index, Contains, cond}

-- the marked words, where the first mark is that of the word `from`
abbrev pub marked_from : ℕ → List Bool → List ℕ
marked_from from [] = []
marked_from from (true ∷ marks) = from ∷ marked_from (from + 1) marks
marked_from from (false ∷ marks) = marked_from (from + 1) marks

-- the marked words
abbrev pub marked_words : List Bool → List ℕ
marked_words marks = marked_from 0 marks

-- the word's mark
abbrev pub mark_at : List Bool → ℕ → Bool
mark_at marks word = slice_index_or marks word false

-- the word is marked
abbrev pub IsMarked : List Bool → ℕ → Type 0
IsMarked marks word = mark_at marks word ≡ true

-- how many marks there are
abbrev pub mark_count : List Bool → ℕ
mark_count [] = 0
mark_count (true ∷ marks) = mark_count marks + 1
mark_count (false ∷ marks) = mark_count marks

-- what is durable of a word once the marked words are written back
abbrev pub completed_at : List Bool → List ℕ → List ℕ → ℕ → ℕ
completed_at marks volatile durable word =
    cond (mark_at marks word) (slice_index volatile word) (slice_index durable word)

-- the marks of words, and one for each group of 64 words: each group that has a marked word has its own
pub record CoversGroups (words groups : List Bool) : Type 0 where
  pub reach : length words ≤ 64 * length groups
  pub covers : (word : ℕ) → IsMarked words word → IsMarked groups (word / 64)

-- the marks of words, whether each page of 4096 words is listed, and the list of these, with room for every page
pub record ListsPages (words pages : List Bool) (list : List ℕ) (capacity : ℕ) : Type 0 where
  pub reach : length words ≤ 4096 * length pages
  pub room : length pages ≤ capacity
  pub few : length list ≤ mark_count pages
  pub within : (k : ℕ) → k < length list → 4096 * slice_index list k < length words
  pub covers : (word : ℕ) → IsMarked words word → IsMarked pages (word / 4096)
  pub all : (page : ℕ) → IsMarked pages page → Contains list page
