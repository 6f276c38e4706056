-- Ascending numbers, printed as their longest runs.
use Rattle.std.specs.Prelude.{List, [], codes, decimal, if◌then◌else◌, ℕ, ◌++◌, ◌+◌, ◌-◌, ◌==◌, ◌∷◌, ◌≡◌, ◌≢◌, ◌≤◌}
use Rattle.std.specs.List.{flat_map, range_with_len}

-- a run of numbers that follow one another
pub record Run : Type 0 where
  pub first : ℕ
  pub last : ℕ

-- runs with one more before them, which is one with the next where that goes on from it
abbrev pub with_run : Run → List Run → List Run
with_run run [] = run ∷ []
with_run run (next ∷ runs) = if next.first == run.last + 1 then record { first = run.first; last = next.last } ∷ runs else run ∷ next ∷ runs

-- the longest runs of an ascending list
abbrev pub longest_runs : List ℕ → List Run
longest_runs [] = []
longest_runs (n ∷ ns) = with_run (record { first = n; last = n }) (longest_runs ns)

-- a run as it is printed, behind a space
abbrev pub run_text : Run → List ℕ
run_text run =
    if run.first == run.last then codes " " ++ decimal run.first
    else codes " " ++ decimal run.first ++ codes "-" ++ decimal run.last

-- the numbers as their longest runs
abbrev pub ranges_of : List ℕ → List ℕ
ranges_of ns = flat_map run_text (longest_runs ns)

-- the numbers of a run
abbrev pub numbers_of : Run → List ℕ
numbers_of run = range_with_len run.first (run.last + 1 - run.first)

-- each run has a number, and none goes on from the one before it
pub data AreSeparate : List Run → Type 0 where
  none : AreSeparate []
  one : (run : Run) → run.first ≤ run.last → AreSeparate (run ∷ [])
  more : (run next : Run) (runs : List Run) → run.first ≤ run.last → next.first ≢ run.last + 1 → AreSeparate (next ∷ runs)
      → AreSeparate (run ∷ next ∷ runs)

-- the runs have these numbers, in this order, and no two of them could be one
pub record AreLongestRuns (ns : List ℕ) (runs : List Run) : Type 0 where
  pub numbers : flat_map numbers_of runs ≡ ns
  pub separate : AreSeparate runs
