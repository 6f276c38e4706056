-- A seat that gives some of its held blocks and roots to a new seat.
use Rattle.std.specs.Prelude.{ℕ, Bool, not, cond, List, [], ◌∷◌, replicate, None}
use Rattle.heap_model.specs.Geometry.{lists}
use Rattle.core_model.specs.View.{View, Span, no_batch}
use Rattle.core_model.specs.Effects.{trimmed}
use Rattle.core_model.specs.Opening.{unlooked}

-- which blocks go, by first word; which large blocks, by first superblock; and which roots
pub record Choice : Type 0 where
  pub blocks : ℕ → Bool
  pub spans : ℕ → Bool
  pub roots : ℕ → Bool
  -- 1 where the new seat is a carrier, else 0
  pub carries : ℕ

-- what does not go
abbrev pub others : Choice → Choice
others c = record { blocks = λ b. not (c.blocks b); spans = λ d. not (c.spans d); roots = λ i. not (c.roots i); carries = c.carries }

-- the numbers that go
abbrev pub chosen : (ℕ → Bool) → List ℕ → List ℕ
chosen test [] = []
chosen test (x ∷ xs) = cond (test x) (x ∷ chosen test xs) (chosen test xs)

-- the large blocks that go
abbrev pub chosen_spans : (ℕ → Bool) → List Span → List Span
chosen_spans test [] = []
chosen_spans test (span ∷ spans) = cond (test span.first) (span ∷ chosen_spans test spans) (chosen_spans test spans)

-- by class, the blocks that go
abbrev pub chosen_lists : (ℕ → Bool) → List (List ℕ) → List (List ℕ)
chosen_lists test [] = []
chosen_lists test (xs ∷ lists) = chosen test xs ∷ chosen_lists test lists

-- the seat without what goes
abbrev pub remaining : Choice → View → View
remaining c v = trimmed (record v {
  small = chosen_lists (others c).blocks v.small;
  large = chosen_spans (others c).spans v.large;
  roots = chosen (others c).roots v.roots;
})

-- the new seat, which has what goes and has done nothing yet
abbrev pub new_seat : Choice → View → View
new_seat c v = record {
  setup = v.setup;
  small = chosen_lists c.blocks v.small;
  large = chosen_spans c.spans v.large;
  roots = chosen c.roots v.roots;
  caches = replicate lists [];
  batch = no_batch;
  raw = [];
  split = [];
  cutting = [];
  classed = [];
  seen_used = None;
  seen_head = None;
  seen_link = None;
  seen_anchor = None;
  used_look = unlooked v.setup.used;
  head_looks = v.head_looks;
  volatile = v.volatile;
  durable = v.durable;
  floor = v.floor;
  ticket = None;
  last_ticket = None;
  stopped = None;
  lost_to = 0;
  taken = 0;
  draws = 0;
  cuts = 0;
  wins = 0;
  losses = 0;
  gives = 0;
  moves = 0;
  carries = c.carries;
  offers = 0;
  accepts = 0;
}

-- the same, which knows nothing of words that are not its own
abbrev pub given_off : Choice → View → View
given_off c v = trimmed (new_seat c v)
