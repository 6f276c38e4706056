-- What a block that goes into the batch leaves of a seat.
use Rattle.std.specs.Prelude.{◌≡◌, ◌<◌, ◌≤◌, ℕ, true, None, [], ◌∷◌, ◌++◌, ◌*◌, ◌≢◌, List, length, set, All}
use Rattle.heap_model.specs.Geometry.{superblock_of}
use Rattle.core_model.specs.Cells.{data_cell}
use Rattle.core_model.specs.Effects.{first_of, last_of, rest_of}
use Rattle.core_model.specs.View.{View, of_class}
use Rattle.heap_rule.specs.Shown.{Shows}
use Rattle.seat_costs.specs.Costs.{Costs, no_costs}
use Rattle.seat_costs.specs.Rows.{Parts, ViewRow, parts}

-- the block is behind the batch, and not in the cache
abbrev pub with_lifted : ℕ → ℕ → Parts → Parts
with_lifted class first p = record p {
  caches = set p.caches class (rest_of (of_class p.caches class));
  batch = record { descriptor = superblock_of p.setup.capacity first; class = class; blocks = p.batch.blocks ++ first ∷ []; linked = true };
}

-- the block was lifted, and leads to the next one of the cache
pub record HasLifted (class first : ℕ) (v w : View) : Type 0 where
  pub ran : v.stopped ≡ None
  pub going : w.stopped ≡ None
  pub room : v.draws < v.setup.budget
  pub more : v.draws < w.draws
  pub parts_are : parts w ≡ with_lifted class first (parts v)
  pub link : 1 ≤ length (rest_of (of_class v.caches class)) → Shows w (data_cell first) (first_of (rest_of (of_class v.caches class)))

-- the cache without the blocks that are in the batch
abbrev pub with_batch : ℕ → ℕ → List ℕ → List ℕ → Parts → Parts
with_batch class d lifted rest p = record p {
  caches = set p.caches class rest;
  batch = record { descriptor = d; class = class; blocks = lifted; linked = true };
}

-- of so many blocks: for each a load and a draw with the change
abbrev pub lift_costs : ℕ → Costs
lift_costs n = record no_costs { draws = 2 * n }

-- the first blocks of the cache, which all lie in superblock d, are the batch, and the last of them leads to the next one
pub record IsLifting (class d last : ℕ) (v w : View) : Type 0 where
  pub ran : v.stopped ≡ None
  pub going : w.stopped ≡ None
  pub room : v.draws < v.setup.budget
  pub more : v.draws < w.draws
  pub lifted : List ℕ
  pub rest : List ℕ
  pub both : of_class v.caches class ≡ lifted ++ rest
  pub parts_are : parts w ≡ with_batch class d lifted rest (parts v)
  pub some : 1 ≤ length lifted
  pub together : All (λ block. superblock_of v.setup.capacity block ≡ d) lifted
  pub last_is : last_of lifted ≡ last
  pub link : 1 ≤ length rest → Shows w (data_cell last) (first_of rest)
  pub row : ViewRow (lift_costs (length lifted)) v w

-- and the next block, if there is one, lies in another
pub record HasLiftedPrefix (class d last : ℕ) (v w : View) : Type 0 where
  pub lifting : IsLifting class d last v w
  pub longest : 1 ≤ length lifting.rest → superblock_of v.setup.capacity (first_of lifting.rest) ≢ d
