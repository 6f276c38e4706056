-- What recovery makes of each superblock that has been taken.
use Rattle.std.specs.Prelude.{◌≡◌, ℕ, zero, suc, ◌<◌, ◌+◌, Option, Some, None, List, [], ◌∷◌, length, slice_index_or}
use Rattle.heap_model.specs.declared.block.Block.{Block}
use Rattle.heap_model.specs.Blocks.{Layout}
use Rattle.heap_model.specs.Recovered.{IsFreeSuperblock, AreAscending}
use Rattle.heap_model.specs.Recovery.{IsSpare, IsPartial, IsFullyKept, IsInLarge}
use Rattle.size_table.specs.declared.size_class.SizeClass.{SizeClass}
use Rattle.heap_recover.specs.declared.roles.Role.{Role}
use Rattle.heap_recover.specs.declared.roles.Role.TheVariants.{Free, Partial, Full, Large}
use Rattle.heap_recover.specs.declared.surveys.Survey.{Survey}
use Rattle.heap_recover.specs.Marked.{IsKeptIn, GoOnTo}

-- the superblock has the role; `spares` are the first words that recovery chains there
pub data IsRole (l : Layout) (kept : Block → Type 0) (d : ℕ) : Role → List ℕ → Type 0 where
  is_free : IsFreeSuperblock l kept d → IsRole l kept d Free []
  is_partial : (class : SizeClass) (spares : List ℕ) → IsPartial l kept class.number d
      → AreAscending (λ w. w) (IsSpare l kept class.number d) spares → IsRole l kept d (Partial class) spares
  is_full : (class : SizeClass) → IsFullyKept l kept class.number d → IsRole l kept d (Full class) []
  is_large : IsInLarge l kept d → IsRole l kept d Large []

-- the role of a superblock of the class whose blocks are parted into these, and what recovery chains there
pub data RoleOfParts (class : SizeClass) (held : List Block) (spares : List ℕ) : Role → List ℕ → Type 0 where
  none_held : held ≡ [] → RoleOfParts class held spares Free []
  none_spare : 0 < length held → spares ≡ [] → RoleOfParts class held spares (Full class) []
  some_of_both : 0 < length held → 0 < length spares → RoleOfParts class held spares (Partial class) spares

-- what a survey of superblock d tells: its role, the kept blocks that it begins, and how far these go on
pub record IsSurvey (l : Layout) (kept : Block → Type 0) (d : ℕ) (survey : Survey) : Type 0 where
  pub role : IsRole l kept d survey.role survey.spares.items
  pub in_order : AreAscending (λ (b : Block). b.first_word) (IsKeptIn l.capacity kept d) survey.held.items
  pub goes_on : GoOnTo l kept (d + 1) survey.end

-- the list that a superblock of the role is in, if any
abbrev pub list_of : Role → Option ℕ
list_of Free = Some 0
list_of (Partial class) = Some class.number
list_of (Full class) = None
list_of Large = None

-- a superblock whose role puts it into the list
pub record IsMember (roles : List Role) (list d : ℕ) : Type 0 where
  pub below : d < length roles
  pub in_list : list_of (slice_index_or roles d Large) ≡ Some list

-- how a link or a head speaks of the superblock at the index of a list: 1 more than its number, or 0 behind the last one
abbrev pub number_at : List ℕ → ℕ → ℕ
number_at [] i = 0
number_at (d ∷ ds) zero = d + 1
number_at (d ∷ ds) (suc i) = number_at ds i
