-- What the last looks of a seat say of the words, where no other seat changes them.
use Rattle.std.specs.Prelude.{◌≡◌, ◌<◌, ◌≤◌, ℕ, get_or}
use Rattle.heap_model.specs.Geometry.{lists}
use Rattle.core_model.specs.Guards.{IsThere}
use Rattle.core_model.specs.Memory.{Memory, head, used}
use Rattle.core_model.specs.View.{LastLook, View}

-- a word that was looked at is as it was seen, where no exchange has been won since
pub record IsSteady (v : View) (look : LastLook) (now : ℕ) : Type 0 where
  pub least : look.wins ≤ v.wins
  pub same : IsThere look.ticket → look.wins ≡ v.wins → now ≡ look.word

-- so are the mark and the head of each list
pub record Steady (m : Memory) (v : View) : Type 0 where
  pub used_is : IsSteady v v.used_look (used m)
  pub heads : (list : ℕ) → list < lists → IsSteady v (get_or v.head_looks list v.used_look) (head m list)
