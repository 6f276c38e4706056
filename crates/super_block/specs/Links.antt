-- How the words of a list speak of its descriptors.
use Rattle.std.specs.Prelude.{ℕ, ◌+◌, Option, None, Some}

-- the link to a descriptor: 1 more than its index, or 0 to none
abbrev pub link_of : Option ℕ → ℕ
link_of None = 0
link_of (Some d) = d + 1
