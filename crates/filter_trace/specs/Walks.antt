-- What a walk leaves that follows the entries of a list one by one and adds what they lead to at its end.
use Rattle.std.specs.Prelude.{◌≡◌, List, ◌++◌}

-- entries have been added, at the end
pub record IsExtended {X : Type 0} (old new : List X) : Type 0 where
  pub more : List X
  pub is : new ≡ old ++ more
