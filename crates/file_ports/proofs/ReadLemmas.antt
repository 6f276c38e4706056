-- Reads one behind the other.
use Rattle.std.proofs.Common.{List, ℕ, Option, Some, None, Result, Ok, Err, refl}
use Rattle.std.specs.Io.KnownBytes.{Keeps, ReadConsumes}

-- a read that gave nothing before, and then this one
pub keeps_then : {E : Type 0} (first now next : Option (List ℕ)) (result : Result ℕ E) (buf : List ℕ) → Keeps first now
    → ReadConsumes now next result buf → ReadConsumes first next result buf
keeps_then None now next (Ok n) buf kept reads = (tt, reads.1)
keeps_then None now next (Err e) buf kept reads = tt
keeps_then (Some xs) None next result buf kept reads = absurd kept
keeps_then (Some xs) (Some ys) next result buf kept reads = rw (← kept) reads

-- nothing known stays so
pub keeps_itself : (left : Option (List ℕ)) → Keeps left left
keeps_itself None = tt
keeps_itself (Some xs) = refl
