-- How much of a source is taken, and where the count of faults of a port stands.
use Rattle.std.proofs.Common.{◌≡◌, ◌≢◌, ℕ, List, [], Option, Some, None, Result, Ok, Err, IsErr, IsErrAnd, IsErrOf, refl, ap, ◌∙◌, arith}
use Rattle.tool_ports.specs.Left.{left_before, GivesAtMost}
use Rattle.tool_run.specs.declared.fault.Fault.{Fault}
use Rattle.tool_run.specs.Inside.{status_of}

-- a source that is left alone gave nothing
none_given : (left : Option (List ℕ)) → left ≡ left_before [] left
none_given None = refl
none_given (Some bytes) = refl

pub none_taken : (most : ℕ) (left : Option (List ℕ)) → GivesAtMost most left left
none_taken most left = record { count = 0; few = omega arith; gives = record { bytes = []; counted = refl; given = none_given left } }

-- a result is no error
pub not_err : {T E : Type 0} (x : T) (e : E) → IsErrOf (Ok x) e → ⊥
not_err x e same = let never : Ok x ≡ Err e = same in cc

-- equal errors are of one fault
one_fault : {E : Type 0} (U : Type 0) (a b : E) → IsErrOf {T = U} (Err a) b → a ≡ b
one_fault U a b same = cc

-- an error that is handed on is the same one
again : {T E : Type 0} (U : Type 0) (fault met wanted : E) → fault ≡ met → IsErrOf {T = U} (Err met) wanted → IsErrOf {T = T} (Err fault) wanted
again U fault met wanted is same = cc

-- a count that stands unless this fault was met stands unless it is handed on
pub stands : {T E : Type 0} {P : E → Type 0} (U : Type 0) (before now : ℕ) (result : Result T E) (met wanted : E) → IsErr result
    × IsErrAnd result P → ((fault : E) → P fault → fault ≡ met)
    → (¬ (IsErrOf {T = U} (Err met) wanted) → now ≡ before) → ¬ (IsErrOf result wanted) → now ≡ before
stands U before now (Ok x) met wanted is handed steady other = absurd is.1
stands U before now (Err fault) met wanted is handed steady other = steady (λ same. other (again U fault met wanted (handed fault is.1) same))

-- by another status this fault is not told
pub not_told : (U : Type 0) (status : ℕ) (fault other : Fault) → status ≡ status_of fault → status ≢ status_of other
    → IsErrOf {T = U} (Err fault) other → ⊥
not_told U status fault other is differs same = differs (is ∙ ap status_of (one_fault U fault other same))
