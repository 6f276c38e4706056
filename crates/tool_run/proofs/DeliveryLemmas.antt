-- Why a result was not delivered, from why it was not put or not printed.
use Rattle.std.proofs.Common.{◌≡◌, ℕ, List, Option, Result, Ok, Err, IfErr, IsErr, IsErrAnd, refl, sym, subst}
use Rattle.tool_ports.specs.Causes.{RoseByOne}
use Rattle.tool_ports.specs.Contents.{Contents}
use Rattle.tool_ports.specs.Taken.{TakesPart}
use Rattle.tool_run.specs.declared.fault.Fault.{Fault}
use Rattle.tool_run.specs.declared.fault.Fault.TheVariants.{Usage, Memory, ReadFault, WriteFault, Absent, Malformed, Outside, BadShard, BadLine, BadStep, TooLong}
use Rattle.tool_run.specs.Inside.{PutFails, DeliveryFails}
use Rattle.tool_run.specs.Outcome.{Puts, while_putting, while_printing}

-- what was not put is not delivered
not_put_at : (name : List ℕ) (image : Option (List ℕ)) (text : List ℕ) (old new : Contents) (put_failed : Type 0) (faults : ℕ)
    (taken : Option (List ℕ)) (fault : Fault)
    → PutFails name image old new put_failed fault → DeliveryFails name image text old new put_failed faults faults taken taken fault
not_put_at name image text old new put_failed faults taken Memory same = record { store = same; sink = refl }
not_put_at name image text old new put_failed faults taken WriteFault half =
    while_putting half.bytes half.is_some half.cause refl half.stored half.others refl
not_put_at name image text old new put_failed faults taken Usage h = h
not_put_at name image text old new put_failed faults taken ReadFault h = h
not_put_at name image text old new put_failed faults taken Absent h = h
not_put_at name image text old new put_failed faults taken (Malformed cause) h = h
not_put_at name image text old new put_failed faults taken (Outside at value) h = h
not_put_at name image text old new put_failed faults taken (BadShard shard at) h = h
not_put_at name image text old new put_failed faults taken (BadLine line cause) h = h
not_put_at name image text old new put_failed faults taken (BadStep line) h = h
not_put_at name image text old new put_failed faults taken TooLong h = h

pub not_put : (name : List ℕ) (image : Option (List ℕ)) (text : List ℕ) (old new : Contents) (put_failed : Type 0) (faults : ℕ)
    (taken : Option (List ℕ)) (fault cause : Fault)
    → fault ≡ cause → PutFails name image old new put_failed cause → DeliveryFails name image text old new put_failed faults faults taken taken fault
not_put name image text old new put_failed faults taken fault cause is why =
    subst (λ (f : Fault). DeliveryFails name image text old new put_failed faults faults taken taken f) (sym is)
    (not_put_at name image text old new put_failed faults taken cause why)

-- what follows from the cause of an error
pub at_cause : {T E : Type 0} {P : E → Type 0} (Q : E → Type 0) (result : Result T E) → IsErr result × IsErrAnd result P → ((e : E) → P e → Q e)
    → IfErr result Q
at_cause Q (Ok x) is next = tt
at_cause Q (Err e) is next = next e is.1

-- a text of which a part was printed is not delivered
pub not_printed : (name : List ℕ) (image : Option (List ℕ)) (text bytes : List ℕ) (old new : Contents) (put_failed : Type 0)
    (faults between : ℕ) (taken taken' : Option (List ℕ)) (fault : Fault)
    → fault ≡ WriteFault → RoseByOne faults between → Puts name image old new → bytes ≡ text → TakesPart bytes taken taken'
    → DeliveryFails name image text old new put_failed faults between taken taken' fault
not_printed name image text bytes old new put_failed faults between taken taken' fault is failed put same part =
    subst (λ (f : Fault). DeliveryFails name image text old new put_failed faults between taken taken' f) (sym is)
    (while_printing failed put (subst (λ (l : List ℕ). TakesPart l taken taken') same part))
