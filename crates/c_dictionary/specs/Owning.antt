-- What a handle owns: nothing, or the box behind its pointer, as its state says.
use Rattle.std.specs.Prelude.{ℕ, Option, None, Some}
use base.Fml.{Fml, ftrue, feq, fex, fsep}
use denote.RawPtr.{Ptr}
use Rattle.std.specs.declared.alloc.Global.{Global}
use Rattle.std.specs.contracts.impls.GlobalAllocator.TheImpl.{ghosts}
use Rattle.std_alloc.specs.Box.Ownership.{box_owns}
use Rattle.c_dictionary.specs.declared.store.Store.{Store}
use Rattle.c_dictionary.specs.contracts.store.Store.{the_row}
use Rattle.c_dictionary.specs.Ready.{IsHeldAt}

-- the allocator that the box is of. Its type has one value
abbrev pub global : Global
global = record { memory = record { seal = tt } }

-- at 0 it is none, and else what a handle in that state may have
abbrev pub owned : ℕ → Ptr → Option Store → Fml
owned state p None = feq ℕ state 0
owned state p (Some x) = fsep (fex (IsHeldAt state x) (λ _. ftrue)) (box_owns (ghosts.dealloc_token global) the_row p x)
