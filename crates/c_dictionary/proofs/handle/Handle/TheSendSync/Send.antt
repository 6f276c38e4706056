-- A handle may go to another thread: what it owns names no key, where a dictionary may go.
use Rattle.std.proofs.Common.{ℕ, Option, None, Some}
use mir.Raw.{raw}
use base.Shift.{Keyless}
use denote.Memory.{lone}
use denote.RawPtr.{Ptr}
use denote.Param.Send.{IsSend, owning_send, recorded_send, sendable}
use Rattle.std.proofs.Crossing.{frees}
use Rattle.std_alloc.proofs.SendSync.{lies}
use Rattle.c_dictionary.proofs.store.Store.TheSendSync as store
use Rattle.c_dictionary.specs.Owning.{global, owned}
use Rattle.c_dictionary.specs.declared.store.Store.{Store}
use Rattle.c_dictionary.specs.contracts.store.Store.{the_row as R, the_field, the_type as store_type}
use Rattle.c_dictionary.specs.contracts.handle.Handle.{the_row, the_type}

store_send : IsSend R
store_send = recorded_send the_field.row _ _ store_type.to_one store.the_field_send

keyless : (s : ℕ) (p : Ptr) (m : Option Store) → Keyless (owned s p m)
keyless s p None = tt
keyless s p (Some x) = ((λ _. tt), (lies R store_send p x, frees.frees global (raw (lone R.mir)) p))

pub send : IsSend the_row
send = owning_send the_type (search sendable, (search sendable, tt)) (λ h. keyless h.state h.at h.value) (λ k x w. tt)
