-- What a store of files has counted.
use Rattle.std.specs.Prelude.{ℕ}
use Rattle.file_ports.specs.declared.file_store.FileStore.{FileStore}
use Rattle.tool_ports.specs.declared.store_calls.StoreCalls.{StoreCalls}

-- how many of its calls have failed
abbrev pub fault_count : {R F D : Type 0} → FileStore R F D → ℕ
fault_count store = store.faults.count

-- its gets and puts, each counted, and the greatest number of bytes that a get asked for
abbrev pub calls_of : {R F D : Type 0} → FileStore R F D → StoreCalls
calls_of store = store.calls
