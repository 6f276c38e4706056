-- What a store in memory holds, and which of its calls fail.
use Rattle.std.specs.Prelude.{◌≡◌, ℕ, List, Option, Contains}
use Rattle.tool_ports.specs.Causes.{one_more}
use Rattle.tool_ports.specs.Images.{images_in}
use Rattle.tool_ports.specs.declared.map_store.MapStore.{MapStore}
use Rattle.tool_ports.specs.declared.map_store.FailedPut.{FailedPut}
use Rattle.tool_ports.specs.declared.store_calls.StoreCalls.{StoreCalls}

-- the bytes under a name, in the store
abbrev pub images_of : MapStore → List ℕ → Option (List ℕ)
images_of store name = images_in store.images name

-- how many of its calls have failed
abbrev pub fault_count : MapStore → ℕ
fault_count store = store.faults.count

-- its gets and puts, each counted, and the greatest number of bytes that a get asked for
abbrev pub calls_of : MapStore → StoreCalls
calls_of store = store.calls

-- the numbers of the calls that are to fail, of gets and puts together
abbrev pub failing_numbers : MapStore → List ℕ
failing_numbers store = store.failing.numbers.items

-- the number of the next call
abbrev pub next_number : MapStore → ℕ
next_number store = store.failing.next

-- what a `put` that is to fail leaves
abbrev pub failed_put_of : MapStore → FailedPut
failed_put_of store = store.failed_put

-- the next call is to fail
abbrev pub IsToFail : MapStore → Type 0
IsToFail store = Contains (failing_numbers store) (next_number store)

-- one call further on, with the same list of failures
pub record IsOneCallOn (old new : MapStore) : Type 0 where
  pub next : next_number new ≡ one_more (next_number old)
  pub numbers : failing_numbers new ≡ failing_numbers old
  pub failed_put : failed_put_of new ≡ failed_put_of old
