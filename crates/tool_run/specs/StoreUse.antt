-- What becomes of the store, and how often it is called, by the words and the status.
use Rattle.std.specs.Prelude.{◌≡◌, ◌≢◌, ◌⊎◌, ℕ, List}
use Rattle.tool_ports.specs.Calls.{with_get, with_put}
use Rattle.tool_command.specs.Command.{AsksToFormat, AsksToGen, IsUsage}
use Rattle.tool_run.specs.Calls.{get_limit}
use Rattle.tool_run.specs.Outcome.{AsksToGet, AsksToLook, AsksToPutBack}
use Rattle.tool_run.specs.Seen.{Seen}
use Rattle.tool_run.specs.Status.{done, out_of_memory, read_fault, write_fault, LeavesStore}

-- It is called not at all, or for one get, for one put, or for both, and no failed call of it is passed over.
pub record UsesStore (words : List (List ℕ)) (old new : Seen) (status : ℕ) : Type 0 where
  -- it holds what it held where no result was put
  pub unchanged : LeavesStore status → new.contents ≡ old.contents
  -- a failed call of it tells
  pub no_failed_call : status ≢ read_fault → status ≢ write_fault → new.store_faults ≡ old.store_faults
  -- of store and source at most one has failed
  pub one_failed : (new.store_faults ≡ old.store_faults) ⊎ (new.source_faults ≡ old.source_faults)
  -- words that ask for nothing, or for a trace to be made, call nothing
  pub no_call : IsUsage words → new.calls ≡ old.calls
  pub no_call_for_a_trace : (requests seed : ℕ) → AsksToGen words requests seed → new.calls ≡ old.calls
  -- a command that puts nothing back gets its image
  pub one_get : (name : List ℕ) → AsksToLook words name → status ≢ out_of_memory → new.calls ≡ with_get get_limit old.calls
  -- one that does puts it where a result was made
  pub get_and_put : (name : List ℕ) → AsksToPutBack words name → (status ≡ done) ⊎ (status ≡ write_fault)
      → new.calls ≡ with_put (with_get get_limit old.calls)
  pub get_alone : (name : List ℕ) → AsksToPutBack words name → status ≢ done → status ≢ write_fault → status ≢ out_of_memory
      → new.calls ≡ with_get get_limit old.calls
  -- where memory ran out there was one get, or none
  pub get_or_none : (name : List ℕ) → AsksToGet words name → status ≡ out_of_memory
      → (new.calls ≡ old.calls) ⊎ (new.calls ≡ with_get get_limit old.calls)
  -- an empty image is put, and nothing got
  pub one_put : (image : List ℕ) (capacity : ℕ) → AsksToFormat words image capacity → status ≢ out_of_memory → new.calls ≡ with_put old.calls
  pub no_put : (image : List ℕ) (capacity : ℕ) → AsksToFormat words image capacity → status ≡ out_of_memory → new.calls ≡ old.calls
