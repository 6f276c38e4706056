-- What is seen of a store, a source and a sink at one moment.
use Rattle.std.specs.Prelude.{ℕ, List, Option}
use Rattle.tool_ports.specs.Causes.{RoseByOne}
use Rattle.tool_ports.specs.Contents.{Contents}
use Rattle.tool_ports.specs.declared.store_calls.StoreCalls.{StoreCalls}
use Rattle.tool_run.specs.Lines.{Tells}

-- what they tell, how many calls of each have failed, and how often the store was called
pub record Seen : Type 0 where
  -- what the store holds
  pub contents : Contents
  pub calls : StoreCalls
  pub store_faults : ℕ
  -- what the source has left
  pub left : Option (List ℕ)
  pub source_faults : ℕ
  -- what the sink has taken
  pub taken : Option (List ℕ)
  pub sink_faults : ℕ

-- of a store the contents, the calls and the failures; of a source what is left and the failures; of a sink what is taken and the failures
abbrev pub seen : Contents → StoreCalls → ℕ → Option (List ℕ) → ℕ → Option (List ℕ) → ℕ → Seen
seen contents calls store_faults left source_faults taken sink_faults = record {
  contents = contents;
  calls = calls;
  store_faults = store_faults;
  left = left;
  source_faults = source_faults;
  taken = taken;
  sink_faults = sink_faults;
}

-- the sink took the line, or it failed and took a first part of it
abbrev pub IsTold : Seen → Seen → List ℕ → Type 0
IsTold old new line = Tells line old.sink_faults new.sink_faults old.taken new.taken

-- one call of the store failed
abbrev pub StoreFailed : Seen → Seen → Type 0
StoreFailed old new = RoseByOne old.store_faults new.store_faults

-- one call of the source failed
abbrev pub SourceFailed : Seen → Seen → Type 0
SourceFailed old new = RoseByOne old.source_faults new.source_faults
