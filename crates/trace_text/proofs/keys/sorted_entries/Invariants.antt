use Rattle.std.proofs.Common.{◌≡◌, take}
use Rattle.std.specs.Prelude.{map}
use Rattle.std.specs.List.{flat_map}
use Rattle.trace_text.specs.Shown.{shown}
use Rattle.trace_text.proofs.keys.sorted_entries.Given as goal

abbrev pub invariant-loop-keys : goal.invariant-loop-keys
invariant-loop-keys l = map shown l.entries.items ≡ flat_map (λ m. m.entries) (take l.keys-index l.maps)
