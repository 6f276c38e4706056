use Rattle.std.proofs.Common.{slice_index}
use Rattle.dictionary.specs.Reading.{AreMaps}
use Rattle.dictionary.proofs.read.trace_maps.Given as goal

abbrev pub invariant-loop-shard : goal.invariant-loop-shard
invariant-loop-shard l = AreMaps (slice_index l.scan.words.now) l.shard l.maps.items
