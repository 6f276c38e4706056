use Rattle.std.proofs.Common.{◌*◌, ℕ, List, length, slice_index, sym, subst}
use Rattle.heap_model.specs.Header.{IsWellFormed}
use Rattle.dictionary.proofs.read.read_map.Goals as goal

pub read_shard-requires-clause-read : goal.read_shard-requires-clause-read
read_shard-requires-clause-read c = record {
  formed = subst (λ (ws : List ℕ). IsWellFormed (8 * length ws) (slice_index ws)) (sym c.words-words.ensures.words) c.words-words.ensures.ready.formed;
  described = c.in_ok-directory.ensures.ok;
  origins_are = c.in_ok-origins.ensures;
}
