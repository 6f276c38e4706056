use Rattle.std.proofs.Common.{◌≡◌, ◌*◌, ℕ, List, length, slice_index, sym, subst, arith}
use Rattle.std.proofs.lemmas.Result.{err_from_is_err_and}
use Rattle.heap_model.specs.Header.{IsWellFormed}
use Rattle.dict_model.specs.Links.{shards}
use Rattle.dictionary.specs.Reading.{AreMaps}
use Rattle.dictionary.proofs.WalkLemmas.{maps_begin, maps_push, tells_lowest}
use Rattle.dictionary.proofs.read.trace_maps.Goals as goal

pub loop-shard-init : goal.loop-shard-init
loop-shard-init c = rw (c.in_ok-maps.ensures.items) (maps_begin (slice_index c.words-words.result.now))

pub read_shard-requires-clause-read : goal.read_shard-requires-clause-read
read_shard-requires-clause-read c = record {
  formed = subst (λ (ws : List ℕ). IsWellFormed (8 * length ws) (slice_index ws)) (sym c.words-words.ensures.words) c.words-words.ensures.ready.formed;
  described = c.in_ok-directory.ensures.ok;
  origins_are = c.in_ok-origins.ensures;
}

pub loop-shard-preserved : goal.loop-shard-preserved
loop-shard-preserved c = rw (c.in-Ok.ensures.items)
    (maps_push (slice_index c.words-words.result.now) c.loop-shard.shard c.loop-shard.maps.items c.in_ok-read_shard.field-0
    c.loop-shard.invariant c.in_ok-read_shard.ensures.ok c.in_ok-read_shard.ensures.ordered)

pub returns-in_err-read_shard-clause-err : goal.returns-in_err-read_shard-clause-err
returns-in_err-read_shard-clause-err c =
    let p = err_from_is_err_and c.from_residual-in_err-read_shard.result c.from_residual-in_err-read_shard.ensures.1 in
    rw (p.1, p.2, ← c.words-words.ensures.words) (tells_lowest (slice_index c.words-words.result.now)
    c.loop-shard.shard c.loop-shard.maps.items c.in_err-read_shard.field-0.0
    (omega arith) c.loop-shard.invariant c.in_err-read_shard.ensures.err)

pub returns-clause-ok : goal.returns-clause-ok
returns-clause-ok c =
    let all : c.loop-shard.shard ≡ shards = omega arith in
    rw (← c.words-words.ensures.words) (subst (λ n. AreMaps (slice_index c.words-words.result.now) n c.loop-shard.maps.items)
    all c.loop-shard.invariant)
