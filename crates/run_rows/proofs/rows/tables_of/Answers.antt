use Rattle.std.proofs.Common.{◌≡◌, ◌<◌, ◌-◌, ◌%◌, length, refl, ap, subst, ◌∙◌, arith}
use Rattle.std.specs.Prelude.{get_or}
use Rattle.std.proofs.lemmas.List.{get_or_default, length-set}
use Rattle.dict_model.specs.Links.{shards}
use Rattle.shard_moves.specs.Tables.{is_flagged}
use Rattle.run_rows.proofs.RowLemmas.{AreToldOf, told_all, told_next}
use Rattle.run_rows.proofs.rows.tables_of.Goals as goal

pub loop-shard-preserved : goal.loop-shard-preserved
loop-shard-preserved g c =
    let all = c.args.all.now in
    let n = c.loop-shard.shard in
    let at = c.args.workers - 1 - n % c.args.workers in
    let inside : at < length all = let count = c.requires.count in let some = c.requires.some in omega (arith, count, some) in
    let has = is_flagged (get_or all at c.index-all-workers.result).tables n in
    told_next all c.args.workers n c.loop-shard.tables _ has c.loop-shard-test.true refl (length-set c.loop-shard.tables n has
    ∙ c.loop-shard.invariant.long)
    (λ any. ap (λ one. is_flagged one.tables n) (get_or_default all at c.index-all-workers.result any inside)) c.loop-shard.invariant

pub returns : goal.returns
returns g c = λ requests. told_all c.args.all.now c.args.workers c.loop-shard.tables c.requires.turns
    (subst (AreToldOf c.args.all.now c.args.workers c.loop-shard.tables) (let e : c.loop-shard.shard ≡ shards = omega arith in
    e) c.loop-shard.invariant) requests
