use Rattle.std.proofs.Common.{◌≡◌, Bool, ap, sym, subst, ◌∙◌, refl, arith}
use Rattle.std.specs.Prelude.{nat_eq, ◌&&◌}
use Rattle.std.proofs.lemmas.Bool.{eq-eqb, ne_eqb}
use Rattle.std.proofs.lemmas.List.{length-set}
use Rattle.dict_model.specs.Links.{shards}
use Rattle.run_model.specs.Workers.{worker_of}
use Rattle.shard_moves.specs.Tables.{is_flagged}
use Rattle.worker_parts.proofs.TargetLemmas.{AreOwn, own_all, own_next, own_none}
use Rattle.worker_parts.proofs.targets.own_targets.Goals as goal
use Rattle.worker_parts.proofs.targets.own_targets.Goals.{then-shard-worker, else-shard-worker}

pub loop-shard-init : goal.loop-shard-init
loop-shard-init c = own_none c.args.worker.workers c.args.worker.number c.args.targets.now _ refl

pub loop-shard-preserved : goal.loop-shard-preserved
loop-shard-preserved c =
    let w = c.args.worker in
    let targets = c.args.targets.now in
    let n = c.loop-shard.shard in
    let has = c.if-shard-worker.own in
    own_next w.workers w.number n targets c.loop-shard.own _ has c.loop-shard-test.true refl (length-set c.loop-shard.own n has
    ∙ c.loop-shard.invariant.long)
    (elim c.if-shard-worker.branch as (λ _. has ≡ (nat_eq (worker_of w.workers n) w.number && is_flagged targets n)) [
      | then-shard-worker b ↦ b.own-is ∙ ap (λ (x : Bool). x && is_flagged targets n)
          (sym (eq-eqb (worker_of w.workers n) w.number b.if-shard-worker.true))
      | else-shard-worker b ↦
          let no = ne_eqb (worker_of w.workers n) w.number b.if-shard-worker.false in
          b.own-is ∙ no ∙ ap (λ (x : Bool). x && is_flagged targets n) (sym no)
    ]) c.loop-shard.invariant

pub returns : goal.returns
returns c = λ requests are. own_all c.args.worker.workers c.args.worker.number c.args.targets.now c.loop-shard.own requests are
    (subst (AreOwn c.args.worker.workers c.args.worker.number c.args.targets.now c.loop-shard.own)
    (let e : c.loop-shard.shard ≡ shards = omega arith in e) c.loop-shard.invariant)
