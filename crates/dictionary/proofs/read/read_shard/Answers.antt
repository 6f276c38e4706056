use Rattle.std.proofs.Common.{◌≡◌, IfSome, refl, sym, subst, slice_index}
use Rattle.std.specs.BTreeMap.{get}
use Rattle.std.specs.Ordering.{nat_cmp}
use Rattle.std.proofs.lemmas.Result.{IfOk-weaker}
use Rattle.dict_model.specs.Links.{table_kind}
use Rattle.heap_model.specs.Geometry.{root_word}
use Rattle.dict_model.specs.Shards.{LeadsAlone, IsMap, MapOf, at_root, at_kind, in_table}
use Rattle.dictionary.proofs.read.read_shard.Goals as goal

pub returns-in-Astray-clause-err : goal.returns-in-Astray-clause-err
returns-in-Astray-clause-err c = rw (c.fault-in-Astray.ensures) (
  refl,
  in_table (root_word c.args.shard)
      (subst (λ at. slice_index c.args.scan.words.now at ≡ table_kind) c.kind_place-kind.ensures.is c.if-walk-kind.false) (at_root c.in-Astray.ensures),
)

pub returns-in-Some-clause-ok : goal.returns-in-Some-clause-ok
returns-in-Some-clause-ok c = record {
  kind_is = subst (λ at. slice_index c.args.scan.words.now at ≡ table_kind) c.kind_place-kind.ensures.is c.if-walk-kind.false;
  is_map = subst (λ found. IfSome found (λ map. IsMap (LeadsAlone (slice_index c.args.scan.words.now) c.args.shard)
      (slice_index c.args.scan.words.now) c.args.shard (get nat_cmp map)))
      c.in-Some.is c.in_ok-map-in-To.ensures.map;
}

pub returns-in-None-clause-ok : goal.returns-in-None-clause-ok
returns-in-None-clause-ok c = IfOk-weaker c.read_in_order.result
    (λ map. IsMap (LeadsAlone (slice_index c.args.scan.words.now) c.args.shard) (slice_index c.args.scan.words.now) c.args.shard (get nat_cmp map))
    (λ map. MapOf (slice_index c.args.scan.words.now) c.args.shard (get nat_cmp map))
    (λ map is. record {
      kind_is = subst (λ at. slice_index c.args.scan.words.now at ≡ table_kind) c.kind_place-kind.ensures.is c.if-walk-kind.false;
      is_map = is;
    })
    c.read_in_order.ensures.ok

pub returns-then-walk-kind-clause-err : goal.returns-then-walk-kind-clause-err
returns-then-walk-kind-clause-err c =
    let place = c.kind_place-kind.ensures.is in
    rw (c.fault.ensures, place) (
      refl,
      at_kind (λ is. c.if-walk-kind.true
          (subst (λ at. slice_index c.args.scan.words.now at ≡ table_kind) (sym place) is)),
    )
