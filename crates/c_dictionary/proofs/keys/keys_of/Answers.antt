use Rattle.std.proofs.Common.{◌≡◌, length, refl, subst, arith}
use Rattle.std.proofs.lemmas.Option.{slice_get_read}
use Rattle.c_dictionary.specs.Keys.{ListsFirst}
use Rattle.c_dictionary.proofs.KeyLemmas.{none_first, one_more}
use Rattle.c_dictionary.proofs.keys.keys_of.Goals as goal

pub loop-i-init : goal.loop-i-init
loop-i-init c = none_first c.args.maps.now c.new-keys.result c.new-keys.ensures.empty

pub loop-i-preserved : goal.loop-i-preserved
loop-i-preserved c = one_more c.args.maps.now c.loop-i.i c.index-maps-i.result
    (slice_get_read c.args.maps.now (length c.args.maps.now) c.loop-i.i c.index-maps-i.result refl c.loop-i-test.true c.index-maps-i.is)
    c.loop-i.keys c.add_keys.new.keys c.in_ok-add_keys.ensures c.loop-i.invariant

pub returns : goal.returns
returns c =
    let all : c.loop-i.i ≡ length c.args.maps.now = omega arith in
    subst (λ n. ListsFirst c.args.maps.now n c.loop-i.keys) all c.loop-i.invariant
