use Rattle.std.proofs.Common.{slice_index}
use Rattle.std.proofs.lemmas.Result.{err_from_is_err_and}
use Rattle.region_header.specs.Migration.{current_words}
use Rattle.dictionary.proofs.SameLemmas.{recovers_to}
use Rattle.dictionary_heap.proofs.OpeningLemmas.{found_is, can_be, tells_recovery, tells_maps}
use Rattle.dictionary_heap.proofs.recovering.recover_dictionary.Goals as goal

pub returns-clause-ok : goal.returns-clause-ok
returns-clause-ok c =
    let told = c.in_ok-recovered.ensures in
    found_is c.args.image.now c.root_kinds.result c.root_kinds.ensures.list
    (record { heap = c.in_ok-recovered.recovered.heap; maps = c.in_ok-maps.maps }) c.in_ok-maps.ensures.ready
    told.held told.words told.none told.kinds c.in_ok-maps.ensures.ok

pub returns-clause-good : goal.returns-clause-good
returns-clause-good c =
    let told = c.in_ok-recovered.ensures in
    can_be c.args.image.now c.root_kinds.result c.root_kinds.ensures.list told.good told.none

pub returns-in_err-recovered-clause-cause : goal.returns-in_err-recovered-clause-cause
returns-in_err-recovered-clause-cause c =
    let why = tells_recovery c.args.image.now c.root_kinds.result c.root_kinds.ensures.list c.in_err-recovered.field-0.0
    c.in_err-recovered.ensures.cause in
    let p = err_from_is_err_and c.from_residual.result c.from_residual.ensures.1 in
    rw (p.1, p.2) why

pub returns-in_err-maps-clause-cause : goal.returns-in_err-maps-clause-cause
returns-in_err-maps-clause-cause c =
    let words = c.args.image.now in
    let kinds = c.root_kinds.result in
    let told = c.in_ok-recovered.ensures in
    let new = slice_index c.in_ok-recovered.recovered.heap.words in
    let to = recovers_to (slice_index (current_words words kinds)) new told.words told.none
    (λ b reached. c.read_maps.ensures.ready.blocks b (told.held.complete b reached)) in
    let can = can_be words kinds c.root_kinds.ensures.list told.good told.none in
    let why = tells_maps words kinds c.root_kinds.ensures.list new can to c.in_err-maps.field-0.0 c.in_err-maps.ensures.err in
    let p = err_from_is_err_and c.from_residual-in_err-maps.result c.from_residual-in_err-maps.ensures.1 in
    rw (p.1, p.2) why
