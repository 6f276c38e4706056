use Rattle.std.proofs.Common.{◌∙◌, ap, sym, arith}
use Rattle.heap_model.specs.Geometry.{kind_word}
use Rattle.region_header.proofs.StoredLemmas.{stored_words}
use Rattle.region_header.proofs.check.read_header.Goals as goal

pub returns-clause-cause : goal.returns-clause-cause
returns-clause-cause c = c.check_kinds.ensures.cause _ _
    (stored_words c.args.words.now c.kind-from.result c.in_ok-header.header (c.kind-from.ensures ∙ ap (λ n. kind_word n 0) c.new.ensures)
    (sym c.in_ok-header.ensures.cause) c.in_ok-header.ensures.ok (λ one. let other = c.if-header-eq-OLD_VERSION.false in omega arith))

pub returns-clause-good : goal.returns-clause-good
returns-clause-good c = c.check_kinds.ensures.good _ _
    (stored_words c.args.words.now c.kind-from.result c.in_ok-header.header (c.kind-from.ensures ∙ ap (λ n. kind_word n 0) c.new.ensures)
    (sym c.in_ok-header.ensures.cause) c.in_ok-header.ensures.ok (λ one. let other = c.if-header-eq-OLD_VERSION.false in omega arith))
