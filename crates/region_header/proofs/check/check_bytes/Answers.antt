use Rattle.std.proofs.Common.{◌*◌, length, ◌∙◌, ap, sym, arith}
use Rattle.std.proofs.lemmas.Grind.{common_steps}
use Rattle.std.proofs.lemmas.List.{length-take-le}
use Rattle.heap_model.specs.Geometry.{kind_word}
use Rattle.heap_model.specs.Image.{image_of_bytes}
use Rattle.heap_model.proofs.HeaderLemmas.{told_with_limit}
use Rattle.region_header.proofs.SameHeader.{front_is, same_fault}
use Rattle.region_header.proofs.StoredLemmas.{old_good, old_told, told_of_bytes, stored_bytes}
use Rattle.region_header.proofs.check.check_bytes.Goals as goal

pub slice_bounds-read_u64_into-end : goal.slice_bounds-read_u64_into-end
slice_bounds-read_u64_into-end c = sym (length-take-le 72 c.args.bytes.now (omega arith))

pub read_u64_into-requires : goal.read_u64_into-requires
read_u64_into-requires c = length-take-le 72 c.args.bytes.now (omega arith)

pub returns-in_err-header-clause-cause : goal.returns-in_err-header-clause-cause
returns-in_err-header-clause-cause c =
    let same = front_is c.args.bytes.now c.read_u64_into.new.dst (omega arith) c.read_u64_into.ensures in
    let told = told_with_limit c.args.kinds (length c.args.bytes.now) (image_of_bytes c.args.bytes.now) c.in_err-header.field-0.0
    (sym (c.in_err-header.ensures.cause ∙ same_fault (length c.args.bytes.now) _ (image_of_bytes c.args.bytes.now) same)) in
    grind (arith, common_steps, told)

pub returns-then-header-eq-OLD_VERSION-clause-cause : goal.returns-then-header-eq-OLD_VERSION-clause-cause
returns-then-header-eq-OLD_VERSION-clause-cause c =
    let told = told_of_bytes c.args.bytes.now c.read_u64_into.new.dst c.in_ok-header.header
    (omega arith) c.read_u64_into.ensures c.in_ok-header.ensures.cause c.in_ok-header.ensures.ok in
    sym (old_told c.args.kinds c.in_ok-header.header _ _ told.0 told.1 c.if-header-eq-OLD_VERSION.true)

pub returns-then-header-eq-OLD_VERSION-clause-good : goal.returns-then-header-eq-OLD_VERSION-clause-good
returns-then-header-eq-OLD_VERSION-clause-good c =
    let told = told_of_bytes c.args.bytes.now c.read_u64_into.new.dst c.in_ok-header.header
    (omega arith) c.read_u64_into.ensures c.in_ok-header.ensures.cause c.in_ok-header.ensures.ok in
    old_good c.args.kinds c.in_ok-header.header _ _ told.0 told.1 c.if-header-eq-OLD_VERSION.true

pub returns-then-header-eq-OLD_VERSION-clause-ok : goal.returns-then-header-eq-OLD_VERSION-clause-ok
returns-then-header-eq-OLD_VERSION-clause-ok c =
    (told_of_bytes c.args.bytes.now c.read_u64_into.new.dst c.in_ok-header.header
    (omega arith) c.read_u64_into.ensures c.in_ok-header.ensures.cause c.in_ok-header.ensures.ok).1

pub returns-clause-cause : goal.returns-clause-cause
returns-clause-cause c =
    let told = told_of_bytes c.args.bytes.now c.read_u64_into.new.dst c.in_ok-header.header
    (omega arith) c.read_u64_into.ensures c.in_ok-header.ensures.cause c.in_ok-header.ensures.ok in
    c.check_kinds.ensures.cause _ _
    (stored_bytes c.args.bytes.now c.read_u64_into-2.new.dst (8 * c.kind-from.result) c.in_ok-header.header (ap (λ n. 8 * n) c.kind-from.ensures
    ∙ ap (λ n. 8 * kind_word n 0) c.new.ensures)
    told.0 told.1 (λ one. let other = c.if-header-eq-OLD_VERSION.false in omega arith) (omega arith) c.read_u64_into-2.ensures)

pub returns-clause-good : goal.returns-clause-good
returns-clause-good c =
    let told = told_of_bytes c.args.bytes.now c.read_u64_into.new.dst c.in_ok-header.header
    (omega arith) c.read_u64_into.ensures c.in_ok-header.ensures.cause c.in_ok-header.ensures.ok in
    c.check_kinds.ensures.good _ _
    (stored_bytes c.args.bytes.now c.read_u64_into-2.new.dst (8 * c.kind-from.result) c.in_ok-header.header (ap (λ n. 8 * n) c.kind-from.ensures
    ∙ ap (λ n. 8 * kind_word n 0) c.new.ensures)
    told.0 told.1 (λ one. let other = c.if-header-eq-OLD_VERSION.false in omega arith) (omega arith) c.read_u64_into-2.ensures)

pub returns-clause-ok : goal.returns-clause-ok
returns-clause-ok c =
    let told = told_of_bytes c.args.bytes.now c.read_u64_into.new.dst c.in_ok-header.header
    (omega arith) c.read_u64_into.ensures c.in_ok-header.ensures.cause c.in_ok-header.ensures.ok in
    grind (arith, common_steps, told.1)
