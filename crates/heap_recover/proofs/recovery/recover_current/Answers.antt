use Rattle.std.proofs.Common.{◌≡◌, ℕ, ◌<◌, Some, slice_index, List, subst, sym, arith}
use Rattle.std.proofs.lemmas.Result.{err_from_is_err_and}
use Rattle.heap_model.specs.Geometry.{roots}
use Rattle.heap_model.specs.Header.{kinds_of}
use Rattle.heap_model.specs.Reach.{IsReachedIn, IsOutside}
use Rattle.filter_trace.specs.Reached.{AreReached, TellsOutside}
use Rattle.region_header.proofs.KindLemmas.{below_stored}
use Rattle.heap_recover.proofs.CurrentLemmas.{reached_stored, outside_traced, tells_stored, kinds_left}
use Rattle.heap_recover.proofs.KeptLemmas.{made_of_reached, marked_blocks}
use Rattle.heap_recover.proofs.recovery.recover_current.Goals as goal

pub kinds-stored-requires-clause-fit : goal.kinds-stored-requires-clause-fit
kinds-stored-requires-clause-fit g c = subst (λ (l : List ℕ). (i : ℕ) → i < roots → kinds_of (slice_index l) i < 4294967296) (sym c.deref.ensures.value)
    (λ i less. let small = c.requires.below i less in let few = c.requires.few in omega arith)

pub trace-requires-clause-kinds : goal.trace-requires-clause-kinds
trace-requires-clause-kinds g c =
    let same = subst (λ (l : List ℕ). (i : ℕ) → i < roots → slice_index c.kinds-stored.result i ≡ kinds_of (slice_index l) i)
    c.deref.ensures.value c.kinds-stored.ensures in
    below_stored (Some g.F.Filter.KINDS) (slice_index c.args.words.items) c.kinds-stored.result (omega arith) same c.requires.below

pub returns-in_err-marks-clause-cause : goal.returns-in_err-marks-clause-cause
returns-in_err-marks-clause-cause g c =
    let image = slice_index c.args.words.items in
    let kinds = slice_index c.kinds-stored.result in
    let links = g.F.Filter.links_of c.args.filter.now in
    let same = subst (λ (l : List ℕ). (i : ℕ) → i < roots → slice_index c.kinds-stored.result i ≡ kinds_of (slice_index l) i)
    c.deref.ensures.value c.kinds-stored.ensures in
    let told = tells_stored image kinds links same c.in_err-marks.field-0.0
    (subst (λ (l : List ℕ). TellsOutside (slice_index l) kinds links c.in_err-marks.field-0.0) c.deref-2.ensures.value c.in_err-marks.ensures.err) in
    let p = err_from_is_err_and c.from_residual.result c.from_residual.ensures.1 in
    rw (p.1, p.2) told

pub keep_marked-requires-clause-keeps : goal.keep_marked-requires-clause-keeps
keep_marked-requires-clause-keeps g c =
    let image = slice_index c.args.words.items in
    let kinds = slice_index c.kinds-stored.result in
    let links = g.F.Filter.links_of c.args.filter.now in
    let same = subst (λ (l : List ℕ). (i : ℕ) → i < roots → slice_index c.kinds-stored.result i ≡ kinds_of (slice_index l) i)
    c.deref.ensures.value c.kinds-stored.ensures in
    let are = reached_stored image kinds links same c.in_ok-marks.marks.pairs
    (subst (λ (l : List ℕ). AreReached (slice_index l) kinds links c.in_ok-marks.marks.pairs) c.deref-2.ensures.value c.in_ok-marks.ensures.ok) in
    marked_blocks image (kinds_of image) links c.in_ok-marks.marks.pairs are

pub returns-clause-ok : goal.returns-clause-ok
returns-clause-ok g c =
    let image = slice_index c.args.words.items in
    let kinds = slice_index c.kinds-stored.result in
    let links = g.F.Filter.links_of c.args.filter.now in
    let same = subst (λ (l : List ℕ). (i : ℕ) → i < roots → slice_index c.kinds-stored.result i ≡ kinds_of (slice_index l) i)
    c.deref.ensures.value c.kinds-stored.ensures in
    let are = reached_stored image kinds links same c.in_ok-marks.marks.pairs
    (subst (λ (l : List ℕ). AreReached (slice_index l) kinds links c.in_ok-marks.marks.pairs) c.deref-2.ensures.value c.in_ok-marks.ensures.ok) in
    made_of_reached c.args.words.items (kinds_of image) links c.in_ok-marks.marks.pairs c.in_ok-recovered.recovered are c.in_ok-recovered.ensures.ok

pub returns-clause-kinds : goal.returns-clause-kinds
returns-clause-kinds g c =
    let image = slice_index c.args.words.items in
    let links = g.F.Filter.links_of c.args.filter.now in
    kinds_left (Some g.F.Filter.KINDS) image (slice_index c.in_ok-recovered.recovered.heap.words) (IsReachedIn image links)
    (returns-clause-ok g c).recovered c.requires.below

pub returns-clause-none : goal.returns-clause-none
returns-clause-none g c at out =
    let image = slice_index c.args.words.items in
    let kinds = slice_index c.kinds-stored.result in
    let links = g.F.Filter.links_of c.args.filter.now in
    let same = subst (λ (l : List ℕ). (i : ℕ) → i < roots → slice_index c.kinds-stored.result i ≡ kinds_of (slice_index l) i)
    c.deref.ensures.value c.kinds-stored.ensures in
    c.in_ok-marks.ensures.none at
    (subst (λ (l : List ℕ). IsOutside (slice_index l) kinds links at) (sym c.deref-2.ensures.value) (outside_traced image kinds links same at out))
