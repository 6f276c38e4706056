use Rattle.std.proofs.Common.{◌≡◌, Bool, ◌+◌, ◌++◌, [], slice_index, ap, sym, subst, ◌∙◌, arith}
use Rattle.heap_model.specs.Header.{capacity_of}
use Rattle.heap_model.specs.Blocks.{layout_of}
use Rattle.heap_recover.specs.Marked.{IsMarked}
use Rattle.heap_recover.specs.Rebuilt.{HasInfo, HasSpares, IsRebuiltAs, AreDone}
use Rattle.heap_recover.proofs.PassLemmas.{done_none, goes_on_none, done_next, done_capacity, done_info, role_spares}
use Rattle.std.specs.Prelude.{Vec}
use Rattle.std.specs.declared.alloc.Global.{Global}
use Rattle.par_recover.specs.Marked.{TellsMarked}
use Rattle.par_recover.proofs.pass.rebuild_marked.Goals as goal

pub loop-d-init : goal.loop-d-init
loop-d-init g c =
    let old = g.image in
    let kept = IsMarked c.args.marks.now.pairs in (
      subst (λ xs. AreDone old (slice_index c.args.words.now) kept 0 xs c.new-roles.result.items) (sym c.requires.1.1.1.1.1.1.1)
          (subst (λ rs. AreDone old (slice_index c.args.words.now) kept 0 [] rs) (sym c.new-roles.ensures.items)
          (subst (λ new. AreDone old new kept 0 [] []) (sym c.requires.0) (done_none old kept c.requires.1.1.1.1.0))),
      goes_on_none (layout_of old) kept c.requires.1.1.1.1.0,
    )

pub rebuild_superblock-requires-clause-capacity : goal.rebuild_superblock-requires-clause-capacity
rebuild_superblock-requires-clause-capacity g c =
    done_capacity g.image (slice_index c.loop-d.words) (IsMarked c.args.marks.now.pairs) c.loop-d.d c.loop-d.held.items c.loop-d.roles.items
    (let used = c.requires.1.0.used in omega arith) c.loop-d.invariant.0 ∙ sym c.requires.1.1.0

pub rebuild_superblock-requires-clause-info : goal.rebuild_superblock-requires-clause-info
rebuild_superblock-requires-clause-info g c =
    let old = g.image in
    let kept = IsMarked c.args.marks.now.pairs in
    let survey = c.in_ok-survey.survey in
    subst (λ info. HasInfo info survey.role)
    (sym (done_info old (slice_index c.loop-d.words) kept c.loop-d.d c.loop-d.held.items c.loop-d.roles.items (let used = c.requires.1.0.used in
    omega arith) c.loop-d.invariant.0))
    (role_spares old kept c.loop-d.d survey.role survey.spares.items c.in_ok-survey.ensures.ok.role).1

pub rebuild_superblock-requires-clause-spares : goal.rebuild_superblock-requires-clause-spares
rebuild_superblock-requires-clause-spares g c =
    let old = g.image in
    let kept = IsMarked c.args.marks.now.pairs in
    let survey = c.in_ok-survey.survey in
    subst (λ n. HasSpares n c.loop-d.d c.deref-in-loop-d.result.now survey.role) (sym c.requires.1.1.0)
    (subst (λ xs. HasSpares (capacity_of old) c.loop-d.d xs survey.role) (sym c.deref-in-loop-d.ensures.value)
    (role_spares old kept c.loop-d.d survey.role survey.spares.items c.in_ok-survey.ensures.ok.role).0)

pub loop-d-preserved : goal.loop-d-preserved
loop-d-preserved g c =
    let old = g.image in
    let mid = slice_index c.loop-d.words in
    let new = slice_index c.rebuild_superblock.new.words in
    let kept = IsMarked c.args.marks.now.pairs in
    let survey = c.in_ok-survey.survey in
    let found = c.in_ok-survey.ensures.ok in
    let rebuilt = subst (λ n. IsRebuiltAs mid new n c.loop-d.d survey.role survey.spares.items) c.requires.1.1.0
    (subst (λ xs. IsRebuiltAs mid new c.args.geometry.now.capacity c.loop-d.d survey.role xs)
    c.deref-in-loop-d.ensures.value c.rebuild_superblock.ensures) in
    let next = done_next old mid new kept c.loop-d.d c.loop-d.held.items survey.held.items c.loop-d.roles.items survey.role survey.spares.items
    (let used = c.requires.1.0.used in omega arith) c.loop-d.invariant.0 found.role found.in_order rebuilt in
    let held = c.in_ok-extend_from_slice.ensures.items ∙ ap (λ xs. c.loop-d.held.items ++ xs) c.deref-in-loop-d-2.ensures.value in (
      subst (λ xs. AreDone old new kept (c.loop-d.d + 1) xs c.push.new.self.items) (sym held)
          (subst (λ rs. AreDone old new kept (c.loop-d.d + 1) (c.loop-d.held.items ++ survey.held.items) rs) (sym c.in_ok-push.ensures.items) next),
      found.goes_on,
    )

pub survey_marked-requires : goal.survey_marked-requires
survey_marked-requires g c =
    let pairs = c.args.marks.now.pairs in
    let l = layout_of g.image in
    let info = done_info g.image (slice_index c.loop-d.words) (IsMarked pairs) c.loop-d.d c.loop-d.held.items c.loop-d.roles.items
    (let used = c.requires.1.0.used in omega arith) c.loop-d.invariant.0 in
    let tells = subst (TellsMarked l pairs c.loop-d.d) (sym c.deref.ensures.value)
    (subst (λ (v : Vec Bool Global). TellsMarked l pairs c.loop-d.d v.items) (sym c.index-marked-d.is)
    (c.requires.1.1.1.1.1.1.0.each c.loop-d.d c.index-marked-d.result (omega arith))) in (
      c.requires.1.1.0,
      (
        ap (slice_index c.loop-d.words) c.info.ensures
            ∙ info,
        (
          c.requires.1.1.1.0,
          (
            omega arith,
            (
              omega (arith, c.requires.1.0.used),
              (c.requires.1.1.1.1.0, (c.loop-d.invariant.1, (c.requires.1.1.1.1.1.0, tells))),
            ),
          ),
        ),
      ),
    )

pub returns : goal.returns
returns g c =
    let all : c.loop-d.d ≡ c.args.used = omega arith in
    record {
      ok = subst (λ n. AreDone g.image (slice_index c.loop-d.words) (IsMarked c.args.marks.now.pairs)
          n c.loop-d.held.items c.loop-d.roles.items) all c.loop-d.invariant.0;
    }
