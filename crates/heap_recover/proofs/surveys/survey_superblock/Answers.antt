use Rattle.std.proofs.Common.{◌≡◌, ◌≤◌, ◌<◌, ◌+◌, ◌*◌, arith, refl, ap, sym, subst, ◌∙◌}
use Rattle.heap_model.specs.declared.block.Block.{Block}
use Rattle.heap_model.specs.Geometry.{start_word}
use Rattle.heap_model.specs.Sizes.{IsClass, blocks_of}
use Rattle.super_block.proofs.DivisionLemmas.{nothing_begins, past_the_end}
use Rattle.heap_recover.specs.declared.roles.Role.TheVariants.{Large}
use Rattle.heap_recover.specs.Marked.{IsMarked, AreParted}
use Rattle.heap_recover.proofs.PartLemmas.{first_index, unmarked_if}
use Rattle.heap_recover.proofs.SurveyLemmas.{none_begun, ends_here, free_survey, inside_survey, class_survey, large_survey, large_kept, large_unkept}
use Rattle.heap_recover.proofs.surveys.survey_superblock.Goals as goal
use Rattle.heap_recover.proofs.surveys.survey_superblock.Goals.{else-count-used-via-then-count-used+else-holds, else-count-used-via-else-count-used}

pub returns-in-Nothing : goal.returns-in-Nothing
returns-in-Nothing g c =
    let info = sym c.requires.1.0 in
    let kept = IsMarked c.args.marks.now.pairs in
    let taken = subst (λ n. c.args.d < n) c.requires.1.1.0 c.requires.1.1.1.0 in
    record {
      ok = inside_survey g.layout kept c.requires.1.1.1.1.1.0 c.args.d c.args.end taken c.if-d-end.true c.requires.1.1.1.1.1.1.0
          (λ is. c.in-Nothing.ensures.0 (subst IsClass info is))
          (none_begun g.layout kept c.requires.1.1.1.1.1.0 c.args.d (nothing_begins g.layout c.args.d _ info c.in-Nothing.ensures))
          c.without_blocks.result c.without_blocks.ensures.role c.without_blocks.ensures.held c.without_blocks.ensures.spares
          c.without_blocks.ensures.end;
    }

pub returns-in-Nothing-2 : goal.returns-in-Nothing-2
returns-in-Nothing-2 g c =
    let info = sym c.requires.1.0 in
    let kept = IsMarked c.args.marks.now.pairs in
    let taken = subst (λ n. c.args.d < n) c.requires.1.1.0 c.requires.1.1.1.0 in
    let survey = c.without_blocks-in-Nothing-2 in
    record {
      ok = free_survey g.layout kept c.requires.1.1.1.1.1.0 c.args.d c.args.end taken c.if-d-end.false c.requires.1.1.1.1.1.1.0
          (none_begun g.layout kept c.requires.1.1.1.1.1.0 c.args.d (nothing_begins g.layout c.args.d _ info c.in-Nothing.ensures))
          survey.result survey.ensures.role survey.ensures.held survey.ensures.spares survey.ensures.end;
    }

pub returns-in_ok-parts-in-Class : goal.returns-in_ok-parts-in-Class
returns-in_ok-parts-in-Class g c =
    let kept = IsMarked c.args.marks.now.pairs in
    let taken = subst (λ n. c.args.d < n) c.requires.1.1.0 c.requires.1.1.1.0 in
    let info = sym c.requires.1.0 ∙ c.in-Class.ensures.0 in
    let parts = c.in_ok-parts-in-Class.parts in
    let parted = subst (λ n. AreParted kept n c.in-Class.class.number c.args.d
    (blocks_of c.in-Class.class.number) parts.held.items parts.spares.items) c.requires.0 c.in_ok-parts-in-Class.ensures.ok in
    record {
      ok = class_survey g.layout kept c.requires.1.1.1.1.1.0 c.args.d c.args.end c.in-Class.class taken info c.requires.1.1.1.1.1.1.0
          parts.held.items parts.spares.items parted c.survey_parts.result c.survey_parts.ensures.role c.survey_parts.ensures.held
          c.survey_parts.ensures.end;
    }

pub returns-else-count-used : goal.returns-else-count-used
returns-else-count-used g c =
    let l = g.layout in
    let pairs = c.args.marks.now.pairs in
    let keeps = c.requires.1.1.1.1.1.0 in
    let taken = subst (λ n. c.args.d < n) c.requires.1.1.0 c.requires.1.1.1.0 in
    let info = sym c.requires.1.0 ∙ c.in-Large.ensures.1 in
    let past : c.args.end ≤ c.args.d = ends_here l (IsMarked pairs) keeps c.args.d c.args.end c.requires.1.1.1.1.1.1.0
    (let some = c.in-Large.ensures.0 in omega arith) in
    let block : Block = record { first_word = start_word l.capacity c.args.d; words = 8192 * c.in-Large.count } in
    let survey = c.without_blocks-in-Large in
    record {
      ok = free_survey l (IsMarked pairs) keeps c.args.d c.args.end taken past c.requires.1.1.1.1.1.1.0
          (elim c.else-count-used.branch [
            | else-count-used-via-then-count-used+else-holds w ↦ large_unkept l
                (IsMarked pairs) keeps c.args.d c.in-Large.count taken c.in-Large.ensures.0 info block refl refl
                (λ marked. unmarked_if l pairs c.args.d 0 block w.holds.result (first_index l block c.args.d (keeps.each block marked) refl)
                (w.holds.ensures l c.requires.1.1.1.1.1.1.1) w.if-holds.false marked)
            | else-count-used-via-else-count-used w ↦ none_begun l (IsMarked pairs) keeps c.args.d
                (past_the_end l c.args.d c.in-Large.count info (let less = w.if-count-used.false in omega arith))
          ])
          survey.result survey.ensures.role survey.ensures.held survey.ensures.spares survey.ensures.end;
    }

pub returns-then-holds : goal.returns-then-holds
returns-then-holds g c =
    let l = g.layout in
    let kept = IsMarked c.args.marks.now.pairs in
    let keeps = c.requires.1.1.1.1.1.0 in
    let taken = subst (λ n. c.args.d < n) c.requires.1.1.0 c.requires.1.1.1.0 in
    let info = sym c.requires.1.0 ∙ c.in-Large.ensures.1 in
    let block : Block = record { first_word = c.start.result; words = 8192 * c.in-Large.count } in
    let first : c.start.result ≡ start_word l.capacity c.args.d = c.start.ensures ∙ ap (λ n. start_word n c.args.d) c.requires.0 in
    let here = (c.holds.ensures l c.requires.1.1.1.1.1.1.1).0 c.if-holds.true in
    let is_kept = large_kept l kept keeps c.args.d c.in-Large.count taken c.in-Large.ensures.0 info block first refl
    here.block (record { kind = here.kind; pair = here.pair }) (omega (arith, here.indexed.is_of.at, first)) in
    record {
      ok = large_survey l kept keeps c.args.d c.in-Large.count taken c.in-Large.ensures.0 info c.args.end c.requires.1.1.1.1.1.1.0 block first
          refl is_kept
          (record { role = Large; held = c.in_ok-vec-in-Large.field-0; spares = c.new.result; end = c.args.d + c.in-Large.count })
          refl c.in_ok-vec-in-Large.ensures.items c.new.ensures.items refl;
    }
