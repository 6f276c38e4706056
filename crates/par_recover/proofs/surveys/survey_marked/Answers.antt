use Rattle.std.proofs.Common.{◌<◌, subst, sym, ◌∙◌}
use Rattle.heap_model.specs.Sizes.{blocks_of}
use Rattle.heap_recover.specs.Marked.{IsMarked, AreParted}
use Rattle.heap_recover.proofs.SurveyLemmas.{class_survey}
use Rattle.par_recover.proofs.surveys.survey_marked.Goals as goal

pub returns-in_ok-parts-in-Class : goal.returns-in_ok-parts-in-Class
returns-in_ok-parts-in-Class g c =
    let kept = IsMarked c.args.marks.now.pairs in
    let taken = subst (λ n. c.args.d < n) c.requires.1.1.0 c.requires.1.1.1.0 in
    let info = sym c.requires.1.0 ∙ c.in-Class.ensures.0 in
    let parts = c.in_ok-parts-in-Class.parts in
    let parted = subst (λ n. AreParted kept n c.in-Class.class.number c.args.d
    (blocks_of c.in-Class.class.number) parts.held.items parts.spares.items) c.requires.0 c.in_ok-parts-in-Class.ensures.ok in
    record {
      ok = class_survey g.layout kept c.requires.1.1.1.1.1.0 c.args.d c.args.end c.in-Class.class taken info c.requires.1.1.1.1.1.1.0
          parts.held.items parts.spares.items parted c.survey_parts.result c.survey_parts.ensures.role c.survey_parts.ensures.held
          c.survey_parts.ensures.end;
    }
