use Rattle.std.proofs.Common.{◌≡◌, Some, slice_index, ap, subst, ◌∙◌}
use Rattle.std.specs.Prelude.{MatchOption}
use Rattle.heap_model.specs.Header.{capacity_of}
use Rattle.heap_model.specs.Image.{Image}
use Rattle.heap_model.specs.Geometry.{anchor_word}
use Rattle.heap_model.specs.Sizes.{blocks_of}
use Rattle.heap_model.specs.Words.{anchor_state, empty_state}
use Rattle.heap_at_rest.specs.Orderly.{HasOrderlyAnchor, IsHeldByAnchors}
use Rattle.heap_recover.specs.Marked.{AreParted}
use Rattle.quick_recover.specs.Anchored.{TellsFree, IsToldBy}
use Rattle.quick_recover.proofs.ReadLemmas.{read_empty, read_parts}
use Rattle.quick_recover.proofs.superblocks.read_class.Goals as goal

pub returns-in-None : goal.returns-in-None
returns-in-None g c =
    let image = slice_index c.args.words.now in
    let class = c.args.class.number in
    record {
      ok = subst (λ (i : Image). HasOrderlyAnchor i class c.args.d → ⊥) c.requires.0
          (subst (λ o. MatchOption o (HasOrderlyAnchor image class c.args.d → ⊥) (TellsFree image class c.args.d))
          c.in-None.is c.in_ok-free_blocks.ensures.ok);
    }

pub returns-in-Some-All : goal.returns-in-Some-All
returns-in-Some-All g c =
    let image = slice_index c.args.words.now in
    let class = c.args.class.number in
    let survey = c.without_blocks in
    let empty = subst (λ (i : Image). anchor_state (i (anchor_word c.args.d)) ≡ empty_state) c.requires.0
    (subst (λ o. MatchOption o (HasOrderlyAnchor image class c.args.d → ⊥) (TellsFree image class c.args.d)) (c.in-Some-All.is
    ∙ ap Some c.in-Some-All.field-0-is) c.in_ok-free_blocks.ensures.ok) in
    record {
      ok = read_empty g.image c.args.d c.args.end c.requires.1.1.1.1 c.args.class survey.result c.requires.1.1.0.is.taken c.requires.1.1.1.0 empty
          survey.ensures.role survey.ensures.held survey.ensures.spares survey.ensures.end;
    }

pub returns-in_ok-parts-in-Some-Marked : goal.returns-in_ok-parts-in-Some-Marked
returns-in_ok-parts-in-Some-Marked g c =
    let image = slice_index c.args.words.now in
    let class = c.args.class in
    let parts = c.in_ok-parts-in-Some-Marked.parts in
    let survey = c.survey_parts in
    let told = subst (λ (i : Image). IsToldBy i class.number c.args.d c.in-Some-Marked.marks) c.requires.0
    (subst (λ o. MatchOption o (HasOrderlyAnchor image class.number c.args.d → ⊥) (TellsFree image class.number c.args.d)) (c.in-Some-Marked.is
    ∙ ap Some c.in-Some-Marked.field-0-is) c.in_ok-free_blocks.ensures.ok) in
    let capacity = c.requires.1.0.capacity_is ∙ ap capacity_of c.requires.0 in
    record {
      ok = read_parts g.image c.args.d c.args.end c.requires.1.1.1.1 class c.in-Some-Marked.marks parts.held.items parts.spares.items
          survey.result c.requires.1.1.0 c.requires.1.1.1.0 told
          (subst (λ n. AreParted (IsHeldByAnchors g.image) n class.number c.args.d (blocks_of class.number) parts.held.items parts.spares.items)
          capacity c.in_ok-parts-in-Some-Marked.ensures.ok)
          survey.ensures.role survey.ensures.held survey.ensures.end;
    }
