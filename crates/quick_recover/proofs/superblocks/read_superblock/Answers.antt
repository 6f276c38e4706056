use Rattle.std.proofs.Common.{◌+◌, ◌*◌, ◌<◌, slice_index, refl, ap, sym, subst, ◌∙◌}
use Rattle.std.proofs.lemmas.Bool.{false≢true}
use Rattle.heap_model.specs.declared.block.Block.{Block}
use Rattle.heap_model.specs.Geometry.{start_word}
use Rattle.heap_model.specs.Sizes.{IsClass}
use Rattle.heap_model.specs.Blocks.{layout_of}
use Rattle.heap_at_rest.specs.Orderly.{HasOrderlyAnchor}
use Rattle.super_block.proofs.DivisionLemmas.{nothing_begins}
use Rattle.heap_recover.specs.declared.roles.Role.TheVariants.{Large}
use Rattle.quick_recover.proofs.ReadLemmas.{read_freed, read_inside, read_large, no_use, bad_anchor, not_whole, class_answer}
use Rattle.quick_recover.proofs.superblocks.read_superblock.Goals as goal

pub returns-then-get : goal.returns-then-get
returns-then-get c =
    let image = slice_index c.args.words.now in
    let taken = subst (λ n. c.args.d < n) c.requires.readable.used_is c.requires.taken in
    let survey = c.without_blocks in
    record {
      ok = read_freed image c.args.d c.args.end c.requires.goes_on c.args.free.now c.requires.listed taken survey.result (sym c.get.ensures
          ∙ c.if-get.true)
          survey.ensures.role survey.ensures.held survey.ensures.spares survey.ensures.end;
    }

pub returns-then-d-end : goal.returns-then-d-end
returns-then-d-end c =
    let image = slice_index c.args.words.now in
    let taken = subst (λ n. c.args.d < n) c.requires.readable.used_is c.requires.taken in
    let info = ap image (sym c.info.ensures) in
    let survey = c.without_blocks-then-d-end in
    record {
      ok = read_inside image c.args.d c.args.end c.requires.goes_on c.args.free.now c.requires.listed taken (sym c.get.ensures
          ∙ c.if-get.false) survey.result c.if-d-end.true
          (λ is. c.in-Nothing.ensures.0 (subst IsClass info is)) (nothing_begins (layout_of image) c.args.d _ info c.in-Nothing.ensures)
          survey.ensures.role survey.ensures.held survey.ensures.spares survey.ensures.end;
    }

pub returns-else-d-end : goal.returns-else-d-end
returns-else-d-end c =
    let image = slice_index c.args.words.now in
    let taken = subst (λ n. c.args.d < n) c.requires.readable.used_is c.requires.taken in
    let info = ap image (sym c.info.ensures) in
    record {
      ok = no_use image c.args.d c.args.end c.requires.goes_on c.args.free.now c.requires.listed taken (sym c.get.ensures
          ∙ c.if-get.false) c.if-d-end.false
          (λ is. c.in-Nothing.ensures.0 (subst IsClass info is)) (nothing_begins (layout_of image) c.args.d _ info c.in-Nothing.ensures);
    }

pub returns-in-Class : goal.returns-in-Class
returns-in-Class c =
    let image = slice_index c.args.words.now in
    let taken = subst (λ n. c.args.d < n) c.requires.readable.used_is c.requires.taken in
    let class = c.in-Class.class in
    let info = ap image (sym c.info.ensures) ∙ c.in-Class.ensures.0 in
    record {
      ok = class_answer image c.args.d (HasOrderlyAnchor image class.number c.args.d → ⊥)
          (bad_anchor image c.args.d c.args.end c.requires.goes_on c.args.free.now c.requires.listed taken (sym c.get.ensures
          ∙ c.if-get.false) class.number class.is info)
          c.read_class.result c.read_class.ensures.ok;
    }

pub returns-then-not-is_whole : goal.returns-then-not-is_whole
returns-then-not-is_whole c =
    let image = slice_index c.args.words.now in
    let taken = subst (λ n. c.args.d < n) c.requires.readable.used_is c.requires.taken in
    let info = ap image (sym c.info.ensures) ∙ c.in-Large.ensures.1 in
    record {
      ok = not_whole image c.args.d c.args.end c.requires.goes_on c.args.free.now c.requires.listed taken (sym c.get.ensures
          ∙ c.if-get.false) c.in-Large.count c.in-Large.ensures.0 info
          (λ whole. false≢true (sym c.if-not-is_whole.true ∙ c.is_whole.ensures.1 whole));
    }

pub returns-in_ok-vec-in-Large : goal.returns-in_ok-vec-in-Large
returns-in_ok-vec-in-Large c =
    let image = slice_index c.args.words.now in
    let taken = subst (λ n. c.args.d < n) c.requires.readable.used_is c.requires.taken in
    let info = ap image (sym c.info.ensures) ∙ c.in-Large.ensures.1 in
    let block : Block = record { first_word = c.start.result; words = 8192 * c.in-Large.count } in
    record {
      ok = read_large image c.args.d c.args.end c.requires.goes_on c.args.free.now c.requires.listed taken (sym c.get.ensures
          ∙ c.if-get.false) c.in-Large.count c.in-Large.ensures.0 info
          (record { role = Large; held = c.in_ok-vec-in-Large.field-0; spares = c.new.result; end = c.args.d + c.in-Large.count }) block
          (c.is_whole.ensures.0 c.if-not-is_whole.false) (c.start.ensures ∙ ap (λ n. start_word n c.args.d) c.requires.readable.capacity_is) refl
          refl c.in_ok-vec-in-Large.ensures.items c.new.ensures.items refl;
    }
