use Rattle.std.proofs.Common.{List, ℕ, Some, IsSomeAnd, sym, subst, slice_index, length}
use Rattle.dict_model.specs.Links.{dict_links, kind_count}
use Rattle.heap_recover.specs.InPlace.{IsRecoveryOf}
use Rattle.image_run.specs.Rebuilding.{RebuildAsks}
use Rattle.tool_run.specs.Making.{Rebuilds}
use Rattle.tool_run.proofs.RebuildLemmas.{recovery_of_words, rebuild_asks, rebuilds_named}
use Rattle.tool_run.proofs.ReadingLemmas.{not_err, stands}
use Rattle.tool_run.specs.declared.fault.Fault.TheVariants.{ReadFault}
use Rattle.tool_run.proofs.rebuilding.rebuild_named.Goals as goal

pub rebuild_image-requires-after_bounds : goal.rebuild_image-requires-after_bounds
rebuild_image-requires-after_bounds g c lifetimes live =
    let both = c.in_ok-words in
    subst (λ (ws : List ℕ). IsRecoveryOf (Some kind_count) ws dict_links both.recovered.heap.words both.recovered.heap.held) (sym c.deref.ensures.value)
    (recovery_of_words (g.I.ImageStore.contents c.args.images.now) c.args.name.now both.words.items both.recovered both.ensures.ok)

pub returns-clause-ok : goal.returns-clause-ok
returns-clause-ok g c =
    let both = c.in_ok-words in
    rebuilds_named (g.I.ImageStore.contents c.args.images.now) c.args.name.now both.words.items both.recovered both.ensures.ok c.args.budget
    c.in_ok-product.product.image c.in_ok-product.product.text
    (subst (λ (ws : List ℕ). IsSomeAnd c.in_ok-product.product.image
    (λ image. Rebuilds (slice_index ws) (length ws) c.args.budget image c.in_ok-product.product.text))
    c.deref.ensures.value c.in_ok-product.ensures.ok)

pub returns-clause-asked : goal.returns-clause-asked
returns-clause-asked g c =
    let both = c.in_ok-words in
    let product = c.in_ok-product.product in
    rebuild_asks (g.I.ImageStore.contents c.args.images.now) c.args.name.now both.words.items both.recovered both.ensures.ok
    g.C.Chances.seed_gives g.C.Chances.chance_gives g.C.One.Chance.draw_gives g.C.Chances.word_gives c.args.budget c.args.seed _ _ product.image
    product.text
    (subst (λ (ws : List ℕ). IsSomeAnd product.image (λ image. RebuildAsks g.C.Chances.seed_gives g.C.Chances.chance_gives
    g.C.One.Chance.draw_gives g.C.Chances.word_gives
    (slice_index ws) c.args.budget c.args.seed image product.text c.args.chances.now c.rebuild_image.new.chances))
    c.deref.ensures.value c.in_ok-product.ensures.asked)

pub returns-in_err-words-clause-store_steady : goal.returns-in_err-words-clause-store_steady
returns-in_err-words-clause-store_steady g c =
    stands _ _ _ c.from_residual.result c.in_err-words.field-0.0 ReadFault c.from_residual.ensures (λ fault is. is) c.in_err-words.ensures.store_steady

pub returns-in_err-product-clause-store_steady : goal.returns-in_err-product-clause-store_steady
returns-in_err-product-clause-store_steady g c other = c.in_ok-words.ensures.store_steady (not_err _ _)

pub returns-clause-store_steady : goal.returns-clause-store_steady
returns-clause-store_steady g c other = c.in_ok-words.ensures.store_steady (not_err _ _)
