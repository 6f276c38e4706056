use Rattle.std.proofs.Common.{◌≡◌, ◌/◌, ℕ, ap, sym, subst, arith}
use lib.ListN.{take, drop}
use Rattle.std.specs.Slots.{slots_items}
use Rattle.std.proofs.lemmas.Result.{IfOk-weaker}
use Rattle.line_memory.specs.ClosedWords.{ClosedWords}
use Rattle.heap_model.specs.Geometry.{image_words}
use Rattle.heap_table.specs.AtTable.{AreAll, SharedView, IsClosedReached, IsClosedSound}
use Rattle.heap_table.specs.Rule.{Opening, setup_for}
use Rattle.heap_table.proofs.ClosingLemmas.{closed_sound, closed_reached, read_off}
use Rattle.heap_table.proofs.closing.close_table.Goals as goal

pub returns-clause-sound : goal.returns-clause-sound
returns-clause-sound c =
    let o = c.shared.inside.table.shared.key in
    let same : o ≡ c.args.shared.opening = ap (λ (s : SharedView). s.opening) c.shared.view_is in
    let words = slots_items c.close_with-closed.result.words in
    let n : ℕ = c.word_count-length.result / 2 in
    let half : n ≡ image_words (setup_for o).capacity = (let w = c.word_count-length.ensures in let i = c.shared.invariant in omega arith) in
    let count = subst (λ (h : Opening). AreAll h.seats c.args.last.me.0) (sym same) c.requires.all in
    let closed = closed_sound o words (slots_items c.close_with-closed.result.slots)
    c.args.last.id n c.args.last.me.0 c.close_with-closed.ensures.values.2 count half in
    IfOk-weaker _ _ _ (λ (r : ClosedWords) e. read_off (λ h now kept. IsClosedSound (setup_for h) now kept c.args.last.me.0)
    o c.args.shared.opening (take n words) r.now (take n (drop n words)) r.kept same e.0 e.1 closed) c.parts-left.ensures

pub returns-clause-reached : goal.returns-clause-reached
returns-clause-reached c =
    let o = c.shared.inside.table.shared.key in
    let same : o ≡ c.args.shared.opening = ap (λ (s : SharedView). s.opening) c.shared.view_is in
    let words = slots_items c.close_with-closed.result.words in
    let n : ℕ = c.word_count-length.result / 2 in
    let half : n ≡ image_words (setup_for o).capacity = (let w = c.word_count-length.ensures in let i = c.shared.invariant in omega arith) in
    let count = subst (λ (h : Opening). AreAll h.seats c.args.last.me.0) (sym same) c.requires.all in
    let closed = closed_reached o words (slots_items c.close_with-closed.result.slots)
    c.args.last.id n c.args.last.me.0 c.close_with-closed.ensures.values.2 count half in
    IfOk-weaker _ _ _ (λ (r : ClosedWords) e. read_off (λ h now kept. IsClosedReached h now kept c.args.last.me.0) o c.args.shared.opening
    (take n words) r.now (take n (drop n words)) r.kept same e.0 e.1 closed) c.parts-left.ensures
