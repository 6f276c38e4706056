use Rattle.std.proofs.Common.{[], ◌∷◌, ◌∙◌, refl, sym, subst}
use Rattle.heap_table.specs.Rule.{HasAllSeats, IsOpened, opening_of, opened_views}
use Rattle.heap_table.proofs.OpeningLemmas.{same_opening, front_is, opened_keeps}
use Rattle.heap_table.proofs.opening.open_table.Goals as goal

pub of_words-requires : goal.of_words-requires
of_words-requires c = let o = opening_of c.args.heap c.args.owners.now c.args.seats c.args.budget in
    let words = front_is c.args.heap.words c.in_ok-table_words.table_words.items c.words-length.result.now c.in_ok-table_words.ensures.ok
    c.words-length.ensures.words in
    let same = same_opening _ o words c.into_parts-held.ensures.held (c.in_ok-block_owners.ensures.items ∙ c.held.ensures)
    (c.in_ok-root_owners.ensures.items ∙ c.roots.ensures) refl refl in
    subst (λ k. HasAllSeats k c.as_slice.result.now (opened_views k ∷ [])) (sym same)
    (opened_keeps o c.as_slice.result.now c.into_parts-held.ensures.ready c.requires.owners c.requires.few c.requires.budget
    (c.as_slice.ensures.value ∙ c.in_ok-table_words.ensures.ok))

pub returns-clause-opened : goal.returns-clause-opened
returns-clause-opened c = let o = opening_of c.args.heap c.args.owners.now c.args.seats c.args.budget in
    let words = front_is c.args.heap.words c.in_ok-table_words.table_words.items c.words-length.result.now c.in_ok-table_words.ensures.ok
    c.words-length.ensures.words in
    let same = same_opening _ o words c.into_parts-held.ensures.held (c.in_ok-block_owners.ensures.items ∙ c.held.ensures)
    (c.in_ok-root_owners.ensures.items ∙ c.roots.ensures) refl refl in
    subst IsOpened (sym (c.in_ok-table.ensures.5 ∙ same)) (opened_keeps o _ c.into_parts-held.ensures.ready c.requires.owners c.requires.few
    c.requires.budget refl)
