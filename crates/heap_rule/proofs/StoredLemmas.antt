-- What is kept of a seat after a store to a word of its own.
use Rattle.std.proofs.Common.{◌≡◌, ◌≢◌, ℕ, zero, suc, ◌<◌, inl, inr, true, false, None, cond, nat_eq, List, [], ◌∷◌, length, refl, ap, sym, subst, ◌∙◌, ne_eqb, arith}
use Rattle.std.proofs.lemmas.Bool.{cases_lt}
use Rattle.core_model.specs.declared.event.Event.TheVariants.{Store}
use Rattle.core_model.specs.Cells.{Cell, used_cell, head_cell, info_cell, anchor_cell, link_cell, root_cell, data_cell, no_cell, cell_at, index_of, is_cell}
use Rattle.core_model.specs.View.{View, times_own}
use Rattle.core_model.specs.Effects.{last_of, learn, stored, used_up}
use Rattle.core_model.specs.Guards.{IsOwn}
use Rattle.core_model.proofs.PlaceLemmas.{cell_at_index, index_at, cell_there}
use Rattle.seat_state.specs.declared.notes.BatchEnds.{BatchEnds}
use Rattle.seat_state.specs.declared.notes.SeatNotes.{SeatNotes}
use Rattle.seat_state.specs.Notes.{HasCaches, HasBatch}
use Rattle.heap_table.specs.Plays.{HasSoundState, IsEvent}
use Rattle.heap_rule.specs.Seated.{Fits, IsKeptOf}
use Rattle.heap_rule.proofs.SeatLemmas.{keep_fits}
use Rattle.seat_index.proofs.ViewBlocks.{block_cell}
use Rattle.seat_state.proofs.EndLemmas.{last_there}

-- no block is the last of none
pub of_none : (bs : List ℕ) → length bs ≡ 0 → last_of bs ≡ 0
of_none [] e = refl
of_none (b ∷ bs) e = absurd (omega arith)

-- an own word that is no block's first word is not that of the batch's last block
not_last : (v : View) → HasSoundState v → (word : ℕ) (cell : Cell) → cell_at v.setup.capacity word ≡ cell → IsOwn v cell
    → ((at : ℕ) → cell ≢ data_cell at) → last_of v.batch.blocks ≢ word
not_last v s word cell is own other last = elim (cases_lt 0 (length v.batch.blocks)) [
  | inl some ↦
      let there = last_there v.batch.blocks some in
      let at : cell_at v.setup.capacity (last_of v.batch.blocks) ≡ data_cell (last_of v.batch.blocks) =
      cell_at_index v.setup.capacity (data_cell (last_of v.batch.blocks)) (block_cell v s (last_of v.batch.blocks) (omega arith)) in
      other (last_of v.batch.blocks) (sym is ∙ ap (cell_at v.setup.capacity) (sym last) ∙ at)
  | inr none ↦ let zero_word : word ≡ 0 = sym last ∙ of_none v.batch.blocks (omega arith) in
      absurd (let o : 0 < times_own v (cell_at v.setup.capacity word) = subst (λ x. 0 < times_own v x) (sym is) own in
      let z : 0 < times_own v (cell_at v.setup.capacity 0) = subst (λ n. 0 < times_own v (cell_at v.setup.capacity n)) zero_word o in omega arith)
]

pub word_stored : (notes : SeatNotes) (v w : View) (word value found : ℕ) (batch : BatchEnds) → IsKeptOf notes v
    → IsEvent (Store word value) v found w → HasSoundState w → IsOwn v (cell_at v.setup.capacity word)
    → batch ≡ record notes.batch { linked = cond (nat_eq word notes.batch.last) false notes.batch.linked }
    → IsKeptOf (record notes { ticket = None; batch = batch }) w
word_stored notes v w word value found batch kept event has own batch_is =
    keep_fits _ _ w event.after has (by_cell (cell_at v.setup.capacity word) refl own) where
      u : View
      u = record (used_up v) { volatile = learn v.volatile word value }

      -- the batch stays
      stays : (cell : Cell) → cell_at v.setup.capacity word ≡ cell → IsOwn v cell → ((at : ℕ) → cell ≢ data_cell at) → HasBatch batch v.batch
      stays cell is own other = subst (λ b. HasBatch b v.batch) (sym batch_is) (record {
        descriptor = kept.batch.descriptor;
        class = kept.batch.class;
        first = kept.batch.first;
        last = kept.batch.last;
        count = kept.batch.count;
        linked = kept.batch.linked ∙ sym (ap (λ b. cond b false notes.batch.linked)
            (ne_eqb word notes.batch.last (λ e. not_last v kept.has word cell is own other (kept.batch.last ∙ sym e))));
      })

      with_notes : (x : View) → x.ticket ≡ None → x.stopped ≡ v.stopped → x.seen_used ≡ v.seen_used → x.seen_head ≡ v.seen_head
          → x.seen_link ≡ v.seen_link → x.seen_anchor ≡ v.seen_anchor → x.caches ≡ v.caches
          → HasBatch batch x.batch → Fits (record notes { ticket = None; batch = batch }) x
      with_notes x ticket stopped seen_used seen_head seen_link seen_anchor caches has_batch = record {
        notes_are = record {
          ticket = ticket;
          stopped = stopped ∙ kept.notes_are.stopped;
          seen_used = seen_used ∙ kept.notes_are.seen_used;
          seen_head = seen_head ∙ kept.notes_are.seen_head;
          seen_link = seen_link ∙ kept.notes_are.seen_link;
          seen_anchor = seen_anchor ∙ kept.notes_are.seen_anchor;
        };
        caches = subst (HasCaches notes.caches) (sym caches) kept.caches;
        batch = has_batch;
      }

      by_anchor : (d n : ℕ) → HasBatch batch v.batch → Fits (record notes { ticket = None; batch = batch }) (stored u (anchor_cell d) n)
      by_anchor d zero b = with_notes _ refl refl refl refl refl refl refl b
      by_anchor d (suc n) b = with_notes _ refl refl refl refl refl refl refl b

      by_cell : (cell : Cell) → cell_at v.setup.capacity word ≡ cell → IsOwn v cell
          → Fits (record notes { ticket = None; batch = batch }) (stored u cell value)
      by_cell used_cell is own = absurd (omega arith)
      by_cell (head_cell list) is own = absurd (omega arith)
      by_cell (info_cell d) is own = with_notes _ refl refl refl refl refl refl refl (stays (info_cell d) is own (λ at e. absurd (cc)))
      by_cell (anchor_cell d) is own = by_anchor d value (stays (anchor_cell d) is own (λ at e. absurd (cc)))
      by_cell (link_cell d) is own = with_notes _ refl refl refl refl refl refl refl (stays (link_cell d) is own (λ at e. absurd (cc)))
      by_cell (root_cell i) is own = with_notes _ refl refl refl refl refl refl refl (stays (root_cell i) is own (λ at e. absurd (cc)))
      by_cell (data_cell at) is own =
          let there : is_cell v.setup.capacity (cell_at v.setup.capacity word) ≡ true =
          elim (cell_there v.setup.capacity word) [
            | inl yes_there ↦ yes_there
            | inr none ↦ absurd
                (let never : data_cell at ≡ no_cell = sym is ∙ none in cc)
          ] in
          let same : at ≡ word = sym (ap index_of is) ∙ index_at v.setup.capacity word there in
          with_notes _ refl refl refl refl refl refl refl (subst (λ b. HasBatch b (stored u (data_cell at) value).batch) (sym batch_is) (record {
            descriptor = kept.batch.descriptor;
            class = kept.batch.class;
            first = kept.batch.first;
            last = kept.batch.last;
            count = kept.batch.count;
            linked = ap (λ n. cond (nat_eq n (last_of v.batch.blocks)) false v.batch.linked) same
                ∙ ap (λ n. cond (nat_eq word n) false v.batch.linked) kept.batch.last
                ∙ ap (λ b. cond (nat_eq word notes.batch.last) false b) kept.batch.linked;
          }))
      by_cell no_cell is own = absurd (omega arith)
