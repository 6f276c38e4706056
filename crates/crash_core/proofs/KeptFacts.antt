-- What is so of a seat of a state that the core stands for.
use Rattle.std.proofs.Common.{◌≡◌, ◌≢◌, ℕ, ◌-◌, ◌<◌, ◌≤◌, List, get_or, length, None, Some, ap, sym, subst, ◌∙◌, arith}
use Rattle.heap_model.specs.Rest.{list_numbers}
use Rattle.heap_model.specs.Geometry.{lists}
use Rattle.heap_model.specs.Words.{head_first, head_pops}
use Rattle.seat_state.specs.declared.notes.SeatNotes.{SeatNotes}
use Rattle.seat_state.specs.declared.notes.Seen.{Seen}
use Rattle.crash_core.specs.declared.state.CoreState.{CoreState}
use Rattle.core_model.specs.Cells.{head_cell}
use Rattle.core_model.specs.Memory.{memory_of, table_length}
use Rattle.core_model.specs.View.{Setup, View, one_if_some}
use Rattle.core_model.specs.Effects.{seen_word, seen_of}
use Rattle.core_model.specs.Guards.{IsThere}
use Rattle.crash_core.specs.Standing.{IsSeatAt, IsKept, IsCore, KeepsViews}
use Rattle.seat_state.specs.Notes.{snapshot}
use Rattle.core_model.proofs.QuietLemmas.{not_there}
use Rattle.core_model.proofs.TotalLemmas.{total_at}
use Rattle.core_model.proofs.ListLemmas.{number_once}
use Rattle.seat_state.proofs.WordLemmas.{entry_there}
use Rattle.seat_state.proofs.CountLemmas.{total_member}
use Rattle.crash_core.proofs.StandingLemmas.{among}

module _ (c : CoreState) (k : Setup) (views : List View) (i : ℕ) (v : View) (t : SeatNotes) (keeps : KeepsViews c k views)
    (below : i < length views) (at : get_or views i v ≡ v)
    (at_t : IsSeatAt c i t) where
  pub kept : IsKept c i t v
  kept = keeps.each i t v below at_t at

  pub saw : (head : Seen) → t.seen_head ≡ Some head → v.seen_head ≡ Some (record { of = head.of; word = head.word })
  saw head some = kept.notes.seen_head ∙ ap snapshot some

  -- the first descriptor of the list is one
  pub first_below : (head : Seen) → t.seen_head ≡ Some head → head_first head.word ≢ 0 → head_first head.word - 1 < c.geometry.capacity
  first_below head some more = let is = saw head some in let knows = (keeps.sound.good.knows i v below at).seen_head (ap one_if_some is) in
      let small = knows.small in let same : head_first (seen_word v.seen_head) ≡ head_first head.word = ap (λ x. head_first (seen_word x)) is in
      let cap = keeps.capacity in omega arith

  -- what the core has not seen the seat has not
  pub unseen_head : t.seen_head ≡ None → IsThere v.seen_head → ⊥
  unseen_head none there = not_there (sym (ap one_if_some (kept.notes.seen_head ∙ ap snapshot none)) ∙ there)

  pub unseen_link : t.seen_link ≡ None → IsThere v.seen_link → ⊥
  unseen_link none there = not_there (sym (ap one_if_some (kept.notes.seen_link ∙ none)) ∙ there)

  pub unseen_used : t.seen_used ≡ None → IsThere v.seen_used → ⊥
  unseen_used none there = not_there (sym (ap one_if_some (kept.notes.seen_used ∙ none)) ∙ there)

  pub unseen_anchor : t.seen_anchor ≡ None → IsThere v.seen_anchor → ⊥
  unseen_anchor none there = not_there (sym (ap one_if_some (kept.notes.seen_anchor ∙ ap snapshot none)) ∙ there)

  pub saw_anchor : (word : Seen) → t.seen_anchor ≡ Some word → v.seen_anchor ≡ Some (record { of = word.of; word = word.word })
  saw_anchor word some = kept.notes.seen_anchor ∙ ap snapshot some

-- what fits of a seat of a core
pub record HeadFits (c : CoreState) (head : Seen) : Type 0 where
  pub list : head.of < lists
  pub first : head_first head.word ≤ c.geometry.capacity
  pub long : length c.words.items ≡ table_length c.geometry.capacity
  pub superblocks : length c.superblocks.items ≡ c.geometry.capacity

pub head_fits : (c : CoreState) (i : ℕ) (t : SeatNotes) (head : Seen) → IsCore c → i < length c.seats.items → IsSeatAt c i t
    → t.seen_head ≡ Some head → HeadFits c head
head_fits c i t head core less at_t some =
    let below : i < length core.views = among core.keeps less in
    let here = entry_there core.views i below in
    let is = saw c core.setup core.views i here.0 t core.keeps below here.1 at_t head some in
    let knows = (core.keeps.sound.good.knows i here.0 below here.1).seen_head (ap one_if_some is) in
    let l = core.keeps.sound.long in let cap = core.keeps.capacity in let small = knows.small in let s = core.keeps.superblocks in
    let same : head_first (seen_word here.0.seen_head) ≡ head_first head.word = ap (λ x. head_first (seen_word x)) is in
    record {
      list = subst (λ x. seen_of x < lists) is knows.is_list;
      first = omega arith;
      long = omega arith;
      superblocks = omega arith;
    }

-- a head that is as it was seen, and whose link was read, has a first descriptor, and may count one pop more
pub record PopFits (head : Seen) : Type 0 where
  pub some : head_first head.word ≢ 0
  pub pops : head_pops head.word < 1099511627775

pub pop_fits : (c : CoreState) (i : ℕ) (t : SeatNotes) (head : Seen) (link : ℕ) → IsCore c → i < length c.seats.items → IsSeatAt c i t
    → t.seen_head ≡ Some head → t.seen_link ≡ Some link → IsThere t.ticket → PopFits head
pop_fits c i t head link core less at_t some some_link ticket =
    let below : i < length core.views = among core.keeps less in
    let here = entry_there core.views i below in
    let is = saw c core.setup core.views i here.0 t core.keeps below here.1 at_t head some in
    let notes = (core.keeps.each i t here.0 below at_t here.1).notes in
    let knows = (core.keeps.sound.good.knows i here.0 below here.1).seen_head (ap one_if_some is) in
    let linked = knows.linked (ap one_if_some (notes.seen_link ∙ some_link)) in
    let b = core.keeps.sound.good.adds.budget in
    let tickets = total_at (λ (x : View). one_if_some x.ticket) core.views i here.0 below here.1 in
    let mine = ap one_if_some notes.ticket in
    let one = total_member (λ l. head_pops (head_at c core.setup l)) (seen_of here.0.seen_head) list_numbers
    (let n = number_once (seen_of here.0.seen_head) knows.is_list in omega arith) in
    let low = core.keeps.low in let p = knows.pops in
    let same : head_pops (seen_word here.0.seen_head) ≡ head_pops head.word = ap (λ x. head_pops (seen_word x)) is in
    record { some = subst (λ x. head_first (seen_word x) ≢ 0) is linked.0; pops = omega arith } where
      head_at : CoreState → Setup → ℕ → ℕ
      head_at c k l = (memory_of k.capacity c.words.items).volatile (head_cell l)
