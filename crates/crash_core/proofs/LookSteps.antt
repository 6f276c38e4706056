-- The steps of the core that read a shared word.
use Rattle.std.proofs.Common.{◌≡◌, ◌≢◌, ℕ, ◌+◌, ◌-◌, max, ap₂, ◌<◌, true, List, get_or, set, length, None, Some, refl, ap, sym, subst, ◌∙◌, lt-ltb, arith}
use Rattle.std.specs.Vec.{with_item}
use Rattle.heap_model.specs.Geometry.{lists, image_words, link_word}
use Rattle.heap_model.specs.Words.{head_first}
use Rattle.core_model.specs.declared.answer.StepAnswer.TheVariants.{Done, NotNow}
use Rattle.core_model.specs.declared.event.Event.TheVariants.{LookUsed, LookHead, LookLink, LookAnchor, KeepUsed}
use Rattle.seat_state.specs.declared.notes.SeatNotes.{SeatNotes}
use Rattle.seat_state.specs.declared.notes.Seen.{Seen}
use Rattle.crash_core.specs.declared.state.CoreState.{CoreState}
use Rattle.core_model.specs.Cells.{used_cell, head_cell, link_cell, anchor_cell, is_cell}
use Rattle.core_model.specs.Memory.{anchor, volatile_at, memory_of}
use Rattle.core_model.specs.View.{Setup, View, one_if_some}
use Rattle.core_model.specs.Effects.{seen, seen_word, before}
use Rattle.core_model.specs.Guards.{IsThere, MayLookAt}
use Rattle.crash_core.specs.Standing.{IsSeatAt, IsKept, KeepsViews, Steps, memory_at}
use Rattle.seat_state.specs.Notes.{snapshot}
use Rattle.core_model.proofs.QuietLemmas.{not_there}
use Rattle.crash_core.proofs.StandingLemmas.{step_noted, step_not, memory_in}
use Rattle.crash_core.proofs.KeptFacts as facts
use Rattle.seat_state.proofs.WordLemmas.{entry_is, read_is, put_back}
use Rattle.core_model.proofs.ListLemmas.{before_is}

module _ (c : CoreState) (k : Setup) (views : List View) (i : ℕ) (v : View) (t : SeatNotes) (keeps : KeepsViews c k views)
    (below : i < length views) (at : get_or views i v ≡ v)
    (at_t : IsSeatAt c i t) (going : v.stopped ≡ None) where
  kept : IsKept c i t v
  kept = keeps.each i t v below at_t at

  pub look_used : IsThere v.ticket → (word : ℕ) → word ≡ get_or c.words.items 8 word
      → Steps c (record c { seats = with_item c.seats i (record t { ticket = None; seen_used = Some word }) }) k views i v LookUsed Done
  look_used ticket word is = step_noted c k views i v t (record t { ticket = None; seen_used = Some word })
      c.words LookUsed keeps below at at_t going ticket tt tt going
      (sym (put_back k.capacity c.words.items (volatile_at used_cell) refl))
      (let n = kept.notes in record {
        ticket = refl;
        stopped = n.stopped;
        seen_used = ap Some (entry_is c.words.items 8 0 word (let l = keeps.sound.long in omega arith) ∙ sym is);
        seen_head = n.seen_head;
        seen_link = n.seen_link;
        seen_anchor = n.seen_anchor;
      }) refl refl refl

  pub look_head : IsThere v.ticket → (list word : ℕ) → list < lists → word ≡ get_or c.words.items (16 + list) word
      → Steps c (record c {
        seats = with_item c.seats i (record t {
          ticket = None;
          seen_head = Some (record { of = list; word = word });
          seen_link = None;
        });
      }) k views i v (LookHead list) Done
  look_head ticket list word is_list is = step_noted c k views i v t
      (record t { ticket = None; seen_head = Some (record { of = list; word = word }); seen_link = None }) c.words (LookHead list)
      keeps below at at_t going ticket is_list tt going
      (sym (put_back k.capacity c.words.items (volatile_at (head_cell list)) there))
      (let n = kept.notes in record {
        ticket = refl;
        stopped = n.stopped;
        seen_used = n.seen_used;
        seen_head = ap (λ x. Some (record { of = list; word = x })) found;
        seen_link = refl;
        seen_anchor = n.seen_anchor;
      }) refl refl refl where
        there : is_cell k.capacity (head_cell list) ≡ true
        there = lt-ltb list lists is_list

        found : (memory_in c k).volatile (head_cell list) ≡ word
        found = read_is k.capacity c.words.items (volatile_at (head_cell list)) there
            ∙ entry_is c.words.items (16 + list) 0 word (let l = keeps.sound.long in omega arith) ∙ sym is

  -- where nothing was seen, or the list is empty
  pub no_link : t.seen_head ≡ None → Steps c c k views i v LookLink NotNow
  no_link none = step_not c k views i v LookLink (λ may _. not_there (subst IsThere (kept.notes.seen_head ∙ ap snapshot none) may.is_seen))

  pub empty_list : (head : Seen) → t.seen_head ≡ Some head → head_first head.word ≡ 0 → Steps c c k views i v LookLink NotNow
  empty_list head some none = step_not c k views i v LookLink (λ may _. may.some
      (ap (λ x. head_first (seen_word x)) (kept.notes.seen_head ∙ ap snapshot some) ∙ none))

  pub look_link : IsThere v.ticket → (head : Seen) → t.seen_head ≡ Some head → head_first head.word ≢ 0 → (word : ℕ)
      → word ≡ get_or c.words.items (link_word (head_first head.word - 1)) word
      → Steps c (record c { seats = with_item c.seats i (record t { ticket = None; seen_link = Some word }) }) k views i v LookLink Done
  look_link ticket head some more word is = step_noted c k views i v t
      (record t { ticket = None; seen_link = Some word }) c.words LookLink keeps below at at_t going ticket
      (record {
        is_seen = ap one_if_some (facts.saw c k views i v t keeps below at at_t head some);
        some = subst (λ x. head_first (seen_word x) ≢ 0) (sym (facts.saw c k views i v t keeps below at at_t head some)) more;
      }) tt going
      (sym (put_back k.capacity c.words.items (volatile_at (link_cell d)) there))
      (let n = kept.notes in record {
        ticket = refl;
        stopped = n.stopped;
        seen_used = n.seen_used;
        seen_head = n.seen_head;
        seen_link = ap Some found;
        seen_anchor = n.seen_anchor;
      }) refl refl refl where
        d : ℕ
        d = before (head_first (seen_word v.seen_head))

        d_is : d ≡ head_first head.word - 1
        d_is = ap (λ x. before (head_first (seen_word x))) (facts.saw c k views i v t keeps below at at_t head some)
            ∙ before_is (head_first head.word) more

        less : d < k.capacity
        less = let f = facts.first_below c k views i v t keeps below at at_t head some more in let cap = keeps.capacity in let e = d_is in omega arith

        there : is_cell k.capacity (link_cell d) ≡ true
        there = lt-ltb d k.capacity less

        found : (memory_in c k).volatile (link_cell d) ≡ word
        found = read_is k.capacity c.words.items (volatile_at (link_cell d)) there
            ∙ entry_is c.words.items (link_word d) 0 word (let l = keeps.sound.long in let f = less in omega arith)
            ∙ ap (λ n. get_or c.words.items (link_word n) word) d_is ∙ sym is

  pub no_keep : t.seen_used ≡ None → Steps c c k views i v KeepUsed NotNow
  no_keep none = step_not c k views i v KeepUsed (λ may _. not_there (subst IsThere (kept.notes.seen_used ∙ none) may))

  pub keep_used : IsThere v.ticket → (used mark at_word word : ℕ) → t.seen_used ≡ Some used → at_word ≡ image_words k.capacity + 8
      → mark ≡ get_or c.words.items at_word mark → word ≡ max mark used
      → Steps c (record c { words = with_item c.words at_word word; seats = with_item c.seats i (record t { ticket = None }) })
      k views i v KeepUsed Done
  keep_used ticket used mark at_word word some here is word_is = step_noted c k views i v t (record t { ticket = None })
      (with_item c.words at_word word) KeepUsed keeps below at at_t going ticket
      (subst IsThere (sym saw_used) refl) tt going
      (ap₂ (λ n x. set c.words.items n x) here
      (word_is ∙ ap₂ max (is ∙ entry_is c.words.items at_word mark 0 (let l = keeps.sound.long in omega arith)
      ∙ ap (λ n. get_or c.words.items n 0) here) (sym (ap seen saw_used))))
      (let n = kept.notes in record {
        ticket = refl;
        stopped = n.stopped;
        seen_used = n.seen_used;
        seen_head = n.seen_head;
        seen_link = n.seen_link;
        seen_anchor = n.seen_anchor;
      }) refl refl refl where
        saw_used : v.seen_used ≡ Some used
        saw_used = kept.notes.seen_used ∙ some

  pub look_anchor : IsThere v.ticket → (d word : ℕ) → MayLookAt v d → d < c.geometry.capacity → word ≡ anchor (memory_at c) d
      → Steps c (record c { seats = with_item c.seats i (record t { ticket = None; seen_anchor = Some (record { of = d; word = word }) }) })
      k views i v (LookAnchor d) Done
  look_anchor ticket d word may less is = step_noted c k views i v t
      (record t { ticket = None; seen_anchor = Some (record { of = d; word = word }) }) c.words (LookAnchor d)
      keeps below at at_t going ticket may tt going
      (sym (put_back k.capacity c.words.items (volatile_at (anchor_cell d)) (lt-ltb d k.capacity (let cap = keeps.capacity in omega arith))))
      (let n = kept.notes in record {
        ticket = refl;
        stopped = n.stopped;
        seen_used = n.seen_used;
        seen_head = n.seen_head;
        seen_link = n.seen_link;
        seen_anchor = ap (λ x. Some (record { of = d; word = x })) (ap (λ n. anchor (memory_of n c.words.items) d) keeps.capacity ∙ sym is);
      }) refl refl refl
