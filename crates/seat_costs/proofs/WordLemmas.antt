-- What is recorded of words, from step to step.
use Rattle.std.proofs.Common.{◌≡◌, ◌≢◌, ◌<◌, ◌≤◌, ℕ, ◌+◌, inl, inr, get_or, List, Option, None, Some, refl, ap, sym, subst, ◌∙◌, lt-ltb, arith}
use Rattle.std.proofs.lemmas.Bool.{cases_eq}
use Rattle.std.proofs.lemmas.List.{get_or-set_same, get_or-set_other}
use Rattle.heap_model.specs.Counting.{times}
use Rattle.core_model.specs.declared.event.Event.TheVariants.{Settle}
use Rattle.core_model.specs.Cells.{Cell, used_cell, head_cell, info_cell, anchor_cell, link_cell, root_cell, data_cell, no_cell, cell_at}
use Rattle.core_model.specs.Effects.{learn, trimmed}
use Rattle.core_model.proofs.PlaceLemmas.{cell_at_index}
use Rattle.heap_model.specs.Geometry.{anchor_word, info_word, link_word, superblock_of}
use Rattle.core_model.specs.Memory.{memory_of}
use Rattle.core_model.specs.View.{Setup, View, known, times_own, times_in_classes, times_large}
use Rattle.heap_rule.specs.Fences.{Owns}
use Rattle.heap_table.specs.Plays.{HasSoundState, IsEvent}
use Rattle.heap_rule.proofs.RawLemmas.{volatile_long, durable_long}
use Rattle.heap_rule.proofs.RecordLemmas.{only_at}
use Rattle.heap_rule.proofs.SettleLemmas.{own_below, own_index, own_there}
use Rattle.heap_rule.proofs.ViewLemmas.{shown}
use Rattle.seat_costs.specs.Words.{IsDurableAt, IsHeldWord, KeepsWord, MayBe, left_at, seen_at, times_held}

-- nothing changes
pub word_same : (v w : View) (word : ℕ) → seen_at w word ≡ seen_at v word → left_at w word ≡ left_at v word → KeepsWord v w word
word_same v w word volatile durable = record {
  volatile = λ value is. volatile ∙ is;
  durable = λ value may. inr (subst (λ o. MayBe o value) durable may);
}

-- one after the other
pub word_then : (u v w : View) (word : ℕ) → KeepsWord u v word → KeepsWord v w word → KeepsWord u w word
word_then u v w word p q = record {
  volatile = λ value is. q.volatile value (p.volatile value is);
  durable = λ value may. elim (q.durable value may) [
    | inl seen ↦ inl (still (seen_at u word) refl value seen)
    | inr left ↦ p.durable value left
  ];
} where
  still : (o : Option ℕ) → seen_at u word ≡ o → (value : ℕ) → MayBe (seen_at v word) value → MayBe o value
  still None none value may = tt
  still (Some x) some value may = subst (λ p. MayBe p value) (p.volatile x some) may

-- what is durable stays so, as long as the word is not stored to
pub durable_then : (v w : View) (word : ℕ) → KeepsWord v w word → IsDurableAt v word → IsDurableAt w word
durable_then v w word keeps durable = record {
  value = durable.value;
  seen = keeps.volatile durable.value durable.seen;
  left = by_left (left_at w word) refl;
} where
  one : (value : ℕ) → MayBe (left_at w word) value → value ≡ durable.value
  one value may = elim (keeps.durable value may) [
    | inl seen ↦ subst (λ o. MayBe o value) durable.seen seen
    | inr left ↦ subst (λ o. MayBe o value) durable.left left
  ]

  by_left : (o : Option ℕ) → left_at w word ≡ o → left_at w word ≡ Some durable.value
  by_left None none = absurd (let e = one (durable.value + 1) (subst (λ o. MayBe o (durable.value + 1)) (sym none) tt) in omega arith)
  by_left (Some x) some = some ∙ ap Some (one x (subst (λ o. MayBe o x) (sym some) refl))

-- a held word is own
pub held_own : (v : View) (cell : Cell) → times_held v cell ≤ times_own v cell
held_own v used_cell = omega arith
held_own v (head_cell list) = omega arith
held_own v (info_cell d) = omega arith
held_own v (anchor_cell d) = omega arith
held_own v (link_cell d) = omega arith
held_own v (root_cell i) = omega arith
held_own v (data_cell word) = omega arith
held_own v no_cell = omega arith

pub owns_held : (v : View) (word : ℕ) → IsHeldWord v word → Owns v word
owns_held v word held = let most = held_own v (cell_at v.setup.capacity word) in omega arith

-- where the same is held, the same words are
held_same : (v w : View) (cell : Cell) → w.setup ≡ v.setup → w.small ≡ v.small → w.large ≡ v.large → w.roots ≡ v.roots
    → times_held w cell ≡ times_held v cell
held_same v w used_cell setup small large roots = refl
held_same v w (head_cell list) setup small large roots = refl
held_same v w (info_cell d) setup small large roots = refl
held_same v w (anchor_cell d) setup small large roots = refl
held_same v w (link_cell d) setup small large roots = refl
held_same v w (root_cell i) setup small large roots = ap (times i) roots
held_same v w (data_cell word) setup small large roots =
    ap (λ l. times_in_classes word 0 l + times_large (superblock_of w.setup.capacity word) w.large) small
    ∙ ap (λ l. times_in_classes word 0 v.small + times_large (superblock_of w.setup.capacity word) l) large
    ∙ ap (λ (k : Setup). times_in_classes word 0 v.small + times_large (superblock_of k.capacity word) v.large) setup
held_same v w no_cell setup small large roots = refl

pub still_held : (v w : View) → w.setup ≡ v.setup → w.small ≡ v.small → w.large ≡ v.large → w.roots ≡ v.roots → (word : ℕ) → IsHeldWord v word
    → IsHeldWord w word
still_held v w setup small large roots word held =
    let same : times_held w (cell_at w.setup.capacity word) ≡ times_held v (cell_at v.setup.capacity word) =
    held_same v w (cell_at w.setup.capacity word) setup small large roots ∙ ap (λ (k : Setup). times_held v (cell_at k.capacity word)) setup in
    omega arith

-- an own word by its place
pub at_cell : (v : View) (word : ℕ) → Owns v word → (values : List (Option ℕ)) → known values (cell_at v.setup.capacity word) ≡ get_or values word None
at_cell v word own values = ap (λ n. get_or values n None) (own_index v word own)

-- what was recorded of an own word is so
pub word_shown : (v : View) (s : HasSoundState v) (word value : ℕ) → Owns v word → seen_at v word ≡ Some value
    → (memory_of v.setup.capacity s.words).volatile (cell_at v.setup.capacity word) ≡ value
word_shown v s word value own is = shown v s (cell_at v.setup.capacity word) value (own_there v word own) (at_cell v word own v.volatile ∙ is)

-- a word that is settled, and the others
module _ (v w : View) (word found : ℕ) (event : IsEvent (Settle word) v found w) where
  abbrev x : ℕ
  x = (memory_of v.setup.capacity event.before.words).volatile (cell_at v.setup.capacity word)

  here_seen : seen_at w word ≡ Some x
  here_seen = ap (λ (u : View). seen_at u word) event.after
      ∙ get_or-set_same v.volatile word (Some x) None (let l = volatile_long v event.before in let b = own_below v word event.may.ready in omega arith)

  here_left : left_at w word ≡ Some x
  here_left = ap (λ (u : View). left_at u word) event.after
      ∙ get_or-set_same v.durable word (Some x) None (let l = durable_long v event.before in let b = own_below v word event.may.ready in omega arith)

  pub settled_word : (k : ℕ) → Owns v k → KeepsWord v w k
  settled_word k own = elim (cases_eq k word) as (λ _. KeepsWord v w k) [
    | inl same ↦ subst (KeepsWord v w) (sym same) (record {
      volatile = λ value is. here_seen ∙ ap Some (word_shown v event.before word value event.may.ready is);
      durable = λ value may. inl (by_seen (seen_at v word) refl value (subst (λ o. MayBe o value) here_left may));
    })
    | inr other ↦ word_same v w k
        (ap (λ (u : View). seen_at u k) event.after ∙ get_or-set_other v.volatile word k (Some x) None other)
        (ap (λ (u : View). left_at u k) event.after ∙ get_or-set_other v.durable word k (Some x) None other)
  ] where
    by_seen : (o : Option ℕ) → seen_at v word ≡ o → (value : ℕ) → value ≡ x → MayBe o value
    by_seen None none value is = tt
    by_seen (Some y) some value is = is ∙ word_shown v event.before word y event.may.ready some

-- an own word of a trimmed view
pub trimmed_word : (v : View) (word : ℕ) → Owns v word → KeepsWord v (trimmed v) word
trimmed_word v word own = word_same v (trimmed v) word
    (only_at v 0 word v.volatile (subst (λ j. 0 < times_own v (cell_at v.setup.capacity j)) (let e : word ≡ 0 + word = omega arith in e) own))
    (only_at v 0 word v.durable (subst (λ j. 0 < times_own v (cell_at v.setup.capacity j)) (let e : word ≡ 0 + word = omega arith in e) own))

-- a word that is loaded is recorded, and the others stay
pub learned_word : (v : View) (s : HasSoundState v) (word value : ℕ) → Owns v word
    → value ≡ (memory_of v.setup.capacity s.words).volatile (cell_at v.setup.capacity word)
    → (k : ℕ) → KeepsWord v (record v { volatile = learn v.volatile word value }) k
learned_word v s word value own is k = elim (cases_eq k word) as (λ _. KeepsWord v (record v { volatile = learn v.volatile word value }) k) [
  | inl same ↦ record {
    volatile = λ x was. subst (λ n. get_or (learn v.volatile word value) n None ≡ Some x) (sym same)
        (get_or-set_same v.volatile word (Some value) None (let l = volatile_long v s in let b = own_below v word own in omega arith)
        ∙ ap Some (is ∙ word_shown v s word x own (subst (λ n. seen_at v n ≡ Some x) same was)));
    durable = λ x may. inr may;
  }
  | inr other ↦ word_same v (record v { volatile = learn v.volatile word value }) k (get_or-set_other v.volatile word k (Some value) None other) refl
]

-- another word that is stored
pub stored_other : (v : View) (word value k : ℕ) → k ≢ word → KeepsWord v (record v { volatile = learn v.volatile word value }) k
stored_other v word value k other = word_same v (record v { volatile = learn v.volatile word value }) k
    (get_or-set_other v.volatile word k (Some value) None other) refl

-- the words of a descriptor by what they are
module _ (capacity d : ℕ) (inside : d < capacity) where
  pub info_at : cell_at capacity (info_word d) ≡ info_cell d
  info_at = cell_at_index capacity (info_cell d) (lt-ltb d capacity inside)

  pub anchor_at : cell_at capacity (anchor_word d) ≡ anchor_cell d
  anchor_at = cell_at_index capacity (anchor_cell d) (lt-ltb d capacity inside)

  pub link_at : cell_at capacity (link_word d) ≡ link_cell d
  link_at = cell_at_index capacity (link_cell d) (lt-ltb d capacity inside)
