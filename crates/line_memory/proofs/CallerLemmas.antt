-- What each call leaves, for callers of a memory: no call but a store adds a value, and a store adds only its own.
use Rattle.std.proofs.Common.{◌≡◌, ℕ, ◌/◌, ◌%◌, ◌<◌, ◌⊎◌, if◌then◌else◌, slice_get, ne_eqb, List, [], ◌∷◌, length, get_or, set, refl, sym, ◌∙◌, ap, subst, arith, Contains, inl, inr, suc, zero, None, Some, Option, get_or-set_same, get_or-set_other, length-set, Result, Ok, Err, OnOk, IfErr}
use Rattle.std.specs.Option.{option_map_or}
use Rattle.std.proofs.lemmas.Bool.{cases_eq, cases_lt}
use Rattle.std.proofs.lemmas.Grind.{get_or-set_at}
use Rattle.std.proofs.lemmas.List.{set_past}
use Rattle.line_memory.specs.View.{View, volatile_at, word_count}
use Rattle.line_memory.specs.Crash.{IsValueOf, OnlyWritesBack, AddsNothing, MayLeaveStore}
use Rattle.line_memory.specs.Steps.{TakesBy, RefusesBy, IsLoad, IsStore, IsWriteBack, IsFence, after_draw, written_back, early_word}

-- a list has the number or hasn't
pub contains_or_not : (xs : List ℕ) (x : ℕ) → Contains xs x ⊎ (Contains xs x → ⊥)
contains_or_not [] x = inr (λ h. absurd (omega (arith, h.1)))
contains_or_not (y ∷ ys) x =
    elim (cases_eq y x) [
      | inl e ↦ inl (0, omega arith, e)
      | inr ne ↦
          elim (contains_or_not ys x) [
            | inl h ↦ inl (suc h.0, omega (arith, h.1), h.2)
            | inr no_tail ↦ inr (λ h. not_at y ys x ne no_tail h.0 h.1 h.2)
          ]
    ]
  where
    not_at : (y : ℕ) (ys : List ℕ) (x : ℕ) → (y ≡ x → ⊥) → (Contains ys x → ⊥) → (k : ℕ) → k < length (y ∷ ys) → get_or (y ∷ ys) k x ≡ x → ⊥
    not_at y ys x ne no_tail zero l e = ne e
    not_at y ys x ne no_tail (suc k) l e = no_tail (k, omega arith, e)

-- a word written back is what it was or what loads see
written_cases : (volatile durable : List ℕ) (word other : ℕ) → (get_or
    (set durable word (get_or volatile word 0)) other 0 ≡ get_or durable other 0) ⊎
    (get_or (set durable word (get_or volatile word 0)) other 0 ≡ get_or volatile other 0)
written_cases volatile durable word other =
    elim (cases_eq other word) [
      | inl e ↦
          elim (cases_lt word (length durable)) [
            | inl l ↦ inr (get_or-set_at durable word other (get_or volatile word 0) 0 e l ∙ ap (λ (k : ℕ). get_or volatile k 0) (sym e))
            | inr past ↦ inl (ap (λ (xs : List ℕ). get_or xs other 0) (set_past durable word (get_or volatile word 0) past))
          ]
      | inr ne ↦ inl (get_or-set_other durable word other (get_or volatile word 0) 0 ne)
    ]

-- and so with the word that a draw writes back, if there is one
early_cases : (early : Option ℕ) (volatile durable : List ℕ) (other : ℕ)
    → (get_or (option_map_or (written_back volatile durable) early durable) other 0 ≡ get_or durable other 0) ⊎
    (get_or (option_map_or (written_back volatile durable) early durable) other 0 ≡ get_or volatile other 0)
early_cases None volatile durable other = inl refl
early_cases (Some word) volatile durable other = written_cases volatile durable word other

-- a draw adds nothing
pub draw_adds : (r : ℕ) (v : View) → AddsNothing v (after_draw r v)
draw_adds r v =
    record { volatile = refl; durable = λ word. early_cases (early_word r v.recent) v.volatile v.durable word }

-- what adds nothing, twice
pub adds_then : (v u w : View) → AddsNothing v u → AddsNothing u w → AddsNothing v w
adds_then v u w a b =
    record {
      volatile = b.volatile ∙ a.volatile;
      durable = λ word.
          elim (b.durable word) [
            | inl e ↦ value_moved v word _ _ (sym e) (a.durable word)
            | inr e ↦ inr (e ∙ ap (λ (x : List ℕ). get_or x word 0) a.volatile)
          ];
    }
  where
    value_moved : (v : View) (word x y : ℕ) → x ≡ y → IsValueOf v word x → IsValueOf v word y
    value_moved v word x y e h = subst (λ (z : ℕ). IsValueOf v word z) e h

-- a view that is another
same_adds : (v w : View) → w ≡ v → AddsNothing v w
same_adds v w e = subst (λ (x : View). AddsNothing v x) (sym e) (record { volatile = refl; durable = λ word. inl refl })

pub load_adds : (gives : ℕ → Type 0) (word value : ℕ) (v w : View) → TakesBy gives (IsLoad word value) v w → AddsNothing v w
load_adds gives word value v w t =
    subst (λ (x : View). AddsNothing v x) (sym t.done.unchanged) (draw_adds t.number v)

-- the durable words stay
durable_stays : (v w : View) → w.volatile ≡ v.volatile → w.durable ≡ v.durable → AddsNothing v w
durable_stays v w e d = record { volatile = e; durable = λ word. inl (ap (λ (x : List ℕ). get_or x word 0) d) }

pub write_back_adds : (gives : ℕ → Type 0) (line : ℕ) (v w : View) → TakesBy gives (IsWriteBack line) v w → AddsNothing v w
write_back_adds gives line v w t =
    adds_then v (after_draw t.number v) w (draw_adds t.number v) (durable_stays (after_draw t.number v) w t.done.volatile t.done.durable)

-- a fence makes durable what loads see
fence_only : (v w : View) → IsFence v w → AddsNothing v w
fence_only v w f =
    record {
      volatile = f.volatile;
      durable = λ word.
          elim (contains_or_not v.pending word) [
            | inl h ↦ inr (f.durable word h)
            | inr h ↦ inl (f.others word h)
          ];
    }

pub fence_adds : (gives : ℕ → Type 0) (v w : View) → TakesBy gives IsFence v w → AddsNothing v w
fence_adds gives v w t =
    adds_then v (after_draw t.number v) w (draw_adds t.number v) (fence_only (after_draw t.number v) w t.done)

pub refused_adds : (gives : ℕ → Type 0) (ticket : ℕ) (v w : View) → RefusesBy gives ticket v w → AddsNothing v w
refused_adds gives ticket v w h =
    elim h [
      | inl had ↦ same_adds v w had.unchanged
      | inr stops ↦
          adds_then v (after_draw stops.number v) w (draw_adds stops.number v)
          (durable_stays (after_draw stops.number v) w (ap (λ (x : View). x.volatile) stops.done) (ap (λ (x : View). x.durable) stops.done))
    ]

-- a refused call leaves the memory stopped at its ticket
pub refused_stopped : (gives : ℕ → Type 0) (ticket : ℕ) (v w : View) → RefusesBy gives ticket v w → w.stopped ≡ Some ticket
refused_stopped gives ticket v w h =
    elim h [
      | inl had ↦ ap (λ (x : View). x.stopped) had.unchanged ∙ had.stopped
      | inr stops ↦ ap (λ (x : View). x.stopped) stops.done
    ]

-- a running memory with a ticket below its budget doesn't refuse
pub allowed_not_refused : (gives : ℕ → Type 0) (ticket : ℕ) (v w : View) → v.stopped ≡ None → v.drawn < v.budget → RefusesBy gives ticket v w → ⊥
allowed_not_refused gives ticket v w running allowed h =
    elim h [
      | inl had ↦ let e = had.stopped in absurd (cc)
      | inr stops ↦ absurd (omega (arith, stops.above))
    ]

-- what adds nothing stores nothing
pub adds_may_store : (word value : ℕ) (v w : View) → AddsNothing v w → MayLeaveStore word value v w
adds_may_store word value v w a =
    record {
      words = ap (λ (x : List ℕ). length x) a.volatile;
      others = λ other _. ap (λ (x : List ℕ). get_or x other 0) a.volatile;
      others_durable = λ other _. a.durable other;
      seen = inr (ap (λ (x : List ℕ). get_or x word 0) a.volatile);
      left = inr (a.durable word);
    }

pub store_leaves : (gives : ℕ → Type 0) (word value : ℕ) (v w : View) → TakesBy gives (IsStore word value) v w → OnlyWritesBack v w
store_leaves gives word value v w t = λ other.
    subst (λ (x : List ℕ). IsValueOf v other (get_or x other 0)) (sym t.done.durable) ((draw_adds t.number v).durable other)

pub store_may_store : (gives : ℕ → Type 0) (word value : ℕ) (v w : View) → word < word_count v → TakesBy gives (IsStore word value) v w
    → MayLeaveStore word value v w
store_may_store gives word value v w l t =
    record {
      words = ap (λ (x : List ℕ). length x) t.done.volatile ∙ length-set v.volatile word value;
      others = λ other ne. ap (λ (x : List ℕ). get_or x other 0) t.done.volatile ∙ get_or-set_other v.volatile word other value 0 ne;
      others_durable = λ other _. store_leaves gives word value v w t other;
      seen = inl (ap (λ (x : List ℕ). get_or x word 0) t.done.volatile ∙ get_or-set_same v.volatile word value 0 l);
      left = inr (store_leaves gives word value v w t word);
    }

-- a store, and then what adds nothing
pub may_store_then : (word value : ℕ) (v u w : View) → MayLeaveStore word value v u → AddsNothing u w → MayLeaveStore word value v w
may_store_then word value v u w m a =
    let stays : volatile_at w word ≡ volatile_at u word = ap (λ (x : List ℕ). get_or x word 0) a.volatile in
    record {
      words = ap (λ (x : List ℕ). length x) a.volatile ∙ m.words;
      others = λ other ne. ap (λ (x : List ℕ). get_or x other 0) a.volatile ∙ m.others other ne;
      others_durable = λ other ne.
          elim (a.durable other) [
            | inl e ↦ subst (λ (z : ℕ). IsValueOf v other z) (sym e) (m.others_durable other ne)
            | inr e ↦ inr (e ∙ m.others other ne)
          ];
      seen = elim m.seen [ inl e ↦ inl (stays ∙ e) | inr e ↦ inr (stays ∙ e) ];
      left = elim (a.durable word) [
        | inl e ↦ elim m.left [ inl x ↦ inl (e ∙ x) | inr y ↦ inr (subst (λ (z : ℕ). IsValueOf v word z) (sym e) y) ]
        | inr e ↦ elim m.seen [ inl x ↦ inl (e ∙ x) | inr y ↦ inr (inr (e ∙ y)) ]
      ];
    }

-- what holds at `Ok` and at `Err`
pub at_both : {T E : Type 0} (r : Result T E) (P : Type 0) → OnOk r P → IfErr r (λ _. P) → P
at_both (Ok x) P a b = a
at_both (Err e) P a b = b

-- a draw of an even number writes nothing back
pub even_settles_none : (r : ℕ) (v : View) → (r % 2 ≡ 1 → ⊥) → (after_draw r v).durable ≡ v.durable
even_settles_none r v even =
    ap (λ b. option_map_or (written_back v.volatile v.durable) (if b then slice_get v.recent (r / 2 % 16) else None) v.durable) (ne_eqb (r % 2) 1 even)
