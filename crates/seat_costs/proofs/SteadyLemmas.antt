-- What the last looks of a seat that is alone say, from step to step.
use Rattle.std.proofs.Common.{◌≡◌, ◌<◌, ◌≤◌, ℕ, zero, suc, ◌+◌, inl, inr, Bool, true, false, cond, nat_eq, nat_lt, get_or, set, length, List, [], ◌∷◌, Option, None, Some, refl, ap, sym, subst, ◌∙◌, arith}
use Rattle.std.proofs.lemmas.Bool.{cases_eq}
use Rattle.std.proofs.lemmas.List.{get_or-set_same, get_or-set_other}
use Rattle.heap_model.specs.Counting.{times}
use Rattle.heap_model.specs.Geometry.{lists}
use Rattle.heap_model.specs.Words.{full_anchor, head_first}
use Rattle.core_model.specs.declared.event.Event.{Event}
use Rattle.core_model.specs.declared.event.Event.TheVariants.{Tick, Load, Store, Settle, LookUsed, TakeFresh, KeepUsed, LookHead, LookLink, Pop, Push, LookAnchor, TakeAll, Give}
use Rattle.core_model.specs.declared.event.Shift.{Shift}
use Rattle.core_model.specs.declared.event.Shift.TheVariants.{Cut, Alloc, Free, Lift, Large, Split}
use Rattle.core_model.specs.Cells.{Cell, same_cell, used_cell, head_cell, info_cell, anchor_cell, link_cell, root_cell, data_cell, no_cell, cell_at}
use Rattle.core_model.specs.Effects.{before, claimed, cleared, drew, given, look, popped, pushed, pushed_raw, pushed_classed, seen, seen_of, seen_word, stopped, stored, taken_all, taken_fresh, trimmed, won}
use Rattle.core_model.specs.ViewAfter.{shifted}
use Rattle.core_model.specs.Guards.{IsOwn, MayStep}
use Rattle.core_model.specs.Memory.{Memory, head, used, write, with_cell, volatile_at}
use Rattle.core_model.specs.Sound.{Good}
use Rattle.core_model.specs.Steps.{memory_after, seat_after}
use Rattle.core_model.specs.View.{LastLook, Setup, View, no_batch, times_own}
use Rattle.core_model.proofs.FrameLemmas.{with_other}
use Rattle.core_model.proofs.MemoryLemmas.{same-true}
use Rattle.seat_costs.specs.Alone.{IsSteady, Steady}

-- what a look depends on
pub record SeesAs (v w : View) : Type 0 where
  pub used_look : w.used_look ≡ v.used_look
  pub head_looks : w.head_looks ≡ v.head_looks
  pub wins : v.wins ≤ w.wins

steady_then : (v w : View) (look : LastLook) (now now' : ℕ) → v.wins ≤ w.wins → (w.wins ≡ v.wins → now' ≡ now) → IsSteady v look now
    → IsSteady w look now'
steady_then v w look now now' more same is = record {
  least = let l = is.least in omega arith;
  same = λ there e. same (let l = is.least in omega arith) ∙ is.same there (let l = is.least in omega arith);
}

-- words that are not changed unless an exchange is won
pub keeps_steady : (m m' : Memory) (v w : View) → SeesAs v w → (w.wins ≡ v.wins → used m' ≡ used m)
    → ((list : ℕ) → w.wins ≡ v.wins → head m' list ≡ head m list) → Steady m v → Steady m' w
keeps_steady m m' v w sees used_same heads steady = record {
  used_is = subst (λ l. IsSteady w l (used m')) (sym sees.used_look)
      (steady_then v w v.used_look (used m) (used m') sees.wins used_same steady.used_is);
  heads = λ list less. subst (λ l. IsSteady w l (head m' list)) (sym (ap (λ l. get_or l list w.used_look) sees.head_looks
      ∙ ap (λ l. get_or v.head_looks list l) sees.used_look))
      (steady_then v w (get_or v.head_looks list v.used_look) (head m list) (head m' list) sees.wins (heads list) (steady.heads list less));
}

shift_sees : (m : Memory) (v u : View) (shift : Option Shift) → SeesAs v u → SeesAs v (shifted m u shift)
shift_sees m v u None s = s
shift_sees m v u (Some (Cut d)) s = record { used_look = s.used_look; head_looks = s.head_looks; wins = s.wins }
shift_sees m v u (Some (Alloc class)) s = record { used_look = s.used_look; head_looks = s.head_looks; wins = s.wins }
shift_sees m v u (Some (Free block)) s = record { used_look = s.used_look; head_looks = s.head_looks; wins = s.wins }
shift_sees m v u (Some (Lift class)) s = record { used_look = s.used_look; head_looks = s.head_looks; wins = s.wins }
shift_sees m v u (Some (Large d n)) s = record { used_look = s.used_look; head_looks = s.head_looks; wins = s.wins }
shift_sees m v u (Some (Split block)) s = record { used_look = s.used_look; head_looks = s.head_looks; wins = s.wins }

draw_sees : (m : Memory) (v : View) (shift : Option Shift) (found : ℕ) (below : Bool)
    → SeesAs v (cond below (shifted m (drew v found) shift) (stopped v found))
draw_sees m v shift found true = shift_sees m v (drew v found) shift (record { used_look = refl; head_looks = refl; wins = omega arith })
draw_sees m v shift found false = record { used_look = refl; head_looks = refl; wins = omega arith }

store_sees : (v u : View) (cell : Cell) (value : ℕ) → SeesAs v u → SeesAs v (stored u cell value)
store_sees v u used_cell value s = s
store_sees v u (head_cell list) value s = s
store_sees v u (info_cell d) value s = s
store_sees v u (anchor_cell d) zero s = record { used_look = s.used_look; head_looks = s.head_looks; wins = s.wins }
store_sees v u (anchor_cell d) (suc n) s = record { used_look = s.used_look; head_looks = s.head_looks; wins = s.wins }
store_sees v u (link_cell d) value s = s
store_sees v u (root_cell i) value s = s
store_sees v u (data_cell word) value s = record { used_look = s.used_look; head_looks = s.head_looks; wins = s.wins }
store_sees v u no_cell value s = s

same_value : (f : Cell → ℕ) (at : Cell) (cell : Cell) → with_cell f at (f at) cell ≡ f cell
same_value f at cell = by_test (same_cell cell at) refl where
  by_test : (test : Bool) → same_cell cell at ≡ test → cond test (f at) (f cell) ≡ f cell
  by_test true e = ap f (sym (same-true cell at e))
  by_test false e = refl

-- an own word is neither the mark nor a head
own_other : (v : View) (at : Cell) → IsOwn v at → (cell : Cell) → times_own v cell ≡ 0 → cell ≡ at → ⊥
own_other v at own cell none same = let e = ap (times_own v) same in omega arith

module _ (m : Memory) (v : View) (steady : Steady m v) where
  -- a step that works on a word which it leaves, or whose change is a win
  by_exchange : (at : Cell) (test : Bool) (a : View) (b : View) (x : ℕ) → SeesAs v a → v.wins < a.wins → SeesAs v b
      → Steady (write m (volatile_at at) (cond test x (m.volatile at))) (cond test a b)
  by_exchange at true a b x sees_a more sees_b = keeps_steady m (write m (volatile_at at) x) v a sees_a (λ e. absurd (omega arith))
      (λ list e. absurd (omega arith)) steady
  by_exchange at false a b x sees_a more sees_b = keeps_steady m (write m (volatile_at at) (m.volatile at)) v b sees_b
      (λ e. same_value m.volatile at used_cell) (λ list e. same_value m.volatile at (head_cell list)) steady

  look_used_steady : (found : ℕ) → found ≡ used m → (w : View) → w.used_look ≡ look v found → w.head_looks ≡ v.head_looks → w.wins ≡ v.wins
      → ((list : ℕ) → list < lists → list < length v.head_looks) → Steady m w
  look_used_steady found is w look_is heads wins long = record {
    used_is = subst (λ l. IsSteady w l (used m)) (sym look_is) (record { least = omega arith; same = λ there e. sym is });
    heads = λ list less. subst (λ l. IsSteady w l (head m list)) (sym (ap (λ l. get_or l list w.used_look) heads
        ∙ in_range v.head_looks list w.used_look v.used_look (long list less)))
        (steady_then v w (get_or v.head_looks list v.used_look) (head m list) (head m list) (omega arith) (λ e. refl) (steady.heads list less));
  } where
    in_range : (xs : List LastLook) (i : ℕ) (a b : LastLook) → i < length xs → get_or xs i a ≡ get_or xs i b
    in_range [] i a b less = absurd (omega arith)
    in_range (x ∷ xs) zero a b less = refl
    in_range (x ∷ xs) (suc i) a b less = in_range xs i a b (omega arith)

  look_head_steady : (list found : ℕ) → found ≡ head m list → (w : View) → w.used_look ≡ v.used_look
      → w.head_looks ≡ set v.head_looks list (look v found) → w.wins ≡ v.wins → list < length v.head_looks → Steady m w
  look_head_steady list found is w used_same looks wins less = record {
    used_is = subst (λ l. IsSteady w l (used m)) (sym used_same) (steady_then v w v.used_look (used m) (used m) (omega arith)
        (λ e. refl) steady.used_is);
    heads = λ k below. elim (cases_eq k list) as (λ _. IsSteady w (get_or w.head_looks k w.used_look) (head m k)) [
      | inl same ↦ subst (λ l. IsSteady w l (head m k)) (sym (ap (λ l. get_or l k w.used_look) looks
          ∙ ap (λ n. get_or (set v.head_looks list (look v found)) n w.used_look) same
          ∙ get_or-set_same v.head_looks list (look v found) w.used_look less))
          (record { least = omega arith; same = λ there e. ap (head m) same ∙ sym is })
      | inr other ↦ subst (λ l. IsSteady w l (head m k)) (sym (ap (λ l. get_or l k w.used_look) looks
          ∙ get_or-set_other v.head_looks list k (look v found) w.used_look other ∙ ap (λ l. get_or v.head_looks k l) used_same))
          (steady_then v w (get_or v.head_looks k v.used_look) (head m k) (head m k) (omega arith) (λ e. refl) (steady.heads k below))
    ];
  }

-- a look leaves the word
looks_steady : (m : Memory) (at : Cell) (w : View) → Steady m w → Steady (write m (volatile_at at) (m.volatile at)) w
looks_steady m at w steady = record {
  used_is = subst (λ n. IsSteady w w.used_look n) (sym (same_value m.volatile at used_cell)) steady.used_is;
  heads = λ list less. subst (λ n. IsSteady w (get_or w.head_looks list w.used_look) n) (sym (same_value m.volatile at (head_cell list)))
      (steady.heads list less);
}

claim_sees : (list d : ℕ) (v u : View) → SeesAs v u → SeesAs v (claimed u d list)
claim_sees zero d v u s = record { used_look = s.used_look; head_looks = s.head_looks; wins = s.wins }
claim_sees (suc class) d v u s = record { used_look = s.used_look; head_looks = s.head_looks; wins = s.wins }

claim_wins : (list d : ℕ) (u : View) → (claimed u d list).wins ≡ u.wins
claim_wins zero d u = refl
claim_wins (suc class) d u = refl

push_sees : (test : Bool) (v : View) (d : ℕ) → SeesAs v (cond test (pushed_raw v d) (pushed_classed v d))
    × (v.wins < (cond test (pushed_raw v d) (pushed_classed v d)).wins)
push_sees true v d = (record { used_look = refl; head_looks = refl; wins = omega arith }, omega arith)
push_sees false v d = (record { used_look = refl; head_looks = refl; wins = omega arith }, omega arith)

give_sees : (test : Bool) (v : View) (d : ℕ) → SeesAs v (trimmed
    (cond test (claimed (record (won v) { batch = no_batch; seen_anchor = None; gives = v.gives + 1 }) d v.batch.class)
    (record (won v) { batch = no_batch; seen_anchor = None; gives = v.gives + 1 })))
    × (v.wins < (trimmed (cond test (claimed (record (won v) { batch = no_batch; seen_anchor = None; gives = v.gives + 1 }) d v.batch.class)
    (record (won v) { batch = no_batch; seen_anchor = None; gives = v.gives + 1 }))).wins)
give_sees true v d = (
  let s = claim_sees v.batch.class d v (record (won v) { batch = no_batch; seen_anchor = None; gives = v.gives + 1 })
      (record { used_look = refl; head_looks = refl; wins = omega arith }) in
      record { used_look = s.used_look; head_looks = s.head_looks; wins = s.wins },
  let e = claim_wins v.batch.class d (record (won v) { batch = no_batch; seen_anchor = None; gives = v.gives + 1 }) in omega arith,
)
give_sees false v d = (record { used_look = refl; head_looks = refl; wins = omega arith }, omega arith)

pub looks_say : (k : Setup) (m : Memory) (v : View) (event : Event) → Good k m (v ∷ []) → MayStep m v event → Steady m v
    → Steady (memory_after m v event) (seat_after m v event)
looks_say k m v (Tick shift) good may steady = keeps_steady m (memory_after m v (Tick shift)) v (seat_after m v (Tick shift))
    (draw_sees m v shift m.drawn (nat_lt m.drawn v.setup.budget)) (λ e. refl) (λ list e. refl) steady
looks_say k m v (Load word) good may steady = looks_steady m (cell_at v.setup.capacity word) (seat_after m v (Load word))
    (keeps_steady m m v (seat_after m v (Load word)) (record { used_look = refl; head_looks = refl; wins = omega arith }) (λ e. refl)
    (λ list e. refl) steady)
looks_say k m v (Store word value) good may steady = keeps_steady m (memory_after m v (Store word value)) v (seat_after m v (Store word value))
    (store_sees v _ (cell_at v.setup.capacity word) value (record { used_look = refl; head_looks = refl; wins = omega arith }))
    (λ e. with_other m.volatile (cell_at v.setup.capacity word) value used_cell
    (own_other v (cell_at v.setup.capacity word) may.ready.0 used_cell refl))
    (λ list e. with_other m.volatile (cell_at v.setup.capacity word) value (head_cell list)
    (own_other v (cell_at v.setup.capacity word) may.ready.0 (head_cell list) refl)) steady
looks_say k m v (Settle word) good may steady = keeps_steady m (memory_after m v (Settle word)) v (seat_after m v (Settle word))
    (record { used_look = refl; head_looks = refl; wins = omega arith }) (λ e. refl) (λ list e. refl) steady
looks_say k m v LookUsed good may steady = looks_steady m used_cell (seat_after m v LookUsed)
    (look_used_steady m v steady (used m) refl (seat_after m v LookUsed) refl refl refl
    (λ list less. let long = (good.set_up 0 v (omega arith) refl).looks in omega arith))
looks_say k m v (TakeFresh n) good may steady = by_exchange m v steady used_cell (nat_eq (used m) (seen v.seen_used)) (taken_fresh v n) _
    (used m + n) (record { used_look = refl; head_looks = refl; wins = omega arith }) (omega arith)
    (record { used_look = refl; head_looks = refl; wins = omega arith })
looks_say k m v KeepUsed good may steady = keeps_steady m (memory_after m v KeepUsed) v (seat_after m v KeepUsed)
    (record { used_look = refl; head_looks = refl; wins = omega arith }) (λ e. refl) (λ list e. refl) steady
looks_say k m v (LookHead list) good may steady = looks_steady m (head_cell list) (seat_after m v (LookHead list))
    (look_head_steady m v steady list (head m list) refl (seat_after m v (LookHead list)) refl refl refl
    (let less = may.ready in let long = (good.set_up 0 v (omega arith) refl).looks in omega arith))
looks_say k m v LookLink good may steady = looks_steady m (link_cell (before (head_first (seen_word v.seen_head)))) (seat_after m v LookLink)
    (keeps_steady m m v (seat_after m v LookLink) (record { used_look = refl; head_looks = refl; wins = omega arith }) (λ e. refl)
    (λ list e. refl) steady)
looks_say k m v Pop good may steady = by_exchange m v steady (head_cell (seen_of v.seen_head))
    (nat_eq (head m (seen_of v.seen_head)) (seen_word v.seen_head)) (popped v (before (head_first (seen_word v.seen_head)))) _ _
    (claim_sees (seen_of v.seen_head) _ v _ (record { used_look = refl; head_looks = refl; wins = omega arith }))
    (let e = claim_wins (seen_of v.seen_head) (before (head_first (seen_word v.seen_head)))
    (record (won v) {
      seen_head = None;
      seen_link = None;
      seen_anchor =
          cleared (before (head_first (seen_word v.seen_head))) 1 v.seen_anchor;
    }) in
    omega arith) (record { used_look = refl; head_looks = refl; wins = omega arith })
looks_say k m v (Push d) good may steady = let p = push_sees (nat_lt 0 (times d v.raw + times d v.split)) v d in
    by_exchange m v steady (head_cell (seen_of v.seen_head)) (nat_eq (head m (seen_of v.seen_head)) (seen_word v.seen_head))
    (pushed v d) _ _ p.0 p.1 (record { used_look = refl; head_looks = refl; wins = omega arith })
looks_say k m v (LookAnchor d) good may steady = looks_steady m (anchor_cell d) (seat_after m v (LookAnchor d))
    (keeps_steady m m v (seat_after m v (LookAnchor d)) (record { used_look = refl; head_looks = refl; wins = omega arith }) (λ e. refl)
    (λ list e. refl) steady)
looks_say k m v (TakeAll d) good may steady = by_exchange m v steady (anchor_cell d)
    (nat_eq (m.volatile (anchor_cell d)) (seen_word v.seen_anchor)) (taken_all m v d) _ _
    (record { used_look = refl; head_looks = refl; wins = omega arith }) (omega arith)
    (record { used_look = refl; head_looks = refl; wins = omega arith })
looks_say k m v (Give d) good may steady = let p = give_sees (nat_eq (seen_word v.seen_anchor) full_anchor) v d in
    by_exchange m v steady (anchor_cell d) (nat_eq (m.volatile (anchor_cell d)) (seen_word v.seen_anchor)) (given v d) _ _ p.0 p.1
    (record { used_look = refl; head_looks = refl; wins = omega arith })
