-- A schedule is read in one way.
use Rattle.std.proofs.Common.{◌≡◌, ℕ, ◌+◌, ◌^◌, ◌<◌, nat_eq, inl, inr, cond, Option, Some, None, List, [], ◌∷◌, ◌++◌, codes, decimal, refl, sym, ap, subst, ◌∙◌, arith, append_assoc}
use Rattle.std.proofs.lemmas.List.{append-nil}
use Rattle.std.proofs.lemmas.List.Elements.{All-nil, All-cons, All-head, All-tail}
use Rattle.std.specs.Cmp.Lexicographic.{pointwise}
use Rattle.std.specs.List.{All}
use Rattle.std.specs.Prelude.{option_map}
use Rattle.core_model.specs.declared.event.Event.{Event}
use Rattle.core_model.specs.declared.event.Event.TheVariants.{Tick, Load, Store, Settle, LookUsed, TakeFresh, KeepUsed, LookHead, LookLink, Pop, Push, LookAnchor, TakeAll, Give}
use Rattle.core_model.specs.declared.event.Shift.{Shift}
use Rattle.core_model.specs.declared.event.Shift.TheVariants.{Cut, Alloc, Free, Lift, Large, Split}
use Rattle.trace_text.specs.declared.schedule.Schedule.{Schedule}
use Rattle.trace_text.specs.Lines.{lines_of, AreWritten}
use Rattle.trace_text.specs.Numbers.{IsNumber}
use Rattle.trace_text.specs.Schedule.{parts_of, spaced, IsEventWords, IsStepLine, IsSeatsLine, IsSchedule, IsFirstBad, IsBadStep}
use Rattle.trace_text.proofs.EventLemmas.{IsWord, short_parts, each_is_short}
use Rattle.trace_text.proofs.NumberLemmas.{number_has_no, one_number}
use Rattle.trace_text.proofs.PieceLemmas.{same_parts, has_separator}
use Rattle.trace_text.proofs.ParseStepLemmas.{step_parts, seats_number}
use Rattle.trace_text.proofs.WrittenLemmas.{one_list, written_or_outside, one_outside}

-- the same words are the same verb and the same numbers
abbrev Fit : List ℕ → Type 0
Fit numbers = All (λ n. n < 2 ^ 64) numbers

same_words : (v w m n : List ℕ) → IsWord v → IsWord w → Fit m → Fit n → v ++ spaced m ≡ w ++ spaced n → (v ≡ w) × (m ≡ n)
same_words v w [] [] is_v is_w fit_m fit_n same = (sym (append-nil v) ∙ same ∙ append-nil w, refl)
same_words v w [] (k ∷ n) is_v is_w fit_m fit_n same =
    absurd (has_separator 32 w (decimal k ++ spaced n) (subst (λ l. IsWord l) (sym (append-nil v) ∙ same) is_v))
same_words v w (j ∷ m) [] is_v is_w fit_m fit_n same =
    absurd (has_separator 32 v (decimal j ++ spaced m) (subst (λ l. IsWord l) (sym (append-nil w) ∙ sym same) is_w))
same_words v w (j ∷ m) (k ∷ n) is_v is_w fit_m fit_n same =
    let parts = same_parts 32 v w (decimal j ++ spaced m) (decimal k ++ spaced n) is_v is_w same in
    let j_fits : j < 2 ^ 64 = All-head (λ i. i < 2 ^ 64) j m fit_m in
    let k_fits : k < 2 ^ 64 = All-head (λ i. i < 2 ^ 64) k n fit_n in
    let rest =
    same_words (decimal j) (decimal k) m n (number_has_no 32 (decimal j) j (omega arith) (j_fits, refl))
    (number_has_no 32 (decimal k) k (omega arith) (k_fits, refl))
    (All-tail (λ i. i < 2 ^ 64) j m fit_m) (All-tail (λ i. i < 2 ^ 64) k n fit_n) parts.1 in
    (parts.0, ap (λ i. i ∷ m) (one_number (decimal j) j k (j_fits, refl) (k_fits, rest.0)) ∙ ap (λ l. k ∷ l) rest.1)

-- each verb with its event
unfoldable pub find : {A : Type 0} → List ℕ → List (List ℕ × A) → Option A
find verb [] = None
find verb (row ∷ rows) = cond (pointwise nat_eq row.0 verb) (Some row.1) (find verb rows)

unfoldable pub of_none : List (List ℕ × Event)
of_none = (codes "tick", Tick None) ∷ (codes "look-used", LookUsed) ∷ (codes "keep", KeepUsed) ∷ (codes "link", LookLink) ∷ (codes "pop", Pop) ∷ []

abbrev pub draw : Shift → Event
draw shift = Tick (Some shift)

unfoldable pub of_one : List (List ℕ × (ℕ → Event))
of_one =
    (codes "cut", λ n. draw (Cut n)) ∷ (codes "alloc", λ n. draw (Alloc n)) ∷ (codes "free", λ n. draw (Free n)) ∷ (codes "lift", λ n. draw (Lift n))
    ∷ (codes "split", λ n. draw (Split n)) ∷ (codes "load", λ n. Load n) ∷ (codes "settle", λ n. Settle n) ∷ (codes "take", λ n. TakeFresh n)
    ∷ (codes "head", λ n. LookHead n) ∷ (codes "push", λ n. Push n) ∷ (codes "anchor", λ n. LookAnchor n) ∷ (codes "take-all", λ n. TakeAll n)
    ∷ (codes "give", λ n. Give n) ∷ []

unfoldable pub of_two : List (List ℕ × (ℕ → ℕ → Event))
of_two = (codes "large", λ m n. draw (Large m n)) ∷ (codes "store", λ m n. Store m n) ∷ []

unfoldable pub event_by : List ℕ → List ℕ → Option Event
event_by verb [] = find verb of_none
event_by verb (n ∷ []) = option_map (λ f. f n) (find verb of_one)
event_by verb (m ∷ n ∷ []) = option_map (λ f. f m n) (find verb of_two)
event_by verb (m ∷ n ∷ k ∷ numbers) = None

pub found : (event : Event) → event_by (parts_of event).0 (parts_of event).1 ≡ Some event
unfolding event_by find of_none of_one of_two
found (Tick None) = refl
found (Tick (Some (Cut d))) = refl
found (Tick (Some (Alloc class))) = refl
found (Tick (Some (Free block))) = refl
found (Tick (Some (Lift class))) = refl
found (Tick (Some (Large d n))) = refl
found (Tick (Some (Split block))) = refl
found (Load word) = refl
found (Store word value) = refl
found (Settle word) = refl
found LookUsed = refl
found (TakeFresh n) = refl
found KeepUsed = refl
found (LookHead list) = refl
found LookLink = refl
found Pop = refl
found (Push d) = refl
found (LookAnchor d) = refl
found (TakeAll d) = refl
found (Give d) = refl

-- so words write one event
one_event : (words : List ℕ) (a b : Event) → IsEventWords words a → IsEventWords words b → a ≡ b
one_event words a b is_a is_b =
    let verb_a = (short_parts (parts_of a).0 (parts_of a).1 (each_is_short a)).0 in
    let verb_b = (short_parts (parts_of b).0 (parts_of b).1 (each_is_short b)).0 in
    let parts =
    same_words (parts_of a).0 (parts_of b).0 (parts_of a).1 (parts_of b).1 verb_a verb_b is_a.numbers_fit is_b.numbers_fit (sym is_a.words_are
    ∙ is_b.words_are) in
    let some : Some a ≡ Some b =
    sym (found a) ∙ ap (λ v. event_by v (parts_of a).1) parts.0 ∙ ap (λ n. event_by (parts_of b).0 n) parts.1 ∙ found b in
    cc

-- a line gives one step
one_step : (seats : ℕ) → seats < 2 ^ 64 → (line : List ℕ) (a b : ℕ × Event) → IsStepLine seats line a → IsStepLine seats line b → a ≡ b
one_step seats fits line (i, e) (j, f) is_a is_b =
    let is_j : IsNumber (decimal j) j = (omega (arith, is_b.seat_is_below), refl) in
    let cut : line ≡ decimal j ++ 32 ∷ is_b.words = is_b.line_is ∙ append_assoc (decimal j) (32 ∷ []) is_b.words in
    let parts = step_parts seats line (decimal j) is_b.words (i, e) fits cut (number_has_no 32 (decimal j) j (omega arith) is_j) is_a in
    let seat = one_number (decimal j) i j parts.1 is_j in
    let event = one_event is_b.words e f parts.2 is_b.event_is in
    ap (λ n. (n, e)) seat ∙ ap (λ x. (j, x)) event

-- and the first line one number of seats
one_seats : (line : List ℕ) (m n : ℕ) → IsSeatsLine line m → IsSeatsLine line n → m ≡ n
one_seats line m n is_m is_n =
    one_number (decimal n) m n (seats_number line (decimal n) m is_n.line_is is_m) (omega (arith, is_n.at_most_8), refl)

-- so a text writes one schedule
pub one_schedule : (text : List ℕ) (a b : Schedule) → IsSchedule text a → IsSchedule text b → (a.seats ≡ b.seats) × (a.lines.items ≡ b.lines.items)
one_schedule text a b is_a is_b =
    let same : is_a.first ∷ is_a.further ≡ is_b.first ∷ is_b.further = sym is_a.lines_are ∙ is_b.lines_are in
    let first : is_a.first ≡ is_b.first = cc in
    let further : is_a.further ≡ is_b.further = cc in
    let seats = one_seats is_b.first a.seats b.seats (subst (λ l. IsSeatsLine l a.seats) first is_a.seats_are) is_b.seats_are in
    let steps = subst (λ l. AreWritten (IsStepLine a.seats) l a.lines.items) further is_a.steps_are in
    let same_steps = subst (λ n. AreWritten (IsStepLine n) is_b.further a.lines.items) seats steps in
    let fits : b.seats < 2 ^ 64 = omega (arith, is_b.seats_are.at_most_8) in
    (seats, one_list (IsStepLine b.seats) (one_step b.seats fits) is_b.further a.lines.items b.lines.items same_steps is_b.steps_are)

-- lines of a schedule have none outside the grammar
bad_line : (first : List ℕ) (further : List (List ℕ)) (s : Schedule) (number : ℕ) → IsSeatsLine first s.seats
    → AreWritten (IsStepLine s.seats) further s.lines.items
    → IsFirstBad (first ∷ further) number → ⊥
bad_line first further s number is are (inl none) = none.0 s.seats is
bad_line first further s number is are (inr bad) =
    let seats = one_seats first bad.0 s.seats bad.1 is in
    let moved = subst (λ k. IsBadStep k further number) seats bad.2 in
    written_or_outside (IsStepLine s.seats) further s.lines.items moved.place are moved.first

-- so a text that writes a schedule has none
pub schedule_or_bad : (text : List ℕ) (s : Schedule) (number : ℕ) → IsSchedule text s → IsFirstBad (lines_of text) number → ⊥
schedule_or_bad text s number is bad = bad_line is.first is.further s number is.seats_are is.steps_are
    (subst (λ l. IsFirstBad l number) is.lines_are bad)

-- one line is the first outside
pub one_bad : (lines : List (List ℕ)) (m n : ℕ) → IsFirstBad lines m → IsFirstBad lines n → m ≡ n
one_bad [] m n bad_m bad_n = bad_m ∙ sym bad_n
one_bad (first ∷ further) m n (inl none_m) (inl none_n) = none_m.1 ∙ sym none_n.1
one_bad (first ∷ further) m n (inl none_m) (inr bad_n) = absurd (none_m.0 bad_n.0 bad_n.1)
one_bad (first ∷ further) m n (inr bad_m) (inl none_n) = absurd (none_n.0 bad_m.0 bad_m.1)
one_bad (first ∷ further) m n (inr bad_m) (inr bad_n) =
    let seats = one_seats first bad_m.0 bad_n.0 bad_m.1 bad_n.1 in
    let moved = subst (λ k. IsBadStep k further m) seats bad_m.2 in
    let place = one_outside (IsStepLine bad_n.0) further moved.place bad_n.2.place moved.first bad_n.2.first in
    moved.counted ∙ ap (λ k. k + 1) place ∙ sym bad_n.2.counted

-- each step is one of a seat that is there
pub steps_of_seats : (seats : ℕ) (lines : List (List ℕ)) (steps : List (ℕ × Event)) → AreWritten (IsStepLine seats) lines steps
    → All (λ step. step.0 < seats) steps
steps_of_seats seats [] [] are = All-nil (λ (step : ℕ × Event). step.0 < seats)
steps_of_seats seats [] (step ∷ steps) are = absurd are
steps_of_seats seats (line ∷ lines) [] are = All-nil (λ (step : ℕ × Event). step.0 < seats)
steps_of_seats seats (line ∷ lines) (step ∷ steps) are =
    All-cons (λ (s : ℕ × Event). s.0 < seats) step steps are.0.seat_is_below (steps_of_seats seats lines steps are.1)
