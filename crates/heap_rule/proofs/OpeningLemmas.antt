-- What the rule says of an opened heap, and how its seats are dealt out.
use Rattle.std.proofs.Common.{◌≡◌, ℕ, zero, suc, ◌+◌, ◌<◌, List, [], ◌∷◌, ◌++◌, false, replicate, get_or, length, refl, ap, sym, subst, ◌∙◌, arith}
use Rattle.std.proofs.lemmas.List.{append-nil}
use Rattle.atomic_table.specs.Seated.{TableId}
use Rattle.atomic_table.specs.Table.{Me}
use Rattle.line_memory.proofs.LineStepLemmas.{unmarked}
use Rattle.core_model.specs.Opening.{tabulate}
use Rattle.core_model.specs.View.{View}
use Rattle.line_memory.specs.Marks.{mark_at}
use Rattle.core_model.specs.Sound.{Sound}
use Rattle.core_model.proofs.OpenLemmas.{length_tabulate, tabulate_at}
use Rattle.seat_state.proofs.NewSeat.{new_seat, no_caches}
use Rattle.heap_table.proofs.ReachedLemmas.{opened_counted}
use Rattle.heap_table.specs.SeatViews.{SeatViews, first_view, other_views}
use Rattle.heap_table.specs.Rule.{Opening, IsOpened, setup_for, state_of, opened_views, opened_view_of}
use Rattle.heap_table.specs.AtTable.{SharedView}
use Rattle.heap_rule.specs.Seated.{SeatView, IsSingleSeat}
use Rattle.heap_rule.specs.Seats.{AreOpenedSeats, dealt_seats}

pub first_dealt : (views : ℕ → View) (i n m : ℕ) → n ≡ suc m → first_view (tabulate views i n) ≡ views i ∷ []
first_dealt views i n m some = ap (λ k. first_view (tabulate views i k)) some

pub others_stay : (views : ℕ → View) (i n m : ℕ) → n ≡ suc m → other_views (tabulate views i n) ≡ tabulate views (i + 1) m
others_stay views i n m some = ap (λ k. other_views (tabulate views i k)) some

tabulate_last : {A : Type 0} (f : ℕ → A) (from n : ℕ) → tabulate f from (suc n) ≡ tabulate f from n ++ f (from + n) ∷ []
tabulate_last f from zero = ap (λ i. f i ∷ []) (let e : from ≡ from + 0 = omega arith in e)
tabulate_last f from (suc n) = ap (λ l. f from ∷ l) (tabulate_last f (from + 1) n
    ∙ ap (λ i. tabulate f (from + 1) n ++ f i ∷ []) (let e : from + 1 + n ≡ from + suc n = omega arith in e))

-- one more seat
pub one_more : (table : TableId) (views : ℕ → View) (words n : ℕ) (seat : SeatView) → seat.table ≡ table → seat.view ≡ views n
    → seat.stores ≡ [] → seat.marks ≡ replicate words false
    → dealt_seats table views words n ++ seat ∷ [] ≡ dealt_seats table views words (n + 1)
one_more table views words n seat same view_is stores marks =
    ap (λ (s : SeatView). dealt_seats table views words n ++ s ∷ []) is ∙ sym (tabulate_last S 0 n)
    ∙ ap (dealt_seats table views words) (let e : suc n ≡ n + 1 = omega arith in e) where
      S : ℕ → SeatView
      S i = record { table = table; view = views i; stores = []; marks = replicate words false }

      view_at : seat.view ≡ views (0 + n)
      view_at = view_is ∙ ap views (let e : n ≡ 0 + n = omega arith in e)

      is : seat ≡ S (0 + n)
      is = λ j. record { table = same j; view = view_at j; stores = stores j; marks = marks j }

-- a seat as it is opened
pub is_seat : (o : Opening) (i capacity budget : ℕ) (me : Me ℕ SeatViews) → IsOpened o → i < o.seats → me ≡ (opened_view_of o i ∷ [], [])
    → capacity ≡ (setup_for o).capacity → budget ≡ (setup_for o).budget → IsSingleSeat me new_seat capacity budget
is_seat o i capacity budget me is less me_is capacity_is budget_is = subst (λ m. IsSingleSeat m new_seat capacity budget) (sym me_is) (record {
  single = refl;
  no_slots = refl;
  kept = record {
    has = record {
      words = (state_of o).words;
      views = opened_views o;
      seat = i;
      sound = subst (Sound (setup_for o) (state_of o).words) (append-nil (opened_views o)) is.sound;
      counted = opened_counted o;
      is_seat = refl;
      below = (let l = length_tabulate (opened_view_of o) 0 o.seats in omega arith);
      at = tabulate_at (opened_view_of o) 0 o.seats i (opened_view_of o i) less ∙ ap (opened_view_of o) (let e : 0 + i ≡ i = omega arith in e);
    };
    notes_are = record { ticket = refl; stopped = refl; seen_used = refl; seen_head = refl; seen_link = refl; seen_anchor = refl };
    caches = no_caches;
    batch = record { descriptor = refl; class = refl; first = refl; last = refl; count = refl; linked = refl };
  };
  capacity_is = capacity_is;
  budget_is = budget_is;
  low = is.low;
})

-- the seats that were dealt out are those of the heap
pub are_opened : (shared : SharedView) (views : ℕ → View) (words : ℕ) (seats : List SeatView)
    → ((i : ℕ) → i < shared.opening.seats → (views i).setup ≡ setup_for shared.opening)
    → seats ≡ dealt_seats shared.table views words shared.opening.seats
    → AreOpenedSeats shared views seats
are_opened shared views words seats setups are = record {
  count = ap length are ∙ length_tabulate S 0 shared.opening.seats;
  each = λ i seat below at.
      let less : i < shared.opening.seats = (let l = ap length are ∙ length_tabulate S 0 shared.opening.seats in omega arith) in
      let is : S i ≡ seat = ap S (let e : i ≡ 0 + i = omega arith in e) ∙ sym (tabulate_at S 0 shared.opening.seats i seat less)
      ∙ ap (λ l. get_or l i seat) (sym are) ∙ at in (
        record {
          table = ap (λ (s : SeatView). s.table) (sym is);
          setup = ap (λ (s : SeatView). s.view.setup) (sym is) ∙ setups i less;
        },
        ap (λ (s : SeatView). s.view) (sym is),
        record {
          stores = ap (λ (s : SeatView). s.stores) (sym is);
          marks = λ word. ap (λ (s : SeatView). mark_at s.marks word) (sym is) ∙ unmarked words word;
        },
      );
} where
  S : ℕ → SeatView
  S i = record { table = shared.table; view = views i; stores = []; marks = replicate words false }

pub opened_seats : (shared : SharedView) (o : Opening) (words : ℕ) (seats : List SeatView) → shared.opening ≡ o
    → seats ≡ dealt_seats shared.table (opened_view_of shared.opening) words shared.opening.seats
    → AreOpenedSeats shared (opened_view_of o) seats
opened_seats shared o words seats same are = are_opened shared (opened_view_of o) words seats (λ i less. ap setup_for (sym same))
    (are ∙ ap (λ k. dealt_seats shared.table (opened_view_of k) words shared.opening.seats) same)
