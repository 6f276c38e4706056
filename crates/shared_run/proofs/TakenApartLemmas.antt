-- What the workers ended with, taken apart from the last one on.
use Rattle.std.proofs.Common.{◌≡◌, ℕ, zero, suc, ◌+◌, Bool, false, ◌||◌, List, [], ◌∷◌, ◌++◌, append-nil, append_assoc, get_or, length, map, refl, sym, ap, ◌∙◌, arith}
use Rattle.std.proofs.lemmas.List.{map-append}
use Rattle.heap_rule.specs.Carried.{CarrierView}
use Rattle.heap_rule.specs.Seated.{SeatView}
use Rattle.run_rows.specs.declared.arriving.Ended.{Ended}
use Rattle.worker_run.specs.Said.{Told}
use Rattle.shared_run.specs.Dealing.{Queue}
use Rattle.shared_run.proofs.DealLemmas.{at_place, at_seam, one_longer}

-- something of each, the last one first
abbrev pub backwards : {X Y : Type 0} → (X → Y) → List X → List Y
backwards of [] = []
backwards of (x ∷ xs) = backwards of xs ++ (of x ∷ [])

pub backwards_long : {X Y : Type 0} (of : X → Y) (xs : List X) → length (backwards of xs) ≡ length xs
backwards_long of [] = refl
backwards_long of (x ∷ xs) = let more = one_longer (backwards of xs) (of x) in let rest = backwards_long of xs in omega arith

pub at_back : {X Y : Type 0} (of : X → Y) (xs : List X) (i place : ℕ) (d : Y) (any : X) → i + place + 1 ≡ length xs
    → get_or (backwards of xs) i d ≡ of (get_or xs place any)
at_back of [] i place d any both = absurd (omega (arith, both))
at_back of (x ∷ xs) i zero d any both =
    let long = backwards_long of xs in
    let last : i ≡ length (backwards of xs) = omega (arith, both, long) in
    ap (λ n. get_or (backwards of xs ++ (of x ∷ [])) n d) last ∙ at_seam (backwards of xs) (of x) d
at_back of (x ∷ xs) i (suc place) d any both =
    let long = backwards_long of xs in
    at_place (backwards of xs) (of x) d i (omega (arith, both, long)) ∙ at_back of xs i place d any (omega (arith, both))

-- the carriers of all, those of the last one first
abbrev pub carriers_of : List Ended → List CarrierView
carriers_of [] = []
carriers_of (one ∷ rest) = carriers_of rest ++ one.carriers.items

abbrev pub was_stopped : List Ended → Bool
was_stopped [] = false
was_stopped (one ∷ rest) = was_stopped rest || one.worked.stopped

abbrev pub seats_of : List Ended → List SeatView
seats_of ended = backwards (λ (one : Ended). one.worked.seat) ended

abbrev pub told_of : List Ended → List (List Told)
told_of ended = backwards (λ (one : Ended). one.worked.replies.items) ended

-- the last ones are taken apart, and these are left; what they had is this
pub record AreTaken (all left : List Ended) (seats : List SeatView) (told : List Queue) (carriers : List CarrierView) (stopped : Bool) : Type 0 where
  pub taken : List Ended
  pub split : all ≡ left ++ taken
  pub seats_are : seats ≡ seats_of taken
  pub told_are : map (λ (q : Queue). q.items) told ≡ told_of taken
  pub carriers_are : carriers ≡ carriers_of taken
  pub stopped_is : stopped ≡ was_stopped taken

pub taken_none : (all : List Ended) (seats : List SeatView) (told : List Queue) (carriers : List CarrierView) → seats ≡ [] → told ≡ []
    → carriers ≡ [] → AreTaken all all seats told carriers false
taken_none all seats told carriers no_seats no_told no_carriers = record {
  taken = [];
  split = sym (append-nil all);
  seats_are = no_seats;
  told_are = ap (map (λ (q : Queue). q.items)) no_told;
  carriers_are = no_carriers;
  stopped_is = refl;
}

-- one more
pub taken_more : (all left rest : List Ended) (one : Ended) (queue : Queue) (seats now_seats : List SeatView) (told now_told : List Queue)
    (carriers now_carriers : List CarrierView) (stopped now : Bool)
    → AreTaken all left seats told carriers stopped → left ≡ rest ++ (one ∷ []) → queue.items ≡ one.worked.replies.items
    → now_seats ≡ seats ++ (one.worked.seat ∷ []) → now_told ≡ told ++ (queue ∷ [])
    → now_carriers ≡ carriers ++ one.carriers.items → now ≡ stopped || one.worked.stopped → AreTaken all rest now_seats now_told now_carriers now
taken_more all left rest one queue seats now_seats told now_told carriers now_carriers stopped now was pops items seats_more told_more
    carriers_more now_is = record {
      taken = one ∷ was.taken;
      split = was.split ∙ ap (λ xs. xs ++ was.taken) pops ∙ append_assoc rest (one ∷ []) was.taken;
      seats_are = seats_more ∙ ap (λ xs. xs ++ (one.worked.seat ∷ [])) was.seats_are;
      told_are = ap (map (λ (q : Queue). q.items)) told_more ∙ map-append (λ (q : Queue). q.items) told (queue ∷ [])
          ∙ ap (λ (xs : List (List Told)). xs ++ (queue.items ∷ [])) was.told_are ∙ ap (λ (r : List Told). told_of was.taken ++ (r ∷ [])) items;
      carriers_are = carriers_more ∙ ap (λ xs. xs ++ one.carriers.items) was.carriers_are;
      stopped_is = now_is ∙ ap (λ b. b || one.worked.stopped) was.stopped_is;
    }
