-- Parcels are laid by their workers, one after the other.
use Rattle.std.proofs.Common.{◌≡◌, ℕ, zero, suc, ◌+◌, ◌<◌, cond, List, [], ◌∷◌, ◌++◌, All, length, map, get_or, set, refl, ap, arith, sym, ◌∙◌, append_assoc}
use Rattle.std.specs.declared.vec.Vec.{Vec}
use Rattle.std.proofs.lemmas.Bool.{eq-eqb, ne_eqb}
use Rattle.std.proofs.lemmas.List.{append-nil, get_or-map, length-map, map-set}
use Rattle.std.proofs.lemmas.List.Elements.{All-head, All-tail, filter-append}
use Rattle.heap_model.specs.Image.{words_from}
use Rattle.heap_model.proofs.ImageLemmas.{length-words_from}
use Rattle.run_model.specs.Workers.{worker_numbers}
use Rattle.seat_parcels.specs.declared.parcel.Parcel.{Parcel}
use Rattle.seat_parcels.specs.Boxes.{goes_to, is_for, parcels_for, pieces_of}

module _ {Z : Type 0} where
  -- a parcel is laid behind those of a piece
  pub is_laid : (pieces : List (Vec Parcel Z)) (to : ℕ) (old new : Vec Parcel Z) (x : Parcel) → to < length pieces → old ≡ get_or pieces to old
      → new.items ≡ old.items ++ x ∷ [] → pieces_of (set pieces to new) ≡ set (pieces_of pieces) to (get_or (pieces_of pieces) to [] ++ x ∷ [])
  is_laid pieces to old new x inside at is = map-set (λ (v : Vec Parcel Z). v.items) pieces to new
      ∙ ap (λ (l : List Parcel). set (pieces_of pieces) to l) (is ∙ ap (λ (l : List Parcel). l ++ x ∷ [])
      (ap (λ (v : Vec Parcel Z). v.items) at ∙ sym (get_or-map (λ (v : Vec Parcel Z). v.items) pieces to old [] inside)))

  -- pieces with nothing in them are those of no parcels
  all_empty : (workers at : ℕ) (pieces : List (Vec Parcel Z)) → All (λ v. v.items ≡ []) pieces
      → pieces_of pieces ≡ map (λ worker. parcels_for workers worker []) (words_from (λ i. i) at (length pieces))
  all_empty workers at [] all = refl
  all_empty workers at (v ∷ vs) all =
      ap (λ (l : List Parcel). l ∷ pieces_of vs) (All-head (λ (p : Vec Parcel Z). p.items ≡ []) v vs all)
      ∙ ap (λ (ls : List (List Parcel)). [] ∷ ls) (all_empty workers (at + 1) vs (All-tail (λ (p : Vec Parcel Z). p.items ≡ []) v vs all))

  pub empty_for_all : (workers : ℕ) (pieces : List (Vec Parcel Z)) → All (λ v. v.items ≡ []) pieces → length pieces ≡ workers
      → pieces_of pieces ≡ map (λ worker. parcels_for workers worker []) (worker_numbers workers)
  empty_for_all workers pieces all long = all_empty workers 0 pieces all
      ∙ ap (λ n. map (λ worker. parcels_for workers worker []) (words_from (λ i. i) 0 n)) long

-- one parcel more is one more for its worker, and none for another
for_it : (workers worker : ℕ) (done : List Parcel) (x : Parcel) → goes_to workers x ≡ worker
    → parcels_for workers worker (done ++ x ∷ []) ≡ parcels_for workers worker done ++ x ∷ []
for_it workers worker done x is = filter-append (is_for workers worker) done (x ∷ [])
    ∙ ap (λ b. parcels_for workers worker done ++ cond b (x ∷ []) []) (eq-eqb (goes_to workers x) worker is)

for_another : (workers worker : ℕ) (done : List Parcel) (x : Parcel) → (goes_to workers x ≡ worker → ⊥)
    → parcels_for workers worker (done ++ x ∷ []) ≡ parcels_for workers worker done
for_another workers worker done x other = filter-append (is_for workers worker) done (x ∷ [])
    ∙ ap (λ b. parcels_for workers worker done ++ cond b (x ∷ []) []) (ne_eqb (goes_to workers x) worker other)
    ∙ append-nil (parcels_for workers worker done)

module _ (workers : ℕ) (done : List Parcel) (x : Parcel) where
  abbrev before : ℕ → List Parcel
  before worker = parcels_for workers worker done

  abbrev after : ℕ → List Parcel
  after worker = parcels_for workers worker (done ++ x ∷ [])

  -- the workers behind its own one
  behind : (at count : ℕ) → goes_to workers x < at → map before (words_from (λ i. i) at count) ≡ map after (words_from (λ i. i) at count)
  behind at zero below = refl
  behind at (suc count) below =
      ap (λ (l : List Parcel). l ∷ map before (words_from (λ i. i) (at + 1) count)) (sym (for_another workers at done x (λ e. omega (arith, e, below))))
      ∙ ap (λ (ls : List (List Parcel)). after at ∷ ls) (behind (at + 1) count (omega (arith, below)))

  pub one_more : (at count to : ℕ) → goes_to workers x ≡ at + to → to < count
      → set (map before (words_from (λ i. i) at count)) to (get_or (map before (words_from (λ i. i) at count)) to [] ++ x ∷ [])
      ≡ map after (words_from (λ i. i) at count)
  one_more at zero to is inside = absurd (omega (arith, inside))
  one_more at (suc count) zero is inside =
      ap (λ (l : List Parcel). l ∷ map before (words_from (λ i. i) (at + 1) count)) (sym (for_it workers at done x (omega (arith, is))))
      ∙ ap (λ (ls : List (List Parcel)). after at ∷ ls) (behind (at + 1) count (omega (arith, is)))
  one_more at (suc count) (suc to) is inside =
      ap (λ (l : List Parcel). l ∷ set (map before (words_from (λ i. i) (at + 1) count)) to
      (get_or (map before (words_from (λ i. i) (at + 1) count)) to [] ++ x ∷ []))
      (sym (for_another workers at done x (λ e. omega (arith, e, is))))
      ∙ ap (λ (ls : List (List Parcel)). after at ∷ ls) (one_more (at + 1) count to (omega (arith, is)) (omega (arith, inside)))

-- some parcels of these are laid by their workers, and the others are left
pub record AreLaid (workers : ℕ) (all left : List Parcel) (pieces : List (List Parcel)) : Type 0 where
  pub done : List Parcel
  pub all_are : all ≡ done ++ left
  pub pieces_are : pieces ≡ map (λ worker. parcels_for workers worker done) (worker_numbers workers)

pub one_laid : (workers : ℕ) (all left rest : List Parcel) (pieces now : List (List Parcel)) (x : Parcel) (to : ℕ) → AreLaid workers all left pieces
    → left ≡ x ∷ rest → to ≡ goes_to workers x → to < workers → now ≡ set pieces to (get_or pieces to [] ++ x ∷ []) → AreLaid workers all rest now
one_laid workers all left rest pieces now x to laid first is inside more = record {
  done = laid.done ++ x ∷ [];
  all_are = laid.all_are ∙ ap (λ (l : List Parcel). laid.done ++ l) first ∙ sym (append_assoc laid.done (x ∷ []) rest);
  pieces_are = more ∙ ap (λ (ls : List (List Parcel)). set ls to (get_or ls to [] ++ x ∷ [])) laid.pieces_are
      ∙ one_more workers laid.done x 0 workers to (omega (arith, is)) inside;
}

-- there are as many pieces as workers
pub so_many : {Z : Type 0} (workers : ℕ) (all left : List Parcel) (pieces : List (Vec Parcel Z)) → AreLaid workers all left (pieces_of pieces)
    → length pieces ≡ workers
so_many {Z} workers all left pieces laid = sym (length-map pieces (λ (v : Vec Parcel Z). v.items)) ∙ ap length laid.pieces_are
    ∙ length-map (worker_numbers workers) (λ worker. parcels_for workers worker laid.done) ∙ length-words_from (λ i. i) 0 workers

pub all_laid : (workers : ℕ) (all left : List Parcel) (pieces : List (List Parcel)) → AreLaid workers all left pieces → left ≡ []
    → pieces ≡ map (λ worker. parcels_for workers worker all) (worker_numbers workers)
all_laid workers all left pieces laid none = laid.pieces_are
    ∙ ap (λ (l : List Parcel). map (λ worker. parcels_for workers worker l) (worker_numbers workers))
    (sym (laid.all_are ∙ ap (λ (l : List Parcel). laid.done ++ l) none ∙ append-nil laid.done))
