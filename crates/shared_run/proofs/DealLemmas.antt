-- Workers in their turn: seats dealt out from the last one on.
use Rattle.std.proofs.Common.{◌≡◌, ℕ, ◌+◌, ◌<◌, ◌≤◌, inl, inr, List, [], ◌∷◌, ◌++◌, get_or, length, length-append, subst, sym, ap, ◌∙◌, arith}
use Rattle.std.proofs.lemmas.List.{get_or_append_left}
use Rattle.std.proofs.lemmas.Bool.{cases_eq}
use Rattle.std.proofs.Math.Seq.{get_or-append_seam}
use Rattle.dict_model.specs.Requests.{Request}
use Rattle.run_model.specs.Working.{HaveRoom}
use Rattle.heap_model.specs.Image.{Image}
use Rattle.heap_table.specs.AtTable.{SharedView}
use Rattle.heap_rule.specs.Seated.{IsSeatOf, SeatView}
use Rattle.worker_run.specs.declared.worker.Worker.{Worker}
use Rattle.worker_parts.specs.Begun.{IsOpenedFor}
use Rattle.run_rows.specs.Turns.{AreInTurn}
use Rattle.shared_run.specs.Dealing.{AreFresh}

-- a list with one more, at a place before and at the last one
module _ {X : Type 0} (xs : List X) (x : X) where
  pub one_longer : length (xs ++ (x ∷ [])) ≡ length xs + 1
  one_longer = length-append xs (x ∷ [])

  pub at_seam : (any : X) → get_or (xs ++ (x ∷ [])) (length xs) any ≡ x
  at_seam any = get_or-append_seam xs x [] any

  pub at_place : (any : X) (i : ℕ) → i < length xs → get_or (xs ++ (x ∷ [])) i any ≡ get_or xs i any
  at_place any i below = get_or_append_left xs (x ∷ []) any i below

  -- what is so of each place is so of the places before, and of the last one
  pub each_place : (P : ℕ → X → Type 0) (any : X) → ((i : ℕ) → i < length xs → P i (get_or xs i any)) → P (length xs) x
      → (i : ℕ) → i < length (xs ++ (x ∷ [])) → P i (get_or (xs ++ (x ∷ [])) i any)
  each_place P any before last i below = elim (cases_eq i (length xs)) as (λ _. P i (get_or (xs ++ (x ∷ [])) i any)) [
    | inl same ↦ subst (λ n. P n (get_or (xs ++ (x ∷ [])) n any)) (sym same) (subst (P (length xs)) (sym (at_seam any)) last)
    | inr other ↦ let less : i < length xs = let long = one_longer in omega arith in subst (P i) (sym (at_place any i less)) (before i less)
  ]

-- there is a room for each request
pub rooms_long : (image : Image) (all requests : List Request) (rooms : List (List ℕ)) → HaveRoom image all requests rooms
    → length requests ≤ length rooms
rooms_long image all [] rooms have = omega arith
rooms_long image all (q ∷ qs) [] have = absurd have
rooms_long image all (q ∷ qs) (room ∷ rooms) have = let rest = rooms_long image all qs rooms have.1 in omega arith

-- of fresh seats the first ones, and the last one
module _ (shared : SharedView) (workers : ℕ) (all rest : List SeatView) (last : SeatView) (split : all ≡ rest ++ (last ∷ []))
    (fresh : AreFresh shared workers all) where
  pub fresh_rest : AreFresh shared workers rest
  fresh_rest = record {
    each = λ i any below.
        let is = fresh.each i any (let long = ap length split ∙ one_longer rest last in omega (arith, long, below)) in
        subst (λ (s : SeatView). IsSeatOf shared s × IsOpenedFor shared.opening workers i s.view) (ap (λ xs. get_or xs i any) split
        ∙ at_place rest last any i below) is;
  }

  pub fresh_last : IsSeatOf shared last × IsOpenedFor shared.opening workers (length rest) last.view
  fresh_last =
      let is = fresh.each (length rest) last (let long = ap length split ∙ one_longer rest last in omega (arith, long)) in
      subst (λ (s : SeatView). IsSeatOf shared s × IsOpenedFor shared.opening workers (length rest) s.view)
      (ap (λ xs. get_or xs (length rest) last) split ∙ at_seam rest last last) is

-- one more in its turn
module _ {X : Type 0} (worker : X → Worker) (workers : ℕ) where
  pub turn_push : (xs now : List X) (x : X) → now ≡ xs ++ (x ∷ []) → AreInTurn worker workers xs → (worker x).workers ≡ workers
      → (worker x).number + length xs + 1 ≡ workers
      → AreInTurn worker workers now
  turn_push xs now x is turns same number = subst (AreInTurn worker workers) (sym is) (record {
    each = λ i any below. each_place xs x (λ n y. ((worker y).workers ≡ workers) × ((worker y).number + n + 1 ≡ workers)) any
        (λ n less. turns.each n any less) (same, number) i below;
  })
