-- The owners' passes, of which the first ones have given a part, and the passes that were made of these.
use Rattle.std.proofs.Common.{◌≡◌, ℕ, zero, suc, ◌+◌, ◌<◌, List, [], ◌∷◌, ◌++◌, length, get_or, set, map, refl, ap, sym, subst, ◌∙◌, arith}
use Rattle.parcel_queue.specs.Account.{PassView, QueueView, unused, less_a_part}
use Rattle.parcel_queue.specs.Row.{IsOwnerOf, ArePassesWith, ArePassesOf, IsOwnedAt, giving_a_part, with_a_part, changed_at}
use Rattle.parcel_queue.proofs.RowLemmas.{is_changed, same_fields}

module _ {T : Type 0} where
  abbrev pub given : ℕ → List (PassView T) → List (PassView T)
  given zero ps = ps
  given (suc n) [] = []
  given (suc n) (p ∷ ps) = giving_a_part p ∷ given n ps

  abbrev pub handed : ℕ → List (PassView T) → List (PassView T)
  handed zero ps = []
  handed (suc n) [] = []
  handed (suc n) (p ∷ ps) = with_a_part p ∷ handed n ps

  -- as many owners as queues
  pub as_many_owners : (qs : List QueueView) (ps : List (PassView T)) → ArePassesWith 1 qs ps → length ps ≡ length qs
  as_many_owners [] [] all = refl
  as_many_owners [] (p ∷ ps) all = absurd all
  as_many_owners (q ∷ qs) [] all = absurd all
  as_many_owners (q ∷ qs) (p ∷ ps) all = ap suc (as_many_owners qs ps all.1)

  -- the next one may give a part
  pub owns_next : (qs : List QueueView) (ps : List (PassView T)) (n : ℕ) → ArePassesWith 1 qs ps → n < length qs → IsOwnedAt qs (given n ps) n
  owns_next [] ps n all inside = absurd (omega (arith, inside))
  owns_next (q ∷ qs) [] n all inside = absurd all
  owns_next (q ∷ qs) (p ∷ ps) zero all inside = all.0
  owns_next (q ∷ qs) (p ∷ ps) (suc n) all inside = owns_next qs ps n all.1 (omega (arith, inside))

  pub owned : (qs : List QueueView) (ps : List (PassView T)) (n : ℕ) (q : QueueView) (p : PassView T) → IsOwnedAt qs ps n
      → IsOwnerOf (get_or qs n q) (get_or ps n p)
  owned [] ps n q p own = absurd own
  owned (q' ∷ qs) [] n q p own = absurd own
  owned (q' ∷ qs) (p' ∷ ps) zero q p own = own
  owned (q' ∷ qs) (p' ∷ ps) (suc n) q p own = owned qs ps n q p own

  pub in_row : (qs : List QueueView) (ps : List (PassView T)) (n : ℕ) → IsOwnedAt qs ps n → (n < length qs) × (n < length ps)
  in_row [] ps n own = absurd own
  in_row (q' ∷ qs) [] n own = absurd own
  in_row (q' ∷ qs) (p' ∷ ps) zero own = (omega arith, omega arith)
  in_row (q' ∷ qs) (p' ∷ ps) (suc n) own = let rest = in_row qs ps n own in let a = rest.0 in
      let b = rest.1 in (omega (arith, a), omega (arith, b))

  pub at_owner : (qs : List QueueView) (ps : List (PassView T)) (n : ℕ) (q : QueueView) (p : PassView T) → IsOwnedAt qs ps n
      → q ≡ get_or qs n q → p ≡ get_or ps n p → IsOwnerOf q p
  at_owner qs ps n q p own is_q is_p = let o = owned qs ps n q p own in record {
    same = ap (λ (a : PassView T). a.queue) is_p ∙ o.same ∙ ap (λ (a : QueueView). a.queue) (sym is_q);
    more = subst (λ (a : PassView T). 1 < a.account.parts) (sym is_p) o.more;
  }

  pub given_more : (ps : List (PassView T)) (n : ℕ) → n < length ps → changed_at giving_a_part n (given n ps) ≡ given (n + 1) ps
  given_more ps n inside = step ps n inside ∙ ap (λ m. given m ps) (let e : suc n ≡ n + 1 = omega arith in e) where
    step : (l : List (PassView T)) (m : ℕ) → m < length l → changed_at giving_a_part m (given m l) ≡ given (suc m) l
    step [] m h = absurd (omega (arith, h))
    step (p ∷ l) zero h = refl
    step (p ∷ l) (suc m) h = ap (λ (k : List (PassView T)). giving_a_part p ∷ k) (step l m (omega (arith, h)))

  pub handed_more : (ps : List (PassView T)) (n : ℕ) (r : PassView T) → n < length ps → r ≡ with_a_part (get_or (given n ps) n r)
      → handed n ps ++ r ∷ [] ≡ handed (n + 1) ps
  handed_more ps n r inside is = step ps n inside is ∙ ap (λ m. handed m ps) (let e : suc n ≡ n + 1 = omega arith in e) where
    step : (l : List (PassView T)) (m : ℕ) → m < length l → r ≡ with_a_part (get_or (given m l) m r) → handed m l ++ r ∷ [] ≡ handed (suc m) l
    step [] m h e = absurd (omega (arith, h))
    step (p ∷ l) zero h e = ap (λ (a : PassView T). a ∷ []) e
    step (p ∷ l) (suc m) h e = ap (λ (k : List (PassView T)). with_a_part p ∷ k) (step l m (omega (arith, h)) e)

  pub given_all : (ps : List (PassView T)) (n : ℕ) → n ≡ length ps → given n ps ≡ map giving_a_part ps
  given_all [] zero e = refl
  given_all [] (suc n) e = refl
  given_all (p ∷ ps) zero e = absurd (omega (arith, e))
  given_all (p ∷ ps) (suc n) e = ap (λ (k : List (PassView T)). giving_a_part p ∷ k) (given_all ps n (omega (arith, e)))

  pub handed_all : (ps : List (PassView T)) (n : ℕ) → n ≡ length ps → handed n ps ≡ map with_a_part ps
  handed_all [] zero e = refl
  handed_all [] (suc n) e = refl
  handed_all (p ∷ ps) zero e = absurd (omega (arith, e))
  handed_all (p ∷ ps) (suc n) e = ap (λ (k : List (PassView T)). with_a_part p ∷ k) (handed_all ps n (omega (arith, e)))

  -- who has more than some parts has more than one part fewer, and still has that once a part is given
  pub fewer : (m : ℕ) (qs : List QueueView) (ps : List (PassView T)) → ArePassesWith (suc m) qs ps → ArePassesWith m qs ps
  fewer m [] [] all = tt
  fewer m [] (p ∷ ps) all = absurd all
  fewer m (q ∷ qs) [] all = absurd all
  fewer m (q ∷ qs) (p ∷ ps) all = let more = all.0.more in (record { same = all.0.same; more = omega (arith, more) }, fewer m qs ps all.1)

  pub given_pass : (m : ℕ) (qs : List QueueView) (ps : List (PassView T)) → ArePassesWith (suc m) qs ps → ArePassesWith m qs (map giving_a_part ps)
  given_pass m [] [] all = tt
  given_pass m [] (p ∷ ps) all = absurd all
  given_pass m (q ∷ qs) [] all = absurd all
  given_pass m (q ∷ qs) (p ∷ ps) all = let more = all.0.more in (record { same = all.0.same; more = omega (arith, more) }, given_pass m qs ps all.1)

  pub handed_pass : (qs : List QueueView) (ps : List (PassView T)) → ArePassesWith 1 qs ps → ArePassesOf qs (map with_a_part ps)
  handed_pass [] [] all = tt
  handed_pass [] (p ∷ ps) all = absurd all
  handed_pass (q ∷ qs) [] all = absurd all
  handed_pass (q ∷ qs) (p ∷ ps) all = (record { same = all.0.same; more = omega arith }, handed_pass qs ps all.1)

  -- an owner that gave a part, in its place, and the pass that was made of it
  pub gave : (ps : List (PassView T)) (n : ℕ) (q : QueueView) (old new : PassView T) → n < length ps → old ≡ get_or ps n old → IsOwnerOf q old
      → new.queue ≡ q.queue → new.account ≡ less_a_part old.account → set ps n new ≡ changed_at giving_a_part n ps
  gave ps n q old new inside at own same now =
      is_changed giving_a_part ps n old new inside (same_fields new (giving_a_part old) (same ∙ sym own.same) now ∙ ap giving_a_part at)

  pub was_made : (ps : List (PassView T)) (n : ℕ) (q : QueueView) (old made : PassView T) → n < length ps → old ≡ get_or ps n old → IsOwnerOf q old
      → made.queue ≡ q.queue → made.account ≡ unused 1 → made ≡ with_a_part (get_or ps n made)
  was_made ps n q old made inside at own same now =
      same_fields made (with_a_part old) (same ∙ sym own.same) now ∙ ap with_a_part (at ∙ any ps n inside) where
        any : (l : List (PassView T)) (m : ℕ) → m < length l → get_or l m old ≡ get_or l m made
        any [] m h = absurd (omega (arith, h))
        any (p ∷ l) zero h = refl
        any (p ∷ l) (suc m) h = any l m (omega (arith, h))

  -- one turn of the loop
  pub more_given : (ps : List (PassView T)) (n : ℕ) {now next : List (PassView T)} → n < length ps → now ≡ given n ps
      → next ≡ changed_at giving_a_part n now
      → next ≡ given (n + 1) ps
  more_given ps n inside so then = then ∙ ap (changed_at giving_a_part n) so ∙ given_more ps n inside

  pub more_handed : (ps : List (PassView T)) (n : ℕ) (r : PassView T) {now made next : List (PassView T)} → n < length ps → now ≡ given n ps
      → made ≡ handed n ps
      → r ≡ with_a_part (get_or now n r) → next ≡ made ++ r ∷ [] → next ≡ handed (n + 1) ps
  more_handed ps n r inside so too is then = then ∙ ap (λ (l : List (PassView T)). l ++ r ∷ []) too
      ∙ handed_more ps n r inside (is ∙ ap (λ (l : List (PassView T)). with_a_part (get_or l n r)) so)
