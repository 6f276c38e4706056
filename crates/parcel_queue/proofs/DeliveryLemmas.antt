-- What an owner has that took in the passes of its senders, and what a delivery leaves as it is.
use Rattle.std.proofs.Common.{◌≡◌, ℕ, ◌+◌, List, [], ◌∷◌, ◌++◌, length, map, All, Contains, refl, ap, sym, subst, ◌∙◌, append_assoc, append-nil, ⊎_elim, arith}
use Rattle.std.specs.Prelude.{flat_map, sum_by}
use Rattle.std.proofs.lemmas.List.Elements.{All-head, All-tail, Contains-push, Contains-push_cases, Contains-append_left, Contains-append_right, Contains-append_cases}
use Rattle.std.proofs.lemmas.List.Concat.{length-flat_map}
use Rattle.std.proofs.lemmas.List.Sums.{sum_by-cons, sum_by-append}
use Rattle.std.proofs.lemmas.List.Sorted.{length_permutation, Contains-permutation, IsPermutation-sym, sum_by-IsPermutation}
use Rattle.parcel_queue.specs.Account.{Account, PassView, unused, with_all_taken, joined, all_joined}
use Rattle.parcel_queue.specs.Delivery.{AreDelivered, IsDelivered}
use Rattle.parcel_queue.proofs.OrderLemmas.{from, upto}

module _ {T : Type 0} where
  abbrev put_with : PassView T → List T
  put_with p = p.account.put

  abbrev parts_with : PassView T → ℕ
  parts_with p = p.account.parts

  abbrev TookNone : PassView T → Type 0
  TookNone p = p.account.taken ≡ []

  abbrev all_of : List (List T) → List T
  all_of sent = flat_map (λ parcels. parcels) sent

  pub joined_parts : (a : Account T) (ps : List (PassView T)) → (all_joined a ps).parts ≡ a.parts + sum_by parts_with ps
  joined_parts a [] = omega arith
  joined_parts a (p ∷ ps) = let rest = joined_parts (joined a p.account) ps in let c = sum_by-cons parts_with p ps in omega arith

  joined_put : (a : Account T) (ps : List (PassView T)) → (all_joined a ps).put ≡ a.put ++ all_of (map put_with ps)
  joined_put a [] = sym (append-nil a.put)
  joined_put a (p ∷ ps) = joined_put (joined a p.account) ps ∙ append_assoc a.put p.account.put (all_of (map put_with ps))

  joined_taken : (a : Account T) (ps : List (PassView T)) → All TookNone ps → (all_joined a ps).taken ≡ a.taken
  joined_taken a [] none = refl
  joined_taken a (p ∷ ps) none = joined_taken (joined a p.account) ps (All-tail TookNone p ps none)
      ∙ ap (λ (ys : List T). a.taken ++ ys) (All-head TookNone p ps none) ∙ append-nil a.taken

  pub delivered : (parts : ℕ) (ps : List (PassView T)) (taken : List T) → All TookNone ps
      → IsDelivered (with_all_taken (all_joined (unused parts) ps) taken) → AreDelivered (map put_with ps) taken
  delivered parts ps taken none d = record {
    same = from (sym (joined_put (unused parts) ps))
        (upto d.same (ap (λ (ys : List T). ys ++ taken) (joined_taken (unused parts) ps none)));
  }

  -- where a list stands in a list of lists, its members stand in all of them
  inside : (ls : List (List T)) (l : List T) (x : T) → Contains ls l → Contains l x → Contains (all_of ls) x
  inside [] l x has in' = absurd (let none = has.1 in omega (arith, none))
  inside (k ∷ ls) l x has in' = ⊎_elim
      (λ first. ⊎_elim (λ h. absurd (let none = h.1 in omega (arith, none)))
      (λ same. Contains-append_left k (all_of ls) x (subst (λ (y : List T). Contains y x) (sym same) in')) (Contains-push_cases [] k l first))
      (λ later. Contains-append_right k (all_of ls) x (inside ls l x later in')) (Contains-append_cases (k ∷ []) ls l has)

  -- and what stands in all of them stands in one
  outside : (ls : List (List T)) (x : T) → Contains (all_of ls) x → (l : List T) × Contains ls l × Contains l x
  outside [] x has = absurd (let none = has.1 in omega (arith, none))
  outside (k ∷ ls) x has = ⊎_elim
      (λ here. (k, Contains-append_left (k ∷ []) ls k (Contains-push [] k), here))
      (λ later. let o = outside ls x later in (o.0, Contains-append_right (k ∷ []) ls o.0 o.1, o.2)) (Contains-append_cases k (all_of ls) x has)

  pub lost : (sent : List (List T)) (taken parcels : List T) (x : T) → AreDelivered sent taken
      → Contains sent parcels → Contains parcels x → Contains taken x
  lost sent taken parcels x d has in' = Contains-permutation (all_of sent) taken x d.same (inside sent parcels x has in')

  pub made : (sent : List (List T)) (taken : List T) (x : T) → AreDelivered sent taken
      → Contains taken x → (parcels : List T) × Contains sent parcels × Contains parcels x
  made sent taken x d has = outside sent x (Contains-permutation taken (all_of sent) x (IsPermutation-sym _ _ d.same) has)

  pub counted : (sent : List (List T)) (taken : List T) → AreDelivered sent taken → length taken ≡ sum_by length sent
  counted sent taken d = length_permutation (all_of sent) taken d.same ∙ length-flat_map (λ (l : List T). l) sent

  weighed_all : (weigh : T → ℕ) (ls : List (List T)) → sum_by weigh (all_of ls) ≡ sum_by (λ l. sum_by weigh l) ls
  weighed_all weigh [] = refl
  weighed_all weigh (l ∷ ls) = let a = sum_by-append weigh l (all_of ls) in let c = sum_by-cons (λ (k : List T). sum_by weigh k) l ls in
      let rest = weighed_all weigh ls in omega arith

  pub weighed : (weigh : T → ℕ) (sent : List (List T)) (taken : List T) → AreDelivered sent taken
      → sum_by weigh taken ≡ sum_by (λ l. sum_by weigh l) sent
  weighed weigh sent taken d = sum_by-IsPermutation weigh (all_of sent) taken d.same ∙ weighed_all weigh sent
