-- Rows of passes with which parcels were put for their workers: as they are made, given off, joined, and one pass of a row.
use Rattle.std.proofs.Common.{◌≡◌, ℕ, zero, suc, ◌+◌, ◌<◌, true, false, cond, List, [], ◌∷◌, ◌++◌, All, length, map, get_or, refl, ap, arith, sym, ◌≤◌, ◌∙◌, append_assoc}
use Rattle.std.proofs.lemmas.Bool.{eq-eqb, ne_eqb}
use Rattle.std.proofs.lemmas.List.{append-nil}
use Rattle.std.proofs.lemmas.List.Elements.{All-append, All-cons, All-head, All-tail, All-nil, filter-append}
use Rattle.std.specs.List.Sorted.{IsPermutation}
use Rattle.std.proofs.lemmas.List.Sorted.{IsPermutation-append_right, IsPermutation-refl}
use Rattle.parcel_queue.proofs.OrderLemmas.{follow, from, swapped, upto}
use Rattle.parcel_queue.specs.Account.{PassView}
use Rattle.parcel_queue.specs.Row.{each_joined, giving_a_part, having_joined, with_a_part}
use Rattle.seat_parcels.specs.declared.parcel.Parcel.{Parcel}
use Rattle.seat_parcels.specs.Boxes.{ArePutRightly, HasParts, HaveParts, all_put, goes_to, is_for, parcels_for}

pub none_put : (owners : List (PassView Parcel)) → all_put (map with_a_part owners) ≡ []
none_put [] = refl
none_put (p ∷ ps) = none_put ps

pub new_rightly : (workers at : ℕ) (owners : List (PassView Parcel)) → ArePutRightly workers at (map with_a_part owners)
new_rightly workers at [] = tt
new_rightly workers at (p ∷ ps) = (All-nil (λ x. goes_to workers x ≡ at), new_rightly workers (suc at) ps)

pub given_rightly : (workers at : ℕ) (owners : List (PassView Parcel)) → ArePutRightly workers at owners
    → ArePutRightly workers at (map giving_a_part owners)
given_rightly workers at [] rightly = tt
given_rightly workers at (p ∷ ps) rightly = (rightly.0, given_rightly workers (suc at) ps rightly.1)

pub joined_rightly : (workers at : ℕ) (owners others : List (PassView Parcel)) → ArePutRightly workers at owners → ArePutRightly workers at others
    → ArePutRightly workers at (each_joined owners others)
joined_rightly workers at owners [] rightly rightly' = rightly
joined_rightly workers at [] (o ∷ os) rightly rightly' = tt
joined_rightly workers at (p ∷ ps) (o ∷ os) rightly rightly' = (
  All-append (λ x. goes_to workers x ≡ at) p.account.put o.account.put rightly.0 rightly'.0,
  joined_rightly workers (suc at) ps os rightly.1 rightly'.1,
)

-- parts, as they are made, given off and joined
pub new_parts : (owners : List (PassView Parcel)) → HaveParts 1 (map with_a_part owners)
new_parts [] = All-nil (HasParts 1)
new_parts (p ∷ ps) = All-cons (HasParts 1) (with_a_part p) (map with_a_part ps) (record { parts_are = refl; none_taken = refl }) (new_parts ps)

pub given_parts : (parts : ℕ) (owners : List (PassView Parcel)) → HaveParts (parts + 1) owners → HaveParts parts (map giving_a_part owners)
given_parts parts [] have = All-nil (HasParts parts)
given_parts parts (p ∷ ps) have = let first = All-head (HasParts (parts + 1)) p ps have in
    let more = first.parts_are in
    All-cons (HasParts parts) (giving_a_part p) (map giving_a_part ps) (record { parts_are = omega (arith, more); none_taken = first.none_taken })
    (given_parts parts ps (All-tail (HasParts (parts + 1)) p ps have))

pub joined_parts : (m n : ℕ) (owners others : List (PassView Parcel)) → length others ≡ length owners → HaveParts m owners → HaveParts n others
    → HaveParts (m + n) (each_joined owners others)
joined_parts m n [] [] same have have' = All-nil (HasParts (m + n))
joined_parts m n [] (o ∷ os) same have have' = absurd (omega (arith, same))
joined_parts m n (p ∷ ps) [] same have have' = absurd (omega (arith, same))
joined_parts m n (p ∷ ps) (o ∷ os) same have have' =
    let a = All-head (HasParts m) p ps have in
    let b = All-head (HasParts n) o os have' in
    let x = a.parts_are in
    let y = b.parts_are in
    All-cons (HasParts (m + n)) (having_joined o p) (each_joined ps os) (record {
      parts_are = omega (arith, x, y);
      none_taken = ap (λ (l : List Parcel). l ++ o.account.taken) a.none_taken ∙ b.none_taken;
    }) (joined_parts m n ps os (omega (arith, same)) (All-tail (HasParts m) p ps have) (All-tail (HasParts n) o os have'))

-- what two rows put is what they put joined
pub joined_together : (owners others : List (PassView Parcel)) → length others ≤ length owners
    → IsPermutation (all_put owners ++ all_put others) (all_put (each_joined owners others))
joined_together owners [] inside = from (append-nil (all_put owners)) (IsPermutation-refl (all_put owners))
joined_together [] (o ∷ os) inside = absurd (omega (arith, inside))
joined_together (p ∷ ps) (o ∷ os) inside =
    from (append_assoc p.account.put (all_put ps) (o.account.put ++ all_put os))
    (upto (IsPermutation-append_right p.account.put (all_put ps ++ (o.account.put ++ all_put os)) (o.account.put ++ all_put (each_joined ps os))
    (follow (swapped (all_put ps) o.account.put (all_put os))
    (IsPermutation-append_right o.account.put (all_put ps ++ all_put os) (all_put (each_joined ps os))
    (joined_together ps os (omega (arith, inside))))))
    (sym (append_assoc p.account.put o.account.put (all_put (each_joined ps os)))))

-- of parcels that all go to one worker, all go there, and none elsewhere
all_for : (workers at : ℕ) (xs : List Parcel) → All (λ x. goes_to workers x ≡ at) xs → parcels_for workers at xs ≡ xs
all_for workers at [] all = refl
all_for workers at (x ∷ xs) all =
    let here : is_for workers at x ≡ true = eq-eqb (goes_to workers x) at (All-head (λ y. goes_to workers y ≡ at) x xs all) in
    ap (λ b. cond b (x ∷ parcels_for workers at xs) (parcels_for workers at xs)) here
    ∙ ap (λ (l : List Parcel). x ∷ l) (all_for workers at xs (All-tail (λ y. goes_to workers y ≡ at) x xs all))

none_for : (workers at other : ℕ) (xs : List Parcel) → (at ≡ other → ⊥) → All (λ x. goes_to workers x ≡ at) xs → parcels_for workers other xs ≡ []
none_for workers at other [] apart all = refl
none_for workers at other (x ∷ xs) apart all =
    let there : is_for workers other x ≡ false = ne_eqb (goes_to workers x) other
    (λ e. apart (sym (All-head (λ y. goes_to workers y ≡ at) x xs all) ∙ e)) in
    ap (λ b. cond b (x ∷ parcels_for workers other xs) (parcels_for workers other xs)) there
    ∙ none_for workers at other xs apart (All-tail (λ y. goes_to workers y ≡ at) x xs all)

-- nor is there one for a worker before those of the row
none_before : (workers at worker : ℕ) (ps : List (PassView Parcel)) → worker < at → ArePutRightly workers at ps
    → parcels_for workers worker (all_put ps) ≡ []
none_before workers at worker [] below rightly = refl
none_before workers at worker (p ∷ ps) below rightly = filter-append (is_for workers worker) p.account.put (all_put ps)
    ∙ ap (λ (l : List Parcel). l ++ parcels_for workers worker (all_put ps))
    (none_for workers at worker p.account.put (λ e. omega (arith, e, below)) rightly.0)
    ∙ none_before workers (suc at) worker ps (omega (arith, below)) rightly.1

pub put_for_it : (workers at to : ℕ) (ps : List (PassView Parcel)) (p : PassView Parcel) → ArePutRightly workers at ps → to < length ps
    → p ≡ get_or ps to p
    → parcels_for workers (at + to) (all_put ps) ≡ p.account.put
put_for_it workers at to [] p rightly inside is = absurd (omega (arith, inside))
put_for_it workers at zero (q ∷ ps) p rightly inside is =
    let e : at + 0 ≡ at = omega arith in
    ap (λ n. parcels_for workers n (all_put (q ∷ ps))) e ∙ filter-append (is_for workers at) q.account.put (all_put ps)
    ∙ ap (λ (l : List Parcel). l ++ parcels_for workers at (all_put ps)) (all_for workers at q.account.put rightly.0)
    ∙ ap (λ (l : List Parcel). q.account.put ++ l) (none_before workers (suc at) at ps (omega arith) rightly.1)
    ∙ append-nil q.account.put ∙ ap (λ (a : PassView Parcel). a.account.put) (sym is)
put_for_it workers at (suc to) (q ∷ ps) p rightly inside is =
    let e : at + suc to ≡ suc at + to = omega arith in
    filter-append (is_for workers (at + suc to)) q.account.put (all_put ps)
    ∙ ap (λ (l : List Parcel). l ++ parcels_for workers (at + suc to) (all_put ps))
    (none_for workers at (at + suc to) q.account.put (λ e'. omega (arith, e')) rightly.0)
    ∙ ap (λ n. parcels_for workers n (all_put ps)) e ∙ put_for_it workers (suc at) to ps p rightly.1 (omega (arith, inside)) is
