-- Passes and pieces are dealt out, the last ones first; and passes of a worker are taken in.
use Rattle.std.proofs.Common.{◌≡◌, ℕ, suc, ◌+◌, ◌<◌, List, [], ◌∷◌, ◌++◌, All, Contains, append-nil, append_assoc, length, map, reverse, refl, subst, ap, arith, sym, ◌∙◌}
use Rattle.std.specs.Prelude.{flat_map, zip}
use Rattle.std.specs.List.{AllZip}
use Rattle.std.proofs.lemmas.List.{length-reverse, map-append, reverse-append}
use Rattle.std.proofs.lemmas.List.Concat.{flat_map-append}
use Rattle.std.specs.List.Sorted.{IsPermutation}
use Rattle.std.proofs.lemmas.List.Elements.{All-contains, Contains-append_right}
use Rattle.std.proofs.lemmas.List.Sorted.{IsPermutation-append_left, IsPermutation-append_right}
use Rattle.heap_model.proofs.MemberLemmas.{in_head}
use Rattle.parcel_queue.specs.Account.{PassView, QueueView}
use Rattle.parcel_queue.specs.Row.{ArePassesOf, each_joined}
use Rattle.parcel_queue.proofs.OrderLemmas.{follow, from, swapped, upto}
use Rattle.parcel_queue.proofs.RowLemmas.{as_many}
use Rattle.seat_parcels.specs.Boxes.{ArePutRightly, HaveParts, all_put}
use Rattle.seat_parcels.proofs.RowLemmas.{joined_parts, joined_rightly, joined_together}
use Rattle.seat_parcels.specs.declared.parcel.Parcel.{Parcel}
use Rattle.worker_parts.specs.declared.asking.Asked.{Asked}
use Rattle.run_rows.specs.declared.arriving.Arriving.{Arriving}
use Rattle.run_rows.specs.Posts.{ArePassesTo}
use Rattle.run_rows.specs.Rows.{AreDealtOut}

module _ {C : Type 0} where
  abbrev pub Dealt : List (PassView Parcel) → List (List Parcel) → List (Asked C) → List (Arriving C) → Type 0
  Dealt passes pieces all arriving =
      AllZip (λ (one : Arriving C) (x : Asked C × (PassView Parcel × List Parcel)). (one.asked ≡ x.0) × (one.pass ≡ x.1.0)
      × (one.kept.items ≡ x.1.1)) arriving (zip all (zip passes pieces))

  one_more : (ps : List (PassView Parcel)) (ls : List (List Parcel)) (ys : List (Asked C)) (arriving : List (Arriving C)) (p : PassView Parcel)
      (l : List Parcel) (y : Asked C) (a : Arriving C)
      → length ps ≡ length ys → length ls ≡ length ys → Dealt ps ls ys arriving → a.asked ≡ y → a.pass ≡ p → a.kept.items ≡ l
      → Dealt (ps ++ p ∷ []) (ls ++ l ∷ []) (ys ++ y ∷ []) (arriving ++ a ∷ [])
  one_more [] [] [] [] p l y a long each dealt asked pass kept = ((asked, pass, kept), tt)
  one_more ps ls [] (b ∷ arriving) p l y a long each dealt asked pass kept = absurd dealt
  one_more (q ∷ ps) ls [] [] p l y a long each dealt asked pass kept = absurd (omega (arith, long))
  one_more [] (m ∷ ls) [] [] p l y a long each dealt asked pass kept = absurd (omega (arith, each))
  one_more [] ls (z ∷ ys) arriving p l y a long each dealt asked pass kept = absurd (omega (arith, long))
  one_more (q ∷ ps) [] (z ∷ ys) arriving p l y a long each dealt asked pass kept = absurd (omega (arith, each))
  one_more (q ∷ ps) (m ∷ ls) (z ∷ ys) [] p l y a long each dealt asked pass kept = absurd dealt
  one_more (q ∷ ps) (m ∷ ls) (z ∷ ys) (b ∷ arriving) p l y a long each dealt asked pass kept =
      (dealt.0, one_more ps ls ys arriving p l y a (omega (arith, long)) (omega (arith, each)) dealt.1 asked pass kept)

moved : {X : Type 0} (all front left rest : List X) (x : X) → reverse all ≡ front ++ reverse left → left ≡ rest ++ x ∷ []
    → reverse all ≡ (front ++ x ∷ []) ++ reverse rest
moved all front left rest x are is = are ∙ ap (λ (l : List _). front ++ reverse l) is
    ∙ ap (λ (l : List _). front ++ l) (reverse-append rest (x ∷ [])) ∙ sym (append_assoc front (x ∷ []) (reverse rest))

count_both : {X : Type 0} (front left : List X) → length (front ++ left) ≡ length front + length left
count_both [] left = omega arith
count_both (x ∷ front) left = let e = count_both front left in omega (arith, e)

all_of : {X : Type 0} (all front left : List X) → reverse all ≡ front ++ reverse left → length left ≡ 0 → front ≡ reverse all
all_of all front [] are none = sym (are ∙ append-nil front)
all_of all front (x ∷ left) are none = absurd (omega (arith, none))

-- of these passes and pieces the last ones were dealt out to the first workers
pub record AreDealtSoFar {C : Type 0} (owners : List (PassView Parcel)) (pieces : List (List Parcel)) (owners_left : List (PassView Parcel))
    (pieces_left : List (List Parcel))
    (done : List (Asked C)) (arriving : List (Arriving C)) : Type 0 where
  pub passes : List (PassView Parcel)
  pub lists : List (List Parcel)
  pub owners_are : reverse owners ≡ passes ++ reverse owners_left
  pub pieces_are : reverse pieces ≡ lists ++ reverse pieces_left
  pub passes_long : length passes ≡ length done
  pub lists_long : length lists ≡ length done
  pub dealt : Dealt passes lists done arriving

module _ {C : Type 0} where
  pub none_dealt : (owners : List (PassView Parcel)) (pieces : List (List Parcel)) → AreDealtSoFar {C = C} owners pieces owners pieces [] []
  none_dealt owners pieces = record { passes = []; lists = []; owners_are = refl; pieces_are = refl; passes_long = refl; lists_long = refl; dealt = tt }

  pub one_dealt : (owners : List (PassView Parcel)) (pieces : List (List Parcel)) (owners_left owners_rest : List (PassView Parcel))
      (pieces_left pieces_rest : List (List Parcel))
      (done : List (Asked C)) (arriving : List (Arriving C)) (p : PassView Parcel) (l : List Parcel) (y : Asked C) (a : Arriving C)
      → AreDealtSoFar owners pieces owners_left pieces_left done arriving
      → owners_left ≡ owners_rest ++ p ∷ [] → pieces_left ≡ pieces_rest ++ l ∷ [] → a.asked ≡ y → a.pass ≡ p → a.kept.items ≡ l
      → AreDealtSoFar owners pieces owners_rest pieces_rest (done ++ y ∷ []) (arriving ++ a ∷ [])
  one_dealt owners pieces owners_left owners_rest pieces_left pieces_rest done arriving p l y a so_far last_owner last_piece asked pass kept = record {
    passes = so_far.passes ++ p ∷ [];
    lists = so_far.lists ++ l ∷ [];
    owners_are = moved owners so_far.passes owners_left owners_rest p so_far.owners_are last_owner;
    pieces_are = moved pieces so_far.lists pieces_left pieces_rest l so_far.pieces_are last_piece;
    passes_long = length_more so_far.passes done p y so_far.passes_long;
    lists_long = length_more so_far.lists done l y so_far.lists_long;
    dealt = one_more so_far.passes so_far.lists done arriving p l y a so_far.passes_long so_far.lists_long so_far.dealt asked pass kept;
  } where
    length_more : {A B : Type 0} (xs : List A) (ys : List B) (x : A) (z : B) → length xs ≡ length ys → length (xs ++ x ∷ []) ≡ length (ys ++ z ∷ [])
    length_more [] [] x z same = refl
    length_more [] (v ∷ ys) x z same = absurd (omega (arith, same))
    length_more (u ∷ xs) [] x z same = absurd (omega (arith, same))
    length_more (u ∷ xs) (v ∷ ys) x z same = ap suc (length_more xs ys x z (omega (arith, same)))

  -- some are left until all have theirs
  pub so_many_left : (owners : List (PassView Parcel)) (pieces : List (List Parcel)) (owners_left : List (PassView Parcel))
      (pieces_left : List (List Parcel))
      (done : List (Asked C)) (arriving : List (Arriving C)) → AreDealtSoFar owners pieces owners_left pieces_left done arriving
      → (length owners_left + length done ≡ length owners) × (length pieces_left + length done ≡ length pieces)
  so_many_left owners pieces owners_left pieces_left done arriving so_far = (
    left_of owners so_far.passes owners_left (length done) so_far.owners_are so_far.passes_long,
    left_of pieces so_far.lists pieces_left (length done) so_far.pieces_are so_far.lists_long,
  ) where
    left_of : {X : Type 0} (all front left : List X) (n : ℕ) → reverse all ≡ front ++ reverse left → length front ≡ n → length left + n ≡ length all
    left_of all front left n are long =
        let a = ap length are in
        let b = length-reverse all in
        let c = length-reverse left in
        let d = count_both front (reverse left) in
        omega (arith, a, b, c, d, long)

  pub all_dealt : (owners : List (PassView Parcel)) (pieces : List (List Parcel)) (owners_left : List (PassView Parcel))
      (pieces_left : List (List Parcel))
      (done : List (Asked C)) (arriving : List (Arriving C)) → AreDealtSoFar owners pieces owners_left pieces_left done arriving
      → length owners ≡ length done → length pieces ≡ length done → AreDealtOut owners pieces done arriving
  all_dealt owners pieces owners_left pieces_left done arriving so_far long each =
      let left = so_many_left owners pieces owners_left pieces_left done arriving so_far in
      let none = left.0 in
      let none' = left.1 in
      subst (λ ps. Dealt ps (reverse pieces) done arriving) (all_of owners so_far.passes owners_left so_far.owners_are (omega (arith, none, long)))
      (subst (λ ls. Dealt so_far.passes ls done arriving) (all_of pieces so_far.lists pieces_left so_far.pieces_are
      (omega (arith, none', each))) so_far.dealt)

-- the first of a list, and what is left of it
module _ {X : Type 0} (all done left : List X) (are : all ≡ done ++ left) where
  pub one_done : (x : X) (later : List X) → left ≡ x ∷ later → all ≡ (done ++ x ∷ []) ++ later
  one_done x later is = are ∙ ap (λ (l : List X). done ++ l) is ∙ sym (append_assoc done (x ∷ []) later)

  pub all_done : length left ≡ 0 → all ≡ done
  all_done none = are ∙ ap (λ (l : List X). done ++ l) (is_none left none) ∙ append-nil done where
    is_none : (l : List X) → length l ≡ 0 → l ≡ []
    is_none [] e = refl
    is_none (x ∷ l) e = absurd (omega (arith, e))

  pub so_many_done : (x : X) (later : List X) → left ≡ x ∷ later → length done < length all
  so_many_done x later is =
      let a = ap length are in
      let b = count_both done left in
      let d = ap length is in
      omega (arith, a, b, d)

  pub so_of_next : (P : X → Type 0) (x : X) (later : List X) → left ≡ x ∷ later → All P all → P x
  so_of_next P x later is each = All-contains P all x each
      (subst (λ (l : List X). Contains l x) (sym (are ∙ ap (λ (l : List X). done ++ l) is))
      (Contains-append_right done (x ∷ later) x (in_head x later)))

-- one value more, and its image
pub mapped_more : {X Y : Type 0} (f : X → Y) (done : List X) (x : X) (old new : List Y) → old ≡ map f done → new ≡ old ++ f x ∷ []
    → new ≡ map f (done ++ x ∷ [])
mapped_more f done x old new are is = is ∙ ap (λ (l : List _). l ++ f x ∷ []) are ∙ sym (map-append f done (x ∷ []))

pub flat_mapped_more : {X Y : Type 0} (f : X → List Y) (done : List X) (x : X) → flat_map f (done ++ x ∷ []) ≡ flat_map f done ++ f x
flat_mapped_more f done x = flat_map-append f done (x ∷ []) ∙ ap (λ (l : List _). flat_map f done ++ l) (append-nil (f x))

-- an owner's passes, which took in those of a worker
pub absorbed : (parts : ℕ) (queues : List QueueView) (owners others now : List (PassView Parcel)) → ArePassesTo parts queues owners
    → ArePassesTo 1 queues others
    → ArePassesOf queues now → now ≡ each_joined owners others → ArePassesTo (parts + 1) queues now
absorbed parts queues owners others now owned passes are joined = record {
  passes_are = are;
  parts_are = subst (HaveParts (parts + 1)) (sym joined) (joined_parts parts 1 owners others (as_many queues others passes.passes_are
      ∙ sym (as_many queues owners owned.passes_are)) owned.parts_are passes.parts_are);
  rightly = subst (ArePutRightly (length queues) 0) (sym joined) (joined_rightly (length queues) 0 owners others owned.rightly passes.rightly);
}

pub absorbed_parcels : (before : List Parcel) (owners others now : List (PassView Parcel)) (kept more after : List Parcel)
    → IsPermutation before (all_put owners ++ kept)
    → length others ≡ length owners → now ≡ each_joined owners others → after ≡ kept ++ more
    → IsPermutation (before ++ (all_put others ++ more)) (all_put now ++ after)
absorbed_parcels before owners others now kept more after order long joined are =
    let own = all_put owners in
    let put = all_put others in
    upto (follow (IsPermutation-append_left (put ++ more) before (own ++ kept) order)
    (from (append_assoc own kept (put ++ more))
    (follow (IsPermutation-append_right own (kept ++ (put ++ more)) (put ++ (kept ++ more)) (swapped kept put more))
    (from (sym (append_assoc own put (kept ++ more)))
    (IsPermutation-append_left (kept ++ more) (own ++ put) (all_put (each_joined owners others))
    (joined_together owners others (omega (arith, long))))))))
    (ap (λ (ps : List (PassView Parcel)). all_put ps ++ (kept ++ more)) (sym joined) ∙ ap (λ (l : List Parcel). all_put now ++ l) (sym are))
