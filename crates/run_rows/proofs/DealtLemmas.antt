-- Lists that were dealt out: each worker has what stands in its place.
use Rattle.std.proofs.Common.{◌≡◌, ℕ, zero, suc, ◌+◌, ◌-◌, ◌<◌, List, [], ◌∷◌, length, get_or, reverse, refl, ap, arith, ◌∙◌}
use Rattle.std.specs.Prelude.{zip}
use Rattle.std.specs.List.{AllZip}
use Rattle.std.proofs.lemmas.List.{get_or-reverse, length-reverse}
use Rattle.parcel_queue.specs.Account.{PassView}
use Rattle.seat_parcels.specs.declared.parcel.Parcel.{Parcel}
use Rattle.worker_parts.specs.declared.asking.Asked.{Asked}
use Rattle.run_rows.specs.declared.arriving.Arriving.{Arriving}
use Rattle.run_rows.specs.Rows.{AreDealtOut}

module _ {C : Type 0} where
  pub dealt_count : (owners : List (PassView Parcel)) (pieces : List (List Parcel)) (all : List (Asked C)) (arriving : List (Arriving C))
      → length owners ≡ length all → length pieces ≡ length all
      → AllZip (λ (one : Arriving C) (x : Asked C × (PassView Parcel × List Parcel)). (one.asked ≡ x.0) × (one.pass ≡ x.1.0)
      × (one.kept.items ≡ x.1.1)) arriving (zip all (zip owners pieces))
      → length arriving ≡ length all
  dealt_count owners pieces [] [] long each dealt = refl
  dealt_count owners pieces [] (a ∷ arriving) long each dealt = absurd dealt
  dealt_count [] pieces (x ∷ all) arriving long each dealt = absurd (omega (arith, long))
  dealt_count (p ∷ owners) [] (x ∷ all) arriving long each dealt = absurd (omega (arith, each))
  dealt_count (p ∷ owners) (l ∷ pieces) (x ∷ all) [] long each dealt = absurd dealt
  dealt_count (p ∷ owners) (l ∷ pieces) (x ∷ all) (a ∷ arriving) long each dealt =
      ap suc (dealt_count owners pieces all arriving (omega (arith, long)) (omega (arith, each)) dealt.1)

  dealt_each : (owners : List (PassView Parcel)) (pieces : List (List Parcel)) (all : List (Asked C)) (arriving : List (Arriving C))
      → length owners ≡ length all → length pieces ≡ length all
      → AllZip (λ (one : Arriving C) (x : Asked C × (PassView Parcel × List Parcel)). (one.asked ≡ x.0) × (one.pass ≡ x.1.0)
      × (one.kept.items ≡ x.1.1)) arriving (zip all (zip owners pieces))
      → (k : ℕ) (d : Arriving C) (x : Asked C) (p : PassView Parcel) (l : List Parcel) → k < length all
      → ((get_or arriving k d).asked ≡ get_or all k x) × ((get_or arriving k d).pass ≡ get_or owners k p)
      × ((get_or arriving k d).kept.items ≡ get_or pieces k l)
  dealt_each owners pieces [] arriving long each dealt k d x p l below = absurd (omega (arith, below))
  dealt_each [] pieces (y ∷ all) arriving long each dealt k d x p l below = absurd (omega (arith, long))
  dealt_each (q ∷ owners) [] (y ∷ all) arriving long each dealt k d x p l below = absurd (omega (arith, each))
  dealt_each (q ∷ owners) (m ∷ pieces) (y ∷ all) [] long each dealt k d x p l below = absurd dealt
  dealt_each (q ∷ owners) (m ∷ pieces) (y ∷ all) (a ∷ arriving) long each dealt zero d x p l below = dealt.0
  dealt_each (q ∷ owners) (m ∷ pieces) (y ∷ all) (a ∷ arriving) long each dealt (suc k) d x p l below =
      dealt_each owners pieces all arriving (omega (arith, long)) (omega (arith, each)) dealt.1 k d x p l (omega (arith, below))

  -- the last pass and piece are the first worker's
  pub dealt_at : (owners : List (PassView Parcel)) (pieces : List (List Parcel)) (all : List (Asked C)) (arriving : List (Arriving C))
      → length owners ≡ length all → length pieces ≡ length all → AreDealtOut owners pieces all arriving
      → (k i : ℕ) (d : Arriving C) (x : Asked C) (p : PassView Parcel) (l : List Parcel) → k < length all → i + k + 1 ≡ length all
      → ((get_or arriving k d).asked ≡ get_or all k x) × ((get_or arriving k d).pass ≡ get_or owners i p)
      × ((get_or arriving k d).kept.items ≡ get_or pieces i l)
  dealt_at owners pieces all arriving long each dealt k i d x p l below is =
      let of = dealt_each (reverse owners) (reverse pieces) all arriving (length-reverse owners ∙ long) (length-reverse pieces
      ∙ each) dealt k d x p l below in
      let at : length owners - 1 - k ≡ i = omega (arith, long, is) in
      let at' : length pieces - 1 - k ≡ i = omega (arith, each, is) in (
        of.0,
        of.1 ∙ get_or-reverse owners k p (omega (arith, long, below)) ∙ ap (λ n. get_or owners n p) at,
        of.2 ∙ get_or-reverse pieces k l (omega (arith, each, below)) ∙ ap (λ n. get_or pieces n l) at',
      )
