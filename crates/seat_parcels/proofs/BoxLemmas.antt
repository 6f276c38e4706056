-- A box that was made of passes, and one into which a parcel was put, or that kept it.
use Rattle.std.proofs.Common.{◌≡◌, ℕ, ◌≤◌, List, [], ◌∷◌, ◌++◌, All, length, ap, arith, subst, sym, ◌+◌, ◌∙◌}
use Rattle.std.proofs.lemmas.List.Elements.{All-push, All-same}
use Rattle.atomic_table.specs.Seated.{TableId}
use Rattle.parcel_queue.specs.Account.{PassView, QueueView}
use Rattle.parcel_queue.specs.Row.{ArePassesOf, changed_at, having_put}
use Rattle.parcel_queue.proofs.RowLemmas.{as_many}
use Rattle.seat_parcels.specs.declared.parcel.Parcel.{Parcel}
use Rattle.seat_parcels.specs.Boxes.{ArePutRightly, BoxView, HasParts, HaveParts, IsPostBox, goes_to}
use Rattle.seat_parcels.specs.Parcels.{IsParcelOf}
use Rattle.seat_parcels.proofs.PutLemmas.{put_rightly, still_parts}
use Rattle.seat_parcels.proofs.PutLemmas.{as_many as as_many_then}

pub new_box : (table : TableId) (row queues : List QueueView) (passes : List (PassView Parcel)) (box : BoxView) → box.queues ≡ queues
    → box.passes ≡ passes
    → queues ≡ row → 1 ≤ box.workers → length queues ≡ box.workers → ArePassesOf queues passes → HaveParts 1 passes → ArePutRightly box.workers 0 passes
    → All (IsParcelOf table) box.kept → IsPostBox table row box
new_box table row queues passes box same_queues same_passes are some each all parts rightly kept = record {
  queues_are = same_queues ∙ are;
  some = some;
  queue_each = ap length (sym are) ∙ each;
  pass_each = ap length same_passes ∙ as_many queues passes all ∙ each;
  parts = All-same (HasParts 1) box.passes passes same_passes parts;
  rightly = subst (ArePutRightly box.workers 0) (sym same_passes) rightly;
  kept = kept;
}

module _ (table : TableId) (row : List QueueView) (old : BoxView) (box : IsPostBox table row old) (x : Parcel) where
  -- it was put with the pass to its worker
  pub with_put : (queues : List QueueView) (passes : List (PassView Parcel)) (to : ℕ) → to ≡ goes_to old.workers x → queues ≡ old.queues
      → passes ≡ changed_at (having_put x) to old.passes → IsPostBox table row (record old { queues = queues; passes = passes })
  with_put queues passes to is same changed = record {
    queues_are = same ∙ box.queues_are;
    some = box.some;
    queue_each = box.queue_each;
    pass_each = ap length changed ∙ as_many_then x to old.passes ∙ box.pass_each;
    parts = All-same (HasParts 1) passes (changed_at (having_put x) to old.passes) changed (still_parts x to old.passes box.parts);
    rightly = subst (ArePutRightly old.workers 0) (sym changed) (put_rightly old.workers x to 0 old.passes box.rightly to_it);
    kept = box.kept;
  } where
    to_it : goes_to old.workers x ≡ 0 + to
    to_it = omega (arith, is)

  -- or kept
  pub with_kept : (queues : List QueueView) (passes : List (PassView Parcel)) (kept : List Parcel) (spare : ℕ) → queues ≡ old.queues
      → passes ≡ old.passes
      → kept ≡ old.kept ++ x ∷ [] → IsParcelOf table x → IsPostBox table row
      (record old { queues = queues; passes = passes; kept = kept; spare = spare })
  with_kept queues passes kept spare same same_passes more is = record {
    queues_are = same ∙ box.queues_are;
    some = box.some;
    queue_each = box.queue_each;
    pass_each = ap length same_passes ∙ box.pass_each;
    parts = All-same (HasParts 1) passes old.passes same_passes box.parts;
    rightly = subst (ArePutRightly old.workers 0) (sym same_passes) box.rightly;
    kept = All-same (IsParcelOf table) kept (old.kept ++ x ∷ []) more (All-push (IsParcelOf table) old.kept x box.kept is);
  }
