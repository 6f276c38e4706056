use Rattle.std.proofs.Common.{◌≡◌, ◌+◌, ◌-◌, ◌++◌, ◌≤◌, All, length, map, vec_capacity}
use Rattle.std.specs.Prelude.{flat_map}
use Rattle.std.specs.Vec.{vec_len}
use Rattle.std.specs.List.Sorted.{IsPermutation}
use Rattle.parcel_queue.specs.Account.{all_parts}
use Rattle.seat_parcels.specs.Boxes.{all_put}
use Rattle.seat_parcels.specs.Parcels.{IsParcelOf}
use Rattle.run_rows.specs.Posts.{ArePassesTo}
use Rattle.run_rows.specs.Rows.{parcels_by}
use Rattle.run_rows.proofs.handing.absorb_all.Given as goal

abbrev pub invariant-loop-one : goal.invariant-loop-one
invariant-loop-one g l = record {
  can : (goal.iterator-loop-one g).can_next l.one-iterator;
  finite : (goal.iterator-loop-one g).is_finite l.one-iterator;
  all_are : l.fn.all.items ≡ l.yielded ++ l.one-iterator.rest.items;
  owners : ArePassesTo (all_parts - length l.fn.all.items + length l.yielded) l.queues l.owners.items;
  kept : All (IsParcelOf g.J.HeapOf.table) l.kept.items;
  parcels : IsPermutation (flat_map (λ one. parcels_by one) l.yielded) (all_put l.owners.items ++ l.kept.items);
  asked_are : l.asked.items ≡ map (λ one. one.asked) l.yielded;
  count : vec_len l.asked ≡ length l.yielded;
  room : length l.fn.all.items ≤ vec_capacity l.asked;
}
