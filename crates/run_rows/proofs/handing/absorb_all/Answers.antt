use Rattle.std.proofs.Common.{◌≡◌, ◌+◌, ◌-◌, ◌++◌, All, [], ◌∷◌, length, map, sym, subst, ap, ◌∙◌, arith}
use Rattle.std.specs.Prelude.{flat_map}
use Rattle.std.proofs.lemmas.List.{length_push}
use Rattle.std.proofs.lemmas.List.Elements.{All-append, All-nil, All-same}
use Rattle.std.proofs.lemmas.List.Sorted.{IsPermutation-refl}
use Rattle.parcel_queue.specs.Account.{all_parts}
use Rattle.parcel_queue.proofs.OrderLemmas.{from, upto}
use Rattle.parcel_queue.proofs.RowLemmas.{as_many}
use Rattle.seat_parcels.specs.Parcels.{IsParcelOf}
use Rattle.run_rows.specs.Posts.{ArePassesTo}
use Rattle.run_rows.specs.Rows.{parcels_by}
use Rattle.run_rows.proofs.DealLemmas.{absorbed, absorbed_parcels, all_done, flat_mapped_more, mapped_more, one_done, so_many_done, so_of_next}
use Rattle.run_rows.proofs.handing.absorb_all.Goals as goal

pub loop-one-init : goal.loop-one-init
loop-one-init g c =
    let none = c.in_ok-asked.ensures.len in
    let room = c.in_ok-asked.ensures.exact in
    let long = c.len.ensures in
    let ok = c.args.all.ok in
    let zeroth : all_parts - length c.args.all.items ≡ all_parts - length c.args.all.items + 0 = omega arith in
    record {
      can = tt;
      finite = tt;
      all_are = sym c.into_iter-one-iterator.ensures.into_iter_gives.0;
      owners = subst (λ n. ArePassesTo n c.args.queues.now c.args.owners.now.items) zeroth c.requires.owners;
      kept = All-same (IsParcelOf g.J.HeapOf.table) c.new-kept.result.items [] c.new-kept.ensures.items (All-nil (IsParcelOf g.J.HeapOf.table));
      parcels = upto (IsPermutation-refl []) (sym (ap (λ l. l ++ c.new-kept.result.items) c.requires.nothing ∙ c.new-kept.ensures.items));
      asked_are = c.in_ok-asked.ensures.items;
      count = none;
      room = omega (arith, room, long, ok);
    }

pub absorb_each-requires-clause-others : goal.absorb_each-requires-clause-others
absorb_each-requires-clause-others g c =
    (so_of_next c.args.all.items c.loop-one.yielded c.loop-one.one-iterator.rest.items c.loop-one.invariant.all_are
    (λ one. ArePassesTo 1 c.args.queues.now one.passes.items)
    c.in-Some.one c.next.new.self.rest.items c.in-Some.ensures.steps.0 c.requires.passes).passes_are

pub push_reserved-requires : goal.push_reserved-requires
push_reserved-requires g c =
    let inv = c.loop-one.invariant in
    let more = so_many_done c.args.all.items c.loop-one.yielded c.loop-one.one-iterator.rest.items inv.all_are c.in-Some.one
    c.next.new.self.rest.items c.in-Some.ensures.steps.0 in
    let count = inv.count in
    let room = inv.room in
    omega (arith, more, count, room)

pub loop-one-preserved : goal.loop-one-preserved
loop-one-preserved g c =
    let inv = c.loop-one.invariant in
    let one = c.in-Some.one in
    let all = c.args.all.items in
    let done = c.loop-one.yielded in
    let left = c.loop-one.one-iterator.rest.items in
    let later = c.next.new.self.rest.items in
    let first = c.in-Some.ensures.steps.0 in
    let count = inv.count in
    let room = inv.room in
    let long = c.push_reserved.ensures.len in
    let same = c.push_reserved.ensures.capacity in
    let passes = so_of_next all done left inv.all_are (λ x. ArePassesTo 1 c.args.queues.now x.passes.items) one later first c.requires.passes in
    let kept = so_of_next all done left inv.all_are (λ x. All (IsParcelOf g.J.HeapOf.table) x.kept.items) one later first c.requires.kept in
    let pushed = length_push done one in
    let parts : all_parts - length all + length done + 1 ≡ all_parts - length all + length (done ++ one ∷ []) = omega (arith, pushed) in
    let more = flat_mapped_more (λ x. parcels_by x) done one in
    record {
      can = tt;
      finite = tt;
      all_are = one_done all done left inv.all_are one later first;
      owners = subst (λ n. ArePassesTo n c.args.queues.now c.absorb_each.new.owners.items) parts
          (absorbed (all_parts - length all + length done) c.args.queues.now c.loop-one.owners.items one.passes.items
          c.absorb_each.new.owners.items inv.owners passes
          c.absorb_each.ensures.owners c.absorb_each.ensures.joined);
      kept = All-same (IsParcelOf g.J.HeapOf.table) c.append.new.self.items (c.loop-one.kept.items ++ one.kept.items) c.in_ok-append.ensures.items
          (All-append (IsParcelOf g.J.HeapOf.table) c.loop-one.kept.items one.kept.items inv.kept kept);
      parcels = from more (absorbed_parcels (flat_map (λ x. parcels_by x) done)
          c.loop-one.owners.items one.passes.items c.absorb_each.new.owners.items c.loop-one.kept.items one.kept.items
          c.append.new.self.items inv.parcels (as_many c.args.queues.now one.passes.items passes.passes_are
          ∙ sym (as_many c.args.queues.now c.loop-one.owners.items inv.owners.passes_are))
          c.absorb_each.ensures.joined c.in_ok-append.ensures.items);
      asked_are = mapped_more (λ x. x.asked) done one c.loop-one.asked.items c.push_reserved.new.self.items inv.asked_are c.push_reserved.ensures.items;
      count = omega (arith, count, long, pushed);
      room = omega (arith, room, same);
    }

pub returns : goal.returns
returns g c =
    let inv = c.loop-one.invariant in
    let none = c.in-None.ensures.steps.0 in
    let ok = c.loop-one.one-iterator.rest.ok in
    let all = c.args.all.items in
    let done = c.loop-one.yielded in
    let are = all_done all done c.loop-one.one-iterator.rest.items inv.all_are (omega (arith, none, ok)) in
    let long = ap length are in
    let few = c.requires.few in
    let parts : all_parts - length all + length done ≡ all_parts = omega (arith, long, few) in
    record {
      asked = inv.asked_are ∙ ap (λ l. map (λ one. one.asked) l) (sym are);
      owners = subst (λ n. ArePassesTo n c.args.queues.now c.loop-one.owners.items) parts inv.owners;
      kept = inv.kept;
      parcels = from (ap (λ l. flat_map (λ one. parcels_by one) l) are) inv.parcels;
    }
