use Rattle.std.proofs.Common.{false, ◌≡◌, ◌+◌, ◌-◌, ◌<◌, List, [], ◌∷◌, ◌++◌, length, map, ap, sym, subst, ◌∙◌, arith, rules}
use Rattle.std.specs.Vec.{vec_len}
use Rattle.std.proofs.lemmas.Iterator.Adapters.{YieldsList-from_vec}
use Rattle.std.proofs.lemmas.Iterator.Consumers.{YieldsList-end, YieldsList-turn}
use Rattle.std.proofs.lemmas.List.{length-append, length-map, map-id, map_push}
use Rattle.std.proofs.lemmas.List.Elements.{All-push, All-same}
use Rattle.parcel_queue.specs.Account.{all_parts}
use Rattle.worker_parts.specs.declared.beginning.Begun.{Begun}
use Rattle.worker_parts.specs.Jobs.{IsBegunOf}
use Rattle.worker_run.specs.Said.{requests_of}
use Rattle.run_rows.specs.declared.sending.Sender.{Sender}
use Rattle.run_rows.specs.Posts.{ArePassesTo}
use Rattle.run_rows.specs.Rows.{IsSenderOf}
use Rattle.run_rows.proofs.SendLemmas.{given_none, in_turn, may_give, one_given, one_made}
use Rattle.run_rows.proofs.sending.with_passes.Goals as goal

-- so many have their passes, of eight at most
so_many : {C : Type 0} (senders : List (Sender C)) (yielded : List (Begun C)) → map (λ (s : Sender C). s.begun) senders ≡ yielded
    → length senders ≡ length yielded
so_many {C} senders yielded are = sym (length-map senders (λ (s : Sender C). s.begun)) ∙ ap length are

-- it hasn't stopped, as the one that it is
still_going : {C : Type 0} (begun same : Begun C) → begun ≡ same → same.stopped ≡ false → begun.stopped ≡ false
still_going {C} begun same is going = ap (λ (b : Begun C). b.stopped) is ∙ going

pub a_pass_to_each-requires : goal.a_pass_to_each-requires
a_pass_to_each-requires g c =
    let t = YieldsList-turn (YieldsList-from_vec {s = c.into_iter-begun-iterator.result} c.args.all.items
    c.into_iter-begun-iterator.ensures.into_iter_gives.0 (c.into_iter-begun-iterator.ensures.into_iter_gives.1 ∙ c.args.all.ok.0))
    c.loop-begun.yielded c.loop-begun.begun-iterator c.loop-begun.yielded_by _ c.next.new.self c.in-Some.begun c.in-Some.is c.next.ensures.steps in
    let n = so_many c.loop-begun.senders.items c.loop-begun.yielded c.loop-begun.invariant.begun in
    let few = c.requires.few in
    let inside = t.0 in
    record {
      owners = may_give (length c.loop-begun.senders.items)
          (omega (arith, n, few, inside)) c.args.queues.now c.loop-begun.owners.items c.loop-begun.invariant.owners;
    }

pub push_reserved-requires : goal.push_reserved-requires
push_reserved-requires g c =
    let t = YieldsList-turn (YieldsList-from_vec {s = c.into_iter-begun-iterator.result} c.args.all.items
    c.into_iter-begun-iterator.ensures.into_iter_gives.0 (c.into_iter-begun-iterator.ensures.into_iter_gives.1 ∙ c.args.all.ok.0))
    c.loop-begun.yielded c.loop-begun.begun-iterator c.loop-begun.yielded_by _ c.next.new.self c.in-Some.begun c.in-Some.is c.next.ensures.steps in
    let n = so_many c.loop-begun.senders.items c.loop-begun.yielded c.loop-begun.invariant.begun in
    let room = c.loop-begun.invariant.room in
    let inside = t.0 in
    let long : vec_len c.loop-begun.senders ≡ length c.loop-begun.senders.items = search rules in
    omega (arith, n, room, inside, long)

pub loop-begun-preserved : goal.loop-begun-preserved
loop-begun-preserved g c =
    let t = YieldsList-turn (YieldsList-from_vec {s = c.into_iter-begun-iterator.result} c.args.all.items
    c.into_iter-begun-iterator.ensures.into_iter_gives.0 (c.into_iter-begun-iterator.ensures.into_iter_gives.1 ∙ c.args.all.ok.0))
    c.loop-begun.yielded c.loop-begun.begun-iterator c.loop-begun.yielded_by _ c.next.new.self c.in-Some.begun c.in-Some.is c.next.ensures.steps in
    let was = c.loop-begun.invariant in
    let shared = c.args._shared.now in
    let requests = requests_of c.args.requests.now in
    let queues = c.args.queues.now in
    let owners = c.loop-begun.owners.items in
    let senders = c.loop-begun.senders.items in
    let now = c.push_reserved.new.self.items in
    let begun = c.in-Some.begun in
    let at = length c.loop-begun.yielded in
    let sender : Sender g.row.C.Denot = record { begun = begun; passes = c.in_ok-passes.passes; kept = c.in_ok-kept.kept } in
    let n = so_many senders c.loop-begun.yielded was.begun in
    let few = c.requires.few in
    let inside = t.0 in
    let below : length senders < 8 = omega (arith, n, few, inside) in
    let is_begun = subst (IsBegunOf shared requests) (sym t.1) (c.requires.begun at begun inside) in
    let made = one_made (length senders) below queues owners was.owners c.in_ok-passes.passes.items c.in_ok-passes.ensures.passes in
    let long = ap length c.push_reserved.ensures.items ∙ length-append senders (sender ∷ []) in
    let more : length now ≡ length senders + 1 = omega (arith, long) in
    record {
      owners = subst (λ m. ArePassesTo (all_parts - m) queues c.a_pass_to_each.new.owners.items) (sym more)
          (one_given (length senders) below queues owners was.owners c.a_pass_to_each.new.owners.items c.in_ok-passes.ensures.given);
      nothing = given_none owners c.a_pass_to_each.new.owners.items c.in_ok-passes.ensures.given was.nothing;
      senders = All-same (IsSenderOf shared requests queues) now (senders ++ sender ∷ []) c.push_reserved.ensures.items
          (All-push (IsSenderOf shared requests queues) senders sender was.senders (record {
            begun = is_begun;
            going = still_going begun _ t.1 (c.requires.going at begun inside);
            passes = made.0;
            nothing = made.1;
            empty = c.in_ok-kept.ensures.items;
            room = let has = c.in_ok-kept.ensures.capacity in let need = c.moves_of.ensures in omega (arith, has, need);
          }));
      begun = ap (map (λ (s : Sender _). s.begun)) c.push_reserved.ensures.items ∙ map_push (λ (s : Sender _). s.begun) senders sender
          ∙ ap (λ (l : List (Begun _)). l ++ begun ∷ []) was.begun;
      room = let same = c.push_reserved.ensures.capacity in let room = was.room in omega (arith, same, room);
    }

pub returns-clause-turns : goal.returns-clause-turns
returns-clause-turns g c =
    let e = YieldsList-end (YieldsList-from_vec {s = c.into_iter-begun-iterator.result} c.args.all.items
    c.into_iter-begun-iterator.ensures.into_iter_gives.0 (c.into_iter-begun-iterator.ensures.into_iter_gives.1 ∙ c.args.all.ok.0))
    c.loop-begun.yielded c.loop-begun.begun-iterator c.loop-begun.yielded_by _ c.next.new.self c.in-None.is c.next.ensures.steps in
    let same : c.loop-begun.yielded ≡ c.args.all.items = sym (map-id c.loop-begun.yielded) ∙ e.0 in
    in_turn c.args.all.items c.loop-begun.senders.items (c.loop-begun.invariant.begun ∙ same) c.requires.turns

pub returns-clause-begun : goal.returns-clause-begun
returns-clause-begun g c =
    let e = YieldsList-end (YieldsList-from_vec {s = c.into_iter-begun-iterator.result} c.args.all.items
    c.into_iter-begun-iterator.ensures.into_iter_gives.0 (c.into_iter-begun-iterator.ensures.into_iter_gives.1 ∙ c.args.all.ok.0))
    c.loop-begun.yielded c.loop-begun.begun-iterator c.loop-begun.yielded_by _ c.next.new.self c.in-None.is c.next.ensures.steps in
    c.loop-begun.invariant.begun ∙ sym (map-id c.loop-begun.yielded) ∙ e.0
