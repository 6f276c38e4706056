-- The owners' passes as each worker gets its own, and a worker's seat over its requests.
use Rattle.std.proofs.Common.{◌≡◌, ℕ, ◌+◌, ◌-◌, ◌<◌, ◌≤◌, Bool, List, [], ◌∷◌, ◌++◌, All, get_or, length, map, refl, ap, sym, subst, ◌∙◌, arith}
use Rattle.std.specs.List.Sorted.{IsPermutation}
use Rattle.std.proofs.lemmas.List.{append-nil, get_or-map, length-map}
use Rattle.std.proofs.lemmas.List.Elements.{All-head, All-nil, All-same, All-tail}
use Rattle.core_model.specs.View.{Role, no_role, role}
use Rattle.dict_model.specs.Requests.{Request}
use Rattle.dict_model.specs.Shards.{Map}
use Rattle.heap_table.specs.AtTable.{SharedView}
use Rattle.run_model.specs.Arrivals.{IsWholeMap}
use Rattle.run_model.specs.Sending.{Sent}
use Rattle.seat_model.specs.CacheState.{CacheState, CacheValue}
use Rattle.parcel_queue.proofs.OrderLemmas.{from, upto}
use Rattle.worker_run.specs.Said.{replies_of}
use Rattle.worker_run.specs.declared.worker.Worker.{Worker}
use Rattle.worker_parts.specs.Begun.{IsBegun}
use Rattle.worker_parts.specs.Going.{GoesOn}
use Rattle.worker_parts.specs.Jobs.{IsAskedOf, IsFirst, image_of}
use Rattle.parcel_queue.specs.Account.{PassView, QueueView, all_parts}
use Rattle.parcel_queue.specs.Row.{ArePassesOf, ArePassesWith, giving_a_part, with_a_part}
use Rattle.parcel_queue.proofs.HandLemmas.{given_pass, handed_pass}
use Rattle.seat_parcels.specs.declared.parcel.Parcel.{Parcel}
use Rattle.seat_parcels.specs.Boxes.{ArePutRightly, BoxView, HasParts, HaveParts, IsInStep, all_put, parcels_of, sent_by}
use Rattle.seat_parcels.specs.Going.{OffersAtMost}
use Rattle.seat_parcels.specs.Parcels.{IsParcelOf, all_sent_of, sent_of}
use Rattle.seat_parcels.proofs.RowLemmas.{given_parts, given_rightly, new_parts, new_rightly, none_put}
use Rattle.worker_parts.specs.declared.beginning.Begun.{Begun}
use Rattle.run_rows.specs.declared.sending.Posted.{Posted}
use Rattle.run_rows.specs.declared.sending.Sender.{Sender}
use Rattle.run_rows.specs.Turns.{AreInTurn}
use Rattle.run_rows.specs.Posts.{ArePassesTo, AreSentBy, sent_by_worker}
use Rattle.run_rows.specs.Rows.{IsPostedOf, parcels_by}

-- with more parts than some, if each has that many
pub passes_with : (m parts : ℕ) (queues : List QueueView) (passes : List (PassView Parcel)) → m < parts → ArePassesOf queues passes
    → HaveParts parts passes
    → ArePassesWith m queues passes
passes_with m parts [] [] more all have = tt
passes_with m parts [] (p ∷ ps) more all have = absurd all
passes_with m parts (q ∷ qs) [] more all have = absurd all
passes_with m parts (q ∷ qs) (p ∷ ps) more all have =
    let first = All-head (HasParts parts) p ps have in
    let is = first.parts_are in
    (record { same = all.0.same; more = omega (arith, is, more) }, passes_with m parts qs ps more all.1 (All-tail (HasParts parts) p ps have))

-- owners by whose passes nothing was put, once each gave a part
pub given_none : (owners now : List (PassView Parcel)) → now ≡ map giving_a_part owners → all_put owners ≡ [] → all_put now ≡ []
given_none owners now is none = ap all_put is ∙ same owners ∙ none where
  same : (ps : List (PassView Parcel)) → all_put (map giving_a_part ps) ≡ all_put ps
  same [] = refl
  same (p ∷ ps) = ap (λ (l : List Parcel). p.account.put ++ l) (same ps)

-- each owner gave a part: they have one fewer
pub given_on : (parts : ℕ) (queues : List QueueView) (owners now : List (PassView Parcel)) → 1 ≤ parts → ArePassesTo (parts + 1) queues owners
    → now ≡ map giving_a_part owners → ArePassesTo parts queues now
given_on parts queues owners now some to is = subst (ArePassesTo parts queues) (sym is) (record {
  passes_are = given_pass 0 queues owners (passes_with 1 (parts + 1) queues owners (omega (arith, some)) to.passes_are to.parts_are);
  parts_are = given_parts parts owners to.parts_are;
  rightly = given_rightly (length queues) 0 owners to.rightly;
})

-- and what was made of these has one part each
pub made_of : (parts : ℕ) (queues : List QueueView) (owners passes : List (PassView Parcel)) → 1 ≤ parts → ArePassesTo (parts + 1) queues owners
    → passes ≡ map with_a_part owners → ArePassesTo 1 queues passes × (all_put passes ≡ [])
made_of parts queues owners passes some to is = (
  subst (ArePassesTo 1 queues) (sym is) (record {
    passes_are = handed_pass queues owners (passes_with 1 (parts + 1) queues owners (omega (arith, some)) to.passes_are to.parts_are);
    parts_are = new_parts owners;
    rightly = new_rightly (length queues) 0 owners;
  }),
  ap all_put is ∙ none_put owners,
)

-- a seat goes on that offers nodes
pub goes_offering : {C : Type 0} (gives : C → ℕ → C → Type 0) (s t : CacheValue C) → OffersAtMost gives s t → GoesOn s.state t.state
goes_offering gives s t on = (on.stays.table, on.stays.costs, on.carries)

-- a worker that has begun has offered and accepted nothing
module _ (shared : SharedView) (workers worker : ℕ) (wanted tables : ℕ → Bool) (stopped : Bool) (first s : CacheState)
    (is_first : IsFirst shared workers worker first)
    (part : IsBegun (image_of shared) wanted tables stopped first s) where
  begun_role : role s.view ≡ no_role
  begun_role = part.role_is ∙ ap role is_first.fresh.view_is

  pub none_offered : s.view.offers ≡ 0
  none_offered = ap (λ (r : Role). r.offers) begun_role

  pub none_accepted : s.view.accepts ≡ 0
  none_accepted = ap (λ (r : Role). r.accepts) begun_role

  pub begun_table : s.table ≡ shared.table
  begun_table = part.goes_on.0 ∙ is_first.table

  -- so it is in step with a box by which nothing was sent
  pub begun_in_step : (table : _) (box : BoxView) → table ≡ shared.table → sent_by box ≡ [] → IsInStep table box s
  begun_in_step table box same none = record { at_table = begun_table ∙ sym same; offered = none_offered ∙ sym (ap length none) }

-- nothing is sent by new passes
pub none_sent : (box : BoxView) (passes : List (PassView Parcel)) (kept : List Parcel) → box.passes ≡ passes → box.kept ≡ kept
    → all_put passes ≡ [] → kept ≡ [] → sent_by box ≡ []
none_sent box passes kept passes_are kept_are nothing empty = ap all_sent_of
    (ap (λ (l : List Parcel). l ++ box.kept) (ap all_put passes_are ∙ nothing) ∙ kept_are ∙ empty)

-- nothing that is kept is of any heap
pub empty_of : (table : _) (kept : List Parcel) → kept ≡ [] → All (IsParcelOf table) kept
empty_of table kept empty = All-same (IsParcelOf table) kept [] empty (All-nil (IsParcelOf table))

-- a worker's requests are worked off by a box of such passes
module _ {C : Type 0} (shared : SharedView) (requests : List Request) (tables : ℕ → Bool) (queues row : List QueueView) (worker : Worker)
    (before after : BoxView)
    (one : Posted C) (worker_is : one.asked.worker ≡ worker) (passes_are : one.passes.items ≡ after.passes)
    (kept_are : one.kept.items ≡ after.kept) where
  by_box : parcels_by one ≡ parcels_of after
  by_box = ap (λ (ps : List (PassView Parcel)). all_put ps ++ one.kept.items) passes_are ∙ ap (λ (l : List Parcel). all_put after.passes ++ l) kept_are

  sent_all : ((whole : Map) → IsWholeMap (image_of shared) whole
      → IsPermutation (sent_by_worker worker.workers requests whole worker.number (replies_of one.asked.replies.items) ++ sent_by before)
      (sent_by after))
      → sent_by before ≡ []
      → AreSentBy shared one.asked.worker.workers requests one.asked.worker.number (replies_of one.asked.replies.items) (parcels_by one)
  sent_all sent none = record {
    same = λ whole is_whole. subst (λ (w : Worker). IsPermutation (sent_by_worker w.workers requests whole w.number
        (replies_of one.asked.replies.items)) (all_sent_of (parcels_by one)))
        (sym worker_is) (upto (from (sym (append-nil (of_it whole)) ∙ ap (λ (l : List Sent). of_it whole ++ l) (sym none))
        (sent whole is_whole)) (ap all_sent_of (sym by_box)));
  } where
    of_it : Map → List Sent
    of_it whole = sent_by_worker worker.workers requests whole worker.number (replies_of one.asked.replies.items)

  pub answered_of : (table : _) → table ≡ shared.table → queues ≡ row → IsAskedOf shared requests tables one.asked
      → ArePassesOf row one.passes.items → HaveParts 1 one.passes.items → ArePutRightly (length row) 0 one.passes.items
      → All (IsParcelOf table) one.kept.items
      → ((whole : Map) → IsWholeMap (image_of shared) whole
      → IsPermutation (sent_by_worker worker.workers requests whole worker.number (replies_of one.asked.replies.items) ++ sent_by before)
      (sent_by after))
      → sent_by before ≡ [] → IsInStep table after one.asked.seat.state → one.asked.seat.state.view.accepts ≡ 0
      → IsPostedOf shared requests tables queues one
  answered_of table heap are asked passes parts rightly kept sent none step accepted = record {
    asked = asked;
    passes = subst (λ (qs : List QueueView). ArePassesTo 1 qs one.passes.items) (sym are)
        (record { passes_are = passes; parts_are = parts; rightly = rightly });
    kept = subst (λ t. All (IsParcelOf t) one.kept.items) heap kept;
    sent = sent_all sent none;
    offered = step.offered ∙ length-map (parcels_of after) sent_of ∙ ap length (sym by_box);
    none_accepted = accepted;
  }

-- one worker more gets its passes: of eight at most, of which some have theirs
module _ (n : ℕ) (few : n < 8) (queues : List QueueView) (owners : List (PassView Parcel)) (to : ArePassesTo (all_parts - n) queues owners) where
  with_more : ArePassesTo (all_parts - (n + 1) + 1) queues owners
  with_more = let e : all_parts - n ≡ all_parts - (n + 1) + 1 = omega (arith, few) in subst (λ parts. ArePassesTo parts queues owners) e to

  pub may_give : ArePassesWith 1 queues owners
  may_give = passes_with 1 (all_parts - n) queues owners (omega (arith, few)) to.passes_are to.parts_are

  pub one_given : (now : List (PassView Parcel)) → now ≡ map giving_a_part owners → ArePassesTo (all_parts - (n + 1)) queues now
  one_given now is = given_on (all_parts - (n + 1)) queues owners now (omega (arith, few)) with_more is

  pub one_made : (passes : List (PassView Parcel)) → passes ≡ map with_a_part owners → ArePassesTo 1 queues passes × (all_put passes ≡ [])
  one_made passes is = made_of (all_parts - (n + 1)) queues owners passes (omega (arith, few)) with_more is

-- workers that have begun are in their turn with their passes too
pub in_turn : {C : Type 0} (all : List (Begun C)) (senders : List (Sender C)) → map (λ (s : Sender C). s.begun) senders ≡ all
    → AreInTurn (λ (b : Begun C). b.worker) (length all) all
    → AreInTurn (λ (s : Sender C). s.begun.worker) (length senders) senders
in_turn {C} all senders are turns = record {
  each = λ i any below.
      let long : length senders ≡ length all = sym (length-map senders (λ (s : Sender C). s.begun)) ∙ ap length are in
      let inside : i < length all = omega (arith, below, long) in
      let at : get_or all i any.begun ≡ (get_or senders i any).begun =
      ap (λ (l : List (Begun C)). get_or l i any.begun) (sym are) ∙ get_or-map (λ (s : Sender C). s.begun) senders i any any.begun below in
      subst (λ (n : ℕ). ((get_or senders i any).begun.worker.workers ≡ n) × ((get_or senders i any).begun.worker.number + i + 1 ≡ n)) (sym long)
      (subst (λ (b : Begun C). (b.worker.workers ≡ length all) × (b.worker.number + i + 1 ≡ length all)) at (turns.each i any.begun inside));
}
