-- What each worker is handed: what all workers sent to it.
use Rattle.std.proofs.Common.{◌≡◌, ℕ, zero, suc, ◌+◌, ◌<◌, Bool, true, nat_eq, List, [], ◌∷◌, ◌++◌, All, length, map, get_or, reverse, refl, subst, ap, arith, sym, ◌∙◌}
use Rattle.std.specs.Prelude.{flat_map, ◌&&◌}
use Rattle.std.specs.List.Sorted.{IsPermutation}
use Rattle.std.proofs.lemmas.List.{get_or-map, length-map, length-reverse, map-append}
use Rattle.std.proofs.lemmas.List.Elements.{All-filter, All-same, filter-append, filter_passes}
use Rattle.std.proofs.lemmas.List.Sorted.{All-permutation, IsPermutation-map, length_permutation}
use Rattle.heap_model.proofs.ImageLemmas.{get_or-words_from, length-words_from}
use Rattle.heap_model.specs.Image.{words_from}
use Rattle.heap_table.specs.AtTable.{SharedView}
use Rattle.dict_model.specs.Nodes.{shard_of}
use Rattle.dict_model.specs.Requests.{Request}
use Rattle.dict_model.specs.Shards.{Map}
use Rattle.parcel_queue.specs.Account.{PassView, QueueView, all_parts}
use Rattle.parcel_queue.proofs.OrderLemmas.{follow, from, upto}
use Rattle.parcel_queue.proofs.RowLemmas.{as_many, at_place}
use Rattle.run_model.specs.Needs.{is_moved_to}
use Rattle.run_model.specs.Arrivals.{IsWholeMap}
use Rattle.run_model.specs.Sending.{Sent}
use Rattle.run_model.specs.Workers.{Replies, worker_numbers, worker_of}
use Rattle.run_model.proofs.OneMapLemmas.{whole_map}
use Rattle.seat_parcels.specs.declared.parcel.Parcel.{Parcel}
use Rattle.seat_parcels.specs.Boxes.{ArePutRightly, HasParts, all_put, is_for, parcels_for}
use Rattle.seat_parcels.specs.Parcels.{IsParcelOf, all_sent_of, sent_of}
use Rattle.seat_parcels.proofs.PartLemmas.{sent_to as sent_of_part}
use Rattle.seat_parcels.proofs.RowLemmas.{put_for_it}
use Rattle.worker_parts.specs.declared.asking.Asked.{Asked}
use Rattle.worker_parts.specs.Jobs.{HasTableFor, IsAskedOf, image_of}
use Rattle.worker_parts.proofs.BeginLemmas.{first_opened}
use Rattle.worker_run.specs.Said.{replies_of}
use Rattle.run_rows.specs.declared.arriving.Arriving.{Arriving}
use Rattle.run_rows.specs.declared.sending.Posted.{Posted}
use Rattle.run_rows.specs.Posts.{ArePassesTo, AreSentTo, all_sent_to, sent_by_worker, sent_to}
use Rattle.run_rows.specs.Rows.{AreDealtOut, IsPostedOf, IsArrivingOf, parcels_by}
use Rattle.run_rows.specs.Turns.{AreInTurn}
use Rattle.run_rows.proofs.OrderedLemmas.{All-unmap, all_pieces, filter_permuted, flat_map_each, in_turn, pieces_through}
use Rattle.run_rows.proofs.SentLemmas.{IsMovedTo, sent_moved, told_at, told_of}
use Rattle.run_rows.proofs.DealtLemmas.{dealt_at, dealt_count}

-- the values that are sent to a worker
abbrev sent_for : ℕ → ℕ → List Parcel → List Sent
sent_for workers worker parcels = sent_to workers worker (all_sent_of parcels)

sent_for_both : (workers worker : ℕ) (a b : List Parcel) → sent_for workers worker (a ++ b) ≡ sent_for workers worker a ++ sent_for workers worker b
sent_for_both workers worker a b = ap (sent_to workers worker) (map-append sent_of a b)
    ∙ filter-append (λ (s : Sent). nat_eq (worker_of workers (shard_of s.key)) worker) (all_sent_of a) (all_sent_of b)

module _ {C : Type 0} (shared : SharedView) (requests : List Request) (tables : ℕ → Bool) (queues : List QueueView) (workers : ℕ)
    (all : List (Posted C))
    (answered : All (IsPostedOf shared requests tables queues) all) (long : length all ≡ workers)
    (turns : AreInTurn (λ (one : Posted C). one.asked.worker) workers all) where
  -- what the workers were told
  abbrev pub told : ℕ → Replies
  told = told_of (λ (one : Posted C). replies_of one.asked.replies.items) all

  told_is : (k : ℕ) (d : Posted C) → k < length all → told (get_or all k d).asked.worker.number ≡ replies_of (get_or all k d).asked.replies.items
  told_is k d below =
      let turn = (turns.each k d below).1 in
      told_at (λ (one : Posted C). replies_of one.asked.replies.items) all k (get_or all k d).asked.worker.number d below (omega (arith, turn, long))

  -- what each sent to a worker is among its parcels
  sent_by_each : (whole : Map) → IsWholeMap (image_of shared) whole → (worker : ℕ)
      → All (λ (one : Posted C). IsPermutation (sent_to workers worker
      (sent_by_worker workers requests whole one.asked.worker.number (told one.asked.worker.number)))
      (sent_for workers worker (parcels_by one))) all
  sent_by_each whole is worker k d below =
      let one = get_or all k d in
      let same = (answered k d below).sent.same whole is in
      let same' = subst (λ n. IsPermutation (sent_by_worker n requests whole one.asked.worker.number (replies_of one.asked.replies.items))
      (all_sent_of (parcels_by one))) (turns.each k d below).0 same in
      let same'' = subst (λ r. IsPermutation (sent_by_worker workers requests whole one.asked.worker.number r) (all_sent_of (parcels_by one)))
      (sym (told_is k d below)) same' in
      filter_permuted (λ (s : Sent). nat_eq (worker_of workers (shard_of s.key)) worker)
      (sent_by_worker workers requests whole one.asked.worker.number (told one.asked.worker.number))
      (all_sent_of (parcels_by one)) same''

  -- what all sent to a worker is what is for it among all parcels
  pub sent_by_all : (whole : Map) → IsWholeMap (image_of shared) whole → (worker : ℕ)
      → IsPermutation (all_sent_to workers requests whole told worker) (sent_for workers worker (flat_map (λ (one : Posted C). parcels_by one) all))
  sent_by_all whole is worker =
      let g : ℕ → List Sent = λ (i : ℕ). sent_to workers worker (sent_by_worker workers requests whole i (told i)) in
      let turn : (k : ℕ) (d : Posted C) → k < length all → (get_or all k d).asked.worker.number + k + 1 ≡ length all =
      λ k d below. let t = (turns.each k d below).1 in omega (arith, t, long) in
      from (ap (λ n. flat_map g (words_from (λ i. i) 0 n)) (sym long))
      (follow (in_turn (λ (one : Posted C). one.asked.worker.number) g all turn)
      (upto (flat_map_each (λ (one : Posted C). g one.asked.worker.number)
      (λ (one : Posted C). sent_for workers worker (parcels_by one)) all (sent_by_each whole is worker))
      (pieces_through (λ (one : Posted C). parcels_by one) (sent_for workers worker) refl (sent_for_both workers worker) all)))

  -- each parcel goes to a shard that has a table
  pub parcels_moved : All (λ (p : Parcel). IsMovedTo tables requests p.key) (flat_map (λ (one : Posted C). parcels_by one) all)
  parcels_moved = all_pieces (λ (one : Posted C). parcels_by one) (λ (p : Parcel). IsMovedTo tables requests p.key) all
      (λ k d below. of_one (get_or all k d) (answered k d below)) where
        of_one : (one : Posted C) → IsPostedOf shared requests tables queues one
            → All (λ (p : Parcel). IsMovedTo tables requests p.key) (parcels_by one)
        of_one one is =
            let asked = is.asked in
            let whole = whole_map (image_of shared) (first_opened shared one.asked.worker.workers one.asked.worker.number asked.first
            asked.is_first).maps in
            All-unmap (λ (s : Sent). IsMovedTo tables requests s.key) sent_of (parcels_by one)
            (All-permutation (λ (s : Sent). IsMovedTo tables requests s.key)
            (sent_by_worker one.asked.worker.workers requests whole.0 one.asked.worker.number (replies_of one.asked.replies.items))
            (all_sent_of (parcels_by one)) (is.sent.same whole.0 whole.1)
            (sent_moved tables requests whole.0 one.asked.worker.workers one.asked.worker.number (replies_of one.asked.replies.items) asked.part.by_tables))

  -- the passes and what was kept have all that was sent
  module _ (owners : List (PassView Parcel)) (kept : List Parcel) (each : length queues ≡ workers) (owned : ArePassesTo all_parts queues owners)
      (kept_are : All (IsParcelOf shared.table) kept) (parcels : IsPermutation (flat_map (λ (one : Posted C). parcels_by one) all)
      (all_put owners ++ kept)) where
    has_parts : (i : ℕ) (p : PassView Parcel) → i < length owners → p ≡ get_or owners i p → HasParts all_parts p
    has_parts i p below is = subst (HasParts all_parts) (sym is) (owned.parts_are i p below)

    rightly : ArePutRightly workers 0 owners
    rightly = subst (λ n. ArePutRightly n 0 owners) each owned.rightly

    many : length owners ≡ workers
    many = as_many queues owners owned.passes_are ∙ each

    own_parcels : (i : ℕ) (p : PassView Parcel) → i < length owners → p ≡ get_or owners i p
        → parcels_for workers i (all_put owners ++ kept) ≡ p.account.put ++ parcels_for workers i kept
    own_parcels i p below is =
        let zeroth : 0 + i ≡ i = omega arith in
        filter-append (is_for workers i) (all_put owners) kept
        ∙ ap (λ (l : List Parcel). l ++ parcels_for workers i kept)
        (subst (λ n. parcels_for workers n (all_put owners) ≡ p.account.put) zeroth (put_for_it workers 0 i owners p rightly below is))

    sent_there : (i : ℕ) (p : PassView Parcel) → i < length owners → p ≡ get_or owners i p
        → AreSentTo shared workers requests told i (p.account.put ++ parcels_for workers i kept)
    sent_there i p below is = record {
      same = λ whole is_whole.
          let mine = all_sent_of (parcels_for workers i (all_put owners ++ kept)) in
          upto (follow (sent_by_all whole is_whole i)
          (upto (filter_permuted (λ (s : Sent). nat_eq (worker_of workers (shard_of s.key)) i)
          (all_sent_of (flat_map (λ (one : Posted C). parcels_by one) all)) (all_sent_of (all_put owners ++ kept))
          (IsPermutation-map sent_of (flat_map (λ (one : Posted C). parcels_by one) all) (all_put owners ++ kept) parcels))
          (sym (sent_of_part workers i (all_put owners ++ kept)))))
          (ap all_sent_of (own_parcels i p below is));
    }

    tables_there : (i : ℕ) (p : PassView Parcel) → i < length owners → p ≡ get_or owners i p
        → All (λ (x : Parcel). HasTableFor tables requests workers i x.key) (p.account.put ++ parcels_for workers i kept)
    tables_there i p below is =
        let total = all_put owners ++ kept in
        let moved = All-filter (is_for workers i) (λ (x : Parcel). IsMovedTo tables requests x.key) total
        (All-permutation (λ (x : Parcel). IsMovedTo tables requests x.key)
        (flat_map (λ (one : Posted C). parcels_by one) all) total parcels parcels_moved) in
        let mine = filter_passes (is_for workers i) total in
        All-same (λ (x : Parcel). HasTableFor tables requests workers i x.key) (p.account.put ++ parcels_for workers i kept)
        (parcels_for workers i total) (sym (own_parcels i p below is))
        (λ k d inside. record {
          table = (moved k d inside).table;
          target = both (is_for workers i (get_or (parcels_for workers i total) k d))
              (is_moved_to requests (shard_of (get_or (parcels_for workers i total) k d).key)) (mine k d inside) (moved k d inside).moved;
        }) where
          both : (a b : Bool) → a ≡ true → b ≡ true → (a && b) ≡ true
          both a b is_a is_b = ap (λ x. x && b) is_a ∙ is_b

    -- one of the workers, with its own queue's pass and piece
    arrives : (one : Arriving C) (a : Posted C) (i : ℕ) → i < workers → IsPostedOf shared requests tables queues a
        → a.asked.worker.workers ≡ workers → a.asked.worker.number ≡ i
        → told a.asked.worker.number ≡ replies_of a.asked.replies.items → one.asked ≡ a.asked → one.pass ≡ get_or owners i one.pass
        → one.kept.items ≡ parcels_for workers i kept
        → IsArrivingOf shared requests tables queues told one
    arrives one a i below is of_all of_number told_it same_asked same_pass same_kept = made where
      inside : i < length owners
      inside = omega (arith, below, many)

      number_is : one.asked.worker.number ≡ i
      number_is = ap (λ (x : Asked C). x.worker.number) same_asked ∙ of_number

      workers_is : one.asked.worker.workers ≡ workers
      workers_is = ap (λ (x : Asked C). x.worker.workers) same_asked ∙ of_all

      replies_is : told one.asked.worker.number ≡ replies_of one.asked.replies.items
      replies_is = ap (λ (x : Asked C). told x.worker.number) same_asked ∙ told_it ∙ ap (λ (x : Asked C). replies_of x.replies.items) (sym same_asked)

      offers : (whole : Map) → IsWholeMap (image_of shared) whole
          → one.asked.seat.state.view.offers ≡ length (sent_by_worker one.asked.worker.workers requests whole one.asked.worker.number
          (told one.asked.worker.number))
      offers whole is_whole =
          ap (λ (x : Asked C). x.seat.state.view.offers) same_asked ∙ is.offered ∙ sym (length-map (parcels_by a) sent_of)
          ∙ length_permutation (sent_by_worker a.asked.worker.workers requests whole a.asked.worker.number (replies_of a.asked.replies.items))
          (all_sent_of (parcels_by a)) (is.sent.same whole is_whole)
          ∙ ap (λ r. length (sent_by_worker a.asked.worker.workers requests whole a.asked.worker.number r)) (sym told_it)
          ∙ ap (λ (x : Asked C). length (sent_by_worker x.worker.workers requests whole x.worker.number (told x.worker.number))) (sym same_asked)

      made : IsArrivingOf shared requests tables queues told one
      made = record {
        asked = subst (λ (x : Asked C). IsAskedOf shared requests tables x) (sym same_asked) is.asked;
        told_is = replies_is;
        offered = record { count = offers };
        none_accepted = ap (λ (x : Asked C). x.seat.state.view.accepts) same_asked ∙ is.none_accepted;
        queue = λ any.
            (at_place queues owners i (get_or queues i any) one.pass owned.passes_are (omega (arith, below, each))
            (at_itself queues i any (omega (arith, below, each))) same_pass).same
            ∙ ap (λ n. (get_or queues n any).queue) (sym number_is);
        parts = (has_parts i one.pass inside same_pass).parts_are;
        none_taken = (has_parts i one.pass inside same_pass).none_taken;
        kept = All-same (IsParcelOf shared.table) one.kept.items (parcels_for workers i kept) same_kept
            (All-filter (is_for workers i) (IsParcelOf shared.table) kept kept_are);
        sent = at_it (λ w n l. AreSentTo shared w requests told n (one.pass.account.put ++ l)) (sent_there i one.pass inside same_pass);
        with_table = at_it (λ w n l. All (λ (p : Parcel). HasTableFor tables requests w n p.key) (one.pass.account.put ++ l))
            (tables_there i one.pass inside same_pass);
      } where
        at_it : (P : ℕ → ℕ → List Parcel → Type 0) → P workers i (parcels_for workers i kept)
            → P one.asked.worker.workers one.asked.worker.number one.kept.items
        at_it P p = subst (λ w. P w one.asked.worker.number one.kept.items) (sym workers_is)
            (subst (λ n. P workers n one.kept.items) (sym number_is) (subst (λ l. P workers i l) (sym same_kept) p))

        at_itself : (qs : List QueueView) (n : ℕ) (any : QueueView) → n < length qs → get_or qs n any ≡ get_or qs n (get_or qs n any)
        at_itself [] n any out = absurd (omega (arith, out))
        at_itself (q ∷ qs) zero any out = refl
        at_itself (q ∷ qs) (suc n) any out = at_itself qs n any (omega (arith, out))

    some_of : (ones : List (Posted C)) (k : ℕ) → k < length ones → Posted C
    some_of [] k below = absurd (omega (arith, below))
    some_of (x ∷ ones) k below = x

    -- and so do all of them
    module _ (asked : List (Asked C)) (pieces : List (List Parcel)) (arriving : List (Arriving C))
        (asked_are : asked ≡ map (λ (one : Posted C). one.asked) all)
        (pieces_are : pieces ≡ map (λ worker. parcels_for workers worker kept) (worker_numbers workers))
        (dealt : AreDealtOut owners pieces asked arriving) where
      so_many_asked : length asked ≡ workers
      so_many_asked = ap length asked_are ∙ length-map all (λ (one : Posted C). one.asked) ∙ long

      so_many_pieces : length pieces ≡ workers
      so_many_pieces = ap length pieces_are ∙ length-map (worker_numbers workers) (λ worker. parcels_for workers worker kept)
          ∙ length-words_from (λ i. i) 0 workers

      pub count_arriving : length arriving ≡ workers
      count_arriving = dealt_count (reverse owners) (reverse pieces) asked arriving (length-reverse owners ∙ many ∙ sym so_many_asked)
          (length-reverse pieces ∙ so_many_pieces ∙ sym so_many_asked) dealt ∙ so_many_asked

      module _ (k : ℕ) (d : Arriving C) (below : k < length arriving) where
        inside : k < length all
        inside = let n = count_arriving in omega (arith, below, n, long)

        abbrev one_of : Posted C
        one_of = get_or all k (some_of all k inside)

        number_there : one_of.asked.worker.number + k + 1 ≡ workers
        number_there = (turns.each k (some_of all k inside) inside).1

        there : ((get_or arriving k d).asked ≡ get_or asked k (some_of all k inside).asked)
            × ((get_or arriving k d).pass ≡ get_or owners one_of.asked.worker.number (get_or arriving k d).pass)
            × ((get_or arriving k d).kept.items ≡ get_or pieces one_of.asked.worker.number [])
        there = dealt_at owners pieces asked arriving (many ∙ sym so_many_asked) (so_many_pieces
            ∙ sym so_many_asked) dealt k one_of.asked.worker.number d (some_of all k inside).asked
            (get_or arriving k d).pass [] (omega (arith, inside, long, so_many_asked)) (number_there ∙ sym so_many_asked)

        asked_there : (get_or arriving k d).asked ≡ one_of.asked
        asked_there = there.0 ∙ ap (λ (l : List (Asked C)). get_or l k (some_of all k inside).asked) asked_are
            ∙ get_or-map (λ (one : Posted C). one.asked) all k (some_of all k inside) (some_of all k inside).asked inside

        kept_there : (get_or arriving k d).kept.items ≡ parcels_for workers one_of.asked.worker.number kept
        kept_there =
            let i = one_of.asked.worker.number in
            let is = number_there in
            let low : i < workers = omega (arith, is) in
            let zeroth : 0 + i ≡ i = omega arith in
            there.2 ∙ ap (λ (l : List (List Parcel)). get_or l i []) pieces_are
            ∙ get_or-map (λ worker. parcels_for workers worker kept) (worker_numbers workers) i 0 []
            (let n = length-words_from (λ j. j) 0 workers in omega (arith, low, n))
            ∙ ap (λ n. parcels_for workers n kept) (get_or-words_from (λ j. j) 0 workers i 0 low ∙ zeroth)

        arrives_there : IsArrivingOf shared requests tables queues told (get_or arriving k d)
        arrives_there =
            let is = number_there in
            arrives (get_or arriving k d) one_of one_of.asked.worker.number (omega (arith, is)) (answered k (some_of all k inside) inside)
            (turns.each k (some_of all k inside) inside).0 refl
            (told_is k (some_of all k inside) inside) asked_there there.1 kept_there

        turn_there : ((get_or arriving k d).asked.worker.workers ≡ workers) × ((get_or arriving k d).asked.worker.number + k + 1 ≡ workers)
        turn_there = (
          ap (λ (x : Asked C). x.worker.workers) asked_there ∙ (turns.each k (some_of all k inside) inside).0,
          ap (λ (x : Asked C). x.worker.number + k + 1) asked_there ∙ number_there,
        )

      pub all_arrive : All (IsArrivingOf shared requests tables queues told) arriving
      all_arrive k d below = arrives_there k d below

      pub arrive_in_turn : AreInTurn (λ (one : Arriving C). one.asked.worker) workers arriving
      arrive_in_turn = record { each = λ k d below. turn_there k d below }
