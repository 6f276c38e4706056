-- How many requests of a worker are moves, counted one by one; queues that were just opened, and their owners' passes.
use Rattle.std.proofs.Common.{◌≡◌, ℕ, suc, ◌+◌, ◌<◌, Bool, true, false, cond, List, [], ◌∷◌, ◌++◌, length, get_or, take, refl, ap, sym, subst, ◌∙◌, arith}
use Rattle.std.proofs.lemmas.List.Elements.{All-nil, All-push, All-same, filter-append}
use Rattle.std.proofs.lemmas.List.Sums.{sum_by-append}
use Rattle.dict_model.specs.Requests.{Request}
use Rattle.parcel_queue.specs.Account.{PassView, QueueView, all_parts, unused}
use Rattle.parcel_queue.specs.Row.{ArePassesOf, IsPassOf}
use Rattle.run_model.specs.Workers.{is_of_worker, worker_requests}
use Rattle.trace_text.specs.declared.request.Request.TheVariants.{Put, Get, Del, Move}
use Rattle.worker_run.specs.Said.{Line, request_of, requests_of}
use Rattle.worker_run.specs.Sending.{needs_room, rooms_needed}
use Rattle.worker_run.proofs.RoomLemmas.{requests_next}
use Rattle.seat_parcels.specs.declared.parcel.Parcel.{Parcel}
use Rattle.seat_parcels.specs.Boxes.{ArePutRightly, HasParts, HaveParts, all_put, goes_to}
use Rattle.run_rows.specs.Posts.{ArePassesTo}

-- a line that is no move needs no room
pub no_room : (line : Line) → ((key to : ℕ) → line ≡ Move key to → ⊥) → needs_room (request_of line) ≡ 0
no_room (Put key value) not = refl
no_room (Get key) not = refl
no_room (Del key) not = refl
no_room (Move key to) not = absurd (not key to refl)

module _ (workers worker : ℕ) where
  -- so many moves of the worker are among these lines
  abbrev pub moves_among : List Line → ℕ
  moves_among lines = rooms_needed (worker_requests workers worker (requests_of lines))

  of_one : (b : Bool) (q : Request) → rooms_needed (cond b (q ∷ []) []) ≡ cond b (needs_room q) 0
  of_one true q = omega arith
  of_one false q = refl

  needed_more : (qs : List Request) (q : Request)
      → rooms_needed (worker_requests workers worker (qs ++ q ∷ [])) ≡ rooms_needed (worker_requests workers worker qs) + cond
      (is_of_worker workers worker q) (needs_room q) 0
  needed_more qs q = ap rooms_needed (filter-append (is_of_worker workers worker) qs (q ∷ []))
      ∙ sum_by-append needs_room (worker_requests workers worker qs) (worker_requests workers worker (q ∷ []))
      ∙ ap (λ n. rooms_needed (worker_requests workers worker qs) + n) (of_one (is_of_worker workers worker q) q)

  module _ (lines : List Line) (i : ℕ) (line : Line) (below : i < length lines) (is : line ≡ get_or lines i line) where
    next : moves_among (take (i + 1) lines) ≡ moves_among (take i lines) + cond (is_of_worker workers worker (request_of line))
        (needs_room (request_of line)) 0
    next = ap (λ qs. rooms_needed (worker_requests workers worker qs)) (requests_next lines i line below is)
        ∙ needed_more (requests_of (take i lines)) (request_of line)

    -- a move of the worker is one more
    pub counted : (key to : ℕ) → line ≡ Move key to → is_of_worker workers worker (request_of line) ≡ true
        → moves_among (take (i + 1) lines) ≡ moves_among (take i lines) + 1
    counted key to move_is mine = next ∙ ap (λ n. moves_among (take i lines) + n)
        (ap (λ b. cond b (needs_room (request_of line)) 0) mine ∙ ap (λ l. needs_room (request_of l)) move_is)

    -- what is no move counts for nothing, nor does another worker's
    pub not_move : ((key to : ℕ) → line ≡ Move key to → ⊥) → moves_among (take (i + 1) lines) ≡ moves_among (take i lines)
    not_move not = next ∙ ap (λ n. moves_among (take i lines) + n) (none (is_of_worker workers worker (request_of line)))
        ∙ (let e : moves_among (take i lines) + 0 ≡ moves_among (take i lines) = omega arith in e) where
          none : (b : Bool) → cond b (needs_room (request_of line)) 0 ≡ 0
          none true = no_room line not
          none false = refl

    pub not_its : is_of_worker workers worker (request_of line) ≡ false → moves_among (take (i + 1) lines) ≡ moves_among (take i lines)
    not_its other = next ∙ ap (λ n. moves_among (take i lines) + n) (ap (λ b. cond b (needs_room (request_of line)) 0) other)
        ∙ (let e : moves_among (take i lines) + 0 ≡ moves_among (take i lines) = omega arith in e)

-- a list is empty whose two parts are, and only then
both_none : (xs ys : List Parcel) → xs ++ ys ≡ [] → (xs ≡ []) × (ys ≡ [])
both_none [] ys e = (refl, e)
both_none (x ∷ xs) ys e = absurd (cc)

nothing_more : (ps : List (PassView Parcel)) (p : PassView Parcel) → all_put ps ≡ [] → p.account.put ≡ [] → all_put (ps ++ p ∷ []) ≡ []
nothing_more [] p none nothing = ap (λ (l : List Parcel). l ++ []) nothing
nothing_more (q ∷ ps) p none nothing = let parts = both_none q.account.put (all_put ps) none in
    ap (λ (l : List Parcel). l ++ all_put (ps ++ p ∷ [])) parts.0 ∙ nothing_more ps p parts.1 nothing

passes_more : (qs : List QueueView) (ps : List (PassView Parcel)) (q : QueueView) (p : PassView Parcel) → ArePassesOf qs ps → IsPassOf q p
    → ArePassesOf (qs ++ q ∷ []) (ps ++ p ∷ [])
passes_more [] [] q p all is = (is, tt)
passes_more [] (p' ∷ ps) q p all is = absurd all
passes_more (q' ∷ qs) [] q p all is = absurd all
passes_more (q' ∷ qs) (p' ∷ ps) q p all is = (all.0, passes_more qs ps q p all.1 is)

-- where nothing was put, all of it is at its worker
none_rightly : (workers at : ℕ) (ps : List (PassView Parcel)) → all_put ps ≡ [] → ArePutRightly workers at ps
none_rightly workers at [] none = tt
none_rightly workers at (p ∷ ps) none = let parts = both_none p.account.put (all_put ps) none in
    (All-same (λ x. goes_to workers x ≡ at) p.account.put [] parts.0 (All-nil (λ x. goes_to workers x ≡ at)), none_rightly workers (suc at) ps parts.1)

-- queues that were opened, with their owners' passes, by which nothing was put
pub record AreOpened (queues : List QueueView) (owners : List (PassView Parcel)) : Type 0 where
  pub passes : ArePassesOf queues owners
  pub parts : HaveParts all_parts owners
  pub nothing : all_put owners ≡ []

pub none_opened : AreOpened [] []
none_opened = record { passes = tt; parts = All-nil (HasParts all_parts); nothing = refl }

pub opened_more : (queues queues' : List QueueView) (owners owners' : List (PassView Parcel)) (q : QueueView) (p : PassView Parcel)
    → AreOpened queues owners
    → p.queue ≡ q.queue → p.account ≡ unused all_parts → queues' ≡ queues ++ q ∷ [] → owners' ≡ owners ++ p ∷ [] → AreOpened queues' owners'
opened_more queues queues' owners owners' q p opened same account queues_are owners_are =
    subst (λ qs. AreOpened qs owners') (sym queues_are) (subst (AreOpened (queues ++ q ∷ [])) (sym owners_are) (record {
      passes = passes_more queues owners q p opened.passes (record { same = same; more = let e = ap (λ a. a.parts) account in omega (arith, e) });
      parts = All-push (HasParts all_parts) owners p opened.parts (record {
        parts_are = ap (λ a. a.parts) account;
        none_taken = ap (λ a. a.taken) account;
      });
      nothing = nothing_more owners p opened.nothing (ap (λ a. a.put) account);
    }))

pub opened_all : (queues : List QueueView) (owners : List (PassView Parcel)) → AreOpened queues owners → ArePassesTo all_parts queues owners
opened_all queues owners opened = record {
  passes_are = opened.passes;
  parts_are = opened.parts;
  rightly = none_rightly (length queues) 0 owners opened.nothing;
}
