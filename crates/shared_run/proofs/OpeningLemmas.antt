-- The seats of a heap that was opened for workers are those of the workers.
use Rattle.std.proofs.Common.{◌≡◌, ◌<◌, ◌↔◌, ℕ, List, length, get_or, slice_index, Contains, refl, subst, sym, ap, ◌∙◌, arith}
use Rattle.std.proofs.lemmas.List.{get_or_default}
use Rattle.heap_model.specs.declared.block.Block.{Block}
use Rattle.heap_model.specs.Image.{Image}
use Rattle.heap_model.specs.Rest.{IsReady}
use Rattle.core_model.specs.Opening.{HasDoneNothing, opened_view, setup_of}
use Rattle.core_model.specs.View.{View}
use Rattle.heap_table.specs.AtTable.{SharedView}
use Rattle.heap_table.specs.Rule.{Opening, opened_view_of, opening_of}
use Rattle.heap_rule.specs.Seated.{SeatView}
use Rattle.heap_rule.specs.Seats.{AreOpenedSeats}
use Rattle.seat_costs.proofs.IdleLemmas.{opened_seats}
use Rattle.seat_model.specs.CacheState.{heap_view}
use Rattle.run_model.specs.Opened.{IsDictionary, IsOpenedOver}
use Rattle.run_model.specs.Workers.{root_owner}
use Rattle.seat_owners.specs.Owning.{AreOwnersByRoot}
use Rattle.seat_owners.proofs.OpenedLemmas.{has_root, opened_over, root_of}
use Rattle.shared_run.specs.Dealing.{AreFresh}

module _ (words : List ℕ) (held : List Block) (workers budget : ℕ) (block_owners root_owners : List ℕ) (ready : IsReady words held)
    (has : IsDictionary (slice_index words) (Contains held))
    (by_root : AreOwnersByRoot (slice_index words) held workers block_owners root_owners) where
  abbrev view_of : ℕ → View
  view_of = opened_view (setup_of words budget workers) held block_owners root_owners

  nothing_done : (i : ℕ) → HasDoneNothing (setup_of words budget workers) (view_of i)
  nothing_done i = record {
    floor = refl;
    tickets = (refl, refl, refl);
    counts = (refl, refl, refl, refl, refl, refl, refl);
    free = (refl, refl);
    claims = (refl, refl, refl, refl);
    seen = (refl, refl, refl, refl);
    looks = refl;
  }

  pub opened_fresh : (shared : SharedView) (seats : List SeatView)
      → shared.opening ≡ opening_of (record { words = words; held = held }) (record { held = block_owners; roots = root_owners }) workers budget
      → AreOpenedSeats shared (opened_view (setup_of words budget workers) held block_owners root_owners) seats
      → AreFresh shared (length seats) seats
  opened_fresh shared seats opening opened = record {
    each = λ i any below.
        let at = sym (get_or_default seats i any (get_or seats i any) below) in
        let is = opened.each i (get_or seats i any) below at in
        let small : i < workers = let long = opened.count ∙ ap (λ (o : Opening). o.seats) opening in omega (arith, long, below) in
        let idle = opened_seats (setup_of words budget workers) held block_owners root_owners shared seats opened i (get_or seats i any) below at in
        let all : workers ≡ length seats = let long = opened.count ∙ ap (λ (o : Opening). o.seats) opening in omega (arith, long) in (
          is.0,
          record {
            view_is = is.1 ∙ ap (λ (o : Opening). opened_view_of o i) (sym opening);
            nothing = subst (λ (v : View). HasDoneNothing v.setup v) (sym is.1) (nothing_done i);
            idle = idle.0;
            short = idle.1;
            roots_own = λ root inside.
                subst (λ n. Contains (get_or seats i any).view.roots root ↔ (root_owner n root ≡ i)) all
                (subst (λ (v : View). Contains v.roots root ↔ (root_owner workers root ≡ i)) (sym is.1) (
                  root_of words held workers budget block_owners root_owners by_root i root,
                  has_root words held workers budget block_owners root_owners by_root i root inside,
                ));
            opened = λ s seen. subst (λ (image : Image). IsOpenedOver image (heap_view s)) (sym (ap (λ (v : View). slice_index v.setup.opened) is.1))
                (opened_over words held workers budget block_owners root_owners by_root i ready has small s (seen ∙ is.1));
          },
        );
  }
