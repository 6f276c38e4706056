-- What the rule says of an opened heap, and of its first seat.
use Rattle.std.proofs.Common.{◌≡◌, ℕ, ◌<◌, ◌≤◌, List, [], ◌∷◌, ◌++◌, length, refl, sym, subst, ap, ◌∙◌}
use lib.ListN.{take}
use Rattle.std.proofs.lemmas.List.{append-nil, take_at}
use Rattle.heap_model.specs.Rest.{IsReady}
use Rattle.core_model.specs.Opening.{AreOwners}
use Rattle.core_model.specs.Sound.{Sound}
use Rattle.core_model.specs.Carriers.{AreSeatsAndCarriers}
use Rattle.core_model.proofs.OpenedLemmas.{opened}
use Rattle.heap_table.specs.Reached.{IsReached, at_opening}
use Rattle.heap_table.specs.Rule.{Opening, HasAllSeats, setup_for, state_of, most_seats, opened_views}
use Rattle.heap_table.specs.SeatViews.{SeatViews, first_view, other_views}
use Rattle.heap_table.proofs.ReachedLemmas.{opened_counted}

-- a heap at rest keeps the rule at the opening
pub opened_keeps : (o : Opening) (words : List ℕ) → IsReady o.words o.held → AreOwners o.held o.seats o.block_owners o.root_owners
    → o.seats ≤ most_seats → o.budget < 1099511627776
    → words ≡ o.words ++ (o.words ++ (0 ∷ [])) → HasAllSeats o words (opened_views o ∷ [])
opened_keeps o words ready owners few low are = record {
  reached = subst (IsReached (setup_for o) (state_of o) words) (sym (append-nil (opened_views o)))
      (subst (λ ws. IsReached (setup_for o) (state_of o) ws (opened_views o)) (sym are) at_opening);
  sound = subst (Sound (setup_for o) words) (sym (append-nil (opened_views o)))
      (subst (λ ws. Sound (setup_for o) ws (opened_views o)) (sym are)
      (opened o.words o.held o.budget o.seats o.block_owners o.root_owners ready owners));
  counted = subst (AreSeatsAndCarriers (setup_for o)) (sym (append-nil (opened_views o))) (opened_counted o);
  few = few;
  low = low;
}

-- what goes and what stays is all
pub both_parts : (group : SeatViews) → first_view group ++ other_views group ≡ group
both_parts [] = refl
both_parts (v ∷ group) = refl

-- the table's words begin with the heap's
pub front_is : (words table shown : List ℕ) → table ≡ words ++ (words ++ (0 ∷ [])) → shown ≡ words → take (length shown) table ≡ words
front_is words table shown are same = ap (take (length shown)) are ∙ take_at words (words ++ (0 ∷ [])) (length shown) (sym (ap length same))

-- the key of the table, which is made of the same parts, is the opening
pub same_opening : (key o : Opening) → key.words ≡ o.words → key.held ≡ o.held → key.block_owners ≡ o.block_owners
    → key.root_owners ≡ o.root_owners → key.seats ≡ o.seats → key.budget ≡ o.budget → key ≡ o
same_opening key o words held block_owners root_owners seats budget =
    λ j. record { words = words j; held = held j; block_owners = block_owners j; root_owners = root_owners j; seats = seats j; budget = budget j }
