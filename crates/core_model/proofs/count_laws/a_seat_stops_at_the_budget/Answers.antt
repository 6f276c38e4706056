use Rattle.std.proofs.Common.{◌≡◌, ◌<◌, ◌∙◌, ℕ, Option, Some, ap, subst}
use Rattle.core_model.specs.View.{one_if_some}
use Rattle.core_model.specs.Effects.{seen}
use Rattle.core_model.specs.Guards.{IsThere}
use Rattle.core_model.proofs.count_laws.a_seat_stops_at_the_budget.Goals as goal

-- of a ticket that is there, what is said of what there may be
there_then : (limit t : ℕ) (ticket : Option ℕ) → (IsThere ticket → seen ticket < limit) → ticket ≡ Some t → t < limit
there_then limit t ticket told at = subst (λ o. seen o < limit) at (told (ap one_if_some at))

pub returns-clause-drawn : goal.returns-clause-drawn
returns-clause-drawn c k s sound = λ i v below at t is. there_then _ t v.last_ticket (sound.good.tickets i v below at).last.is_drawn is

pub returns-clause-looked_used : goal.returns-clause-looked_used
returns-clause-looked_used c k s sound = λ i v below at t is. there_then _ t v.used_look.ticket (sound.good.tickets i v below at).used_look.is_drawn is

pub returns-clause-looked_heads : goal.returns-clause-looked_heads
returns-clause-looked_heads c k s sound = λ i v below at list t less is. there_then _ t _
    ((sound.good.tickets i v below at).head_looks list less).is_drawn is

pub returns-clause-in_hand : goal.returns-clause-in_hand
returns-clause-in_hand c k s sound = λ i v below at t is. let told = (sound.good.tickets i v below at).state.in_hand (ap one_if_some is) in
    (told.0 ∙ is, subst (λ o. seen o < k.budget) is told.1)

pub returns-clause-going : goal.returns-clause-going
returns-clause-going c k s sound = λ i v below at t on is. there_then k.budget t v.last_ticket ((sound.good.tickets i v below at).state.going on) is

pub returns-clause-stopping : goal.returns-clause-stopping
returns-clause-stopping c k s sound = λ i v below at t is. (sound.good.tickets i v below at).state.stopping t is

pub returns-clause-pops : goal.returns-clause-pops
returns-clause-pops c k s sound = sound.good.adds.budget
