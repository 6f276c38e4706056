-- Offers and accepts, with their answers, keep the heap sound.
use Rattle.std.proofs.Common.{◌≡◌, ◌≢◌, ℕ, zero, suc, ◌<◌, List, [], ◌∷◌, get_or, length, ap, sym, subst, ◌∙◌, refl, arith}
use Rattle.core_model.specs.declared.answer.StepAnswer.{StepAnswer}
use Rattle.core_model.specs.declared.answer.StepAnswer.TheVariants.{Done, Stopped, NotNow}
use Rattle.core_model.specs.Carriers.{AreSeatsAndCarriers, offered}
use Rattle.core_model.specs.Handing.{OffersTo, is_offered, offers_not, offers_stopped, AcceptsTo, is_accepted, accepts_not, accepts_stopped}
use Rattle.core_model.specs.Steps.{TableState, IsSoundState}
use Rattle.core_model.specs.View.{Setup, View}
use Rattle.core_model.proofs.OfferLemmas.{offer_sound, offers_one}
use Rattle.core_model.proofs.EmptiedLemmas.{accept_counted, accept_sound}

-- one view stands at an index
pub one_view : (views : List View) (i : ℕ) (v u : View) → i < length views → get_or views i v ≡ v → get_or views i u ≡ u → v ≡ u
one_view [] i v u below at_v at_u = absurd (omega arith)
one_view (x ∷ views) zero v u below at_v at_u = sym at_v ∙ at_u
one_view (x ∷ views) (suc i) v u below at_v at_u = one_view views i v u (omega arith) at_v at_u

-- a seat is no carrier
pub carrier_apart : (views : List View) (i j : ℕ) (v u : View) → i < length views → get_or views i v ≡ v → get_or views j u ≡ u → v.carries ≡ 0
    → u.carries ≡ 1 → j ≢ i
carrier_apart views i j v u below at_v at_u seat carrier same = let one =
    ap (λ (x : View). x.carries) (one_view views i v u below at_v (subst (λ n. get_or views n u ≡ u) same at_u)) in omega (arith, one, seat, carrier)

pub offers_sound : (k : Setup) (s : TableState) (i word : ℕ) (answer : StepAnswer) (s' : TableState) → i < length s.views
    → OffersTo s i word answer s' → IsSoundState k s → IsSoundState k s'
offers_sound k s i word Done s' below (is_offered v at may) sound = offer_sound k s.words s.views i v word below at sound
offers_sound k s i word NotNow s' below (offers_not v at going not) sound = sound
offers_sound k s i word (Stopped n) s' below (offers_stopped v step at some) sound = sound

pub offers_counted : (k : Setup) (s : TableState) (i word : ℕ) (answer : StepAnswer) (s' : TableState) → i < length s.views
    → OffersTo s i word answer s' → AreSeatsAndCarriers k s.views → AreSeatsAndCarriers k s'.views
offers_counted k s i word Done s' below (is_offered v at may) are = offers_one k s.views i v (offered v word) below at are word may.may.seat refl
offers_counted k s i word NotNow s' below (offers_not v at going not) are = are
offers_counted k s i word (Stopped n) s' below (offers_stopped v step at some) are = are

pub accepts_sound : (k : Setup) (s : TableState) (i j : ℕ) (answer : StepAnswer) (s' : TableState) → i < length s.views
    → AcceptsTo s i j answer s' → IsSoundState k s → IsSoundState k s'
accepts_sound k s i j Done s' below (is_accepted v u at may) sound =
    accept_sound k s.views i j v u (carrier_apart s.views i j v u below at may.at may.may.seat may.carrier.is_one)
    below at may.below may.at s.words may.carrier sound
accepts_sound k s i j NotNow s' below (accepts_not v at going not) sound = sound
accepts_sound k s i j (Stopped n) s' below (accepts_stopped v step at some) sound = sound

pub accepts_counted : (k : Setup) (s : TableState) (i j : ℕ) (answer : StepAnswer) (s' : TableState) → i < length s.views
    → AcceptsTo s i j answer s' → AreSeatsAndCarriers k s.views → AreSeatsAndCarriers k s'.views
accepts_counted k s i j Done s' below (is_accepted v u at may) are =
    accept_counted k s.views i j v u (carrier_apart s.views i j v u below at may.at may.may.seat may.carrier.is_one)
    below at may.below may.at may.may.seat may.carrier are
accepts_counted k s i j NotNow s' below (accepts_not v at going not) are = are
accepts_counted k s i j (Stopped n) s' below (accepts_stopped v step at some) are = are
