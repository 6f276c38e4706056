-- What a lost exchange leaves noted, by its event.
use Rattle.std.proofs.Common.{◌≡◌, ◌≢◌, ℕ, None, ◌⊎◌, inl, inr, refl, sym, subst}
use Rattle.core_model.specs.declared.event.Event.{Event}
use Rattle.core_model.specs.declared.event.Event.TheVariants.{Tick, Load, Store, Settle, LookUsed, TakeFresh, KeepUsed, LookHead, LookLink, Pop, Push, LookAnchor, TakeAll, Give}
use Rattle.seat_state.specs.declared.notes.SeatNotes.{SeatNotes}
use Rattle.heap_rule.specs.Noted.{forgotten}

pub head_forgotten : (event : Event) (t : SeatNotes) → (event ≡ Pop) ⊎ ((d : ℕ) × (event ≡ Push d)) → record t { seen_head = None } ≡ forgotten event t
head_forgotten event t (inl is) = subst (λ e. record t { seen_head = None } ≡ forgotten e t) (sym is) refl
head_forgotten event t (inr is) = subst (λ e. record t { seen_head = None } ≡ forgotten e t) (sym is.1) refl

pub anchor_forgotten : (event : Event) (t : SeatNotes) → ((d : ℕ) × (event ≡ TakeAll d)) ⊎ ((d : ℕ) × (event ≡ Give d))
    → record t { seen_anchor = None } ≡ forgotten event t
anchor_forgotten event t (inl is) = subst (λ e. record t { seen_anchor = None } ≡ forgotten e t) (sym is.1) refl
anchor_forgotten event t (inr is) = subst (λ e. record t { seen_anchor = None } ≡ forgotten e t) (sym is.1) refl

pub nothing_forgotten : (event : Event) (t : SeatNotes) → ((n : ℕ) → event ≢ TakeFresh n) → event ≢ Pop → ((d : ℕ) → event ≢ Push d)
    → ((d : ℕ) → event ≢ TakeAll d) → ((d : ℕ) → event ≢ Give d)
    → t ≡ forgotten event t
nothing_forgotten (TakeFresh n) t fresh pop push take give = absurd (fresh n refl)
nothing_forgotten Pop t fresh pop push take give = absurd (pop refl)
nothing_forgotten (Push d) t fresh pop push take give = absurd (push d refl)
nothing_forgotten (TakeAll d) t fresh pop push take give = absurd (take d refl)
nothing_forgotten (Give d) t fresh pop push take give = absurd (give d refl)
nothing_forgotten (Tick shift) t fresh pop push take give = refl
nothing_forgotten (Load word) t fresh pop push take give = refl
nothing_forgotten (Store word value) t fresh pop push take give = refl
nothing_forgotten (Settle word) t fresh pop push take give = refl
nothing_forgotten LookUsed t fresh pop push take give = refl
nothing_forgotten KeepUsed t fresh pop push take give = refl
nothing_forgotten (LookHead list) t fresh pop push take give = refl
nothing_forgotten LookLink t fresh pop push take give = refl
nothing_forgotten (LookAnchor d) t fresh pop push take give = refl
