-- What the state of a handle tells of what it has.
use Rattle.std.proofs.Common.{◌≡◌, ◌≢◌, ◌⊎◌, ℕ, Option, None, Some, inl, inr, refl, sym, ap, subst, ◌∙◌}
use Rattle.std.specs.Prelude.{◌↔◌, IsSome}
use Rattle.c_dictionary.specs.declared.store.Store.{Store}
use Rattle.c_dictionary.specs.Passing.{HasHalted}
use Rattle.c_dictionary.specs.Ready.{HasStopped, IsReady, IsHeldAt, IsStateOf}
use Rattle.c_dictionary.proofs.Numbers.{differ}

no_step : (s : Store) → IsReady s → HasStopped s → ⊥
no_step s ready stopped = let none = ready.running in let some = stopped.stopped in absurd (cc)

pub held_at : (state : ℕ) (value : Option Store) (s : Store) → IsStateOf state value → value ≡ Some s → IsHeldAt state s
held_at state value s is has = subst (IsStateOf state) has is

pub closed : (state : ℕ) (value : Option Store) → IsStateOf state value → value ≡ None → state ≡ 0
closed state value is none = subst (IsStateOf state) none is

pub none_at : (state : ℕ) (value : Option Store) → IsStateOf state value → state ≡ 0 → value ≡ None
none_at state None is zero = cc
none_at state (Some s) is zero = absurd (is.some zero)

pub some_at : (state : ℕ) (value : Option Store) → IsStateOf state value → state ≢ 0 → IsSome value
some_at state None is some = absurd (some is)
some_at state (Some s) is some = refl

-- one that has stopped is neither closed nor going
pub halted_some : (state : ℕ) (value : Option Store) → IsStateOf state value → HasHalted value → state ≢ 0
halted_some state value is halted zero = (held_at state value halted.store is halted.has).some zero

pub halted_not : (state : ℕ) (value : Option Store) → IsStateOf state value → HasHalted value → state ≢ 1
halted_not state value is halted one =
    no_step halted.store ((held_at state value halted.store is halted.has).going one) halted.stopped

pub halted_at : (state : ℕ) (value : Option Store) → IsStateOf state value → state ≢ 0 → state ≢ 1 → HasHalted value
halted_at state None is some other = absurd (some is)
halted_at state (Some s) is some other = record { store = s; has = cc; stopped = is.halted other }

-- a call that is refused by the state
module _ (state result : ℕ) (old new : Option Store) (is : IsStateOf state old) (same : new ≡ old) (tells : (result ≡ 2) ↔ (state ≡ 0)) where
  pub closed_refused : old ≡ None → result ≡ 2
  closed_refused none = tells.1 (closed state old is none)

  pub refused_none : result ≡ 2 → old ≡ None
  refused_none two = none_at state old is (tells.0 two)

  pub refused_halted : state ≢ 1 → result ≡ 12 → HasHalted old
  refused_halted other twelve = halted_at state old is (λ zero. differ 2 12 refl (sym (tells.1 zero) ∙ twelve)) other

  pub refused_new : state ≢ 1 → result ≡ 12 → HasHalted new
  refused_new other twelve = subst HasHalted (sym same) (refused_halted other twelve)

  pub halted_refused : (result ≡ 2) ⊎ (result ≡ 12) → HasHalted old → (result ≡ 12) × (new ≡ old)
  halted_refused answers halted = (twelve answers, same) where
    twelve : (result ≡ 2) ⊎ (result ≡ 12) → result ≡ 12
    twelve (inl two) = absurd (halted_some state old is halted (tells.0 two))
    twelve (inr is) = is

-- a call that goes on, over what the handle had
module _ (state : ℕ) (old told : Option Store) (taken boxed lent : Store) (is : IsStateOf state old) (same : told ≡ old)
    (held : told ≡ Some taken) (box : boxed ≡ taken) (lend : lent ≡ boxed) where
  pub lent_at : IsHeldAt state lent
  lent_at = held_at state old lent is (sym same ∙ held ∙ ap Some (sym box ∙ sym lend))
