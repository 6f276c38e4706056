-- Whose the blocks and superblocks are, once one owner has given all that it has to another.
use Rattle.std.proofs.Common.{◌≡◌, ◌≢◌, ℕ, ◌⊎◌, inl, inr, Bool, true, false, cond, nat_eq, List, get_or, length, map, refl, ap, sym, ◌∙◌, eq-eqb, eqb-true, arith}
use Rattle.std.proofs.lemmas.Bool.{cases_lt}
use Rattle.std.proofs.lemmas.List.{get_or-map, get_or_past, length-map}
use Rattle.core_model.proofs.PlaceLemmas.{pick, skip, not-eq}
use Rattle.crash_core.specs.Standing.{owner_after}

-- what an owner has of a thing, or nothing
abbrev pub had_by : {A : Type 0} → ℕ → ℕ → A → A → A
had_by owner e thing nothing = cond (nat_eq owner e) thing nothing

module _ {A : Type 0} (from to : ℕ) (thing nothing : A) (apart : from ≢ to) where
  -- the giver has nothing left
  pub giver_has : (owner : ℕ) → had_by (owner_after from to owner) from thing nothing ≡ nothing
  giver_has owner = by_test (nat_eq owner from) refl where
    by_test : (test : Bool) → nat_eq owner from ≡ test → had_by (cond test to owner) from thing nothing ≡ nothing
    by_test true e = skip (nat_eq to from) thing nothing (not-eq to from (λ h. apart (sym h)))
    by_test false e = skip (nat_eq owner from) thing nothing e

  -- a third has what it had
  pub third_has : (owner e : ℕ) → e ≢ from → e ≢ to → had_by (owner_after from to owner) e thing nothing ≡ had_by owner e thing nothing
  third_has owner e not_from not_to = by_test (nat_eq owner from) refl where
    by_test : (test : Bool) → nat_eq owner from ≡ test → had_by (cond test to owner) e thing nothing ≡ had_by owner e thing nothing
    by_test true same = skip (nat_eq to e) thing nothing (not-eq to e (λ h. not_to (sym h)))
        ∙ sym (skip (nat_eq owner e) thing nothing (not-eq owner e (λ h. not_from (sym h ∙ eqb-true owner from same))))
    by_test false same = refl

  -- the taker has what the giver had, where it had nothing itself, or else what it had
  pub taker_has : (owner : ℕ) → ((had_by (owner_after from to owner) to thing nothing ≡ had_by owner from thing nothing)
      × (had_by owner to thing nothing ≡ nothing))
      ⊎ ((had_by (owner_after from to owner) to thing nothing ≡ had_by owner to thing nothing) × (had_by owner from thing nothing ≡ nothing))
  taker_has owner = by_test (nat_eq owner from) refl where
    by_test : (test : Bool) → nat_eq owner from ≡ test → ((had_by (cond test to owner) to thing nothing ≡ had_by owner from thing nothing)
        × (had_by owner to thing nothing ≡ nothing))
        ⊎ ((had_by (cond test to owner) to thing nothing ≡ had_by owner to thing nothing) × (had_by owner from thing nothing ≡ nothing))
    by_test true same = inl (
      pick (nat_eq to to) thing nothing (eq-eqb to to refl) ∙ sym (pick (nat_eq owner from) thing nothing same),
      skip (nat_eq owner to) thing nothing (not-eq owner to (λ h. apart (sym (eqb-true owner from same) ∙ h))),
    )
    by_test false same = inr (refl, skip (nat_eq owner from) thing nothing same)

-- what a map leaves at each index, where it leaves the default
pub at_map : {A : Type 0} (f : A → A) (xs : List A) (n : ℕ) (none : A) → f none ≡ none → get_or (map f xs) n none ≡ f (get_or xs n none)
at_map f xs n none stays = elim (cases_lt n (length xs)) [
  | inl there ↦ get_or-map f xs n none none there
  | inr past ↦ get_or_past (map f xs) n none (let l = length-map xs f in omega arith) ∙ sym (ap f (get_or_past xs n none past) ∙ stays)
]
