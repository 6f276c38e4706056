-- An ascending list is walked alongside the numbers from 0 up.
use Rattle.std.proofs.Common.{◌≡◌, ℕ, ◌+◌, ◌<◌, ◌≤◌, Bool, true, false, nat_eq, nat_lt, List, length, get_or, refl, subst, sym, ◌∙◌, inl, inr, arith, eqb-true}
use Rattle.std.specs.List.{AllPairs, AllWithin, list_any}
use Rattle.std.proofs.lemmas.Bool.{cases_lt, eq-eqb, ne_eqb, le-ltb}
use Rattle.std.proofs.lemmas.Grind.{get_or_default_zero}
use Rattle.std.proofs.lemmas.List.Folds.{list_any_at, list_any_none}

-- exactly those in front of `next` are below d
pub record IsWalkedTo (listed : List ℕ) (next d : ℕ) : Type 0 where
  pub passed : AllWithin (λ e. e < d) listed 0 next
  pub ahead : AllWithin (λ e. d ≤ e) listed next (length listed)

-- whether d stands at `next`
pub record TellsNext (listed : List ℕ) (next d : ℕ) (is : Bool) : Type 0 where
  pub there : is ≡ true → (next < length listed) × (get_or listed next 0 ≡ d)
  pub other : is ≡ false → next < length listed → get_or listed next 0 ≡ d → ⊥

-- there stands a number
pub tells_number : (listed : List ℕ) (next d number : ℕ) (is : Bool) → next < length listed → number ≡ get_or listed next 0
    → is ≡ nat_eq number d → TellsNext listed next d is
tells_number listed next d number is within at test = record {
  there = λ holds. (within, sym at ∙ eqb-true number d (sym test ∙ holds));
  other = λ fails _ same. let holds = eq-eqb number d (at ∙ same) in cc;
}

-- there the list has ended
pub tells_end : (listed : List ℕ) (next d : ℕ) (is : Bool) → length listed ≤ next → is ≡ nat_lt next (length listed) → TellsNext listed next d is
tells_end listed next d is none test = record {
  there = λ holds. let fails = le-ltb next (length listed) none in cc;
  other = λ _ within _. omega arith;
}

module _ (listed : List ℕ) (next d : ℕ) (is : Bool) (ascending : AllPairs (λ e f. e < f) listed) (walked : IsWalkedTo listed next d)
    (tells : TellsNext listed next d is) where
  -- the walk goes on where d stands there
  pub walked_on : is ≡ true → IsWalkedTo listed (next + 1) (d + 1)
  walked_on holds = record {
    passed = λ k e low high. elim (cases_lt k next) as (λ _. get_or listed k e < d + 1) [
      | inl before ↦ let below = walked.passed k e low before in omega arith
      | inr most ↦ let same : next ≡ k = omega arith in subst (λ i. get_or listed i e < d + 1) same (let at = here e in omega arith)
    ];
    ahead = λ k e low high. let at = here e in let above = ascending next k e (omega arith) high in omega arith;
  } where
    here : (e : ℕ) → get_or listed next e ≡ d
    here e = let there = tells.there holds in get_or_default_zero listed next e there.0 ∙ there.1

  -- it stays where d does not
  pub walked_past : is ≡ false → IsWalkedTo listed next (d + 1)
  walked_past fails = record {
    passed = λ k e low high. let below = walked.passed k e low high in omega arith;
    ahead = λ k e low high. elim (cases_lt next k) as (λ _. d + 1 ≤ get_or listed k e) [
      | inl behind ↦ let least = walked.ahead next e (omega arith) (omega arith) in let above = ascending next k e behind high in omega arith
      | inr most ↦
          let same : next ≡ k = omega arith in
          let within : next < length listed = omega arith in
          let least = walked.ahead next e (omega arith) within in
          let apart = tells.other fails within in
          let zero = get_or_default_zero listed next e within in
          subst (λ i. d + 1 ≤ get_or listed i e) same (omega arith)
    ];
  }

  -- d is listed nowhere else
  pub is_listed : is ≡ list_any (λ e. nat_eq e d) listed
  is_listed = go is refl where
    go : (b : Bool) → is ≡ b → is ≡ list_any (λ e. nat_eq e d) listed
    go true holds = let there = tells.there holds in holds ∙ sym (list_any_at (λ e. nat_eq e d) listed next 0 there.0 (eq-eqb _ d there.1))
    go false fails = fails ∙ sym (list_any_none (λ e. nat_eq e d) listed (λ k e high. ne_eqb _ d (λ same. elim (cases_lt k next) as (λ _. ⊥) [
      | inl before ↦ let below = walked.passed k e (omega arith) before in omega arith
      | inr behind ↦ let past = walked_past fails in let above = past.ahead k e behind high in omega arith
    ])))
