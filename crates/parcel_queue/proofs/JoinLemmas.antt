-- Accounts that are joined one after another.
use Rattle.std.proofs.Common.{◌≡◌, ℕ, ◌+◌, ◌<◌, List, [], ◌∷◌, ◌++◌, refl, ap, sym, subst, ◌∙◌, arith}
use Rattle.std.specs.Prelude.{sum_by}
use Rattle.std.proofs.lemmas.List.Sums.{sum_by_push}
use Rattle.parcel_queue.specs.Account.{Account, PassView, joined, all_joined}

module _ {T : Type 0} where
  one_more : (a : Account T) (ps : List (PassView T)) (p : PassView T) → all_joined a (ps ++ p ∷ []) ≡ joined (all_joined a ps) p.account
  one_more a [] p = refl
  one_more a (q ∷ ps) p = one_more (joined a q.account) ps p

  -- what has joined some accounts joins one more
  pub joins_more : (a : Account T) (ps : List (PassView T)) (p : PassView T) {b c : Account T}
      → b ≡ all_joined a ps → c ≡ joined b p.account → c ≡ all_joined a (ps ++ p ∷ [])
  joins_more a ps p old now = now ∙ ap (λ (x : Account T). joined x p.account) old ∙ sym (one_more a ps p)

  -- an account with a part has one after it is joined
  pub keeps_a_part : (a b : Account T) {c : Account T} → 0 < a.parts → c ≡ joined a b → 0 < c.parts
  keeps_a_part a b {c} part now = subst (λ (x : Account T). 0 < x.parts) (sym now) (omega (arith, part))

  abbrev parts_with : PassView T → ℕ
  parts_with p = p.account.parts

  -- the parts of all of them
  pub sums_more : (a : Account T) (ps : List (PassView T)) (p : PassView T) (b : Account T) {c : Account T}
      → b.parts ≡ a.parts + sum_by parts_with ps → c ≡ joined b p.account → c.parts ≡ a.parts + sum_by parts_with (ps ++ p ∷ [])
  sums_more a ps p b old now = let n = ap (λ (x : Account T). x.parts) now in let s = sum_by_push parts_with ps p in omega arith
