-- A view without one of the blocks that it holds.
use Rattle.std.proofs.Common.{◌≢◌, ℕ, inl, inr, List, [], ◌∷◌, Contains, cond, ap, subst, sym, ◌∙◌}
use Rattle.std.specs.Prelude.{nat_eq}
use Rattle.std.proofs.lemmas.Bool.{cases_eq, cond-true, cond-false, eq-eqb, ne_eqb}
use Rattle.heap_model.specs.declared.block.Block.{Block}
use Rattle.heap_model.proofs.MemberLemmas.{in_none, in_head, in_rest, head_or_rest}
use Rattle.heap_seat.specs.View.{View}

-- the blocks that don't begin at the word
abbrev pub but_at : ℕ → List Block → List Block
but_at at [] = []
but_at at (b ∷ bs) = cond (nat_eq b.first_word at) (but_at at bs) (b ∷ but_at at bs)

pub but_only : (at : ℕ) (bs : List Block) (c : Block) → Contains (but_at at bs) c → Contains bs c × (c.first_word ≢ at)
but_only at [] c h = absurd (in_none c h)
but_only at (b ∷ bs) c h = elim (cases_eq b.first_word at) as (λ _. Contains (b ∷ bs) c × (c.first_word ≢ at)) [
  | inl same ↦
      let r = but_only at bs c (subst (λ (l : List Block). Contains l c)
      (cond-true (nat_eq b.first_word at) (but_at at bs) (b ∷ but_at at bs) (eq-eqb b.first_word at same)) h) in
      (in_rest b c bs r.0, r.1)
  | inr other ↦
      elim (head_or_rest b c (but_at at bs) (subst (λ (l : List Block). Contains l c)
      (cond-false (nat_eq b.first_word at) (but_at at bs) (b ∷ but_at at bs) (ne_eqb b.first_word at other)) h)) as
      (λ _. Contains (b ∷ bs) c × (c.first_word ≢ at)) [
        | inl is ↦ (subst (Contains (b ∷ bs)) is (in_head b bs), λ e. other (ap (λ (x : Block). x.first_word) is ∙ e))
        | inr rest ↦ let r = but_only at bs c rest in (in_rest b c bs r.0, r.1)
      ]
]

pub but_keeps : (at : ℕ) (bs : List Block) (c : Block) → Contains bs c → c.first_word ≢ at → Contains (but_at at bs) c
but_keeps at [] c h differs = absurd (in_none c h)
but_keeps at (b ∷ bs) c h differs = elim (cases_eq b.first_word at) as (λ _. Contains (but_at at (b ∷ bs)) c) [
  | inl same ↦
      subst (λ (l : List Block). Contains l c) (sym (cond-true (nat_eq b.first_word at) (but_at at bs) (b ∷ but_at at bs)
      (eq-eqb b.first_word at same)))
      (elim (head_or_rest b c bs h) as (λ _. Contains (but_at at bs) c) [
        | inl is ↦ absurd (differs (sym (ap (λ (x : Block). x.first_word) is) ∙ same))
        | inr rest ↦ but_keeps at bs c rest differs
      ])
  | inr other ↦
      subst (λ (l : List Block). Contains l c) (sym (cond-false (nat_eq b.first_word at) (but_at at bs) (b ∷ but_at at bs)
      (ne_eqb b.first_word at other)))
      (elim (head_or_rest b c bs h) as (λ _. Contains (b ∷ but_at at bs) c) [
        | inl is ↦ subst (Contains (b ∷ but_at at bs)) is (in_head b (but_at at bs))
        | inr rest ↦ in_rest b c (but_at at bs) (but_keeps at bs c rest differs)
      ])
]

-- the view without the block
abbrev pub without : Block → View → View
without n v = record v { held = but_at n.first_word v.held }
