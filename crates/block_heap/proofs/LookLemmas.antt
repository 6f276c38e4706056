-- Which looks a row of steps made.
use Rattle.std.proofs.Common.{◌≡◌, ℕ, ◌<◌, ◌≤◌, ◌⊎◌, inl, inr, Some, List, length, set, get_or-set_same, get_or-set_other, ap, sym, subst, ◌∙◌, arith}
use Rattle.std.proofs.lemmas.Bool.{cases_eq}
use Rattle.heap_seat.specs.declared.look.Look.{Look}
use Rattle.heap_seat.specs.Looks.{IsMade}
use Rattle.heap_seat.proofs.RowLemmas.{look_then}
use Rattle.block_heap.specs.Parts.{Parts, no_look, head_look}
use Rattle.block_heap.specs.Running.{MakesLooks}

-- both kinds of looks
abbrev pub looks_of : Parts → Look × List Look
looks_of p = (p.used_look, p.head_looks)

-- none was made
pub looks_kept : (p q : Parts) → looks_of q ≡ looks_of p → MakesLooks p q
looks_kept p q same = record { used = inl (ap (λ x. x.0) same); heads = λ list. inl (ap (λ x. head_look x.1 list) same) }

-- over two rows
pub looks_then : (p u q : Parts) → p.words.drawn ≤ u.words.drawn → u.words.drawn ≤ q.words.drawn → p.taken ≤ u.taken → u.taken ≤ q.taken
    → MakesLooks p u → MakesLooks u q → MakesLooks p q
looks_then p u q first then less more a b = record {
  used = look_then p.words.drawn u.words.drawn q.words.drawn p.taken u.taken q.taken p.used_look u.used_look q.used_look first then less more
      a.used b.used;
  heads = λ list. look_then p.words.drawn u.words.drawn q.words.drawn p.taken u.taken q.taken (head_look p.head_looks list)
      (head_look u.head_looks list)
      (head_look q.head_looks list) first then less more (a.heads list) (b.heads list);
}

-- the look that the next step makes
pub record IsNextLook (p : Parts) (look : Look) : Type 0 where
  pub by : look.ticket ≡ Some p.words.drawn
  pub taken : look.taken ≡ p.taken

pub look_made : (p q : Parts) (look : Look) → IsNextLook p look → p.words.drawn < q.words.drawn → p.taken ≤ q.taken
    → IsMade p.words.drawn q.words.drawn p.taken q.taken look
look_made p q look next drew more = record {
  ticket = p.words.drawn;
  by = next.by;
  since = omega arith;
  below = drew;
  least = let when = next.taken in omega arith;
  most = let when = next.taken in omega arith;
}

-- it was at a head, or at `used`
pub looked_at_head : (p q : Parts) (at : ℕ) (look : Look) → at < length p.head_looks → IsNextLook p look → p.words.drawn < q.words.drawn
    → p.taken ≤ q.taken
    → q.used_look ≡ p.used_look → q.head_looks ≡ set p.head_looks at look → MakesLooks p q
looked_at_head p q at look below next drew more used heads = record {
  used = inl used;
  heads = λ list. elim (cases_eq list at)
      as (λ _. (head_look q.head_looks list ≡ head_look p.head_looks list) ⊎ IsMade p.words.drawn q.words.drawn p.taken q.taken
      (head_look q.head_looks list)) [
        | inl same ↦
            let here : head_look q.head_looks list ≡ look =
            ap (λ looks. head_look looks list) heads ∙ subst (λ k. head_look (set p.head_looks at look) k ≡ look) (sym same)
            (get_or-set_same p.head_looks at look no_look below) in
            inr (subst (IsMade p.words.drawn q.words.drawn p.taken q.taken) (sym here) (look_made p q look next drew more))
        | inr other ↦ inl (ap (λ looks. head_look looks list) heads ∙ get_or-set_other p.head_looks at list look no_look other)
      ];
}

pub looked_at_used : (p q : Parts) (look : Look) → IsNextLook p look → p.words.drawn < q.words.drawn → p.taken ≤ q.taken → q.used_look ≡ look
    → q.head_looks ≡ p.head_looks → MakesLooks p q
looked_at_used p q look next drew more used heads = record {
  used = inr (subst (IsMade p.words.drawn q.words.drawn p.taken q.taken) (sym used) (look_made p q look next drew more));
  heads = λ list. inl (ap (λ looks. head_look looks list) heads);
}
