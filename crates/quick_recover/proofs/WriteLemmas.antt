-- Descriptors written in their roles, one after the other.
use Rattle.std.proofs.Common.{◌≡◌, ℕ, ◌+◌, ◌<◌, inl, inr, List, slice_index_or, refl, ap, sym, subst, ◌∙◌, arith}
use Rattle.std.proofs.lemmas.Bool.{cases_lt}
use Rattle.heap_model.specs.Geometry.{info_word, anchor_word, link_word}
use Rattle.heap_model.specs.Image.{Image}
use Rattle.heap_recover.specs.declared.roles.Role.{Role}
use Rattle.heap_recover.specs.declared.roles.Role.TheVariants.{Free}
use Rattle.heap_recover.specs.Rebuilt.{IsInfoAfter, IsWrittenAs}
use Rattle.quick_recover.specs.Written.{anchor_after, IsWritten, IsNoWordBelow, AreWritten}

-- nothing is written yet
pub written_none : (old : Image) (roles : List Role) → AreWritten old old roles 0
written_none old roles = record { each = λ e less. absurd (omega arith); others = λ word outside. refl }

-- the next one is
pub written_next : (old mid new : Image) (roles : List Role) (d : ℕ) (role : Role) (anchor : ℕ) → AreWritten old mid roles d
    → role ≡ slice_index_or roles d Free
    → anchor ≡ anchor_after (mid (anchor_word d)) role → IsWrittenAs mid new d role anchor → AreWritten old new roles (d + 1)
written_next old mid new roles d role anchor before role_is anchor_is here = record { each = each; others = others } where
  fresh : (word : ℕ) → IsNoWordBelow d word → mid word ≡ old word
  fresh = before.others

  info_fresh : mid (info_word d) ≡ old (info_word d)
  info_fresh = fresh (info_word d) (record { no = λ e less. ((λ same. omega arith), (λ same. omega arith), (λ same. omega arith)) })

  anchor_fresh : mid (anchor_word d) ≡ old (anchor_word d)
  anchor_fresh = fresh (anchor_word d) (record { no = λ e less. ((λ same. omega arith), (λ same. omega arith), (λ same. omega arith)) })

  written : IsWritten old new d role
  written = record {
    info = subst (λ x. IsInfoAfter x (new (info_word d)) role) info_fresh here.info;
    anchor = here.anchor_is ∙ anchor_is ∙ ap (λ x. anchor_after x role) anchor_fresh;
    link = here.link_is;
  }

  stays : (e word : ℕ) → e < d → (word ≡ info_word e) → new word ≡ mid word
  stays e word less is = here.others word (λ same. omega arith) (λ same. omega arith) (λ same. omega arith)

  each : (e : ℕ) → e < d + 1 → IsWritten old new e (slice_index_or roles e Free)
  each e less = elim (cases_lt e d) as (λ _. IsWritten old new e (slice_index_or roles e Free)) [
    | inl lower ↦
        let was = before.each e lower in
        record {
          info = subst (λ x. IsInfoAfter (old (info_word e)) x (slice_index_or roles e Free)) (sym (stays e (info_word e) lower refl)) was.info;
          anchor = here.others (anchor_word e) (λ same. omega arith) (λ same. omega arith) (λ same. omega arith) ∙ was.anchor;
          link = here.others (link_word e) (λ same. omega arith) (λ same. omega arith) (λ same. omega arith) ∙ was.link;
        }
    | inr past ↦
        let same : d ≡ e = omega arith in
        subst (λ k. IsWritten old new k (slice_index_or roles k Free)) same (subst (IsWritten old new d) role_is written)
  ]

  others : (word : ℕ) → IsNoWordBelow (d + 1) word → new word ≡ old word
  others word outside =
      let here_not = outside.no d (omega arith) in
      here.others word here_not.0 here_not.1 here_not.2 ∙ before.others word (record { no = λ e less. outside.no e (omega arith) })
