use Rattle.std.proofs.Common.{◌≡◌, ◌∙◌, ap, sym, refl, Some}
use Rattle.root_reach.specs.declared.origin.Origin.{Origin}
use Rattle.root_reach.specs.declared.origin.Origin.TheVariants.{One, Several}
use Rattle.root_reach.specs.Origins.{both}
use Rattle.root_reach.proofs.OriginLemmas.{one_root}
use Rattle.root_reach.proofs.origin.Origin.joined_with.Goals as goal

pub returns-in_default-clause-some : goal.returns-in_default-clause-some
returns-in_default-clause-some c =
    both c.in-One.root (ap (λ (x : Origin). Some x) c.in-One.is) (λ e. c.if-other-root.false
    (one_root c.in-One-self.other c.in-One.root (sym c.in-One-self.is ∙ e))) refl

pub returns-in_default-2-clause-some : goal.returns-in_default-2-clause-some
returns-in_default-2-clause-some c =
    both c.in-One.root (ap (λ (x : Origin). Some x) c.in-One.is) (λ e. let two : Several ≡ One c.in-One.root = sym c.in_default.is ∙ e in
    absurd (cc)) refl
