use Rattle.std.proofs.Common.{◌≡◌, ◌↔◌, ◌*◌, ◌<◌, ℕ, [], List, All, Some, length, slice_index, subst, sym, arith}
use Rattle.std.proofs.lemmas.Grind.{common_steps}
use Rattle.heap_model.specs.Geometry.{roots, root_word}
use Rattle.heap_model.specs.Header.{kinds_of, HasGoodHeader}
use Rattle.heap_model.specs.Rest.{IsReady}
use Rattle.region_header.specs.Empty.{ReachesNothing}
use Rattle.region_header.proofs.EmptyKinds.{kind_given, root_null, good_with, ready_with, nothing_reached}
use Rattle.region_header.proofs.empty.format_with_kinds.Goals as goal

pub returns-clause-ok : goal.returns-clause-ok
returns-clause-ok c = grind (arith, common_steps)

pub returns-clause-kinds : goal.returns-clause-kinds
returns-clause-kinds c = subst (λ (words : List ℕ). (i : ℕ) → kinds_of (slice_index words) i ≡ slice_index c.args.kinds.now i)
    (sym (returns-clause-ok c)) (kind_given c.args.capacity c.args.kinds.now)

pub returns-clause-null : goal.returns-clause-null
returns-clause-null c = subst (λ (words : List ℕ). (i : ℕ) → i < roots → slice_index words (root_word i) ≡ 0)
    (sym (returns-clause-ok c)) (root_null c.args.capacity c.args.kinds.now)

pub returns-clause-good : goal.returns-clause-good
returns-clause-good c = subst (λ (words : List ℕ). (limit : ℕ) → HasGoodHeader (Some limit) (8 * length words) (slice_index words)
    ↔ All (λ kind. kind < limit) c.args.kinds.now)
    (sym (returns-clause-ok c)) (good_with c.args.capacity c.args.kinds.now c.requires.some c.requires.small c.requires.roots)

pub returns-clause-at_rest : goal.returns-clause-at_rest
returns-clause-at_rest c = subst (λ (words : List ℕ). IsReady words []) (sym (returns-clause-ok c))
    (ready_with c.args.capacity c.args.kinds.now c.requires.some c.requires.small c.requires.roots)

pub returns-clause-nothing : goal.returns-clause-nothing
returns-clause-nothing c = subst (λ (words : List ℕ). ReachesNothing (slice_index words)) (sym (returns-clause-ok c))
    (nothing_reached c.args.capacity c.args.kinds.now)
