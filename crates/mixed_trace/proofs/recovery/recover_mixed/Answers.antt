use Rattle.std.proofs.Common.{◌≡◌, ◌*◌, ℕ, None, length, map, slice_index, List, subst, sym, ap, ◌∙◌, arith}
use Rattle.std.proofs.lemmas.Grind.{common_steps}
use Rattle.std.proofs.lemmas.List.{length-map}
use Rattle.heap_model.specs.Geometry.{roots}
use Rattle.heap_model.specs.Header.{IsWellFormed}
use Rattle.region_header.specs.Migration.{current_words}
use Rattle.region_header.proofs.MigrationLemmas.{current_formed}
use Rattle.mixed_trace.specs.Recovery.{stored_kind, words_by_modes}
use Rattle.mixed_trace.proofs.recovery.recover_mixed.Goals as goal

pub recover_current-requires-clause-formed : goal.recover_current-requires-clause-formed
recover_current-requires-clause-formed g c =
    let kinds : List ℕ = map stored_kind c.args.modes.now in
    let count : length kinds ≡ roots = length-map c.args.modes.now stored_kind ∙ c.requires.roots in
    let is : c.in_ok-current.current.items ≡ words_by_modes c.args.words.now c.args.modes.now
    = c.in_ok-current.ensures.ok ∙ ap (λ ks. current_words c.args.words.now ks) (c.deref.ensures.value ∙ c.in_ok-kinds.ensures.ok) in
    subst (λ (l : List ℕ). IsWellFormed (8 * length l) (slice_index l)) (sym is)
    (current_formed None c.args.words.now kinds count c.in_ok-header.ensures.good)

pub returns-clause-formed : goal.returns-clause-formed
returns-clause-formed g c =
    let kinds : List ℕ = map stored_kind c.args.modes.now in
    let count : length kinds ≡ roots = length-map c.args.modes.now stored_kind ∙ c.requires.roots in
    let formed = current_formed None c.args.words.now kinds count c.in_ok-header.ensures.good in
    grind (arith, common_steps, formed)
