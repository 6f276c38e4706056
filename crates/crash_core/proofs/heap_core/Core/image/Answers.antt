use Rattle.std.proofs.Common.{rules, ◌≡◌, ℕ, List, [], map, slice_index, refl, ap, sym, subst, ◌∙◌}
use Rattle.heap_model.specs.Geometry.{capacity_word}
use Rattle.heap_model.specs.Header.{capacity_of}
use Rattle.heap_model.specs.Image.{Image}
use Rattle.core_model.specs.Held.{durable_image}
use Rattle.crash_image.specs.Crash.{GivesAll, transient_words}
use Rattle.crash_core.specs.Opened.{Opened}
use Rattle.crash_core.proofs.heap_core.Core.image.Goals as goal

pub returns-clause-drawn : goal.returns-clause-drawn
returns-clause-drawn g c = λ k s stands. subst (λ n. GivesAll g.C.Chance.draw_gives c.args.scramble.now
    (map (slice_index c.crash_image.result.items) (transient_words n)) c.crash_image.new.scramble)
    (ap (λ (o : Opened). o.state.geometry.capacity) c.self.view_is ∙ sym stands.keeps.capacity) c.crash_image.ensures.drawn

pub crash_image-requires-clause-layout : goal.crash_image-requires-clause-layout
crash_image-requires-clause-layout g c =
    let n = c.self.inside.state.geometry.capacity in
    let capacity : durable_image n c.self.inside.state.words.items capacity_word ≡ n = search rules in
    sym (ap (λ (i : Image). capacity_of i) c.in_ok-words.ensures.image
    ∙ ap (λ (ws : List ℕ). durable_image n ws capacity_word) c.deref.ensures.value ∙ capacity)

pub returns-clause-asked : goal.returns-clause-asked
returns-clause-asked g c = (
  map (slice_index c.crash_image.result.items) (transient_words c.self.inside.state.geometry.capacity),
  c.crash_image.ensures.drawn,
)

pub returns-in_err-words-clause-asked : goal.returns-in_err-words-clause-asked
returns-in_err-words-clause-asked g c = ([], refl)
