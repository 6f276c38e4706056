use Rattle.std.proofs.Common.{rules, ◌≡◌, ℕ, List, ◌∙◌, refl, sym, ap, subst, map, slice_index, length}
use Rattle.crash_image.specs.Crash.{GivesAll, transient_words}
use Rattle.heap_model.specs.Header.{capacity_of}
use Rattle.line_memory.specs.View.{View, opened}
use Rattle.line_memory.specs.Plain.{view_of}
use Rattle.line_memory.specs.ClosedWords.{volatile_words, durable_words}
use Rattle.tool_ports.specs.Chances.{unasked, by_chance}
use Rattle.tool_ports.proofs.ChanceLemmas.{comes_then}
use Rattle.worker_run.specs.Left.{AreWholeImage}
use Rattle.image_run.proofs.RebuiltLemmas.{durable_capacity, durable_whole, capacity_new, rebuilt_done, rebuilt_cut, left_done, left_cut}
use Rattle.image_run.proofs.rebuilding.rebuild_words.Goals as goal

pub returns-in-Ok-clause-ok : goal.returns-in-Ok-clause-ok
returns-in-Ok-clause-ok g c =
    let v = view_of c.in_ok-memory.memory in
    let w = view_of c.rebuild-end.new.memory in
    rebuilt_done c.args.words.now c.args.heap.now.words c.args.heap.now.held c.requires c.args.budget c.now.inside.now.items v w
    (sym c.finish.ensures.volatile ∙ sym (ap volatile_words c.now.view_is)) c.in-Ok.ensures.ok (ap (λ (u : View). u.budget) c.in_ok-memory.ensures.ok)
    (ap (λ (u : View). u.drawn) c.in_ok-memory.ensures.ok) c.in-Ok.ensures.drew c.in-Ok.ensures.within
    c.in-Ok.ensures.mixed

pub left_by_crash-requires-clause-whole : goal.left_by_crash-requires-clause-whole
left_by_crash-requires-clause-whole g c _ _ =
    let v = view_of c.rebuild-end.new.memory in
    subst AreWholeImage (sym c.finish.ensures.durable ∙ sym (ap durable_words c.now.view_is))
    (durable_whole c.args.words.now c.args.heap.now.words c.args.heap.now.held c.requires v
    (ap (λ (ws : List ℕ). length ws) (sym c.finish.ensures.durable ∙ sym (ap durable_words c.now.view_is)) ∙ c.now.invariant
    ∙ sym (ap (λ (ws : List ℕ). length ws) (sym c.finish.ensures.volatile ∙ sym (ap volatile_words c.now.view_is)))) c.in-Err.ensures.between)

pub left_by_crash-requires-clause-layout : goal.left_by_crash-requires-clause-layout
left_by_crash-requires-clause-layout g c _ _ =
    let v = view_of c.rebuild-end.new.memory in
    c.geometry-geometry.ensures ∙ capacity_new c.args.words.now c.args.heap.now.words c.args.heap.now.held c.requires
    ∙ sym (durable_capacity c.args.words.now c.args.heap.now.words c.args.heap.now.held c.requires v c.in-Err.ensures.between)
    ∙ ap (λ (ws : List ℕ). capacity_of (slice_index ws)) (sym c.finish.ensures.durable ∙ sym (ap durable_words c.now.view_is))

pub returns-in-Err-clause-ok : goal.returns-in-Err-clause-ok
returns-in-Err-clause-ok g c =
    let v = view_of c.in_ok-memory.memory in
    let w = view_of c.rebuild-end.new.memory in
    rebuilt_cut c.args.words.now c.args.heap.now.words c.args.heap.now.held c.requires c.args.budget c.in-Err.field-0.step
    c.now.inside.kept.items c.left_by_crash.result.items v w
    (sym c.finish.ensures.durable ∙ sym (ap durable_words c.now.view_is)) c.in-Err.ensures.between
    (ap (λ (u : View). u.budget) c.in_ok-memory.ensures.ok)
    (ap (λ (u : View). u.drawn) c.in_ok-memory.ensures.ok) (ap (λ (u : View). u.stopped) c.in_ok-memory.ensures.ok) c.in-Err.ensures.stopped
    c.in-Err.ensures.crash
    c.left_by_crash.ensures.image c.left_by_crash.ensures.long
    (ap (λ (ws : List ℕ). length ws) (sym c.finish.ensures.durable ∙ sym (ap durable_words c.now.view_is)) ∙ c.now.invariant
    ∙ sym (ap (λ (ws : List ℕ). length ws) (sym c.finish.ensures.volatile ∙ sym (ap volatile_words c.now.view_is))))

pub returns-in_err-copy-clause-chances : goal.returns-in_err-copy-clause-chances
returns-in_err-copy-clause-chances g c = unasked

pub returns-in_err-memory-clause-chances : goal.returns-in_err-memory-clause-chances
returns-in_err-memory-clause-chances g c = by_chance _ _ 0 _ unasked c.chance.ensures

pub returns-in-Ok-clause-chances : goal.returns-in-Ok-clause-chances
returns-in-Ok-clause-chances g c = by_chance _ _ 0 _ unasked c.chance.ensures

pub returns-in-Err-clause-chances : goal.returns-in-Err-clause-chances
returns-in-Err-clause-chances g c = comes_then _ _ _ _ _ (by_chance _ _ 0 _ unasked c.chance.ensures) c.left_by_crash.ensures.chances

pub returns-in-Ok-clause-asked : goal.returns-in-Ok-clause-asked
returns-in-Ok-clause-asked g c =
    let copied : c.in_ok-copy.copy.items ≡ c.args.words.now = search rules in
    record {
      chance = c.chance.result;
      dealt = c.chance.new.self;
      given = c.chance.ensures;
      by_steps = left_done _ c.chance.result c.args.words.now c.args.heap.now.words c.now.inside.now.items c.args.heap.now.held c.args.budget
          c.in_ok-memory.memory c.rebuild-end.new.memory c.requires (c.in_ok-memory.ensures.ok
          ∙ ap (λ (ws : List ℕ). opened ws c.args.budget) copied) c.in_ok-memory.ensures.chance c.in-Ok.ensures.steps c.in-Ok.ensures.ok
          (ap volatile_words c.now.view_is ∙ c.finish.ensures.volatile);
      then_nothing = λ _. refl;
      then_words = λ e. absurd (cc);
    }

pub returns-in-Err-clause-asked : goal.returns-in-Err-clause-asked
returns-in-Err-clause-asked g c =
    let copied : c.in_ok-copy.copy.items ≡ c.args.words.now = search rules in
    record {
      chance = c.chance.result;
      dealt = c.chance.new.self;
      given = c.chance.ensures;
      by_steps = left_cut _ c.chance.result c.args.words.now c.args.heap.now.words c.now.inside.kept.items c.left_by_crash.result.items
          c.args.heap.now.held
          c.args.budget c.in-Err.field-0.step c.in_ok-memory.memory c.rebuild-end.new.memory c.requires (c.in_ok-memory.ensures.ok
          ∙ ap (λ (ws : List ℕ). opened ws c.args.budget) copied) c.in_ok-memory.ensures.chance c.in-Err.ensures.first_steps
          (sym c.finish.ensures.durable ∙ sym (ap durable_words c.now.view_is))
          (c.now.invariant ∙ ap (λ (ws : List ℕ). length ws) (ap volatile_words c.now.view_is ∙ c.finish.ensures.volatile)
          ∙ c.in-Err.ensures.between.count)
          c.left_by_crash.ensures.image c.left_by_crash.ensures.long;
      then_nothing = λ e. absurd (cc);
      then_words = λ _. subst (λ n. GivesAll g.C.Chances.word_gives c.chance.new.self
          (map (slice_index c.left_by_crash.result.items) (transient_words n)) c.left_by_crash.new.chances)
          (c.geometry-geometry.ensures ∙ capacity_new c.args.words.now c.args.heap.now.words c.args.heap.now.held c.requires)
          c.left_by_crash.ensures.drawn;
    }
