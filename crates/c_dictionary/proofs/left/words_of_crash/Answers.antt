use Rattle.std.proofs.Common.{List, ℕ, sym, ap, subst, ◌∙◌}
use Rattle.std.specs.Prelude.{length, map, slice_index}
use Rattle.crash_image.specs.Crash.{GivesAll, transient_words}
use Rattle.heap_model.specs.Header.{capacity_of}
use Rattle.line_memory.specs.ClosedWords.{volatile_words, durable_words}
use Rattle.tool_ports.specs.Seeded.{GivesWord}
use Rattle.tool_ports.specs.declared.seeded_chances.SeededChances.{SeededChances}
use Rattle.c_dictionary.proofs.ImageLemmas.{crash_capacity, crash_image, crash_length, mixed_by, mixed_whole}
use Rattle.c_dictionary.proofs.left.words_of_crash.Goals as goal

pub mix-words-requires : goal.mix-words-requires
mix-words-requires c = ap (λ (ws : List ℕ). length ws) c.deref.ensures.value ∙ sym c.now.invariant

pub crash_by-requires : goal.crash_by-requires
crash_by-requires c = mixed_whole c.args.store c.requires c.mix-words.result.items
    (c.mix-words.ensures.long ∙ c.now.invariant
    ∙ ap (λ (ws : List ℕ). length ws) (ap volatile_words c.now.view_is ∙ c.finish.ensures.volatile))
    (mixed_by c.args.store c.deref.result.now c.now.inside.kept.items c.mix-words.result.items
    (c.deref.ensures.value ∙ ap volatile_words c.now.view_is ∙ c.finish.ensures.volatile)
    (ap durable_words c.now.view_is ∙ c.finish.ensures.durable) c.mix-words.ensures.mixes)

pub returns-clause-image : goal.returns-clause-image
returns-clause-image c = crash_image c.args.store c.requires c.mix-words.result.items c.crash_by.result.items
    (c.mix-words.ensures.long ∙ c.now.invariant
    ∙ ap (λ (ws : List ℕ). length ws) (ap volatile_words c.now.view_is ∙ c.finish.ensures.volatile))
    (mixed_by c.args.store c.deref.result.now c.now.inside.kept.items c.mix-words.result.items
    (c.deref.ensures.value ∙ ap volatile_words c.now.view_is ∙ c.finish.ensures.volatile)
    (ap durable_words c.now.view_is ∙ c.finish.ensures.durable) c.mix-words.ensures.mixes)
    c.crash_by.ensures.image c.crash_by.ensures.long c.finish.ensures.used c.finish.ensures.used_durable

pub returns-clause-long : goal.returns-clause-long
returns-clause-long c = crash_length c.args.store c.requires c.mix-words.result.items c.crash_by.result.items
    (c.mix-words.ensures.long ∙ c.now.invariant
    ∙ ap (λ (ws : List ℕ). length ws) (ap volatile_words c.now.view_is ∙ c.finish.ensures.volatile))
    (mixed_by c.args.store c.deref.result.now c.now.inside.kept.items c.mix-words.result.items
    (c.deref.ensures.value ∙ ap volatile_words c.now.view_is ∙ c.finish.ensures.volatile)
    (ap durable_words c.now.view_is ∙ c.finish.ensures.durable) c.mix-words.ensures.mixes)
    c.crash_by.ensures.image c.crash_by.ensures.long

pub returns-clause-dirty : goal.returns-clause-dirty
returns-clause-dirty c = c.crash_by.ensures.image.state

-- the words come from the chances by the seed, which gave a chance before
pub returns-clause-seeded : goal.returns-clause-seeded
returns-clause-seeded c =
    let out = c.crash_by.result.items in
    let same = crash_capacity c.args.store c.requires c.mix-words.result.items out
    (c.mix-words.ensures.long ∙ c.now.invariant
    ∙ ap (λ (ws : List ℕ). length ws) (ap volatile_words c.now.view_is ∙ c.finish.ensures.volatile))
    (mixed_by c.args.store c.deref.result.now c.now.inside.kept.items c.mix-words.result.items
    (c.deref.ensures.value ∙ ap volatile_words c.now.view_is ∙ c.finish.ensures.volatile)
    (ap durable_words c.now.view_is ∙ c.finish.ensures.durable) c.mix-words.ensures.mixes)
    c.crash_by.ensures.image c.crash_by.ensures.long in
    record {
      begun = c.seed.new.self;
      by_seed = c.seed.ensures;
      ended = c.crash_by.new.chances;
      gives = subst (λ n. GivesAll GivesWord c.seed.new.self (map (slice_index out) (transient_words n)) c.crash_by.new.chances) (sym same)
          (subst (λ (from : SeededChances). GivesAll GivesWord from (map (slice_index out) (transient_words
          (capacity_of (slice_index c.mix-words.result.items)))) c.crash_by.new.chances)
          c.chance-early.ensures.unchanged c.crash_by.ensures.drawn);
    }
