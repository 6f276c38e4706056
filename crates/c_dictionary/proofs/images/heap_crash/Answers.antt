use Rattle.std.proofs.Common.{ℕ, List, length, subst}
use Rattle.heap_model.specs.Geometry.{dirty}
use Rattle.region_header.specs.Words.{AreWordsOf}
use Rattle.c_dictionary.proofs.ClosingLemmas.{is_room, leaves, scrambled_in, state_in}
use Rattle.c_dictionary.proofs.images.heap_crash.Goals as goal

pub returns-in-Ok-clause-left : goal.returns-in-Ok-clause-left
returns-in-Ok-clause-left c = λ _. leaves c.args.handle.now.value (length c.args.room.now) c.in-Ok.taken c.in-Ok.ensures.ok
    c.words_of_crash-words.result.items c.put_words.new.room
    (subst (λ (ws : List ℕ). AreWordsOf ws c.put_words.new.room) c.deref.ensures.value c.put_words.ensures) c.words_of_crash-words.ensures.image

pub returns-in-Ok-clause-dirty : goal.returns-in-Ok-clause-dirty
returns-in-Ok-clause-dirty c = λ _. state_in c.args.handle.now.value (length c.args.room.now) c.in-Ok.taken c.in-Ok.ensures.ok
    c.words_of_crash-words.result.items c.put_words.new.room
    (subst (λ (ws : List ℕ). AreWordsOf ws c.put_words.new.room) c.deref.ensures.value c.put_words.ensures) c.words_of_crash-words.ensures.image
    dirty c.words_of_crash-words.ensures.dirty

pub returns-in-Ok-clause-seeded : goal.returns-in-Ok-clause-seeded
returns-in-Ok-clause-seeded c = λ _. scrambled_in c.args.handle.now.value (length c.args.room.now) c.in-Ok.taken c.in-Ok.ensures.ok
    c.words_of_crash-words.result.items c.put_words.new.room
    (subst (λ (ws : List ℕ). AreWordsOf ws c.put_words.new.room) c.deref.ensures.value c.put_words.ensures) c.words_of_crash-words.ensures.image
    c.args.seed c.words_of_crash-words.ensures.seeded

pub returns-in-Err-clause-room : goal.returns-in-Err-clause-room
returns-in-Err-clause-room c = is_room c.args.handle.now.value (length c.args.room.now) c.in-Err.status c.in-Err.ensures.err
