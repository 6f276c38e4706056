use Rattle.std.proofs.Common.{Bool, true, false, refl, subst}
use Rattle.block_heap.specs.SeqState.{seat_of}
use Rattle.dict_model.specs.Nodes.{shard_of}
use Rattle.dict_model.specs.Requests.{without_key}
use Rattle.dict_model.specs.Shards.{Map}
use Rattle.dict_requests.specs.Answers.{Deletes}
use Rattle.dict_requests.specs.Changes.{Changes}
use Rattle.c_dictionary.specs.Dictionary.{Holds}
use Rattle.c_dictionary.specs.declared.store.Store.{Store}
use Rattle.c_dictionary.proofs.KeyLemmas.{lists_absent}
use Rattle.c_dictionary.proofs.ReadyLemmas.{turns_after, ready_after}
use Rattle.c_dictionary.proofs.SoundLemmas.{sound_after, stopped_by}
use Rattle.c_dictionary.proofs.TurnLemmas.{without_local, was_absent}
use Rattle.c_dictionary.proofs.Numbers.{differ}
use Rattle.c_dictionary.proofs.requests.del.Goals as goal

pub returns-in-Ok-true : goal.returns-in-Ok-true
returns-in-Ok-true c =
    let s = c.args.store.now in
    let t : Store = record s { heap = c.del.new.seat; keys = c.take_key.new.keys } in
    let key = c.args.key in
    let made : Map → Map = λ map. without_key map key in
    let told : Deletes key true (seat_of s.heap) (seat_of t.heap) =
    subst (λ (found : Bool). Deletes key found (seat_of s.heap) (seat_of t.heap)) c.in-Ok-true.field-0-test c.in-Ok-true.ensures.ok in
    let changes : Changes (shard_of key) made (seat_of s.heap) (seat_of t.heap) = record { gives = told.gives } in
    let lists = λ (map : Map) (h : Holds map s). c.take_key.ensures map h.listed in
    record {
      answers = differ 0 2 refl;
      ready = λ _. ready_after s t c.requires.ready key made made c.in-Ok-true.ensures.crash (without_local key) changes lists told.runs.running;
      sound = sound_after s t c.requires.ready c.requires.sound key made c.in-Ok-true.ensures.crash c.in-Ok-true.ensures.kept refl;
      stopped = λ e. absurd (differ 0 12 refl e);
      found = λ _. told;
      absent = λ e. absurd (differ 0 1 refl e);
      gone = λ _. turns_after s t c.requires.ready key made made c.in-Ok-true.ensures.crash (without_local key) changes lists;
      crash = c.in-Ok-true.ensures.crash;
    }

-- a key that was not there is not listed
pub returns-in-Ok-false : goal.returns-in-Ok-false
returns-in-Ok-false c =
    let s = c.args.store.now in
    let t : Store = record s { heap = c.del.new.seat } in
    let key = c.args.key in
    let made : Map → Map = λ map. without_key map key in
    let told : Deletes key false (seat_of s.heap) (seat_of t.heap) =
    subst (λ (found : Bool). Deletes key found (seat_of s.heap) (seat_of t.heap)) c.in-Ok-false.field-0-test c.in-Ok-false.ensures.ok in
    let changes : Changes (shard_of key) made (seat_of s.heap) (seat_of t.heap) = record { gives = told.gives } in
    let lists = λ (map : Map) (h : Holds map s). lists_absent s.keys map key
    (was_absent key (seat_of s.heap) (seat_of t.heap) told map h.gives) h.listed in
    record {
      answers = differ 1 2 refl;
      ready = λ _. ready_after s t c.requires.ready key made made c.in-Ok-false.ensures.crash (without_local key) changes lists told.runs.running;
      sound = sound_after s t c.requires.ready c.requires.sound key made c.in-Ok-false.ensures.crash c.in-Ok-false.ensures.kept refl;
      stopped = λ e. absurd (differ 1 12 refl e);
      found = λ e. absurd (differ 1 0 refl e);
      absent = λ _. told;
      gone = λ _. turns_after s t c.requires.ready key made made c.in-Ok-false.ensures.crash (without_local key) changes lists;
      crash = c.in-Ok-false.ensures.crash;
    }

-- where the heap stopped
pub returns-in-Err : goal.returns-in-Err
returns-in-Err c =
    let s = c.args.store.now in
    let t : Store = record s { heap = c.del.new.seat } in
    let key = c.args.key in
    record {
      answers = differ 12 2 refl;
      ready = λ going. absurd (going refl);
      sound = sound_after s t c.requires.ready c.requires.sound key (λ map. without_key map key) c.in-Err.ensures.crash c.in-Err.ensures.kept refl;
      stopped = λ _. stopped_by s t c.in-Err.field-0.step c.in-Err.ensures.cause;
      found = λ e. absurd (differ 12 0 refl e);
      absent = λ e. absurd (differ 12 1 refl e);
      gone = λ going. absurd (going refl);
      crash = c.in-Err.ensures.crash;
    }
