use Rattle.std.proofs.Common.{ℕ, Option, refl, subst}
use Rattle.block_heap.specs.SeqState.{seat_of}
use Rattle.dict_model.specs.Shards.{Map}
use Rattle.dict_requests.specs.Gets.{Gets}
use Rattle.c_dictionary.specs.Dictionary.{Holds}
use Rattle.c_dictionary.specs.declared.store.Store.{Store}
use Rattle.c_dictionary.proofs.ReadyLemmas.{turns_after, ready_after}
use Rattle.c_dictionary.proofs.SoundLemmas.{sound_after, stopped_by}
use Rattle.c_dictionary.proofs.TurnLemmas.{same_local}
use Rattle.c_dictionary.proofs.Numbers.{differ}
use Rattle.c_dictionary.proofs.requests.get.Goals as goal

pub returns-in-Ok-Some : goal.returns-in-Ok-Some
returns-in-Ok-Some c =
    let s = c.args.store.now in
    let t : Store = record s { heap = c.get.new.seat } in
    let key = c.args.key in
    let lists = λ (map : Map) (h : Holds map s). h.listed in
    record {
      answers = differ 0 2 refl;
      ready = λ _. ready_after s t c.requires.ready key (λ map. map) (λ map. map) c.in-Ok-Some.ensures.crash
          (same_local key) c.in-Ok-Some.ensures.maps lists c.in-Ok-Some.ensures.ok.runs.running;
      sound = sound_after s t c.requires.ready c.requires.sound key (λ map. map) c.in-Ok-Some.ensures.crash c.in-Ok-Some.ensures.kept refl;
      stopped = λ e. absurd (differ 0 12 refl e);
      found = λ _. subst (λ (answer : Option ℕ). Gets key answer c.args.room.now c.get.new.out (seat_of s.heap) (seat_of t.heap))
          c.in-Ok-Some.field-0-is c.in-Ok-Some.ensures.ok;
      absent = λ e. absurd (differ 0 1 refl e);
      same = λ _. turns_after s t c.requires.ready key (λ map. map) (λ map. map) c.in-Ok-Some.ensures.crash
          (same_local key) c.in-Ok-Some.ensures.maps lists;
    }

pub returns-in-Ok-None : goal.returns-in-Ok-None
returns-in-Ok-None c =
    let s = c.args.store.now in
    let t : Store = record s { heap = c.get.new.seat } in
    let key = c.args.key in
    let lists = λ (map : Map) (h : Holds map s). h.listed in
    record {
      answers = differ 1 2 refl;
      ready = λ _. ready_after s t c.requires.ready key (λ map. map) (λ map. map) c.in-Ok-None.ensures.crash
          (same_local key) c.in-Ok-None.ensures.maps lists c.in-Ok-None.ensures.ok.runs.running;
      sound = sound_after s t c.requires.ready c.requires.sound key (λ map. map) c.in-Ok-None.ensures.crash c.in-Ok-None.ensures.kept refl;
      stopped = λ e. absurd (differ 1 12 refl e);
      found = λ e. absurd (differ 1 0 refl e);
      absent = λ _. subst (λ (answer : Option ℕ). Gets key answer c.args.room.now c.get.new.out (seat_of s.heap) (seat_of t.heap))
          c.in-Ok-None.field-0-is c.in-Ok-None.ensures.ok;
      same = λ _. turns_after s t c.requires.ready key (λ map. map) (λ map. map) c.in-Ok-None.ensures.crash
          (same_local key) c.in-Ok-None.ensures.maps lists;
    }

-- where the heap stopped
pub returns-in-Err : goal.returns-in-Err
returns-in-Err c =
    let s = c.args.store.now in
    let t : Store = record s { heap = c.get.new.seat } in
    let key = c.args.key in
    record {
      answers = differ 12 2 refl;
      ready = λ going. absurd (going refl);
      sound = sound_after s t c.requires.ready c.requires.sound key (λ map. map) c.in-Err.ensures.crash c.in-Err.ensures.kept refl;
      stopped = λ _. stopped_by s t c.in-Err.field-0.step c.in-Err.ensures.cause;
      found = λ e. absurd (differ 12 0 refl e);
      absent = λ e. absurd (differ 12 1 refl e);
      same = λ going. absurd (going refl);
    }
