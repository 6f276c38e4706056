use Rattle.std.proofs.Common.{◌≡◌, ℕ, inl, inr, List, [], length, refl, sym, ap, subst, ◌∙◌}
use Rattle.std.specs.Prelude.{is_some}
use Rattle.std.proofs.lemmas.Bool.{not-true}
use Rattle.block_heap.specs.SeqState.{seat_of}
use Rattle.dict_model.specs.Nodes.{shard_of, node_bytes}
use Rattle.dict_model.specs.Requests.{with_key}
use Rattle.dict_model.specs.Shards.{Map}
use Rattle.dict_requests.specs.Puts.{PutAnswers}
use Rattle.heap_seat.specs.declared.fault.AllocFault.{AllocFault}
use Rattle.heap_seat.specs.declared.fault.AllocFault.TheVariants.{Full, Stopped}
use Rattle.c_dictionary.specs.Dictionary.{Holds}
use Rattle.c_dictionary.specs.Ready.{IsReady, IsSound}
use Rattle.c_dictionary.specs.declared.store.Store.{Store}
use Rattle.c_dictionary.proofs.ReadyLemmas.{turns_after, ready_after, lists_undone}
use Rattle.c_dictionary.proofs.SoundLemmas.{sound_after, stopped_by, refused_runs}
use Rattle.c_dictionary.proofs.TurnLemmas.{with_local, same_local}
use Rattle.c_dictionary.proofs.Numbers.{differ}
use Rattle.c_dictionary.proofs.requests.put.Goals as goal

pub returns-in-Ok-put : goal.returns-in-Ok-put
returns-in-Ok-put c =
    let s = c.args.store.now in
    let t : Store = record s { heap = c.put.new.seat; keys = c.add_key.new.keys } in
    let key = c.args.key in let value = c.args.value.now in
    let made : Map → Map = λ map. with_key map key value in
    let lists = λ (map : Map) (h : Holds map s). c.in-Ok.ensures.set map value h.listed in
    record {
      ready = λ _. ready_after s t c.requires.ready key made made c.in-Ok-put.ensures.crash (with_local key value) c.in-Ok-put.ensures.ok lists
          c.in-Ok-put.ensures.runs.running;
      sound = sound_after s t c.requires.ready c.requires.sound key made c.in-Ok-put.ensures.crash c.in-Ok-put.ensures.kept refl;
      stopped = λ e. absurd (differ 0 12 refl e);
      answers = differ 0 2 refl;
      done = λ _. c.in-Ok-put.ensures.ok;
      set = λ _. turns_after s t c.requires.ready key made made c.in-Ok-put.ensures.crash (with_local key value) c.in-Ok-put.ensures.ok lists;
      full = λ e. absurd (differ 0 11 refl e);
      refused = λ e. absurd (differ 0 11 refl e);
      room = λ e. absurd (differ 0 11 refl e);
      memory = λ e. absurd (differ 0 3 refl e);
      crash = inr c.in-Ok-put.ensures.crash;
    }

-- where there was no room, the key that was added is taken out again
pub returns-in-Err-Full : goal.returns-in-Err-Full
returns-in-Err-Full c =
    let s = c.args.store.now in
    let t : Store = record s { heap = c.put.new.seat; keys = c.undo_add.new.keys } in
    let key = c.args.key in let value = c.args.value.now in
    let made : Map → Map = λ map. with_key map key value in
    let told : PutAnswers (node_bytes (length value)) (shard_of key) (Full c.in-Err-Full.field-0-0) (seat_of s.heap) (seat_of t.heap)
    = subst (λ (fault : AllocFault). PutAnswers (node_bytes (length value)) (shard_of key) fault (seat_of s.heap) (seat_of t.heap))
    c.in-Err-Full.field-0-is c.in-Err-Full.ensures.cause in
    let lists = λ (map : Map) (h : Holds map s). lists_undone s.keys c.add_key.new.keys t.keys key c.in-Ok.added map h.listed
    (λ is. not-true (is_some (map key)) (sym (c.in-Ok.ensures.added map h.listed) ∙ is)) (c.in-Ok.ensures.set map [] h.listed)
    (λ no. c.in-Ok.ensures.same no map h.listed)
    (λ is. c.undo_add.ensures.taken is (with_key map key [])) (λ no. c.undo_add.ensures.same no) in
    record {
      ready = λ _. ready_after s t c.requires.ready key made (λ map. map) c.in-Err-Full.ensures.crash (same_local key)
          (record { gives = told.1 }) lists (refused_runs _ (shard_of key) _ (seat_of s.heap) (seat_of t.heap) told.0);
      sound = sound_after s t c.requires.ready c.requires.sound key made c.in-Err-Full.ensures.crash c.in-Err-Full.ensures.kept refl;
      stopped = λ e. absurd (differ 11 12 refl e);
      answers = differ 11 2 refl;
      done = λ e. absurd (differ 11 0 refl e);
      set = λ e. absurd (differ 11 0 refl e);
      full = λ _. record { gives = told.1 };
      refused = λ _. turns_after s t c.requires.ready key made (λ map. map) c.in-Err-Full.ensures.crash (same_local key)
          (record { gives = told.1 }) lists;
      room = λ _. (c.in-Err-Full.field-0-0, told.0);
      memory = λ e. absurd (differ 11 3 refl e);
      crash = inr c.in-Err-Full.ensures.crash;
    }

-- where the heap stopped, only that the put was done or not is known
pub returns-in-Err-Stopped : goal.returns-in-Err-Stopped
returns-in-Err-Stopped c =
    let s = c.args.store.now in
    let t : Store = record s { heap = c.put.new.seat; keys = c.add_key.new.keys } in
    let key = c.args.key in let value = c.args.value.now in
    let made : Map → Map = λ map. with_key map key value in
    let told : PutAnswers (node_bytes (length value)) (shard_of key) (Stopped c.in-Err-Stopped.field-0-0) (seat_of s.heap) (seat_of t.heap)
    = subst (λ (fault : AllocFault). PutAnswers (node_bytes (length value)) (shard_of key) fault (seat_of s.heap) (seat_of t.heap))
    c.in-Err-Stopped.field-0-is c.in-Err-Stopped.ensures.cause in
    record {
      ready = λ going. absurd (going refl);
      sound = sound_after s t c.requires.ready c.requires.sound key made c.in-Err-Stopped.ensures.crash c.in-Err-Stopped.ensures.kept refl;
      stopped = λ _. stopped_by s t c.in-Err-Stopped.field-0-0.step told.0;
      answers = differ 12 2 refl;
      done = λ e. absurd (differ 12 0 refl e);
      set = λ e. absurd (differ 12 0 refl e);
      full = λ e. absurd (differ 12 11 refl e);
      refused = λ e. absurd (differ 12 11 refl e);
      room = λ e. absurd (differ 12 11 refl e);
      memory = λ e. absurd (differ 12 3 refl e);
      crash = inr c.in-Err-Stopped.ensures.crash;
    }

-- where memory ran out nothing was done
pub returns-in_default : goal.returns-in_default
returns-in_default c =
    let s = c.args.store.now in
    let same : ◌≡◌ {A = Store} (record s { keys = c.add_key.new.keys }) s =
    ap (λ (ks : List ℕ). record s { keys = record { keys = ks } }) c.in_default.ensures.err in
    record {
      ready = λ _. subst IsReady (sym same) c.requires.ready;
      sound = subst IsSound (sym same) c.requires.sound;
      stopped = λ e. absurd (differ 3 12 refl e);
      answers = differ 3 2 refl;
      done = λ e. absurd (differ 3 0 refl e);
      set = λ e. absurd (differ 3 0 refl e);
      full = λ e. absurd (differ 3 11 refl e);
      refused = λ e. absurd (differ 3 11 refl e);
      room = λ e. absurd (differ 3 11 refl e);
      memory = λ _. same;
      crash = inl same;
    }
