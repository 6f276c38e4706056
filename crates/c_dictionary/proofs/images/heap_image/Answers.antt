use Rattle.std.proofs.Common.{◌≡◌, ◌⊎◌, ℕ, List, length, inl, inr, subst}
use Rattle.std.proofs.lemmas.Bool.{cases_eq}
use Rattle.dictionary_heap.specs.Faults.{TellsFault}
use Rattle.c_dictionary.specs.Faults.{IsRefused}
use Rattle.c_dictionary.specs.Images.{OpensWords}
use Rattle.c_dictionary.proofs.ClosingLemmas.{again_bytes, again_memory, again_same, clean_in, is_room, leaves}
use Rattle.c_dictionary.proofs.ClosingLemmas.{two_answers}
use Rattle.c_dictionary.proofs.images.heap_image.Goals as goal

pub returns-in-Ok-clause-left : goal.returns-in-Ok-clause-left
returns-in-Ok-clause-left c = λ _. leaves c.args.handle.now.value (length c.args.room.now) c.in-Ok.taken c.in-Ok.ensures.ok
    c.leave-words.result.items c.leave-words.new.room
    c.leave-words.ensures.are c.leave-words.ensures.image

pub returns-in-Ok-clause-clean : goal.returns-in-Ok-clause-clean
returns-in-Ok-clause-clean c = λ _. clean_in c.args.handle.now.value (length c.args.room.now) c.in-Ok.taken c.in-Ok.ensures.ok
    c.leave-words.result.items c.leave-words.new.room
    c.leave-words.ensures.are c.leave-words.ensures.image
    c.leave-words.ensures.clean

pub returns-in-Ok-clause-opened : goal.returns-in-Ok-clause-opened
returns-in-Ok-clause-opened c = λ e. again_bytes c.args.handle.now.value (length c.args.room.now) c.in-Ok.taken c.in-Ok.ensures.ok
    c.leave-words.result.items c.leave-words.new.room
    c.leave-words.ensures.are c.leave-words.ensures.image
    c.open_words.new.handle.value (subst (λ (ws : List ℕ). OpensWords ws c.open_words.new.handle.value) c.deref.ensures.value
    (c.open_words.ensures.opened e))

pub returns-in-Ok-clause-same : goal.returns-in-Ok-clause-same
returns-in-Ok-clause-same c = λ e. again_same c.args.handle.now.value (length c.args.room.now) c.in-Ok.taken c.in-Ok.ensures.ok
    c.leave-words.result.items c.leave-words.new.room
    c.leave-words.ensures.are c.leave-words.ensures.image
    c.open_words.new.handle.value (subst (λ (ws : List ℕ). OpensWords ws c.open_words.new.handle.value) c.deref.ensures.value
    (c.open_words.ensures.opened e))

-- where it is not opened again, memory ran out
pub returns-in-Ok-clause-told : goal.returns-in-Ok-clause-told
returns-in-Ok-clause-told c = elim (cases_eq c.open_words.result 0) as (λ _. c.open_words.new.fault ≡ c.args.fault.now) [
  | inl done ↦ c.open_words.ensures.untold done
  | inr not ↦
      (again_memory c.args.handle.now.value (length c.args.room.now) c.in-Ok.taken c.in-Ok.ensures.ok c.leave-words.result.items
      c.leave-words.new.room
      c.leave-words.ensures.are c.leave-words.ensures.image
      c.open_words.result c.args.fault.now c.open_words.new.fault
      (subst (λ (ws : List ℕ). IsRefused (TellsFault ws) c.open_words.result c.args.fault.now c.open_words.new.fault) c.deref.ensures.value
      (c.open_words.ensures.refused not))).1
]

pub returns-in-Ok-clause-answers : goal.returns-in-Ok-clause-answers
returns-in-Ok-clause-answers c = two_answers c.open_words.result (elim (cases_eq c.open_words.result 0) as
    (λ _. (c.open_words.result ≡ 0) ⊎ (c.open_words.result ≡ 3)) [
      | inl done ↦ inl done
      | inr not ↦ inr (
          (again_memory c.args.handle.now.value (length c.args.room.now) c.in-Ok.taken c.in-Ok.ensures.ok c.leave-words.result.items
          c.leave-words.new.room
          c.leave-words.ensures.are c.leave-words.ensures.image
          c.open_words.result c.args.fault.now c.open_words.new.fault
          (subst (λ (ws : List ℕ). IsRefused (TellsFault ws) c.open_words.result c.args.fault.now c.open_words.new.fault)
          c.deref.ensures.value (c.open_words.ensures.refused not))).0
          )
    ])

pub returns-in-Err-clause-room : goal.returns-in-Err-clause-room
returns-in-Err-clause-room c = is_room c.args.handle.now.value (length c.args.room.now) c.in-Err.status c.in-Err.ensures.err
