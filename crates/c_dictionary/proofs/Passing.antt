-- A request over what a handle owns: from the steps of its call.
use Rattle.std.proofs.Common.{◌≡◌, Option, Some, sym, ap, ◌∙◌}
use Rattle.heap_seat.specs.View.{View}
use Rattle.block_heap.specs.SeqState.{seat_of}
use Rattle.dict_model.specs.Shards.{Map}
use Rattle.c_dictionary.specs.Dictionary.{Holds, Turns}
use Rattle.c_dictionary.specs.declared.store.Store.{Store}
use Rattle.c_dictionary.specs.Passing.{Passes, Becomes, Tells}

module _ (args told left : Option Store) (taken boxed lent after last : Store) (same : told ≡ args) (held : told ≡ Some taken)
    (box : boxed ≡ taken) (lend : lent ≡ boxed) (set : left ≡ Some last) (of : last ≡ after) where
  had : args ≡ Some lent
  had = sym same ∙ held ∙ ap Some (sym box ∙ sym lend)

  pub passes : (how : View → View → Type 0) → how (seat_of lent.heap) (seat_of after.heap) → Passes args left how
  passes how is = record { before = lent; after = after; had = had; has = set ∙ ap Some of; how_is = is }

  pub becomes : (change : Map → Map) → Turns change lent after → Becomes change args left
  becomes change turns = record { before = lent; after = after; had = had; has = set ∙ ap Some of; turns = turns }

  pub stays : after ≡ lent → left ≡ args
  stays e = set ∙ ap Some (of ∙ e) ∙ sym had

  pub tells : (how : Map → Type 0) → after ≡ lent → ((map : Map) → Holds map lent → how map) → Tells how args left
  tells how e is = record { store = lent; had = had; stays = stays e; tells = is }
