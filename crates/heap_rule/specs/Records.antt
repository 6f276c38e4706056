-- What steps leave of what is recorded of own words.
use Rattle.std.specs.Prelude.{◌≡◌, ℕ}
use Rattle.core_model.specs.declared.event.Event.{Event}
use Rattle.core_model.specs.declared.event.Event.TheVariants.{Load, Store, Settle}
use Rattle.core_model.specs.Cells.{cell_at}
use Rattle.core_model.specs.View.{View, known}

-- the event loads the word, stores to it or makes it durable
abbrev pub IsOn : Event → ℕ → Type 0
IsOn (Load at) word = at ≡ word
IsOn (Store at value) word = at ≡ word
IsOn (Settle at) word = at ≡ word
IsOn event word = ⊥

-- what is recorded of the word is the same: what loads see, and what a crash leaves
pub record KeepsRecord (word : ℕ) (v w : View) : Type 0 where
  pub volatile : known w.volatile (cell_at v.setup.capacity word) ≡ known v.volatile (cell_at v.setup.capacity word)
  pub durable : known w.durable (cell_at v.setup.capacity word) ≡ known v.durable (cell_at v.setup.capacity word)
