-- The same of what a closed heap has, by its volatile words.
use Rattle.std.proofs.Common.{ℕ, ◌*◌, ◌↔◌, List, length, slice_index, Option, sym, subst}
use Rattle.heap_model.specs.declared.block.Block.{Block}
use Rattle.heap_model.specs.Durability.{IsClosedImage}
use Rattle.heap_model.specs.Geometry.{image_words}
use Rattle.heap_model.specs.Header.{IsWellFormed, HasKindsBelow}
use Rattle.heap_model.specs.Image.{Image}
use Rattle.core_model.specs.Held.{IsHeldBy}
use Rattle.core_model.specs.Sound.{Each}
use Rattle.core_model.specs.View.{Setup, View}
use Rattle.heap_table.specs.AtTable.{IsClosedSound}
use Rattle.heap_rule.proofs.ImageLemmas.{volatile_is}
use Rattle.heap_at_rest.specs.Orderly.{IsHeldByAnchors, IsOrderly}
use Rattle.seat_model.specs.Emptied.{KeepsNothing}
use Rattle.seat_model.proofs.ClosedHeldLemmas.{held_alike}
use Rattle.seat_model.proofs.OrderlyLemmas.{orderly}

pub closed_is_orderly : (k : Setup) (now kept : List ℕ) (views : List View) → IsClosedSound k now kept views → Each views KeepsNothing
    → IsWellFormed (8 * length k.opened) (slice_index k.opened)
    → (limit : Option ℕ) → HasKindsBelow limit (slice_index k.opened) → (image : Image) → IsClosedImage (slice_index now) image
    → IsOrderly limit (8 * image_words k.capacity) image
closed_is_orderly k now kept views closed nothing formed limit kinds image close = orderly k _ views closed.sound nothing image
    (subst (λ (i : Image). IsClosedImage i image) (sym (volatile_is k.capacity now kept closed.drawn closed.now_long closed.kept_long)) close)
    formed limit kinds

pub closed_holds : (k : Setup) (now kept : List ℕ) (views : List View) → IsClosedSound k now kept views → Each views KeepsNothing
    → (image : Image) → IsClosedImage (slice_index now) image
    → (b : Block) → IsHeldByAnchors image b ↔ IsHeldBy views b
closed_holds k now kept views closed nothing image close = held_alike k _ views closed.sound nothing image
    (subst (λ (i : Image). IsClosedImage i image) (sym (volatile_is k.capacity now kept closed.drawn closed.now_long closed.kept_long)) close)
