use Rattle.std.proofs.Common.{[], ◌∷◌, ◌++◌, slice_index, sym, subst}
use Rattle.heap_model.specs.Durability.{IsCrashImage, IsClosedImage, NamesAreDurable}
use Rattle.heap_model.specs.Image.{Image}
use Rattle.core_model.specs.Held.{IsHeldBy, volatile_image}
use Rattle.core_model.proofs.HeldLemmas.{firm, crash_names, closed_names}
use Rattle.core_model.proofs.HeaderLemmas.{crash_header, closed_header}
use Rattle.heap_rule.proofs.ImageLemmas.{volatile_is, durable_is}
use Rattle.heap_rule.proofs.laws.a_closed_heap_names_each_held_block.Goals as goal

pub returns-clause-firm : goal.returns-clause-firm
returns-clause-firm c k now kept views closed =
    subst (λ (i : Image). NamesAreDurable i (slice_index kept) (IsHeldBy views))
    (volatile_is k.capacity now kept closed.drawn closed.now_long closed.kept_long)
    (subst (λ (i : Image). NamesAreDurable (volatile_image k.capacity (now ++ (kept ++ (closed.drawn ∷ [])))) i (IsHeldBy views))
    (durable_is k.capacity now kept closed.drawn closed.now_long closed.kept_long)
    (firm k (now ++ (kept ++ (closed.drawn ∷ []))) views closed.sound))

pub returns-clause-crash : goal.returns-clause-crash
returns-clause-crash c k now kept views closed image crash =
    crash_names k (now ++ (kept ++ (closed.drawn ∷ []))) views closed.sound image
    (subst (λ (i : Image). IsCrashImage i image) (sym (durable_is k.capacity now kept closed.drawn closed.now_long closed.kept_long)) crash)

pub returns-clause-closed : goal.returns-clause-closed
returns-clause-closed c k now kept views closed image is =
    closed_names k (now ++ (kept ++ (closed.drawn ∷ []))) views closed.sound image
    (subst (λ (i : Image). IsClosedImage i image) (sym (volatile_is k.capacity now kept closed.drawn closed.now_long closed.kept_long)) is)

pub returns-clause-header : goal.returns-clause-header
returns-clause-header c k now kept views closed good limit below image crash =
    crash_header k (now ++ (kept ++ (closed.drawn ∷ []))) views closed.sound image
    (subst (λ (i : Image). IsCrashImage i image) (sym (durable_is k.capacity now kept closed.drawn closed.now_long closed.kept_long)) crash)
    good limit below

pub returns-clause-closed_header : goal.returns-clause-closed_header
returns-clause-closed_header c k now kept views closed good limit below image is =
    closed_header k (now ++ (kept ++ (closed.drawn ∷ []))) views closed.sound image
    (subst (λ (i : Image). IsClosedImage i image) (sym (volatile_is k.capacity now kept closed.drawn closed.now_long closed.kept_long)) is)
    good limit below
