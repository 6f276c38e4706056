-- What opening an image's words says of the command that asked for it.
use Rattle.std.proofs.Common.{◌≡◌, ℕ, Bool, List, slice_index, Some, sym, subst}
use Rattle.heap_model.specs.Header.{first_kinds}
use Rattle.dict_model.specs.Links.{dict_links, kind_count}
use Rattle.heap_recover.specs.Fault.{TellsOutsideIn}
use Rattle.heap_recover.specs.declared.fault.RecoverFault.{RecoverFault}
use Rattle.heap_recover.specs.declared.fault.RecoverFault.TheVariants.{Header, Outside as OutsideFound, Memory as RecoverMemory}
use Rattle.image_run.specs.Counting.{IsOrderlyImage, TellsOpened}
use Rattle.tool_command.specs.Command.{count_image}
use Rattle.tool_ports.specs.Contents.{Contents}
use Rattle.tool_run.specs.declared.fault.Fault.{Fault}
use Rattle.tool_run.specs.declared.getting.CurrentImage.{CurrentImage}
use Rattle.tool_run.specs.Inside.{Refuses, fault_of_recovery}
use Rattle.tool_run.specs.Making.{Counts}
use Rattle.tool_run.specs.Recovering.{IsCurrentImage}
use Rattle.tool_run.proofs.CurrentLemmas.{has_outside, no_memory}

module _ (contents : Contents) (name : List ℕ) (with_map : Bool) (image : CurrentImage)
    (of : IsCurrentImage (Some kind_count) first_kinds contents name image) where
  -- the text on an image that was opened
  pub counts : (text : List ℕ) → TellsOpened image.words.items with_map text → Counts contents name with_map text
  counts text tells = record {
    bytes = of.bytes;
    is_there = of.good.is_there;
    good = of.good.good;
    tells = subst (λ (ws : List ℕ). TellsOpened ws with_map text) of.words_are tells;
  }

  -- what the tool tells of an image that was not opened: a word outside only where its anchors don't tell what it holds
  pub not_opened : (get_failed : Type 0) (cause : RecoverFault) (fault : Fault) → fault ≡ fault_of_recovery cause
      → TellsOutsideIn (slice_index image.words.items) dict_links cause → (IsOrderlyImage image.words.items → cause ≡ RecoverMemory)
      → Refuses (count_image name with_map) contents get_failed fault
  unfolding has_outside
  not_opened get_failed (Header cause) fault is why sure = absurd why
  not_opened get_failed RecoverMemory fault is why sure = no_memory (count_image name with_map) contents get_failed fault is
  not_opened get_failed (OutsideFound at value) fault is why sure =
      subst (λ (f : Fault). Refuses (count_image name with_map) contents get_failed f) (sym is) (
        has_outside contents name image of at value why.0 why.1,
        λ orderly. let never : OutsideFound at value ≡ RecoverMemory =
            sure (subst (λ (ws : List ℕ). IsOrderlyImage ws) (sym of.words_are) orderly) in absurd (cc),
      )
