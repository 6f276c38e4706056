-- The words of a named image in the new version: what is told of them is told of its bytes.
use Rattle.std.proofs.Common.{◌≡◌, ◌↔◌, ℕ, ◌%◌, ◌*◌, ◌<◌, Bool, List, All, length, slice_index, Option, Some, None, IfSome, IsTrue, sym, ap, ◌∙◌, subst, inl, inr, arith}
use Rattle.heap_model.specs.Geometry.{roots, clean}
use Rattle.heap_model.specs.Image.{Image, image_of_bytes}
use Rattle.heap_model.specs.Header.{HasGoodHeader, HasKindsBelow, IsWellFormed, state_of, first_kinds}
use Rattle.dict_model.specs.Links.{dict_links, kind_count}
use Rattle.region_header.specs.declared.check.Header.{Header as HeaderRead}
use Rattle.region_header.specs.Header.{IsHeaderOf}
use Rattle.region_header.specs.Words.{AreWordsOf}
use Rattle.region_header.specs.Migration.{current_words}
use Rattle.region_header.proofs.MigrationLemmas.{current_formed, current_below, current_same}
use Rattle.region_header.proofs.WordBytes.{image_of_words}
use Rattle.heap_recover.specs.Answer.{IsMadeOf}
use Rattle.heap_recover.specs.Fault.{TellsOutsideIn}
use Rattle.heap_recover.specs.declared.answer.Recovered.{Recovered}
use Rattle.heap_recover.specs.declared.fault.RecoverFault.{RecoverFault}
use Rattle.heap_recover.specs.declared.fault.RecoverFault.TheVariants.{Header, Outside as OutsideFound, Memory as RecoverMemory}
use Rattle.image_run.proofs.PutLemmas.{words_are_in}
use Rattle.tool_ports.specs.Contents.{Contents, HoldsFirst}
use Rattle.tool_command.specs.Command.{Command, image_name}
use Rattle.tool_run.specs.declared.fault.Fault.{Fault}
use Rattle.tool_run.specs.declared.fault.Fault.TheVariants.{Memory}
use Rattle.tool_run.specs.declared.getting.CurrentImage.{CurrentImage}
use Rattle.tool_run.specs.Calls.{get_limit}
use Rattle.tool_run.specs.Inside.{Refuses, fault_of_recovery}
use Rattle.tool_run.specs.Making.{IsKept, PointsOutside, HasOutside, image_in}
use Rattle.tool_run.specs.CommandUses.{FollowsLinks}
use Rattle.tool_run.specs.Recovering.{IsCurrentImage, IsRecoveredHeap, IsRecoveredHeapOf, IsRecoveredFrom}
use Rattle.tool_run.proofs.FilterLemmas.{follows_refuses}
use Rattle.tool_run.proofs.ImageLemmas.{whole_image}

-- the header of the words in the bytes is good where that of the bytes is
good_in_words : (limit : Option ℕ) (words bytes : List ℕ) → AreWordsOf words bytes → HasGoodHeader limit (length bytes) (image_of_bytes bytes)
    → HasGoodHeader limit (8 * length words) (slice_index words)
good_in_words limit words bytes of good = subst (λ n. HasGoodHeader limit n (slice_index words)) (sym of.count)
    (subst (λ (image : Image). HasGoodHeader limit (length bytes) image) (sym (image_of_words words bytes of)) good)

-- a good header under a limit is one under none
good_without : (limit : Option ℕ) (bytes : ℕ) (image : Image) → HasGoodHeader limit bytes image → HasGoodHeader None bytes image
good_without limit bytes image (inl old) = inl old
good_without limit bytes image (inr (formed, below)) = inr (formed, tt)

-- bytes with a good header are whole words
in_words : (limit : Option ℕ) (bytes : ℕ) (image : Image) → HasGoodHeader limit bytes image → bytes % 8 ≡ 0
in_words limit bytes image (inl old) = let long = old.length_is in omega arith
in_words limit bytes image (inr (formed, below)) = let long = formed.length_is in omega arith

-- the bytes whose header was looked at are these
module _ (limit : Option ℕ) (got shown : List ℕ) (are : shown ≡ got) (good : HasGoodHeader limit (length shown) (image_of_bytes shown)) where
  good_got : HasGoodHeader limit (length got) (image_of_bytes got)
  good_got = subst (λ (l : List ℕ). HasGoodHeader limit (length l) (image_of_bytes l)) are good

  pub got_in_words : length got % 8 ≡ 0
  got_in_words = in_words limit (length got) (image_of_bytes got) good_got

  module _ (words : List ℕ) (of : AreWordsOf words got) where
    pub good_words : HasGoodHeader None (8 * length words) (slice_index words)
    good_words = good_without limit (8 * length words) (slice_index words) (good_in_words limit words got of good_got)

    -- the words in the new version are those of the named image
    pub is_current : (kinds : List ℕ) (contents : Contents) (name : List ℕ) (header : HeaderRead) (image : CurrentImage)
        → HoldsFirst contents name get_limit got
        → IsHeaderOf header (image_of_bytes shown) → length kinds ≡ roots → IfSome limit (λ most. All (λ kind. kind < most) kinds)
        → image.words.items ≡ current_words words kinds → image.closed ≡ header.clean → IsCurrentImage limit kinds contents name image
    is_current kinds contents name header image first header_is count few items_are closed_is =
        let here = good_in_words limit words got of good_got in
        let state : state_of (slice_index image.words.items) ≡ state_of (image_of_bytes shown) =
        ap (λ (ws : List ℕ). state_of (slice_index ws)) items_are
        ∙ (current_same limit words kinds count here).state_is
        ∙ ap (λ (i : Image). state_of i) (image_of_words words got of)
        ∙ sym (ap (λ (l : List ℕ). state_of (image_of_bytes l)) are) in
        record {
          bytes = got;
          good = whole_image limit contents name got first good_got;
          words_are = items_are ∙ ap (λ (ws : List ℕ). current_words ws kinds) (sym (words_are_in words got of));
          formed = subst (λ (ws : List ℕ). IsWellFormed (8 * length ws) (slice_index ws)) (sym items_are) (current_formed limit words kinds count here);
          below = subst (λ (ws : List ℕ). HasKindsBelow limit (slice_index ws)) (sym items_are) (current_below limit words kinds count here few);
          closed = subst (λ (b : Bool). IsTrue b ↔ (state_of (slice_index image.words.items) ≡ clean)) (sym closed_is)
              (subst (λ n. IsTrue header.clean ↔ (n ≡ clean)) (sym state) header_is.clean_is);
        }

-- want of memory refuses any command
pub no_memory : (command : Command) (contents : Contents) (get_failed : Type 0) (fault : Fault) → fault ≡ Memory
    → Refuses command contents get_failed fault
no_memory command contents get_failed fault is = subst (λ (f : Fault). Refuses command contents get_failed f) (sym is) tt

-- recovery gives the heap that it gives of the same image in another form
recovered_heap : (image : Image) (words : List ℕ) (answer : Recovered) → slice_index words ≡ image
    → IsMadeOf words (IsKept (slice_index words)) answer → HasKindsBelow (Some kind_count) (slice_index answer.heap.words)
    → IsRecoveredHeap image answer
recovered_heap image words answer same made kinds =
    subst (λ (i : Image). IsRecoveredHeap i answer) same
    (record {
      recovers = record { held_are = made.held; free_are = made.free; words_are = made.recovered };
      was = made.was;
      kinds = kinds;
    })

module _ (contents : Contents) (name : List ℕ) (image : CurrentImage) (of : IsCurrentImage (Some kind_count) first_kinds contents name image) where
  pub image_is : slice_index image.words.items ≡ image_in of.bytes
  image_is = ap (λ (ws : List ℕ). slice_index ws) of.words_are

  -- what recovery of its words gives
  pub is_recovered : (answer : Recovered) → IsMadeOf image.words.items (IsKept (slice_index image.words.items)) answer
      → HasKindsBelow (Some kind_count) (slice_index answer.heap.words)
      → ((at : ℕ) → PointsOutside (slice_index image.words.items) at → ⊥) → IsRecoveredHeapOf contents name answer
  is_recovered answer made kinds none = record {
    bytes = of.bytes;
    is_there = of.good.is_there;
    good = of.good.good;
    inside = subst (λ (i : Image). (at : ℕ) → PointsOutside i at → ⊥) image_is none;
    formed = subst (λ (ws : List ℕ). IsWellFormed (8 * length ws) (slice_index ws)) of.words_are of.formed;
    is = recovered_heap (image_in of.bytes) image.words.items answer image_is made kinds;
    long = made.long ∙ ap (λ (ws : List ℕ). length ws) of.words_are;
  }

  -- and its words beside it
  pub is_recovered_from : (words : List ℕ) (answer : Recovered) → words ≡ image.words.items → IsMadeOf words (IsKept (slice_index words)) answer
      → HasKindsBelow (Some kind_count) (slice_index answer.heap.words)
      → ((at : ℕ) → PointsOutside (slice_index words) at → ⊥) → IsRecoveredFrom contents name image.words.items answer
  unfolding is_recovered
  is_recovered_from words answer same made kinds none = record {
    image = is_recovered answer (subst (λ (ws : List ℕ). IsMadeOf ws (IsKept (slice_index ws)) answer) same made) kinds
        (subst (λ (ws : List ℕ). (at : ℕ) → PointsOutside (slice_index ws) at → ⊥) same none);
    words_are = of.words_are;
  }

  -- a word that is told as outside is one of the image
  unfoldable pub has_outside : (at value : ℕ) → PointsOutside (slice_index image.words.items) at → value ≡ slice_index image.words.items at
      → HasOutside contents name at value
  has_outside at value points is = record {
    bytes = of.bytes;
    is_there = of.good.is_there;
    good = of.good.good;
    points = subst (λ (i : Image). PointsOutside i at) image_is points;
    value_is = is ∙ ap (λ (i : Image). i at) image_is;
  }

  -- what the tool tells of a recovery that failed, where a command follows the links of the image
  pub is_refused : (get_failed : Type 0) (words : List ℕ) (cause : RecoverFault) (fault : Fault) → fault ≡ fault_of_recovery cause
      → words ≡ image.words.items
      → TellsOutsideIn (slice_index words) dict_links cause → (command : Command) → FollowsLinks command → image_name command ≡ name
      → Refuses command contents get_failed fault
  is_refused get_failed words (Header cause) fault is same why command follows named = absurd why
  is_refused get_failed words RecoverMemory fault is same why command follows named = no_memory command contents get_failed fault is
  is_refused get_failed words (OutsideFound at value) fault is same why command follows named =
      let here = subst (λ (ws : List ℕ). TellsOutsideIn (slice_index ws) dict_links (OutsideFound at value)) same why in
      subst (λ (f : Fault). Refuses command contents get_failed f) (sym is)
      (subst (λ (n : List ℕ). HasOutside contents n at value) (sym named) (has_outside at value here.0 here.1), follows_refuses command _ follows)
