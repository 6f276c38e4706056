-- The words of an image of which no kinds are checked.
use Rattle.std.proofs.Common.{◌≡◌, ◌∙◌, ℕ, zero, suc, List, ◌∷◌, map, replicate, slice_index, refl, sym, ap, subst, None, Bool}
use Rattle.heap_model.specs.Geometry.{roots}
use Rattle.heap_model.specs.Image.{Image}
use Rattle.image_run.specs.Conservative.{TellsByWords}
use Rattle.mixed_trace.specs.declared.mode.Mode.TheVariants.{All}
use Rattle.mixed_trace.specs.Recovery.{stored_kind}
use Rattle.region_header.specs.Migration.{current_words}
use Rattle.tool_ports.specs.Contents.{Contents}
use Rattle.tool_run.specs.declared.getting.CurrentImage.{CurrentImage}
use Rattle.tool_run.specs.Making.{ShowsByWords, image_without_kinds}
use Rattle.tool_run.specs.Recovering.{IsCurrentImage, words_in_bytes}

-- roots of no kind get the kind 0
no_kinds : (n : ℕ) → map stored_kind (replicate n All) ≡ replicate n 0
no_kinds zero = refl
no_kinds (suc n) = ap (λ (ks : List ℕ). 0 ∷ ks) (no_kinds n)

-- the text on an image that was recovered with no filter
pub shows_by_words : (contents : Contents) (name : List ℕ) (with_map : Bool) (image : CurrentImage) (text : List ℕ)
    → IsCurrentImage None (replicate roots 0) contents name image → TellsByWords (slice_index image.words.items) with_map text
    → ShowsByWords contents name with_map text
shows_by_words contents name with_map image text of tells =
    let words = words_in_bytes of.bytes in
    let same : slice_index image.words.items ≡ image_without_kinds of.bytes =
    ap (λ (ws : List ℕ). slice_index ws) (of.words_are ∙ ap (λ ks. current_words words ks) (sym (no_kinds roots))) in
    record {
      bytes = of.bytes;
      is_there = of.good.is_there;
      good = of.good.good;
      tells = subst (λ (i : Image). TellsByWords i with_map text) same tells;
    }
