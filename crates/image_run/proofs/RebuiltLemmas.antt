-- What recovery made in place leaves, done or stopped, and the report on it.
use Rattle.std.proofs.Common.{◌≡◌, ◌⊎◌, ℕ, ◌+◌, ◌*◌, ◌/◌, ◌≤◌, inl, inr, Bool, true, false, List, length, slice_index, Some, None, refl, sym, ap, subst, ◌∙◌, arith}
use Rattle.heap_model.specs.declared.block.Block.{Block}
use Rattle.heap_model.specs.Geometry.{state_word, capacity_word}
use Rattle.heap_model.specs.Header.{capacity_of, header_fault}
use Rattle.heap_model.specs.Image.{Image}
use Rattle.heap_model.specs.Durability.{Mixes, IsCrashImage, IsTransient}
use Rattle.heap_model.specs.Recovery.{in_header}
use Rattle.heap_model.proofs.HeaderLemmas.{no_fault}
use Rattle.heap_recover.specs.InPlace.{steps_between, IsRecoveryOf, RecoversAlike, IsBetween, HoldsDurably, IsStoppedAt}
use Rattle.heap_recover.specs.InOrder.{steps_in, IsDoneBy, IsCutOffIn}
use Rattle.line_memory.specs.View.{View, opened}
use Rattle.line_memory.specs.Plain.{Gives, view_of, chance_of, DrawsBy}
use Rattle.line_memory.specs.declared.plain.PlainMemory.{PlainMemory}
use Rattle.dict_model.specs.Links.{dict_links, kind_count}
use Rattle.worker_run.specs.Left.{AreWholeImage}
use Rattle.image_run.specs.Rebuilding.{IsRebuilt, IsLeftBySteps, Rebuilds}
use Rattle.image_run.specs.Reporting.{fault_of, image_in}
use Rattle.image_run.proofs.PutLemmas.{image_in_words, good_bytes}

module _ (old new : List ℕ) (held : List Block) (is : IsRecoveryOf (Some kind_count) old dict_links new held) where
  pub capacity_new : capacity_of (slice_index new) ≡ capacity_of (slice_index old)
  capacity_new = is.words_are.same capacity_word (in_header capacity_word (inr (inr (inl refl))))

  -- what is durable of such words is a whole image
  pub durable_capacity : (v : View) → IsBetween old new v → capacity_of (slice_index v.durable) ≡ capacity_of (slice_index old)
  durable_capacity v between = elim (between.durable capacity_word) as (λ _. capacity_of (slice_index v.durable) ≡ capacity_of (slice_index old)) [
    | inl e ↦ e
    | inr e ↦ e ∙ capacity_new
  ]

  pub durable_whole : (v : View) → length v.durable ≡ length v.volatile → IsBetween old new v → AreWholeImage v.durable
  durable_whole v lengths between =
      let same = durable_capacity v between in
      let count = between.count in
      record {
        some = let some = is.formed.some in omega arith;
        small = let small = is.formed.small in omega arith;
        long = let long = is.formed.length_is in omega arith;
      }

  -- it was done
  pub rebuilt_done : (budget : ℕ) (now : List ℕ) (v w : View) → w.volatile ≡ now → HoldsDurably new w → v.budget ≡ budget → v.drawn ≡ 0
      → w.drawn ≡ v.drawn + steps_between (slice_index old) (slice_index new) (length old) → w.drawn ≤ v.budget
      → ((image : Image) → Mixes (slice_index w.volatile) (slice_index w.durable) image
      → RecoversAlike (Some kind_count) (8 * length old) (slice_index old) image dict_links)
      → IsRebuilt (slice_index old) (length old) budget false now
  rebuilt_done budget now v w now_is has limit none drew below mixed =
      let same : now ≡ new = sym now_is ∙ has.volatile in
      record {
        new = new;
        recovered = is.words_are;
        long = ap (λ (ws : List ℕ). length ws) same ∙ is.long;
        alike = mixed (slice_index now) (record { each = λ word. inl (ap (λ (ws : List ℕ). slice_index ws word) (sym now_is)) });
        state = ap (λ (ws : List ℕ). slice_index ws state_word) same ∙ is.words_are.state;
        done = λ _. same;
        within = λ _. omega arith;
        cause = λ e. absurd (cc);
        comes = λ e. absurd (cc);
        others = λ word _ _. inr (ap (λ (ws : List ℕ). slice_index ws word) same);
      }

  -- it was stopped, and the image is one that a crash leaves
  pub rebuilt_cut : (budget ticket : ℕ) (kept left : List ℕ) (v w : View) → w.durable ≡ kept → IsBetween old new w → v.budget ≡ budget → v.drawn ≡ 0
      → v.stopped ≡ None → IsStoppedAt old new (steps_between (slice_index old) (slice_index new) (length old)) ticket v w
      → ((image : Image) → IsCrashImage (slice_index w.durable) image
      → RecoversAlike (Some kind_count) (8 * length old) (slice_index old) image dict_links)
      → IsCrashImage (slice_index kept) (slice_index left) → length left ≡ length kept → length w.durable ≡ length w.volatile
      → IsRebuilt (slice_index old) (length old) budget true left
  rebuilt_cut budget ticket kept left v w kept_is between limit none going stopped crash is_crash long lengths =
      let crashed : IsCrashImage (slice_index w.durable) (slice_index left) =
      subst (λ (ws : List ℕ). IsCrashImage (slice_index ws) (slice_index left)) (sym kept_is) is_crash in
      record {
        new = new;
        recovered = is.words_are;
        long = let same = ap (λ (ws : List ℕ). length ws) kept_is in let count = between.count in omega arith;
        alike = crash (slice_index left) crashed;
        state = is_crash.state;
        done = λ e. absurd (cc);
        within = λ e. absurd (cc);
        cause = λ _. let above = stopped.above in let few = stopped.few in omega arith;
        comes = λ _. record {
          at = stopped.reached.at;
          steps = let steps = stopped.reached.steps going in omega arith;
          rest = λ word past other lasts.
              crashed.others word other (λ lost. lasts (subst (λ c. IsTransient c word) (durable_capacity w between) lost))
              ∙ stopped.reached.rest_durable word past;
        };
        others = λ word other lasts.
            let same = crashed.others word other (λ lost. lasts (subst (λ c. IsTransient c word) (durable_capacity w between) lost)) in
            elim (between.durable word) as (λ _. (slice_index left word ≡ slice_index old word) ⊎ (slice_index left word ≡ slice_index new word)) [
              | inl e ↦ inl (same ∙ e)
              | inr e ↦ inr (same ∙ e)
            ];
      }

-- what a memory left that took the steps of a rebuild, done
pub left_done : {One : Type 0} (gives : Gives One) (chance : One) (old new left : List ℕ) (held : List Block) (budget : ℕ)
    (before after : PlainMemory One)
    → IsRecoveryOf (Some kind_count) old dict_links new held → view_of before ≡ opened old budget → chance_of before ≡ chance
    → IsDoneBy view_of (DrawsBy gives) (steps_in (slice_index old) (slice_index new) (length old / 8)) before after
    → HoldsDurably new (view_of after) → left ≡ (view_of after).volatile
    → IsLeftBySteps gives chance (slice_index old) budget false left
left_done gives chance old new left held budget before after is opens has steps holds seen = record {
  words = old;
  long = sym (ap (λ (ws : List ℕ). length ws) (seen ∙ holds.volatile) ∙ is.long);
  are_old = λ word. refl;
  new = slice_index new;
  recovered = is.words_are;
  before = before;
  is_opened = opens;
  has_chance = has;
  after = after;
  done = λ _. steps;
  seen = λ _. seen;
  cut_off = λ e. absurd (cc);
  durable = λ e. absurd (cc);
}

-- and stopped
pub left_cut : {One : Type 0} (gives : Gives One) (chance : One) (old new kept left : List ℕ) (held : List Block) (budget ticket : ℕ)
    (before after : PlainMemory One)
    → IsRecoveryOf (Some kind_count) old dict_links new held → view_of before ≡ opened old budget → chance_of before ≡ chance
    → IsCutOffIn view_of (DrawsBy gives) (steps_in (slice_index old) (slice_index new) (length old / 8)) ticket before after
    → (view_of after).durable ≡ kept → length kept ≡ length old → IsCrashImage (slice_index kept) (slice_index left) → length left ≡ length kept
    → IsLeftBySteps gives chance (slice_index old) budget true left
left_cut gives chance old new kept left held budget ticket before after is opens has steps kept_is count crash long = record {
  words = old;
  long = sym (long ∙ count);
  are_old = λ word. refl;
  new = slice_index new;
  recovered = is.words_are;
  before = before;
  is_opened = opens;
  has_chance = has;
  after = after;
  done = λ e. absurd (cc);
  seen = λ e. absurd (cc);
  cut_off = λ _. (ticket, steps);
  durable = λ _. subst (λ (ws : List ℕ). IsCrashImage (slice_index ws) (slice_index left)) (sym kept_is) crash;
}

-- an image with a good header has no fault
pub good_header : (image : Image) (count budget : ℕ) (stopped : Bool) (left : List ℕ) → IsRebuilt image count budget stopped left
    → header_fault (Some kind_count) (8 * length left) (slice_index left) ≡ None
good_header image count budget stopped left is =
    subst (λ n. header_fault (Some kind_count) (8 * n) (slice_index left) ≡ None) (sym is.long)
    (no_fault (Some kind_count) (8 * count) (slice_index left) (inr (is.alike.formed, is.alike.below)))

-- what is put can be recovered
module _ (image : Image) (count budget : ℕ) (put text : List ℕ) (is : Rebuilds image count budget put text) where
  pub rebuilt_good : fault_of put ≡ None
  rebuilt_good = good_bytes is.left put is.words_are (good_header image count budget is.stopped is.left is.rebuilt)

  long : 8 * count ≡ length put
  long = ap (λ n. 8 * n) (sym is.rebuilt.long) ∙ is.words_are.count

  pub rebuilt_alike : RecoversAlike (Some kind_count) (length put) image (image_in put) dict_links
  rebuilt_alike =
      subst (λ n. RecoversAlike (Some kind_count) n image (image_in put) dict_links) long
      (subst (λ (i : Image). RecoversAlike (Some kind_count) (8 * count) image i dict_links)
      (sym (image_in_words is.left put is.words_are is.rebuilt.alike.formed.version_is)) is.rebuilt.alike)
