-- What the making of a superblock's blocks leaves.
use Rattle.std.proofs.Common.{◌≡◌, ◌≤◌, ◌<◌, ℕ, ◌+◌, ◌-◌, ◌*◌, nat_eq, [], ◌∷◌, set, eq-eqb, None, Some, refl, ap, sym, subst, ◌∙◌, arith}
use Rattle.std.specs.Bool.{⊤}
use Rattle.std.specs.Prelude.{Result, Ok, Err, OnOk, IfErr}
use Rattle.heap_model.specs.Counting.{times, without}
use Rattle.heap_model.specs.Geometry.{start_word, info_word}
use Rattle.heap_model.specs.Sizes.{IsClass, words_of_class, blocks_of}
use Rattle.line_memory.specs.declared.memory.Stopped.{Stopped}
use Rattle.core_model.specs.declared.event.Event.TheVariants.{Tick}
use Rattle.core_model.specs.declared.event.Shift.TheVariants.{Cut}
use Rattle.core_model.specs.Effects.{class_blocks, drew}
use Rattle.core_model.specs.View.{View, of_class, times_raw}
use Rattle.core_model.proofs.PlaceLemmas.{pick}
use Rattle.core_model.proofs.TotalLemmas.{eq-eqb-one}
use Rattle.heap_rule.specs.Fences.{Owns}
use Rattle.heap_rule.specs.Cuts.{cut_for}
use Rattle.heap_rule.specs.Seated.{TellsDraw}
use Rattle.heap_rule.specs.Shown.{ShowsLinks, Can, CanCut}
use Rattle.heap_rule.proofs.WordsLeftLemmas.{draw_cuts, draw_done}
use Rattle.heap_rule.proofs.RawLemmas.{raw_inside}
use Rattle.heap_table.specs.Plays.{HasSoundState, IsEvent}
use Rattle.large_block.specs.Infos.{HasInfo}
use Rattle.seat_costs.specs.Costs.{Costs, no_costs}
use Rattle.seat_costs.specs.Draws.{Settles}
use Rattle.seat_costs.specs.Rows.{Parts, SameLooks, Stops, ViewRow, parts}
use Rattle.seat_costs.specs.Words.{KeepsWord}
use Rattle.seat_costs.proofs.DrawLemmas.{early_rest, early_words, stops}
use Rattle.seat_costs.proofs.RowLemmas.{stops_later}
use Rattle.cache_fill.specs.Cuts.{HasCut, HasDurableInfo, HasFilledAnchor, HasLinks, Leads, with_cut, with_making}
use Rattle.cache_fill.proofs.LinkLemmas.{block_from, block_owned, info_kept, info_owned, leads_kept, links_of, same_looks_then}

-- the superblock may be cut
record IsReady (d class : ℕ) (v z : View) : Type 0 where
  going : z.stopped ≡ None
  parts_are : parts z ≡ with_making d (parts v)
  info_is : HasDurableInfo d class z
  links : Leads z (start_word v.setup.capacity d) (words_of_class class) (blocks_of class - 1)
  floor : d < z.floor

module _ (v : View) (has : HasSoundState v) (d class : ℕ) (is : IsClass class) (claimed : 0 < times d v.raw)
    (uncached : of_class v.caches class ≡ []) where
  pub raw : 0 < times_raw d v
  raw = omega (arith, claimed)

  making : (z : View) → IsReady d class v z → 0 < times d z.cutting
  making z ready = subst (λ (p : Parts). 0 < times d p.cutting) (sym ready.parts_are) (let one = eq-eqb-one d d refl in omega arith)

  abbrev ready_can : (z : View) → IsReady d class v z → CanCut z d
  ready_can z ready = record {
    cutting = making z ready;
    class = class;
    is_class = is;
    info_is = ready.info_is.seen;
    durable_info_is = ready.info_is.left;
    durable = ready.floor;
    linked = subst (λ (p : Parts). ShowsLinks z (class_blocks p.setup.capacity class d)) (sym ready.parts_are)
        (links_of z (start_word v.setup.capacity d) (words_of_class class) (blocks_of class) (λ j less. ready.links j (omega (arith, less))));
    uncached = ap (λ (p : Parts). of_class p.caches class) ready.parts_are ∙ uncached;
  }

  -- own words that are kept keep it so
  ready_kept : (z y : View) → IsReady d class v z → y.stopped ≡ None → parts y ≡ parts z → z.floor ≤ y.floor
      → ((k : ℕ) → Owns z k → KeepsWord z y k) → IsReady d class v y
  ready_kept z y ready going same floor words = record {
    going = going;
    parts_are = same ∙ ready.parts_are;
    info_is = info_kept z y d class (words (info_word d) (info_owned z d below cutting)) ready.info_is;
    links = leads_kept z y (start_word v.setup.capacity d) (words_of_class class) (blocks_of class - 1)
        (λ j less. words (start_word v.setup.capacity d + j * words_of_class class)
        (subst (λ c. Owns z (start_word c d + j * words_of_class class)) capacity
        (block_owned z class d j is below cutting (omega (arith, less))))) ready.links;
    floor = let f = ready.floor in omega (arith, floor);
  } where
    capacity : z.setup.capacity ≡ v.setup.capacity
    capacity = ap (λ (p : Parts). p.setup.capacity) ready.parts_are

    below : d < z.setup.capacity
    below = subst (λ c. d < c) (sym capacity) (raw_inside v has d raw)

    cutting : 0 < times_raw d z
    cutting = let m = making z ready in omega (arith, m)

  module _ (t x y : View) (durable : d < v.floor) (set_is : HasInfo d class v t) (linked : HasLinks d class t x)
      (filled : HasFilledAnchor d x y) (floor : v.floor ≤ y.floor) where
    x_parts : parts x ≡ parts v
    x_parts = linked.parts_are ∙ set_is.parts_are

    x_capacity : x.setup.capacity ≡ v.setup.capacity
    x_capacity = ap (λ (p : Parts). p.setup.capacity) x_parts

    x_below : d < x.setup.capacity
    x_below = subst (λ c. d < c) (sym x_capacity) (raw_inside v has d raw)

    x_raw : 0 < times_raw d x
    x_raw = subst (λ (p : Parts). 0 < times d p.raw + times d p.split + times d p.cutting) (sym x_parts) raw

    y_ready : IsReady d class v y
    y_ready = record {
      going = filled.going;
      parts_are = filled.parts_are ∙ ap (with_making d) x_parts;
      info_is = info_kept x y d class (filled.words (info_word d) (λ same. omega (arith, same)) (info_owned x d x_below x_raw)) linked.info_is;
      links = leads_kept x y (start_word v.setup.capacity d) (words_of_class class) (blocks_of class - 1)
          (λ j less. filled.words (start_word v.setup.capacity d + j * words_of_class class)
          (λ same. let low = block_from v.setup.capacity class d j is (omega (arith, less)) (raw_inside v has d raw) in
          let i = raw_inside v has d raw in omega (arith, same, low, i))
          (subst (λ c. Owns x (start_word c d + j * words_of_class class)) x_capacity (block_owned x class d j is x_below x_raw (omega (arith, less)))))
          (subst (λ (p : Parts). Leads x (start_word p.setup.capacity d) (words_of_class class) (blocks_of class - 1)) set_is.parts_are linked.links);
      floor = omega (arith, durable, floor);
    }

    pub can_cut : Can y (Tick (Some (Cut d)))
    can_cut = record { going = filled.going; ticket = tt; shown = ready_can y y_ready }

    module _ (early w : View) (found : ℕ) (settles : Settles y early) (event : IsEvent (Tick (Some (Cut d))) early found w) where
      early_parts : parts early ≡ parts y
      early_parts = ap parts (early_rest y early settles)

      early_ready : IsReady d class v early
      early_ready = ready_kept y early y_ready (ap (λ (z : View). z.stopped) (early_rest y early settles) ∙ filled.going) early_parts
          (let e = ap (λ (z : View). z.floor) (early_rest y early settles) in omega arith) (early_words y early settles)

      y_looks : SameLooks v y
      y_looks = same_looks_then v x y (same_looks_then v t x (record { used = set_is.look; heads = set_is.heads }) linked.looks) filled.looks

      cut_is : w.stopped ≡ None → w ≡ cut_for class (drew early found) d
      cut_is going = draw_cuts d early w found event going (ready_can early early_ready)

      pub cut_done : w.stopped ≡ None → HasCut d class v w
      cut_done going = record {
        going = going;
        looks = same_looks_then v y w y_looks (record {
          used = ap (λ (z : View). z.used_look) (cut_is going) ∙ ap (λ (z : View). z.used_look) (early_rest y early settles);
          heads = ap (λ (z : View). z.head_looks) (cut_is going) ∙ ap (λ (z : View). z.head_looks) (early_rest y early settles);
        });
        parts_are = ap parts (cut_is going)
            ∙ ap (λ (p : Parts). record p {
              caches = set p.caches class (class_blocks p.setup.capacity class d);
              cutting = without d p.cutting;
            }) (early_parts ∙ y_ready.parts_are)
            ∙ ap (λ l. record (with_cut d class (parts v)) { cutting = l })
            (pick (nat_eq d d) (without d v.cutting) (d ∷ without d (without d v.cutting)) (eq-eqb d d refl));
      }

      pub cut_told : (result : Result ⊤ Stopped) → TellsDraw w result → OnOk result (HasCut d class v w)
      cut_told (Ok z) going = cut_done going
      cut_told (Err e) told = tt

      pub cut_stopped : {n : ℕ} → ViewRow (record no_costs { draws = n }) v y → (result : Result ⊤ Stopped) → TellsDraw w result
          → IfErr result (λ e. Stops e.step v w)
      cut_stopped row (Ok z) going = tt
      cut_stopped row (Err e) told = stops_later v y w e.step set_is.ran filled.going row
          (stops y early settles (Some (Cut d)) w found event e.step filled.going told)

-- a cut counts as one
pub cut_counted : {a : Costs} (v y early w : View) (d found : ℕ) → ViewRow a v y → Settles y early → IsEvent (Tick (Some (Cut d))) early found w
    → (result : Result ⊤ Stopped) → TellsDraw w result → OnOk result (v.cuts < w.cuts)
cut_counted v y early w d found row settles event (Ok z) going =
    let one = ap (λ (x : View). x.cuts) (draw_done (Some (Cut d)) early w found event going) in
    let same = ap (λ (x : View). x.cuts) (early_rest y early settles) in let more = row.passes.more.cuts in omega arith
cut_counted v y early w d found row settles event (Err e) told = tt
