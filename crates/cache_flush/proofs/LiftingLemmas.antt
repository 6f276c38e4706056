-- How far the lifting of a cache's first blocks has come.
use Rattle.std.proofs.Common.{◌≡◌, ◌≢◌, ◌<◌, ◌≤◌, ℕ, ◌+◌, true, set, length, List, [], ◌∷◌, ◌++◌, refl, ap, sym, subst, ◌∙◌, length-append, arith}
use Rattle.std.proofs.lemmas.List.{get_or-set_same, set-set}
use Rattle.std.proofs.lemmas.List.Elements.{All-cons, All-nil, All-push}
use Rattle.heap_model.specs.Sizes.{IsClass}
use Rattle.heap_model.specs.Geometry.{superblock_of}
use Rattle.core_model.specs.Cells.{data_cell}
use Rattle.core_model.specs.Effects.{first_of, last_of, rest_of}
use Rattle.core_model.specs.View.{Batch, View, Setup, no_batch, of_class}
use Rattle.core_model.proofs.ClassListLemmas.{first_rest}
use Rattle.seat_state.proofs.EndLemmas.{last_append}
use Rattle.heap_table.specs.Plays.{HasSoundState}
use Rattle.heap_rule.specs.Shown.{CanLift, Shows}
use Rattle.seat_costs.specs.Costs.{no_costs}
use Rattle.seat_costs.specs.Rows.{Parts, ViewRow, parts}
use Rattle.seat_costs.proofs.RowLemmas.{view_row_then, view_row_within}
use Rattle.cache_flush.specs.Lifts.{HasLifted, HasLiftedPrefix, IsLifting, lift_costs, with_lifted}

append_again : (bs : List ℕ) (b : ℕ) (cs : List ℕ) → (bs ++ b ∷ []) ++ cs ≡ bs ++ b ∷ cs
append_again [] b cs = refl
append_again (x ∷ bs) b cs = ap (λ l. x ∷ l) (append_again bs b cs)

pub lifts_begin : (v : View) (class : ℕ) → IsClass class → 1 ≤ length (of_class v.caches class) → v.batch ≡ no_batch → CanLift v class
lifts_begin v class is some none = let empty = ap (λ (x : Batch). length x.blocks) none in record {
  is_class = is;
  cached = some;
  same = λ more. absurd (omega arith);
  unchanged = λ more. absurd (omega arith);
  linked = λ more. absurd (omega arith);
}

pub lifting_one : (v w : View) (class first : ℕ) → 1 ≤ length (of_class v.caches class) → v.batch ≡ no_batch
    → first ≡ first_of (of_class v.caches class) → HasLifted class first v w → ViewRow (record no_costs { draws = 2 }) v w
    → IsLifting class (superblock_of v.setup.capacity first) first v w
lifting_one v w class first some none is lifted row = record {
  ran = lifted.ran;
  going = lifted.going;
  room = lifted.room;
  more = lifted.more;
  lifted = first ∷ [];
  rest = rest_of (of_class v.caches class);
  both = first_rest (of_class v.caches class) some ∙ ap (λ b. b ∷ rest_of (of_class v.caches class)) (sym is);
  parts_are = lifted.parts_are
      ∙ ap (λ (x : Batch). record (parts v) {
        caches = set v.caches class (rest_of (of_class v.caches class));
        batch = record { descriptor = superblock_of v.setup.capacity first; class = class; blocks = x.blocks ++ first ∷ []; linked = true };
      }) none;
  some = omega arith;
  together = All-cons (λ b. superblock_of v.setup.capacity b ≡ superblock_of v.setup.capacity first) first [] refl
      (All-nil (λ b. superblock_of v.setup.capacity b ≡ superblock_of v.setup.capacity first));
  last_is = refl;
  link = lifted.link;
  row = row;
}

module _ (v : View) (has : HasSoundState v) (class : ℕ) (is : IsClass class) where
  pub class_in : class < length v.caches
  class_in = let long = (has.sound.good.set_up has.seat v has.below has.at).caches in let last = is.last in omega arith

  pub cache_set : (rest : List ℕ) → of_class (set v.caches class rest) class ≡ rest
  cache_set rest = get_or-set_same v.caches class rest [] class_in

  module _ (t : View) (d last : ℕ) (lifting : IsLifting class d last v t) where
    pub lifting_cache : of_class t.caches class ≡ lifting.rest
    lifting_cache = ap (λ (p : Parts). of_class p.caches class) lifting.parts_are ∙ cache_set lifting.rest

    pub lifting_batch : t.batch ≡ record { descriptor = d; class = class; blocks = lifting.lifted; linked = true }
    lifting_batch = ap (λ (p : Parts). p.batch) lifting.parts_are

    pub lifting_setup : t.setup ≡ v.setup
    lifting_setup = ap (λ (p : Parts). p.setup) lifting.parts_are

    pub lifting_can : 1 ≤ length (of_class t.caches class) → superblock_of v.setup.capacity (first_of (of_class t.caches class)) ≡ d → CanLift t class
    lifting_can some at = record {
      is_class = is;
      cached = some;
      same = λ more. ap (λ (x : Batch). x.descriptor) lifting_batch ∙ sym at
          ∙ ap (λ (k : Setup). superblock_of k.capacity (first_of (of_class t.caches class))) (sym lifting_setup);
      unchanged = λ more. ap (λ (x : Batch). x.linked) lifting_batch;
      linked = λ more. subst (λ n. Shows t (data_cell n) (first_of (of_class t.caches class)))
          (sym (ap (λ (x : Batch). last_of x.blocks) lifting_batch ∙ lifting.last_is))
          (subst (λ bs. Shows t (data_cell last) (first_of bs)) (sym lifting_cache) (lifting.link (subst (λ bs. 1 ≤ length bs) lifting_cache some)));
    }

    module _ (w : View) (next : ℕ) (some : 1 ≤ length (of_class t.caches class)) (next_is : next ≡ first_of (of_class t.caches class))
        (at : superblock_of v.setup.capacity (first_of (of_class t.caches class)) ≡ d)
        (lifted : HasLifted class next t w) (row : ViewRow (record no_costs { draws = 2 }) t w) where
      rest_is : lifting.rest ≡ next ∷ rest_of lifting.rest
      rest_is = first_rest lifting.rest (subst (λ bs. 1 ≤ length bs) lifting_cache some)
          ∙ ap (λ b. b ∷ rest_of lifting.rest) (ap first_of (sym lifting_cache) ∙ sym next_is)

      many : length (lifting.lifted ++ next ∷ []) ≡ length lifting.lifted + 1
      many = length-append lifting.lifted (next ∷ [])

      d_is : superblock_of t.setup.capacity next ≡ d
      d_is = ap (λ (k : Setup). superblock_of k.capacity next) lifting_setup ∙ ap (superblock_of v.setup.capacity) next_is ∙ at

      pub lifting_on : IsLifting class d next v w
      lifting_on = record {
        ran = lifting.ran;
        going = lifted.going;
        room = lifting.room;
        more = let a = lifting.more in let b = lifted.more in omega arith;
        lifted = lifting.lifted ++ next ∷ [];
        rest = rest_of lifting.rest;
        both = lifting.both ∙ ap (λ bs. lifting.lifted ++ bs) rest_is ∙ sym (append_again lifting.lifted next (rest_of lifting.rest));
        parts_are = lifted.parts_are ∙ ap (with_lifted class next) lifting.parts_are
            ∙ ap (λ bs. record (parts v) {
              caches = set (set v.caches class lifting.rest) class (rest_of bs);
              batch = record {
                descriptor = superblock_of v.setup.capacity next;
                class = class;
                blocks = lifting.lifted ++ next ∷ [];
                linked = true;
              };
            }) (cache_set lifting.rest)
            ∙ ap (λ bs. record (parts v) {
              caches = bs;
              batch = record {
                descriptor = superblock_of v.setup.capacity next;
                class = class;
                blocks = lifting.lifted ++ next ∷ [];
                linked = true;
              };
            }) (set-set v.caches class lifting.rest (rest_of lifting.rest))
            ∙ ap (λ n. record (parts v) {
              caches = set v.caches class (rest_of lifting.rest);
              batch = record { descriptor = n; class = class; blocks = lifting.lifted ++ next ∷ []; linked = true };
            })
            (ap (superblock_of v.setup.capacity) next_is ∙ at);
        some = omega (arith, many);
        together = All-push (λ b. superblock_of v.setup.capacity b ≡ d) lifting.lifted next lifting.together
            (ap (superblock_of v.setup.capacity) next_is ∙ at);
        last_is = last_append lifting.lifted next;
        link = subst (λ bs. 1 ≤ length (rest_of bs) → Shows w (data_cell next) (first_of (rest_of bs))) lifting_cache lifted.link;
        row = let m = many in view_row_within (lift_costs (length (lifting.lifted ++ next ∷ []))) v w
            (record {
              draws = omega arith;
              wins = omega arith;
              gives = omega arith;
              cuts = omega arith;
              taken = omega arith;
              moves = omega arith;
            }) (view_row_then v t w lifting.row row);
      }

    pub lifting_most : (w : View) → 1 ≤ length (of_class t.caches class) → ViewRow (record no_costs { draws = 2 }) t w
        → ViewRow (lift_costs (length (of_class v.caches class))) v w
    lifting_most w some row = let all = ap length lifting.both in let sum = length-append lifting.lifted lifting.rest in
        let r = ap length lifting_cache in
        view_row_within (lift_costs (length (of_class v.caches class))) v w
        (record {
          draws = omega arith;
          wins = omega arith;
          gives = omega arith;
          cuts = omega arith;
          taken = omega arith;
          moves = omega arith;
        }) (view_row_then v t w lifting.row row)

    pub lifting_row : ViewRow (lift_costs (length (of_class v.caches class))) v t
    lifting_row = let all = ap length lifting.both in let sum = length-append lifting.lifted lifting.rest in
        view_row_within (lift_costs (length (of_class v.caches class))) v t
        (record {
          draws = omega arith;
          wins = omega arith;
          gives = omega arith;
          cuts = omega arith;
          taken = omega arith;
          moves = omega arith;
        }) lifting.row

    pub lifted_all : length (of_class t.caches class) ≡ 0 → HasLiftedPrefix class d last v t
    lifted_all none = record { lifting = lifting; longest = λ more. absurd (let r = ap length lifting_cache in omega arith) }

    pub lifted_some : superblock_of v.setup.capacity (first_of (of_class t.caches class)) ≢ d → HasLiftedPrefix class d last v t
    lifted_some other = record {
      lifting = lifting;
      longest = λ more same. other
          (ap (λ bs. superblock_of v.setup.capacity (first_of bs)) lifting_cache ∙ same);
    }
