-- What clap makes of words that are given in turn: a positional's, an option with a number, a flag.
use Rattle.std.proofs.Common.{◌≡◌, ◌∙◌, ◌+◌, ℕ, Bool, true, false, not, cond, ◌&&◌, List, [], ◌∷◌, Option, Some, None, refl, sym, ap, ap₂, subst, min, drop, map}
use Rattle.std.specs.List.{fold}
use Rattle.std.specs.Str.{bytes_eq}
use Rattle.std.proofs.lemmas.Bool.{not-true}
use Rattle.clap.specs.Lexer.{long_of, usize_max}
use Rattle.clap.specs.Kinds.{or_else}
use Rattle.clap.specs.Walk.{Text, Rule, Row, Held, Walk, Waiting, idle, option, used, settled_rows, walked, walk_from, nothing_held, finished, rows_after, arg_by_id, arg_by_index, arg_by_long, most_values, takes_values, takes_several, is_multiple, is_pending, settled, pushed, with_default, has_row}
use Rattle.clap.specs.Simple.{App, Shape, built, names_of, label_of}
use Rattle.clap.specs.Words.{fault_of, matches_of}
use Rattle.clap.specs.Faults.{turn_fault, walk_fault, settle_fault, use_fault, defaults_fault, check_fault, built_fault}
use Rattle.clap.proofs.FaultLemmas.{past, leaf_fault}
use Rattle.clap.proofs.WalkLemmas.{both}
use Rattle.tool_command.proofs.PlainWordLemmas.{IsPlain}

-- ---- where the walk stands

abbrev pub held : List Row → Option (Text × List Text) → Held
held rows pending = record { rows = rows; pending = pending; skip = 0 }

abbrev pub at : List Row → Option (Text × List Text) → Waiting → ℕ → Walk
at rows pending waiting position = record { held = held rows pending; waiting = waiting; position = position; is_trailing = false; stopped = None }

-- from here the words are taken without a fault, and what they leave are these rows
pub record Parses (s : Shape) (from : Walk) (words : List Text) (rows : List Row) : Type 0 where
  pub end : Walk
  pub faultless : walk_fault s [] from words ≡ []
  pub ends : fold (walked s.rules []) from words ≡ end
  pub settles : settle_fault s.rules s.args_override_self end.held ≡ []
  pub leaves : settled_rows s.rules end.held.pending end.held.rows ≡ rows

-- one word
record Steps (s : Shape) (from : Walk) (word : Text) (to : Walk) : Type 0 where
  passes : turn_fault s [] from word ≡ []
  steps : walked s.rules [] from word ≡ to

then : (s : Shape) (from to : Walk) (word : Text) (rest : List Text) (rows : List Row) → Steps s from word to → Parses s to rest rows
    → Parses s from (word ∷ rest) rows
unfolding walk_fault
then s from to word rest rows one parses = record {
  end = parses.end;
  faultless = past (turn_fault s [] from word) (walk_fault s [] (walked s.rules [] from word) rest) one.passes
      ∙ ap (λ w. walk_fault s [] w rest) one.steps ∙ parses.faultless;
  ends = ap (λ w. fold (walked s.rules []) w rest) one.steps ∙ parses.ends;
  settles = parses.settles;
  leaves = parses.leaves;
}

-- ---- one argument given

-- a positional for one word, at this position
pub record IsPositional (s : Shape) (position : ℕ) (a : Rule) : Type 0 where
  pub here : arg_by_index s.rules position ≡ Some a
  pub found : arg_by_id s.rules a.id ≡ Some a
  pub single : takes_several a ≡ false
  pub once : is_multiple a ≡ false
  pub closed : a.trailing_var_arg ≡ false

-- an option with one value, and the word that names it
pub record IsOption (s : Shape) (a : Rule) (option_word name : Text) : Type 0 where
  pub dashes : bytes_eq option_word (45 ∷ 45 ∷ []) ≡ false
  pub long : long_of option_word ≡ Some (name, None)
  pub here : arg_by_long s.rules name ≡ Some a
  pub found : arg_by_id s.rules a.id ≡ Some a
  pub itself : bytes_eq a.id a.id ≡ true
  pub valued : takes_values a ≡ true
  pub one : most_values a ≡ 1

-- an option without a value, and the word that names it
pub record IsFlag (s : Shape) (a : Rule) (option_word name : Text) : Type 0 where
  pub dashes : bytes_eq option_word (45 ∷ 45 ∷ []) ≡ false
  pub long : long_of option_word ≡ Some (name, None)
  pub here : arg_by_long s.rules name ≡ Some a
  pub bare : takes_values a ≡ false

-- an argument takes these values where it was not given before
abbrev pub Fits : Shape → Rule → List Text → Type 0
Fits s a values = (rows : List Row) → has_row a.id rows ≡ false → use_fault s.args_override_self a values rows ≡ []

never : {X : Type 0} (b c : Bool) (x y : X) → c ≡ false → cond (b && c) x y ≡ y
never true c x y e = rw e refl
never false c x y e = refl

module _ (s : Shape) (rows : List Row) (pending : Option (Text × List Text)) (position : ℕ)
    (settles : settle_fault s.rules s.args_override_self (held rows pending) ≡ []) where
  placed : (a : Rule) (word : Text) → IsPositional s position a → IsPlain word
      → Steps s (at rows pending idle position) word (at (settled_rows s.rules pending rows) (Some (a.id, word ∷ [])) idle
      (min (position + 1) usize_max))
  unfolding walked
  placed a word is plain = record {
    passes = rw (plain.dashes, plain.long, plain.short, is.here) (never (is_pending a pending) (takes_several a) []
        (settle_fault s.rules s.args_override_self (held rows pending)) is.single ∙ settles);
    steps = rw (plain.dashes, plain.long, plain.short, is.here, is.once)
        (ap₂ (λ h b. let w : Walk = record {
          held = pushed a.id word h;
          waiting = idle;
          position = min (position + 1) usize_max;
          is_trailing = b;
          stopped = None;
        } in w)
        (never (is_pending a pending) (takes_several a) (held rows pending) (settled s.rules (held rows pending)) is.single) is.closed);
  }

  named : (a : Rule) (option_word name : Text) → IsOption s a option_word name
      → Steps s (at rows pending idle position) option_word (at (settled_rows s.rules pending rows) (Some (a.id, [])) (option a.id) position)
  unfolding walked
  named a option_word name is = record {
    passes = rw (is.dashes, is.long, is.here, is.valued, settles) refl;
    steps = rw (is.dashes, is.long, is.here, is.valued) refl;
  }

  valued : (a : Rule) (option_word name word : Text) → IsOption s a option_word name → IsPlain word
      → Steps s (at (settled_rows s.rules pending rows) (Some (a.id, [])) (option a.id) position) word
      (at (settled_rows s.rules pending rows) (Some (a.id, word ∷ [])) idle position)
  unfolding walked
  valued a option_word name word is plain = record {
    passes = rw (plain.dashes, plain.long, plain.short) refl;
    steps = rw (plain.dashes, plain.long, plain.short, is.found, is.itself, is.one) refl;
  }

  alone : (a : Rule) (option_word name : Text) → IsFlag s a option_word name
      → use_fault s.args_override_self a [] (settled_rows s.rules pending rows) ≡ []
      → Steps s (at rows pending idle position) option_word (at (used a [] (settled_rows s.rules pending rows)) None idle position)
  unfolding walked
  alone a option_word name is fits = record {
    passes = rw (is.dashes, is.long, is.here, is.bare, settles, fits) refl;
    steps = rw (is.dashes, is.long, is.here, is.bare) refl;
  }

-- ---- arguments given in turn

-- what is given for an argument: a positional's word, an option with its value, or an option alone
pub data Given : Type 0 where
  in_place : (a : Rule) (word : Text) → Given
  by_name : (a : Rule) (option_word name word : Text) → Given
  alone_by_name : (a : Rule) (option_word name : Text) → Given

abbrev pub words_of : List Given → List Text
words_of [] = []
words_of (in_place a word ∷ rest) = word ∷ words_of rest
words_of (by_name a option_word name word ∷ rest) = option_word ∷ word ∷ words_of rest
words_of (alone_by_name a option_word name ∷ rest) = option_word ∷ words_of rest

-- each is one of the command's, from this position on, and takes what is given for it
abbrev pub AreTaken : Shape → ℕ → List Given → Type 0
AreTaken s position [] = Unit {0}
AreTaken s position (in_place a word ∷ rest) = IsPositional s position a × IsPlain word × Fits s a (word ∷ [])
    × AreTaken s (min (position + 1) usize_max) rest
AreTaken s position (by_name a option_word name word ∷ rest) = IsOption s a option_word name × IsPlain word × Fits s a (word ∷ [])
    × AreTaken s position rest
AreTaken s position (alone_by_name a option_word name ∷ rest) = IsFlag s a option_word name × Fits s a [] × AreTaken s position rest

-- none has a row yet when it is given
abbrev pub are_new : List Row → List Given → Bool
are_new rows [] = true
are_new rows (in_place a word ∷ rest) = not (has_row a.id rows) && are_new (used a (word ∷ []) rows) rest
are_new rows (by_name a option_word name word ∷ rest) = not (has_row a.id rows) && are_new (used a (word ∷ []) rows) rest
are_new rows (alone_by_name a option_word name ∷ rest) = not (has_row a.id rows) && are_new (used a [] rows) rest

-- the rows that they leave
abbrev pub rows_with : List Row → List Given → List Row
rows_with rows [] = rows
rows_with rows (in_place a word ∷ rest) = rows_with (used a (word ∷ []) rows) rest
rows_with rows (by_name a option_word name word ∷ rest) = rows_with (used a (word ∷ []) rows) rest
rows_with rows (alone_by_name a option_word name ∷ rest) = rows_with (used a [] rows) rest

-- the value of an option that is found waits without a fault, and is then used
module _ (s : Shape) (rows : List Row) (a : Rule) (word : Text) (found : arg_by_id s.rules a.id ≡ Some a) where
  waits_well : use_fault s.args_override_self a (word ∷ []) rows ≡ []
      → settle_fault s.rules s.args_override_self (held rows (Some (a.id, word ∷ []))) ≡ []
  waits_well fine = rw found fine

  is_used : settled_rows s.rules (Some (a.id, word ∷ [])) rows ≡ used a (word ∷ []) rows
  is_used = rw found refl

pub parses : (s : Shape) (rows : List Row) (pending : Option (Text × List Text)) (position : ℕ)
    (settles : settle_fault s.rules s.args_override_self (held rows pending) ≡ [])
    (given : List Given) → AreTaken s position given → are_new (settled_rows s.rules pending rows) given ≡ true
    → Parses s (at rows pending idle position) (words_of given) (rows_with (settled_rows s.rules pending rows) given)
unfolding walk_fault
parses s rows pending position settles [] taken new = record {
  end = at rows pending idle position;
  faultless = refl;
  ends = refl;
  settles = settles;
  leaves = refl;
}
parses s rows pending position settles (in_place a word ∷ rest) taken new =
    let before = settled_rows s.rules pending rows in
    let next = min (position + 1) usize_max in
    let is_new = both (not (has_row a.id before)) (are_new (used a (word ∷ []) before) rest) new in
    let same = is_used s before a word taken.0.found in
    let waits = waits_well s before a word taken.0.found (taken.2 before (not-true _ is_new.0)) in
    let on = parses s before (Some (a.id, word ∷ [])) next waits rest taken.3 (subst (λ left. are_new left rest ≡ true) (sym same) is_new.1) in
    then s (at rows pending idle position) (at before (Some (a.id, word ∷ [])) idle next) word (words_of rest)
    (rows_with (used a (word ∷ []) before) rest)
    (placed s rows pending position settles a word taken.0 taken.1)
    (subst (λ left. Parses s (at before (Some (a.id, word ∷ [])) idle next) (words_of rest) (rows_with left rest)) same on)
parses s rows pending position settles (by_name a option_word name word ∷ rest) taken new =
    let before = settled_rows s.rules pending rows in
    let is_new = both (not (has_row a.id before)) (are_new (used a (word ∷ []) before) rest) new in
    let same = is_used s before a word taken.0.found in
    let waits = waits_well s before a word taken.0.found (taken.2 before (not-true _ is_new.0)) in
    let on = parses s before (Some (a.id, word ∷ [])) position waits rest taken.3 (subst (λ left. are_new left rest ≡ true) (sym same) is_new.1) in
    then s (at rows pending idle position) (at before (Some (a.id, [])) (option a.id) position) option_word (word ∷ words_of rest)
    (rows_with (used a (word ∷ []) before) rest)
    (named s rows pending position settles a option_word name taken.0)
    (then s (at before (Some (a.id, [])) (option a.id) position) (at before (Some (a.id, word ∷ [])) idle position) word (words_of rest)
    (rows_with (used a (word ∷ []) before) rest)
    (valued s rows pending position settles a option_word name word taken.0 taken.1)
    (subst (λ left. Parses s (at before (Some (a.id, word ∷ [])) idle position) (words_of rest) (rows_with left rest)) same on))
parses s rows pending position settles (alone_by_name a option_word name ∷ rest) taken new =
    let before = settled_rows s.rules pending rows in
    let is_new = both (not (has_row a.id before)) (are_new (used a [] before) rest) new in
    then s (at rows pending idle position) (at (used a [] before) None idle position) option_word (words_of rest) (rows_with (used a [] before) rest)
    (alone s rows pending position settles a option_word name taken.0 (taken.1 before (not-true _ is_new.0)))
    (parses s (used a [] before) None position refl rest taken.2 is_new.1)

-- ---- a whole command line

-- what clap finds at the end: the rows with defaults
abbrev pub ended : Shape → List Given → List Row
ended s given = fold with_default (rows_with [] given) s.rules

-- clap finds no fault in a command's name and what is given behind it
pub no_fault : (app : App) (name : Text) (given : List Given) → (built app).subs ≡ [] → app.top.no_binary_name ≡ false
    → AreTaken (built app).top 1 given → are_new [] given ≡ true
    → defaults_fault (rows_with [] given) (built app).top.rules ≡ [] → check_fault (built app).top (ended (built app).top given) false ≡ []
    → fault_of app (name ∷ words_of given) ≡ []
no_fault app name given none binary taken new defaults checks =
    let s = (built app).top in
    let words = words_of given in
    let g = parses s [] None 1 refl given taken new in
    ap (λ b. built_fault (built app) nothing_held (cond b (name ∷ words) (drop 1 (name ∷ words)))) binary
    ∙ leaf_fault (built app) nothing_held words none
    ∙ past (walk_fault s [] (walk_from nothing_held) words) _ g.faultless
    ∙ ap (λ (w : Walk). or_else (settle_fault s.rules s.args_override_self w.held)
    (or_else (defaults_fault (settled s.rules w.held).rows s.rules) (check_fault s (finished s.rules w.held) false))) g.ends
    ∙ past (settle_fault s.rules s.args_override_self g.end.held) _ g.settles
    ∙ ap (λ rows. or_else (defaults_fault rows s.rules) (check_fault s (fold with_default rows s.rules) false)) g.leaves
    ∙ past (defaults_fault (rows_with [] given) s.rules) _ defaults ∙ checks

-- and its matches are these rows
pub matches_are : (app : App) (name : Text) (given : List Given) → (built app).subs ≡ [] → app.top.no_binary_name ≡ false
    → AreTaken (built app).top 1 given → are_new [] given ≡ true
    → matches_of app (name ∷ words_of given) ≡ ended (built app).top given
matches_are app name given none binary taken new =
    let s = (built app).top in
    let words = words_of given in
    let g = parses s [] None 1 refl given taken new in
    ap (λ b. rows_after s.rules (names_of (built app)) (cond b (name ∷ words) (drop 1 (name ∷ words)))) binary
    ∙ ap (λ subs. rows_after s.rules (map label_of subs) words) none
    ∙ ap (λ (w : Walk). finished s.rules w.held) g.ends ∙ ap (λ rows. fold with_default rows s.rules) g.leaves
