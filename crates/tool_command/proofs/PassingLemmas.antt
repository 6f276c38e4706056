-- What is given for an argument passes its parser: the rows that it has, and one use of it.
use Rattle.std.proofs.Common.{◌≡◌, ◌∙◌, ℕ, Bool, true, false, cond, List, [], ◌∷◌, ◌++◌, Option, Some, refl, sym, ap, subst, length, min, ◌+◌}
use Rattle.std.specs.Prelude.{slice_get, unwrap_or}
use Rattle.std.specs.List.{find}
use Rattle.std.specs.Str.{bytes_eq}
use Rattle.clap.specs.Values.{refused_kind}
use Rattle.clap.specs.ValueTests.{accepts}
use Rattle.clap.specs.Facts.{parser_of_value, unwrap_or_range}
use Rattle.clap.specs.Kinds.{Kinds, or_else, range_kinds, value_kinds}
use Rattle.clap.specs.Walk.{Text, Rule, Row, action_of, count_of, most_values, reading_by}
use Rattle.clap.specs.Walk.{values_or_missing, used, used_as, counted, at_row, without, more_values, with_values, new_count, with_count}
use Rattle.clap.specs.Faults.{action_fault, repeat_fault, values_fault, use_fault}
use Rattle.clap.specs.declared.builder.action.ArgAction.{ArgAction}
use Rattle.clap.specs.declared.builder.action.ArgAction.TheVariants.{Set, Append, SetTrue, SetFalse, Count, Help, HelpShort, HelpLong, Version}
use Rattle.clap.specs.declared.builder.value_parser.ValueParser.{ValueParser}
use Rattle.clap.specs.declared.builder.value_parser.Reading.{Reading}
use Rattle.clap.specs.declared.error.kind.ErrorKind.TheVariants as kind
use Rattle.clap.specs.declared.parser.matches.ValueSource.{ValueSource}
use Rattle.clap.specs.declared.parser.matches.ValueSource.TheVariants.{CommandLine}

-- of two steps without a fault neither has one
pub both_faultless : (a b : Kinds) → or_else a b ≡ [] → (a ≡ []) × (b ≡ [])
both_faultless [] b none = (refl, none)
both_faultless (k ∷ ks) b none = cc

-- a value without a fault passes
value_passes : (ignore_case : Bool) (parser : ValueParser) (text : Text) → value_kinds ignore_case parser text ≡ []
    → accepts ignore_case parser text ≡ true
value_passes ignore_case parser text none = go (accepts ignore_case parser text) none
  where
    go : (b : Bool) → cond b [] (refused_kind parser ∷ []) ≡ [] → b ≡ true
    go true none = refl
    go false none = cc

-- ---- rows

-- the first of these values is read as the argument's parser says, and passes it
abbrev pub Passes : Rule → List Text → Reading → Type 0
Passes a values how = (text : Text) × (slice_get values 0 ≡ Some text) × (how ≡ reading_by a)
    × (accepts a.ignore_case (parser_of_value a.parser) text ≡ true)

-- and so does what stands in each row of the argument
abbrev pub AllPass : Rule → List Row → Type 0
AllPass a [] = Unit {0}
AllPass a (r ∷ rs) = (bytes_eq r.id a.id ≡ true → Passes a r.values r.reading) × AllPass a rs

append_passes : (a : Rule) (xs ys : List Row) → AllPass a xs → AllPass a ys → AllPass a (xs ++ ys)
append_passes a [] ys first second = second
append_passes a (x ∷ xs) ys first second = (first.0, append_passes a xs ys first.1 second)

at_row_passes : (a : Rule) (id : Text) (change : Row → List Row) (missing rows : List Row)
    → ((r : Row) → (bytes_eq r.id a.id ≡ true → Passes a r.values r.reading) → AllPass a (change r))
    → AllPass a missing → AllPass a rows → AllPass a (at_row id change missing rows)
at_row_passes a id change missing [] changed new pass = new
at_row_passes a id change missing (r ∷ rs) changed new pass =
    go (bytes_eq r.id id) (append_passes a (change r) rs (changed r pass.0) pass.1) (at_row_passes a id change missing rs changed new pass.1)
  where
    go : (b : Bool) → AllPass a (change r ++ rs) → AllPass a (at_row id change missing rs)
        → AllPass a (cond b (change r ++ rs) (r ∷ at_row id change missing rs))
    go true here later = here
    go false here later = (pass.0, later)

first_stays : (values more : List Text) (text : Text) → slice_get values 0 ≡ Some text → slice_get (values ++ more) 0 ≡ Some text
first_stays [] more text first = cc
first_stays (v ∷ vs) more text first = first

pub with_values_passes : (a : Rule) (id : Text) (how : Reading) (source : ValueSource) (values : List Text) (rows : List Row)
    → (bytes_eq id a.id ≡ true → Passes a values how)
    → AllPass a rows → AllPass a (with_values id how source values rows)
with_values_passes a id how source values rows new pass =
    at_row_passes a id (more_values source values) _ rows
    (λ r old. (λ e. let p = old e in (p.0, first_stays r.values values p.0 p.1, p.2, p.3), tt)) (new, tt) pass

with_count_passes : (a : Rule) (id : Text) (how : Reading) (source : ValueSource) (n : ℕ) (rows : List Row) → (bytes_eq id a.id ≡ true → ⊥)
    → AllPass a rows → AllPass a (with_count id how source n rows)
with_count_passes a id how source n rows other pass =
    at_row_passes a id (new_count source n) _ rows
    (λ r old. (λ e. let p = old e in (p.0, first_stays r.values _ p.0 p.1, p.2, p.3), tt)) (λ e. absurd (other e), tt) pass

without_passes : (a : Rule) (id : Text) (rows : List Row) → AllPass a rows → AllPass a (without id rows)
without_passes a id rows pass = at_row_passes a id (λ _. []) [] rows (λ r old. tt) tt pass

-- ---- one use of an argument

counted_passes : (a : Rule) (id : Text) (how : Reading) (values : List Text) (rows : List Row) → (bytes_eq id a.id ≡ true → ⊥)
    → AllPass a rows → AllPass a (counted id how values rows)
counted_passes a id how [] rows other pass = with_count_passes a id how CommandLine (min (count_of id rows + 1) 255) (without id rows) other
    (without_passes a id rows pass)
counted_passes a id how (v ∷ vs) rows other pass = with_values_passes a id how CommandLine (v ∷ vs) (without id rows) (λ e. absurd (other e))
    (without_passes a id rows pass)

used_as_passes : (a : Rule) (action : ArgAction) (id : Text) (how : Reading) (values : List Text) (rows : List Row)
    → (bytes_eq id a.id ≡ true → (action ≡ Set) × Passes a values how) → AllPass a rows → AllPass a (used_as action id how values rows)
used_as_passes a Set id how values rows new pass = with_values_passes a id how CommandLine values (without id rows) (λ e. (new e).1)
    (without_passes a id rows pass)
used_as_passes a SetTrue id how values rows new pass = with_values_passes a id how CommandLine values (without id rows) (λ e. (new e).1)
    (without_passes a id rows pass)
used_as_passes a SetFalse id how values rows new pass = with_values_passes a id how CommandLine values (without id rows) (λ e. (new e).1)
    (without_passes a id rows pass)
used_as_passes a Append id how values rows new pass = with_values_passes a id how CommandLine values rows (λ e. (new e).1) pass
used_as_passes a Count id how values rows new pass = counted_passes a id how values rows (λ e. let bad : Count ≡ Set = (new e).0 in cc) pass
used_as_passes a Help id how values rows new pass = pass
used_as_passes a HelpShort id how values rows new pass = pass
used_as_passes a HelpLong id how values rows new pass = pass
used_as_passes a Version id how values rows new pass = pass

-- an argument for one value at a time, which nothing stands for where it is not given
pub record IsValued (a : Rule) : Type 0 where
  pub set : action_of a ≡ Set
  pub least : (unwrap_or_range a.range).start_inclusive ≡ 1
  pub no_default : a.defaults ≡ []

module _ (a : Rule) (again : Bool) (values : List Text) (rows : List Row) (none : use_fault again a values rows ≡ []) where
  abbrev counts : Kinds
  counts = range_kinds (unwrap_or_range a.range).start_inclusive (most_values a) (length values)

  abbrev acts : Kinds
  acts = action_fault (action_of a) again a (values_or_missing a values) rows

  range_faultless : range_kinds (unwrap_or_range a.range).start_inclusive (most_values a) (length values) ≡ []
  range_faultless = (both_faultless counts acts none).0

  action_faultless : action_fault (action_of a) again a (values_or_missing a values) rows ≡ []
  action_faultless = (both_faultless counts acts none).1

own_use_passes : (a : Rule) (again : Bool) (values : List Text) (rows : List Row) → IsValued a → use_fault again a values rows ≡ []
    → Passes a (values_or_missing a values) (reading_by a)
own_use_passes a again [] rows is none =
    let bad : kind.InvalidValue ∷ [] ≡ [] = rw is.least at (range_faultless a again [] rows none) in
    cc
own_use_passes a again (v ∷ vs) rows is none =
    let action : action_fault Set again a (v ∷ vs) rows ≡ [] = subst (λ x. action_fault x again a (v ∷ vs) rows ≡ []) is.set
    (action_faultless a again (v ∷ vs) rows none) in
    let values : values_fault a (v ∷ vs) ≡ [] = (both_faultless (repeat_fault again a.id rows) (values_fault a (v ∷ vs)) action).1 in
    let first : value_kinds a.ignore_case (parser_of_value a.parser) v ≡ [] =
    (both_faultless (value_kinds a.ignore_case (parser_of_value a.parser) v) (values_fault a vs) values).0 in
    (v, refl, refl, value_passes a.ignore_case (parser_of_value a.parser) v first)

-- where b has the name of a, it is a
abbrev pub IsAlone : Rule → Rule → Type 0
IsAlone a b = bytes_eq b.id a.id ≡ true → b ≡ a

-- no other argument has its name
abbrev pub AllAlone : Rule → List Rule → Type 0
AllAlone a [] = Unit {0}
AllAlone a (b ∷ rest) = IsAlone a b × AllAlone a rest

abbrev pub IsAloneIfSome : Rule → Option Rule → Type 0
IsAloneIfSome a o = (b : Rule) → o ≡ Some b → IsAlone a b

pub found_alone : (a : Rule) (p : Rule → Bool) (c : List Rule) → AllAlone a c → IsAloneIfSome a (find p c)
found_alone a p [] alone b found = cc
found_alone a p (x ∷ xs) alone b found = go (p x) found (found_alone a p xs alone.1 b)
  where
    go : (t : Bool) → cond t (Some x) (find p xs) ≡ Some b → (find p xs ≡ Some b → IsAlone a b) → IsAlone a b
    go true e later = subst (IsAlone a) (ap (λ o. unwrap_or o x) e) alone.0
    go false e later = later e

pub use_passes : (a : Rule) (again : Bool) (b : Rule) (values : List Text) (rows : List Row) → IsValued a → IsAlone a b
    → use_fault again b values rows ≡ [] → AllPass a rows → AllPass a (used b values rows)
use_passes a again b values rows is alone none pass = used_as_passes a (action_of b) b.id (reading_by b) (values_or_missing b values) rows new pass
  where
    new : bytes_eq b.id a.id ≡ true → (action_of b ≡ Set) × Passes a (values_or_missing b values) (reading_by b)
    new same =
        let one : b ≡ a = alone same in
        let own = own_use_passes a again values rows is (subst (λ (y : Rule). use_fault again y values rows ≡ []) one none) in
        (ap action_of one ∙ is.set, subst (λ (y : Rule). Passes a (values_or_missing y values) (reading_by y)) (sym one) own)
