use Rattle.std.proofs.Common.{◌≢◌, arith, sym, subst, ◌∙◌}
use Rattle.std.proofs.lemmas.Bool.{eqb-true, eqb-false}
use Rattle.std.proofs.lemmas.List.{nil_from_length}
use Rattle.heap_recover.specs.declared.roles.Role.TheVariants.{Free, Full}
use Rattle.heap_recover.specs.Roles.{RoleOfParts, none_held, none_spare, some_of_both}
use Rattle.heap_recover.proofs.surveys.survey_parts.Goals as goal

pub returns-then-is_empty-clause-role : goal.returns-then-is_empty-clause-role
returns-then-is_empty-clause-role c =
    let held = c.args.parts.held in
    let empty = nil_from_length held.items (sym held.ok.0 ∙ eqb-true held.len 0 (sym c.if-is_empty.ensures)) in
    subst (λ r. RoleOfParts c.args.class held.items c.args.parts.spares.items r c.without_blocks.result.spares.items)
    (sym c.without_blocks.ensures.role)
    (subst (λ xs. RoleOfParts c.args.class held.items c.args.parts.spares.items Free xs) (sym c.without_blocks.ensures.spares) (none_held empty))

pub returns-then-is_empty-2-clause-role : goal.returns-then-is_empty-2-clause-role
returns-then-is_empty-2-clause-role c =
    let held = c.args.parts.held in
    let spares = c.args.parts.spares in
    let some : held.len ≢ 0 = eqb-false held.len 0 (sym c.if-is_empty.ensures) in
    let empty = nil_from_length spares.items (sym spares.ok.0 ∙ eqb-true spares.len 0 (sym c.if-is_empty-2.ensures)) in
    subst (λ xs. RoleOfParts c.args.class held.items spares.items (Full c.args.class) xs) (sym c.new.ensures.items)
    (none_spare (let long = held.ok.0 in omega arith) empty)

pub returns-clause-role : goal.returns-clause-role
returns-clause-role c =
    let held = c.args.parts.held in
    let spares = c.args.parts.spares in
    let some_held : held.len ≢ 0 = eqb-false held.len 0 (sym c.if-is_empty.ensures) in
    let some_spare : spares.len ≢ 0 = eqb-false spares.len 0 (sym c.if-is_empty-2.ensures) in
    some_of_both (let long = held.ok.0 in omega arith) (let long = spares.ok.0 in omega arith)
