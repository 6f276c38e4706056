-- What clap is told of an argument, step by step, and of a command that it is added to.
use Rattle.std.proofs.Common.{◌≡◌, ◌∙◌, true, false, Option, Some, Result, Ok, Err, IfOk, ap}
use Rattle.std.specs.Prelude.{IsOkAnd}
use Rattle.std.specs.declared.alloc.AllocError.{AllocError}
use Rattle.clap.specs.Walk.{Rule}
use Rattle.clap.specs.Words.{App, AddsArg, app_of, rule_of, with_rule}
use Rattle.clap.specs.declared.builder.action.ArgAction.{ArgAction}
use Rattle.clap.specs.declared.builder.arg.Arg.{Arg}
use Rattle.clap.specs.declared.builder.command.Command.{Command}
use Rattle.clap.specs.declared.builder.value_parser.ValueParser.{ValueParser}

-- the rule of an argument that is its command's own
pub record IsTold (argument : Arg) (rule : Rule) : Type 0 where
  pub own : argument.global ≡ false
  pub is : rule_of argument ≡ rule

module _ (before after : Arg) (rule : Rule) (told : IsTold before rule) where
  -- it has to be there
  pub needed : after ≡ record before { required = true } → IsTold after (record rule { required = true })
  needed same = record {
    own = ap (λ (a : Arg). a.global) same ∙ told.own;
    is = ap rule_of same ∙ ap (λ (r : Rule). record r { required = true }) told.is;
  }

  -- it is an option of this name
  pub named : (name : _) → after ≡ record before { long = Some name } → IsTold after (record rule { long = Some name.now })
  named name same = record {
    own = ap (λ (a : Arg). a.global) same ∙ told.own;
    is = ap rule_of same ∙ ap (λ (r : Rule). record r { long = Some name.now }) told.is;
  }

  -- it does this
  pub acting : (action : ArgAction) → after ≡ record before { action = Some action } → IsTold after (record rule { action = Some action })
  acting action same = record {
    own = ap (λ (a : Arg). a.global) same ∙ told.own;
    is = ap rule_of same ∙ ap (λ (r : Rule). record r { action = Some action }) told.is;
  }

  -- its values are read so
  pub parsed : (parser : ValueParser) → after ≡ record before { value_parser = after.value_parser } → after.value_parser ≡ Some parser
      → IsTold after (record rule { parser = Some parser })
  parsed parser same is = record {
    own = ap (λ (a : Arg). a.global) same ∙ told.own;
    is = ap rule_of same ∙ ap (λ (p : Option ValueParser). record (rule_of before) { parser = p }) is
        ∙ ap (λ (r : Rule). record r { parser = Some parser }) told.is;
  }

-- a command that it is added to has its rule behind those that it had
pub rule_added : (before : Command) (built : Result Command AllocError) (argument : Arg) (rule : Rule) (result : Result Command AllocError)
    → built ≡ Ok before → IfOk result (λ after. AddsArg before argument after)
    → IsTold argument rule → IfOk result (λ after. IsOkAnd built (λ shorter. app_of after ≡ with_rule (app_of shorter) rule))
rule_added before built argument rule (Ok after) is adds told =
    rw is (adds.shape told.own ∙ ap (with_rule (app_of before)) told.is)
rule_added before built argument rule (Err e) is adds told = tt

-- a command that is made of one that is told as this is told as that with the change
pub told_with : (change : App → App) (wanted : App) (built result : Result Command AllocError) → IfOk built (λ shorter. app_of shorter ≡ wanted)
    → IfOk result (λ longer. IsOkAnd built (λ shorter. app_of longer ≡ change (app_of shorter))) → IfOk result (λ longer. app_of longer ≡ change wanted)
told_with change wanted (Ok shorter) (Ok longer) told made = made ∙ ap change told
told_with change wanted (Err e) (Ok longer) told made = absurd made
told_with change wanted built (Err e) told made = tt

-- and two changes, one after the other, are one
pub told_twice : (first second : App → App) (built between result : Result Command AllocError)
    → IfOk between (λ longer. IsOkAnd built (λ shorter. app_of longer ≡ first (app_of shorter)))
    → IfOk result (λ longer. IsOkAnd between (λ shorter. app_of longer ≡ second (app_of shorter)))
    → IfOk result (λ longer. IsOkAnd built (λ shorter. app_of longer ≡ second (first (app_of shorter))))
told_twice first second (Ok shorter) (Ok between) (Ok longer) once twice = twice ∙ ap second once
told_twice first second (Err e) (Ok between) (Ok longer) once twice = absurd once
told_twice first second built (Err e) (Ok longer) once twice = absurd twice
told_twice first second built between (Err e) once twice = tt
