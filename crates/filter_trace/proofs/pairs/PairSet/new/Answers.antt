use Rattle.std.proofs.Common.{◌≡◌, ℕ, ◌*◌, ◌<◌, Bool, List, false, length, replicate, get_or, ap, ◌∙◌, arith}
use Rattle.std.proofs.lemmas.List.{get_or-replicate, length-replicate}
use Rattle.std.proofs.lemmas.Nat.{mul-lt}
use Rattle.filter_trace.proofs.pairs.PairSet.new.Goals as goal

as_many : (marks : List Bool) (n : ℕ) → marks ≡ replicate n false → length marks ≡ n
as_many marks n are = ap (λ (l : List Bool). length l) are ∙ length-replicate n false

pub returns-clause-room : goal.returns-clause-room
returns-clause-room c =
    let long = as_many c.in_ok-new.field-0 (c.args.words * c.args.kinds) c.in_ok-new.ensures in
    let few : c.args.words * c.args.kinds < 2147483648 * 4294967296 =
    mul-lt c.args.words c.args.kinds 2147483648 4294967296 (omega arith) (omega arith) in
    record { long = omega arith; short = omega arith }

pub returns-clause-clear : goal.returns-clause-clear
returns-clause-clear c = λ k d below.
    let long = as_many c.in_ok-new.field-0 (c.args.words * c.args.kinds) c.in_ok-new.ensures in
    ap (λ (l : List Bool). get_or l k d) c.in_ok-new.ensures ∙ get_or-replicate (c.args.words * c.args.kinds) k false d (omega arith)
