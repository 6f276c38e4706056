use Rattle.std.proofs.Common.{arith, refl, ◌+◌, ◌-◌, length}
use Rattle.tool_ports.proofs.SourceLeftLemmas.{gives_after, few_after, same_fault}
use Rattle.tool_ports.proofs.reading.read_pieces.Goals as goal

pub returns-in_err-read_piece-clause-too_long : goal.returns-in_err-read_piece-clause-too_long
returns-in_err-read_piece-clause-too_long g c too_long =
    gives_after c.loop-bytes.bytes.items (c.args.most + 1) (c.args.most + 1 - length c.loop-bytes.bytes.items) _ _ _
    (omega (arith, c.loop-bytes.invariant.short)) refl c.loop-bytes.invariant.read
    (c.in_err-read_piece.ensures.too_long (same_fault c.from_residual.result c.in_err-read_piece.field-0.0 _ c.from_residual.ensures.1 too_long))

pub returns-in_err-read_piece-clause-at_most : goal.returns-in_err-read_piece-clause-at_most
returns-in_err-read_piece-clause-at_most g c =
    few_after c.loop-bytes.bytes.items (c.args.most + 1) _ _ _ (omega (arith, c.loop-bytes.invariant.short)) c.loop-bytes.invariant.read
    c.in_err-read_piece.ensures.at_most
