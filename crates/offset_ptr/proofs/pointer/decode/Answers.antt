use Rattle.std.proofs.Common.{arith}
use Rattle.offset_ptr.proofs.pointer.decode.Goals as goal

-- a tagged word points to its offset, so it isn't alien
pub returns-in-Some-clause-alien : goal.returns-in-Some-clause-alien
returns-in-Some-clause-alien c alien =
    absurd (alien.nowhere c.in-Some.offset (record {
      tagged = omega (arith, c.in-Some.ensures);
      short = omega (arith, c.if-offset-lt-OFFSET_LIMIT.true);
    }))
