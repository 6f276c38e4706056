use Rattle.std.proofs.Common.{nat_eq, ap, w64}
use Rattle.std.proofs.lemmas.Nat.Bits.{bit_at-trailing_zeros}
use Rattle.bit_marks.proofs.marks.lowest_bit.Goals as goal

pub returns-clause-below : goal.returns-clause-below
returns-clause-below c = (bit_at-trailing_zeros w64 c.args.word c.requires c.ranges.word.fits).0

pub returns-clause-one : goal.returns-clause-one
returns-clause-one c = ap (λ b. nat_eq b 1) (bit_at-trailing_zeros w64 c.args.word c.requires c.ranges.word.fits).1

pub returns-clause-lowest : goal.returns-clause-lowest
returns-clause-lowest c = λ bit lower. ap (λ b. nat_eq b 1) ((bit_at-trailing_zeros w64 c.args.word c.requires c.ranges.word.fits).2 bit lower)
