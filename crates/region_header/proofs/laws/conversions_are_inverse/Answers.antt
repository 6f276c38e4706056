use Rattle.std.proofs.Common.{sym}
use Rattle.region_header.proofs.WordBytes.{words_of_bytes, byte_anywhere, bytes_of_words-image_of_bytes, AreWordsOf-unique}
use Rattle.region_header.proofs.laws.conversions_are_inverse.Goals as goal

pub returns-clause-written : goal.returns-clause-written
returns-clause-written c words small = words_of_bytes words (λ k below. small k 0 below)

pub returns-clause-unique : goal.returns-clause-unique
returns-clause-unique c = AreWordsOf-unique

pub returns-clause-read : goal.returns-clause-read
returns-clause-read c bytes words small these =
    bytes_of_words-image_of_bytes words bytes (byte_anywhere bytes (λ k below. small k 0 below)) (sym these.count) (λ i below. these.word i)
