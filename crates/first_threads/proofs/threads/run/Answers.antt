use Rattle.std.proofs.Common.{inl, inr}
use Rattle.first_threads.proofs.threads.run.Goals as goal

pub returns-clause-apart : goal.returns-clause-apart
returns-clause-apart g c = λ a b of_one of_other. c.in_ok-image.ensures.apart a b (c.join-one.ensures.first.held a of_one)
    (c.join-one.ensures.second.held b of_other)

pub returns-clause-named : goal.returns-clause-named
returns-clause-named g c = λ b tells.
    c.in_ok-image.ensures.named b
    (elim tells [
      | inl of_one ↦ inl (c.join-one.ensures.first.held b of_one)
      | inr of_other ↦ inr (c.join-one.ensures.second.held b of_other)
    ])
