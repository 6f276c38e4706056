use Rattle.std.proofs.Common.{◌≡◌, ◌*◌, inl, inr}
use Rattle.dict_requests.proofs.walk.block_of.Goals as goal

pub returns-in_default : goal.returns-in_default
returns-in_default g c = record {
  some = tt;
  none = elim c.requires as (λ _. c.args.word ≡ 0) [
    | inl null ↦ null
    | inr b ↦ absurd (c.in_default.not-At (8 * b.0.first_word) (c.decode.ensures.at (8 * b.0.first_word) b.1.1))
  ];
}
