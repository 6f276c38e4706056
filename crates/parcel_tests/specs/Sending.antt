-- What threads that send letters begin and end with.
use Rattle.std.specs.Prelude.{◌≡◌, []}
use Rattle.parcel_queue.specs.Account.{PassView, QueueView, unused}

-- a pass of this queue with one part, as it was made
pub record IsFreshPassOf {T : Type 0} (line : QueueView) (pass : PassView T) : Type 0 where
  pub queue : pass.queue ≡ line.queue
  pub account : pass.account ≡ unused 1

-- a pass of this queue with one part
pub record IsPassOf {T : Type 0} (line : QueueView) (pass : PassView T) : Type 0 where
  pub queue : pass.queue ≡ line.queue
  pub part : pass.account.parts ≡ 1

-- one that took nothing
pub record IsSenderOf {T : Type 0} (line : QueueView) (pass : PassView T) : Type 0 where
  pub queue : pass.queue ≡ line.queue
  pub part : pass.account.parts ≡ 1
  pub none : pass.account.taken ≡ []
