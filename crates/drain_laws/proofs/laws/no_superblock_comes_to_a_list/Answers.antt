use Rattle.std.proofs.Common.{[], ◌∷◌, refl}
use Rattle.drain_laws.proofs.CameLemmas.{came_event, reached_came}
use Rattle.drain_laws.proofs.laws.no_superblock_comes_to_a_list.Goals as goal

pub returns-clause-event : goal.returns-clause-event
returns-clause-event c k start m v event good may same came = came_event k start m v event good may same came

pub returns-clause-row : goal.returns-clause-row
returns-clause-row c k start v w words sound counted only idle reached none same =
    (reached_came k start v sound counted only idle words (w ∷ []) reached w refl none same).listed
