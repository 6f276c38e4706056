use Rattle.image_run.proofs.SettledLemmas.{none_settled}
use Rattle.image_run.proofs.laws.a_stopped_rebuild_settles_words_by_chance_alone.Goals as goal

pub returns : goal.returns
returns g c even = none_settled g.C.Chance.draw_gives even
