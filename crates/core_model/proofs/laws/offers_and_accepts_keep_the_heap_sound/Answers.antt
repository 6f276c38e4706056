use Rattle.core_model.proofs.HandingLemmas.{accepts_counted, accepts_sound, offers_counted, offers_sound}
use Rattle.core_model.proofs.laws.offers_and_accepts_keep_the_heap_sound.Goals as goal

pub returns-clause-offer : goal.returns-clause-offer
returns-clause-offer c = offers_sound

pub returns-clause-accept : goal.returns-clause-accept
returns-clause-accept c = accepts_sound

pub returns-clause-offer_counts : goal.returns-clause-offer_counts
returns-clause-offer_counts c = offers_counted

pub returns-clause-accept_counts : goal.returns-clause-accept_counts
returns-clause-accept_counts c = accepts_counted
