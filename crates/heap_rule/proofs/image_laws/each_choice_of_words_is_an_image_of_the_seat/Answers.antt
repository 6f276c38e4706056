use Rattle.heap_rule.proofs.SeatImageLemmas.{picked_image}
use Rattle.heap_rule.proofs.image_laws.each_choice_of_words_is_an_image_of_the_seat.Goals as goal

pub returns : goal.returns
returns c v pick has = picked_image v has pick
