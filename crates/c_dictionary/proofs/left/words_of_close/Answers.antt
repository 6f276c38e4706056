use Rattle.std.proofs.Common.{ap, ◌∙◌}
use Rattle.line_memory.specs.ClosedWords.{volatile_words}
use Rattle.c_dictionary.proofs.ImageLemmas.{close_image, close_length, now_whole}
use Rattle.c_dictionary.proofs.left.words_of_close.Goals as goal

pub closed_image-requires : goal.closed_image-requires
closed_image-requires c = now_whole c.args.store c.requires c.now.inside.now.items (ap volatile_words c.now.view_is ∙ c.finish.ensures.volatile)

pub returns-clause-image : goal.returns-clause-image
returns-clause-image c = close_image c.args.store c.requires c.now.inside.now.items c.closed_image.result.items
    (ap volatile_words c.now.view_is ∙ c.finish.ensures.volatile) c.closed_image.ensures.image c.closed_image.ensures.long c.finish.ensures.used

pub returns-clause-long : goal.returns-clause-long
returns-clause-long c = close_length c.args.store c.requires c.now.inside.now.items c.closed_image.result.items
    (ap volatile_words c.now.view_is ∙ c.finish.ensures.volatile) c.closed_image.ensures.image c.closed_image.ensures.long

pub returns-clause-clean : goal.returns-clause-clean
returns-clause-clean c = c.closed_image.ensures.image.state
