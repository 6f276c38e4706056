use Rattle.std.proofs.Common.{◌∙◌, length-set}
use Rattle.crash_image.proofs.CrashLemmas.{all_drawn, crash_left}
use Rattle.crash_image.proofs.crash.crash_image.Goals as goal

pub scramble_descriptors-requires : goal.scramble_descriptors-requires
scramble_descriptors-requires g c =
    (c.scramble_heads.ensures.left c.args.geometry.capacity).long ∙ length-set c.args.words.items 3 2 ∙ c.requires.long

pub returns-clause-long : goal.returns-clause-long
returns-clause-long g c =
    c.scramble_descriptors.ensures.left.long ∙ (c.scramble_heads.ensures.left c.args.geometry.capacity).long ∙ length-set c.args.words.items 3 2

pub returns-clause-image : goal.returns-clause-image
returns-clause-image g c =
    crash_left c.args.geometry.capacity c.args.words.items c.scramble_heads.new.image.items c.scramble_descriptors.new.image.items
    c.requires.long c.requires.layout
    (c.scramble_heads.ensures.left c.args.geometry.capacity) c.scramble_descriptors.ensures.left

pub returns-clause-drawn : goal.returns-clause-drawn
returns-clause-drawn g c =
    all_drawn g.C.Chance.draw_gives c.args.scramble.now c.scramble_heads.new.scramble c.scramble_descriptors.new.scramble
    c.scramble_heads.new.image.items c.scramble_descriptors.new.image.items c.args.geometry.capacity
    c.scramble_descriptors.ensures.heads c.scramble_heads.ensures.drawn c.scramble_descriptors.ensures.drawn
