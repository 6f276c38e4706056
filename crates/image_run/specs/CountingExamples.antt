-- Worked examples by computation: the lines on an image of one superblock, by its anchors and recovered.
use Rattle.std.specs.Prelude.{◌≡◌, false, [], ◌++◌, ◌∷◌, codes, refl}
use Rattle.std.specs.Fmt.{digits}
use Rattle.heap_model.specs.Examples.{formatted}
use Rattle.quick_recover.specs.declared.open.Path.TheVariants.{Quick as ByAnchors, Traced}
use Rattle.trace_text.specs.Report.{line_feed, classes}
use Rattle.image_run.specs.Reporting.{shown_text}
use Rattle.image_run.specs.Counting.{way_line}

quick_line : way_line ByAnchors ≡ codes "quick" ++ line_feed
quick_line = refl

-- an empty image, closed
empty_by_anchors : way_line ByAnchors ++ shown_text (formatted 1 []) false [] [] []
    (formatted 1 []) ≡ codes "quick" ++ line_feed ++ codes "heap 1 clean" ++ line_feed
unfolding digits classes
empty_by_anchors = refl

-- the same with a free list that leads to a superblock that has not been taken
empty_traced : way_line Traced ++ shown_text (formatted 1 ((16, 1) ∷ [])) false [] [] []
    (formatted 1 []) ≡ codes "traced" ++ line_feed ++ codes "heap 1 clean" ++ line_feed
unfolding digits classes
empty_traced = refl
