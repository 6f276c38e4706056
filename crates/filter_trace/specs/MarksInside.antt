-- What every `Marks` keeps.
use Rattle.filter_trace.specs.declared.marks.Marks.TheInside.{Inside}
use Rattle.filter_trace.specs.Steps.{AreOfImage}

-- there is an image whose blocks the directory has, and which are marked
abbrev pub HasImage : Inside → Type 0
HasImage m = AreOfImage m.directory m.found
