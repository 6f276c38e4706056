-- A map of images in memory, read by names.
use Rattle.std.specs.Prelude.{ℕ, List, Option, String, Vec}
use Rattle.std.specs.Option.{option_map}
use Rattle.std.specs.BTreeMap.{BTreeMap, get_by_text}
use Rattle.std.specs.declared.alloc.Global.{Global}

-- the bytes under a name
abbrev pub images_in : BTreeMap (String Global) (Vec ℕ Global) → List ℕ → Option (List ℕ)
images_in images name = option_map (λ image. image.items) (get_by_text images name)
