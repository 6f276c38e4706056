-- What a seat of the table stands for.
use Rattle.std.specs.Prelude.{◌≡◌, List, [], ◌∷◌, ◌++◌, get_or}
use Rattle.heap_model.specs.declared.block.Block.{Block}
use Rattle.core_model.specs.Carriers.{carrier_of, offered}
use Rattle.core_model.specs.View.{View}
use Rattle.core_model.specs.Opening.{setup_of, plain_view}

-- the views of the seats that it stands for: one, where it is a single seat; none, where it was joined in another
abbrev pub SeatViews : Type 0
SeatViews = List View

-- the views of all seats, in their order
abbrev pub all_views : List SeatViews → List View
all_views [] = []
all_views (group ∷ groups) = group ++ all_views groups

-- it stands for a single seat, with this view
abbrev pub IsSingle : SeatViews → View → Type 0
IsSingle group v = group ≡ v ∷ []

-- the view of a seat that has nothing, of a heap without words
abbrev pub nobody : View
nobody = plain_view (setup_of [] 0 0) [] []

-- the view of a single seat
abbrev pub view_in : SeatViews → View
view_in group = get_or group 0 nobody

-- what goes to a new seat of the table
abbrev pub first_view : SeatViews → SeatViews
first_view [] = []
first_view (v ∷ group) = v ∷ []

-- what stays
abbrev pub other_views : SeatViews → SeatViews
other_views [] = []
other_views (v ∷ group) = group

-- the views of another seat of the table come before its own
abbrev pub joined_views : SeatViews → SeatViews → SeatViews
joined_views mine theirs = theirs ++ mine

-- a block without words
abbrev pub no_block : Block
no_block = record { first_word = 0; words = 0 }

-- the seat once it offered the block
abbrev pub left_by_offer : Block → SeatViews → SeatViews
left_by_offer b group = offered (view_in group) b.first_word ∷ []

-- the carrier of that block
abbrev pub made_by_offer : Block → SeatViews → SeatViews
made_by_offer b group = carrier_of (view_in group) b.first_word ∷ []
