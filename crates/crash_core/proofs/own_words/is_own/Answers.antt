use Rattle.core_model.specs.Cells.{data_cell}
use Rattle.seat_state.proofs.WordLemmas.{entry_there}
use Rattle.crash_core.proofs.OwnDecision.{own_is, own_shared, own_root, own_info, own_anchor, own_link}
use Rattle.crash_core.proofs.StandingLemmas.{seat_is}
use Rattle.crash_core.proofs.own_words.is_own.Goals as goal

pub returns-in-Shared : goal.returns-in-Shared
returns-in-Shared c = λ k views v keeps below at. own_shared c.args.core.now k views c.args.seat v
    (entry_there c.args.core.now.seats.items c.args.seat c.requires.seat).0 keeps below at
    (seat_is c.requires.seat (entry_there c.args.core.now.seats.items c.args.seat c.requires.seat).1) c.args.word c.in-Shared.ensures

pub returns-in-Root : goal.returns-in-Root
returns-in-Root c = λ k views v keeps below at. own_root c.args.core.now k views c.args.seat v
    (entry_there c.args.core.now.seats.items c.args.seat c.requires.seat).0 keeps below at
    (seat_is c.requires.seat (entry_there c.args.core.now.seats.items c.args.seat c.requires.seat).1)
    c.args.word c.in-Root.i c.index.result.now c.in-Root.ensures c.index.ensures

pub returns-in-Info : goal.returns-in-Info
returns-in-Info c = λ k views v keeps below at. own_info c.args.core.now k views c.args.seat v
    (entry_there c.args.core.now.seats.items c.args.seat c.requires.seat).0 keeps below at
    (seat_is c.requires.seat (entry_there c.args.core.now.seats.items c.args.seat c.requires.seat).1)
    c.args.word c.in-Info.d c.usage.result c.is_unclassed.result c.in-Info.ensures.0 c.usage.ensures c.is_unclassed.ensures

pub returns-in-Anchor : goal.returns-in-Anchor
returns-in-Anchor c = λ k views v keeps below at. own_anchor c.args.core.now k views c.args.seat v
    (entry_there c.args.core.now.seats.items c.args.seat c.requires.seat).0 keeps below at
    (seat_is c.requires.seat (entry_there c.args.core.now.seats.items c.args.seat c.requires.seat).1)
    c.args.word c.in-Anchor.d c.usage-in-Anchor.result c.is_unclassed-in-Anchor.result c.in-Anchor.ensures.0 c.usage-in-Anchor.ensures
    c.is_unclassed-in-Anchor.ensures

pub returns-in-Link : goal.returns-in-Link
returns-in-Link c = λ k views v keeps below at. own_link c.args.core.now k views c.args.seat v
    (entry_there c.args.core.now.seats.items c.args.seat c.requires.seat).0 keeps below at
    (seat_is c.requires.seat (entry_there c.args.core.now.seats.items c.args.seat c.requires.seat).1)
    c.args.word c.in-Link.d c.usage-in-Link.result c.is_claimed.result c.in-Link.ensures.0 c.usage-in-Link.ensures c.is_claimed.ensures

pub returns-in-Data : goal.returns-in-Data
returns-in-Data c = λ k views v keeps below at. own_is c.args.core.now k views c.args.seat v
    (entry_there c.args.core.now.seats.items c.args.seat c.requires.seat).0 keeps below at
    (seat_is c.requires.seat (entry_there c.args.core.now.seats.items c.args.seat c.requires.seat).1) c.args.word
    (data_cell c.in-Data.word) c.in-Data.ensures.0 c.is_own_data.result (c.is_own_data.ensures k views v keeps below at)
