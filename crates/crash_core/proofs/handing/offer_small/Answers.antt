use Rattle.std.proofs.Common.{◌≡◌, ◌+◌, get_or, length, length-set, set, refl, ap, sym, arith}
use Rattle.core_model.specs.Handing.{after_offer, is_offered}
use Rattle.crash_core.specs.declared.owners.BlockPlace.TheVariants as place
use Rattle.crash_core.specs.Standing.{no_block, place_for}
use Rattle.crash_core.proofs.OfferDecision.{may_hand, seat_of}
use Rattle.crash_core.proofs.OfferSteps.{held_is, small_may, small_offer}
use Rattle.crash_core.proofs.StandingLemmas.{seat_is}
use Rattle.crash_core.proofs.handing.offer_small.Goals as goal

pub returns : goal.returns
returns c = λ k s stands.
    let at_t = seat_is c.requires.seat (sym c.index-notes.ensures) in
    let o = seat_of c.args.core.now k s c.args.seat c.index-notes.result.now stands at_t in
    let may = c.requires.may c.index-notes.result.now at_t in
    let hand = may_hand c.args.core.now s c.args.seat c.index-notes.result.now o may.0 may.1 in
    let held = held_is (place_for c.args.seat (get_or c.args.core.now.blocks.items c.args.block no_block)) c.requires.held in
    let number : c.len.result + c.args.core.now.carriers ≡ length s.views = (let l = c.len.ensures in let n = stands.keeps.seats in omega arith) in (
      after_offer s c.args.seat o.view c.args.block,
      is_offered o.view o.at (small_may c.args.core.now k s c.args.seat o.view c.index-notes.result.now c.args.block stands o.at at_t hand held),
      small_offer c.args.core.now k s c.args.seat o.view c.index-notes.result.now c.args.block stands o.at at_t hand held _
          (record {
            words = refl;
            capacity = refl;
            budget = refl;
            seats = refl;
            carriers = refl;
            blocks = length-set c.args.core.now.blocks.items c.args.block
                (record { seat = c.len.result + c.args.core.now.carriers; place = place.Held });
            superblocks = refl;
            roots = refl;
          })
          (ap (λ n. set c.args.core.now.blocks.items c.args.block (record { seat = n; place = place.Held })) number) refl,
    )
