use Rattle.tool_program.proofs.ports.run_ports.Goals as goal

pub returns-clause-by_seed : goal.returns-clause-by_seed
returns-clause-by_seed g c command asks done =
    let did = c.run_line.ensures.chances.asked command asks done in
    record { image = did.image; text = did.text; is = record { old = _; new = _; asks = did.is }; delivered = did.delivered }

pub returns-clause-by_seed_cut_off : goal.returns-clause-by_seed_cut_off
returns-clause-by_seed_cut_off g c command asks cut =
    let did = c.run_line.ensures.chances.asked_cut_off command asks cut in
    record {
      before = did.before;
      between = did.between;
      cut = record { image = did.cut.image; text = did.cut.text; is = record { old = _; new = _; asks = did.cut.is }; cut_off = did.cut.cut_off };
      told = did.told;
    }
