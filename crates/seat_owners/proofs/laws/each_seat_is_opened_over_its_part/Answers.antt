use Rattle.std.proofs.Common.{◌≡◌, ◌↔◌, Contains, subst, sym}
use Rattle.core_model.specs.View.{View}
use Rattle.run_model.specs.Workers.{root_owner}
use Rattle.seat_owners.proofs.OpenedLemmas.{root_of, has_root, opened_over}
use Rattle.seat_owners.proofs.laws.each_seat_is_opened_over_its_part.Goals as goal

pub returns-clause-opened : goal.returns-clause-opened
returns-clause-opened c words held workers budget block_owners root_owners ready has some few by_root i s below is =
    opened_over words held workers budget block_owners root_owners by_root i ready has below s is

pub returns-clause-roots : goal.returns-clause-roots
returns-clause-roots c words held workers budget block_owners root_owners ready has some few by_root i s below is root small =
    subst (λ (x : View). Contains x.roots root ↔ (root_owner workers root ≡ i)) (sym is) (
      root_of words held workers budget block_owners root_owners by_root i root,
      has_root words held workers budget block_owners root_owners by_root i root small,
    )
