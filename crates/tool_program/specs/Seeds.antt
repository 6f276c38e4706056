-- What a command makes of the numbers that its seed gives.
use Rattle.std.specs.Prelude.{ℕ, List, Option}
use Rattle.tool_command.specs.Command.{Command}
use Rattle.tool_ports.specs.Contents.{Contents}
use Rattle.tool_ports.specs.Seeded.{generator_of, GivesNext, BeginsBy, GivesChance, GivesWord}
use Rattle.tool_ports.specs.declared.seeded_chances.SeededChances.{SeededChances}
use Rattle.tool_run.specs.Asking.{AsksOf}

-- What is put and printed is as the chances by seeds have it: they begin by the command's seed, and what is asked of chances is
-- asked of them. So the words that a crash leaves at random are the numbers of that seed's stream 0, in their order.
pub record IsMadeBySeed (command : Command) (contents : Contents) (left : Option (List ℕ)) (put : Option (List ℕ)) (text : List ℕ) : Type 0 where
  pub old : SeededChances
  pub new : SeededChances
  pub asks : AsksOf (λ before seed after. BeginsBy seed after) GivesChance
      (λ before number after. GivesNext (generator_of before) number (generator_of after)) GivesWord command contents left old new put text
