-- Recovery keeps what is marked, and that is what is reached.
use Rattle.std.proofs.Common.{◌≡◌, ℕ, List, subst, slice_index}
use Rattle.std.specs.Prelude.{Contains}
use Rattle.heap_model.specs.declared.block.Block.{Block}
use Rattle.heap_model.specs.Image.{Image}
use Rattle.heap_model.specs.Blocks.{layout_of}
use Rattle.heap_model.specs.Reach.{Links}
use Rattle.filter_trace.specs.declared.fault.TraceFault.{TraceFault}
use Rattle.filter_trace.specs.declared.fault.TraceFault.TheVariants.{Outside, Memory}
use Rattle.heap_recover.specs.declared.answer.Recovered.{Recovered}
use Rattle.heap_recover.specs.declared.fault.RecoverFault.{RecoverFault}
use Rattle.heap_recover.specs.declared.fault.RecoverFault.TheVariants.{Header, Outside as OutsideIn, Memory as MemoryIn}
use Rattle.heap_recover.specs.Answer.{IsMadeOf}
use Rattle.heap_recover.specs.Fault.{of_trace}
use Rattle.heap_recover.specs.Marked.{IsMarked, KeepsBlocks}
use Rattle.heap_recover.proofs.KeptLemmas.{made_with}
use Rattle.mixed_trace.specs.declared.mode.Mode.{Mode}
use Rattle.mixed_trace.specs.Reach.{IsReachedMixed}
use Rattle.mixed_trace.specs.Codes.{code, AreReachedMixed, TellsOutsideMixed}
use Rattle.mixed_trace.specs.Recovery.{TellsOutsideHere, TellsMixedFault}
use Rattle.mixed_trace.specs.Conservative.{TellsHeader}
use Rattle.mixed_trace.specs.Laws.{HaveNoFilter}
use Rattle.mixed_trace.proofs.LawLemmas.{not_outside}
use Rattle.mixed_trace.proofs.WorkLemmas.{mixed_block}

module _ (image : Image) (modes : ℕ → Mode) (links : Links) (limit : ℕ) (pairs : List (Block × ℕ))
    (are : AreReachedMixed image modes links limit pairs) where
  marked_mixed : (b : Block) → IsMarked pairs b → IsReachedMixed image modes links b
  marked_mixed b marked =
      let known = are.codes b marked.kind marked.pair in
      record {
        mode = known.0;
        reach = (are.each b known.0).0 (record { fits = known.1; pair = subst (λ n. Contains pairs (b, n)) known.2 marked.pair });
      }

  mixed_marked : (b : Block) → IsReachedMixed image modes links b → IsMarked pairs b
  mixed_marked b reached = record { kind = code limit reached.mode; pair = ((are.each b reached.mode).1 reached.reach).pair }

  -- what is marked are blocks
  pub mixed_blocks : KeepsBlocks (layout_of image) (IsMarked pairs)
  mixed_blocks = record { each = λ b marked. let reached = marked_mixed b marked in mixed_block image modes links b reached.mode reached.reach }

-- the heap that is made where the marked blocks are kept is that where the reached ones are
pub made_of_mixed : (words : List ℕ) (modes : ℕ → Mode) (links : Links) (limit : ℕ) (pairs : List (Block × ℕ)) (answer : Recovered)
    → AreReachedMixed (slice_index words) modes links limit pairs
    → IsMadeOf words (IsMarked pairs) answer → IsMadeOf words (IsReachedMixed (slice_index words) modes links) answer
made_of_mixed words modes links limit pairs answer are =
    made_with words (IsMarked pairs) (IsReachedMixed (slice_index words) modes links) answer
    (marked_mixed (slice_index words) modes links limit pairs are) (mixed_marked (slice_index words) modes links limit pairs are)

pub tells_here : (image : Image) (modes : ℕ → Mode) (links : Links) (fault : TraceFault) → TellsOutsideMixed image modes links fault
    → TellsOutsideHere image modes links (of_trace fault)
tells_here image modes links (Outside at value) told = told
tells_here image modes links Memory told = tt

-- nothing is told as outside where no root has a filter
pub never_outside : (image : Image) (modes : ℕ → Mode) (links : Links) (fault : RecoverFault) (at value : ℕ) → HaveNoFilter modes
    → fault ≡ OutsideIn at value → TellsOutsideHere image modes links fault → ⊥
never_outside image modes links fault at value none is told =
    not_outside image modes links none at (subst (λ (f : RecoverFault). TellsOutsideHere image modes links f) is told).0

-- of images of no filter none but the header is refused
pub tells_header : (words current : List ℕ) (modes : ℕ → Mode) (links : Links) (fault : RecoverFault) → HaveNoFilter modes
    → TellsMixedFault words current modes links fault → TellsHeader words fault
tells_header words current modes links (Header cause) none told = told
tells_header words current modes links (OutsideIn at value) none told = absurd (not_outside (slice_index current) modes links none at told.1)
tells_header words current modes links MemoryIn none told = tt
