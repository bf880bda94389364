-- Programs of modules that are weighed by the counts of recorded runs.
use Rattle.std.specs.Prelude.{◌≡◌, ◌≤◌, ◌<◌, ◌^◌, ◌==◌, ℕ, Bool, true, false, nat_lt, List, length, Option, Some, None, Result, Ok, Err, [], ◌∷◌, codes}
use Rattle.std.specs.Fmt.{decimal}
use Rattle.std.specs.List.{All}
use Rattle.bl_base.specs.Quantity.{limit_of}
use Rattle.bl_base.specs.declared.number.Pos.{Pos}
use Rattle.bl_base.specs.declared.quantity.Quantity.TheVariants as quantity
use Rattle.bl_wasm.specs.Linked.{IsLinked}
use Rattle.bl_wasm.specs.declared.linked.Tree.{Tree}
use Rattle.bl_program.specs.declared.definitions.ProgramParts.{ProgramParts as Program}
use Rattle.bl_format.specs.Image.{Image}
use Rattle.bl_lower.specs.Trees.{low_tree}
use Rattle.bl_counts.specs.CountFiles.{count_file_of}
use Rattle.bl_counts.specs.RunCounts.{first_bad, total, weighed}
use Rattle.bl_counts.specs.declared.counts.SiteCount.{SiteCount}
use Rattle.bl_counts.specs.declared.error.CountError.{CountError}
use Rattle.bl_counts.specs.declared.error.CountError.TheVariants as count
use Rattle.bl_counts.specs.declared.error.CountFileError.{CountFileError}
use Rattle.bl_counts.specs.declared.error.CountFileError.TheVariants as file
use Rattle.bl_counts.specs.declared.file.CountFile.{CountFile}
use Rattle.bl_job.specs.Refusals.{Refusal, refusal_of}
use Rattle.bl_job.specs.Stages.{Stage, chain}
use Rattle.bl_job.specs.WorkAnswers.{Tells}
use Rattle.bl_job.specs.declared.status.Reason.TheVariants as why
use Rattle.bl_job.specs.declared.refusal.WorkError.{WorkError}
use Rattle.bl_build.specs.declared.counts.CountFault.{CountFault}
use Rattle.bl_build.specs.declared.counts.CountFault.TheVariants.{Line, Commands, Site, Total}
use Rattle.bl_build.specs.BuildStages.{Built, building, command_count, lowering, sizing}
use Rattle.bl_build.specs.HardenStage.{Hardened, IsHardened}
use Rattle.bl_build.specs.LoadStages.{Part, loading, parts_of}
use Rattle.bl_build.specs.ProgramMeaning.{SameOutcomes}

-- the counts, where they are few enough together
abbrev pub by_total : List SiteCount → Bool → Result (List SiteCount) CountFault
by_total counts true = Ok counts
by_total counts false = Err (Total (total counts))

-- those where no position is bad
abbrev pub by_position : List SiteCount → Option Pos → Result (List SiteCount) CountFault
by_position counts (Some at) = Err (Site at.0)
by_position counts None = by_total counts (nat_lt (total counts) (2 ^ 32))

-- those where they are of a program with as many commands
abbrev pub by_commands : Program → CountFile → Bool → Result (List SiteCount) CountFault
by_commands program whole true = by_position whole.counts (first_bad program None whole.counts)
by_commands program whole false = Err (Commands whole.commands)

-- the counts that a file has for a program, or the first thing that is wrong with them: a bad line, another number of commands, a
-- position that is no site or doesn't rise, or their sum
abbrev pub counts_for : Program → Result CountFile ℕ → Result (List SiteCount) CountFault
counts_for program (Err number) = Err (Line number)
counts_for program (Ok whole) = by_commands program whole (whole.commands == length program.commands)

-- the program has the weights by the counts of a file
pub record IsWeighed (bytes : List ℕ) (program weighted : Program) : Type 0 where
  pub counts : List SiteCount
  pub are_told : counts_for program (count_file_of bytes) ≡ Ok counts
  pub is_program : weighted ≡ weighed counts program

-- a count file has a bad line, or doesn't fit the program
abbrev pub bad_counts : CountFault → Refusal
bad_counts (Line number) = refusal_of why.Counts (codes "counts: line " ∷ decimal number ∷ [])
bad_counts (Commands commands) = refusal_of why.Counts (codes "counts: commands " ∷ decimal commands ∷ [])
bad_counts (Site position) = refusal_of why.Counts (codes "counts: site " ∷ decimal position ∷ [])
bad_counts (Total sum) = refusal_of why.Counts (codes "counts: total " ∷ decimal sum ∷ [])

-- the file has no counts for the program; what is wrong is told
pub record HasBadCounts (bytes : List ℕ) (program : Program) (refusal : Refusal) : Type 0 where
  pub fault : CountFault
  pub wrong : counts_for program (count_file_of bytes) ≡ Err fault
  pub is_refusal : refusal ≡ bad_counts fault

-- the program with the weights by the counts of a file
abbrev pub weighing : List ℕ → Stage Program Program
weighing bytes = record { Passes = IsWeighed bytes; Refuses = HasBadCounts bytes }

-- ---- building

-- modules, and the bytes of a count file where there is one
pub record Sources : Type 0 where
  pub parts : List Part
  pub counts : Option (List ℕ)

-- the program of a linked tree, with the weights by a count file where there is one, and its image
abbrev pub building_by : Option (List ℕ) → Stage Tree Built
building_by None = building
building_by (Some bytes) = chain lowering (chain (weighing bytes) sizing)

-- that of modules
abbrev pub compiling_by : Stage Sources Built
compiling_by = record {
  Passes = λ sources. (chain loading (building_by sources.counts)).Passes sources.parts;
  Refuses = λ sources. (chain loading (building_by sources.counts)).Refuses sources.parts;
}

-- hardening it: what is refused of building it is refused, and no more
abbrev pub hardening_by : Stage Sources Hardened
hardening_by = record {
  Passes = λ sources hardened. (built : Built) × compiling_by.Passes sources built × IsHardened built.program hardened;
  Refuses = compiling_by.Refuses;
}

-- ---- what it means

-- the program is another one, with the weights by a count file where there is one
abbrev pub IsWeighedBy : Option (List ℕ) → Program → Program → Type 0
IsWeighedBy None program weighted = weighted ≡ program
IsWeighedBy (Some bytes) program weighted = IsWeighed bytes program weighted

-- modules are loaded and linked to a tree, which is lowered; the program has the weights by a count file where there is one, and an image
-- that is short enough; and it ends exactly as the tree does
pub record AreBuilt (words contents : List (List ℕ)) (counts : Option (List ℕ)) (built : Built) : Type 0 where
  pub tree : Tree
  pub loaded : loading.Passes (parts_of words contents) tree
  pub linked : IsLinked tree
  pub few : command_count tree ≤ limit_of quantity.Commands
  pub weighed : IsWeighedBy counts (low_tree tree) built.program
  pub image : Image built.program built.image
  pub short : length built.image ≤ limit_of quantity.Image
  pub same_outcomes : SameOutcomes tree built.program

-- ---- what functions answer

-- the refusal of reading a count file, but for want of memory
abbrev pub refusal_of_count_file : CountFileError → Option Refusal
refusal_of_count_file (file.Line number) = Some (bad_counts (Line number))
refusal_of_count_file file.Memory = None

-- the refusal of weighing a program, but for want of memory
abbrev pub refusal_of_weighing : CountError → Option Refusal
refusal_of_weighing (count.Site at) = Some (bad_counts (Site at.0))
refusal_of_weighing (count.Total sum) = Some (bad_counts (Total sum))
refusal_of_weighing count.Memory = None

-- the counts of a file of a program with as many commands, or why there are none
abbrev pub IsOfProgram : Program → CountFile → Result (List SiteCount) WorkError → Type 0
IsOfProgram program whole (Ok counts) = (whole.commands ≡ length program.commands) × (counts ≡ whole.counts)
IsOfProgram program whole (Err e) =
    Tells
    (λ refusal. (whole.commands ≡ length program.commands → ⊥) × (refusal ≡ bad_counts (Commands whole.commands)))
    e

abbrev pub IsCounted : List ℕ → Program → Result (List SiteCount) WorkError → Type 0
IsCounted bytes program (Ok counts) =
    (count_file_of bytes ≡ Ok (record { commands = length program.commands; counts = counts })) × All (λ one. one.count < 2 ^ 32) counts
IsCounted bytes program (Err e) = Tells (HasBadCounts bytes program) e

-- modules with these words and contents, and the bytes of a count file
abbrev pub counted_sources : List (List ℕ) → List (List ℕ) → List ℕ → Sources
counted_sources words contents counts = record { parts = parts_of words contents; counts = Some counts }
