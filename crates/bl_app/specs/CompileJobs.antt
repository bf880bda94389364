-- Commands on the program of modules: their files are read and compiled, and something is planned for what comes of them.
use Rattle.std.specs.Prelude.{ℕ, ◌^◌, ◌<◌, List, length, map}
use Rattle.std.specs.List.{All}
use Rattle.bl_base.specs.declared.quantity.Quantity.TheVariants as quantity
use Rattle.bl_job.specs.Jobs.{Plan, Read}
use Rattle.bl_job.specs.StagedJobs.{Staged, others}
use Rattle.bl_build.specs.LoadStages.{parts_of}
use Rattle.bl_build.specs.BuildStages.{Built, compiling}

-- the file of a module
abbrev pub module_read : List ℕ → Read
module_read word = record { name = word; quantity = quantity.Module }

-- modules are read and compiled, and something is planned for their program
abbrev pub compiling_staged : List (List ℕ) → List (List ℕ) → (Built → Plan → Type 0) → (List (List ℕ) → Built → Plan → Type 0) → Staged Built
compiling_staged words keeps Plans Means = record {
  reads = map module_read words;
  keeps = keeps;
  reading = others compiling (parts_of words);
  Plans = Plans;
  Means = Means;
}

-- words of a call are texts, so the bytes of each are fewer than 2^63
abbrev pub AreTexts : List (List ℕ) → Type 0
AreTexts words = All (λ word. length word < 2 ^ 63) words
