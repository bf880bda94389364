-- From the bytes of modules to the image of their program: they are linked, and the linked tree is lowered.
use Rattle.std.specs.Prelude.{◌≡◌, ℕ, ◌-◌, ◌^◌, ◌<◌, ◌≤◌, List, length, min}
use Rattle.std.specs.List.{All}
use Rattle.bl_base.specs.Quantity.{limit_of}
use Rattle.bl_base.specs.declared.quantity.Quantity.TheVariants as quantity
use Rattle.bl_wasm.specs.Linked.{IsLinked}
use Rattle.bl_wasm.specs.declared.linked.Tree.{Tree}
use Rattle.bl_program.specs.declared.definitions.ProgramParts.{ProgramParts as Program}
use Rattle.bl_format.specs.Image.{Image}
use Rattle.bl_lower.specs.Trees.{low_tree}
use Rattle.bl_build.specs.LoadStages.{AreLoadable, Part, loading, parts_of}
use Rattle.bl_build.specs.ProgramMeaning.{SameOutcomes}
use Rattle.bl_job.specs.Refusals.{Refusal, limit}
use Rattle.bl_job.specs.Stages.{Stage, chain}

-- a program and its image
pub record Built : Type 0 where
  pub program : Program
  pub image : List ℕ

-- how many commands the program of a linked tree has
abbrev pub command_count : Tree → ℕ
command_count tree = length (low_tree tree).commands

-- the program is that of the linked tree, and has few enough commands; the image is the program's, and has few enough bytes
pub record Builds (tree : Tree) (built : Built) : Type 0 where
  pub is_program : built.program ≡ low_tree tree
  pub few : command_count tree ≤ limit_of quantity.Commands
  pub image : Image (low_tree tree) built.image
  pub short : length built.image ≤ limit_of quantity.Image

-- the program has too many commands; their number is told, or the greatest of 64 bits where it is greater
pub record HasManyCommands (tree : Tree) (refusal : Refusal) : Type 0 where
  pub many : limit_of quantity.Commands < command_count tree
  pub told : refusal ≡ limit quantity.Commands (min (command_count tree) (2 ^ 64 - 1))

-- the program of a linked tree
abbrev pub lowering : Stage Tree Program
lowering = record {
  Passes = λ tree program. (program ≡ low_tree tree) × (command_count tree ≤ limit_of quantity.Commands);
  Refuses = HasManyCommands;
}

-- the image is the program's, and has few enough bytes
pub record IsSized (program : Program) (built : Built) : Type 0 where
  pub is_program : built.program ≡ program
  pub image : Image program built.image
  pub short : length built.image ≤ limit_of quantity.Image

-- the program's image has too many bytes; their number is told
pub record HasLongImage (program : Program) (refusal : Refusal) : Type 0 where
  pub bytes : List ℕ
  pub image : Image program bytes
  pub long : limit_of quantity.Image < length bytes
  pub told : refusal ≡ limit quantity.Image (length bytes)

-- a program with its image
abbrev pub sizing : Stage Program Built
sizing = record { Passes = IsSized; Refuses = HasLongImage }

-- the program alone of what a stage makes: there is an image as the stage wants it, which isn't made
abbrev pub without_image : {A : Type 0} → Stage A Built → Stage A Program
without_image stage = record {
  Passes = λ a program. (image : List ℕ) × stage.Passes a (record { program = program; image = image });
  Refuses = stage.Refuses;
}

-- the program of a linked tree, with its image
abbrev pub building : Stage Tree Built
building = chain lowering sizing

-- that of modules
abbrev pub compiling : Stage (List Part) Built
compiling = chain loading building

-- modules that can be loaded, and whose names are texts: the bytes of a name of an export are counted in 64 bits
pub record AreCompilable (parts : List Part) : Type 0 where
  pub loadable : AreLoadable parts
  pub names : All (λ part. length part.name < 2 ^ 63) parts

-- the contents of the files of modules are those of modules that are linked to a tree, which is lowered; the program ends exactly as
-- the tree does
pub record AreCompiled (words contents : List (List ℕ)) (built : Built) : Type 0 where
  pub tree : Tree
  pub loaded : loading.Passes (parts_of words contents) tree
  pub linked : IsLinked tree
  pub builds : Builds tree built
  pub same_outcomes : SameOutcomes tree built.program
