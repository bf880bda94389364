-- What an image computes that was joined of a client's and a library's: what the client's modules compute that are linked over the library's.
use Rattle.std.specs.Prelude.{◌≡◌, ◌⊎◌, ◌≤◌, ℕ, ◌*◌, true, List, [], ◌∷◌, ◌++◌, map, Some}
use Rattle.std.specs.List.{All, Contains}
use Rattle.bl_base.specs.Runs.{Outcome}
use Rattle.bl_base.specs.declared.start.Start.{Start}
use Rattle.bl_base.specs.declared.names.Role.{Role}
use Rattle.bl_base.specs.declared.names.Role.TheVariants.{Client, Library}
use Rattle.bl_text.specs.Names.{module_name}
use Rattle.bl_wasm.specs.Exports.{value_named}
use Rattle.bl_wasm.specs.Modules.{Spells}
use Rattle.bl_wasm.specs.declared.linked.Tree.{Tree}
use Rattle.bl_wasm.specs.declared.module.Import.{Import}
use Rattle.bl_wasm.specs.declared.module.Module.{Module}
use Rattle.bl_link.specs.ExportNames.{qualified}
use Rattle.bl_reduce.specs.Outcomes.{IsStart, source}
use Rattle.bl_program.specs.Outcomes.{plain}
use Rattle.bl_program.specs.declared.definitions.ProgramParts.{ProgramParts as Program}
use Rattle.bl_lower.specs.Trees.{step_bound}
use Rattle.bl_iface.specs.JoinedProgram.{is_named}
use Rattle.bl_iface.specs.declared.iface.Iface.{Iface}
use Rattle.bl_rename.specs.Renamings.{Alike, Numbers, start_by}
use Rattle.bl_whole.specs.JoinedTree.{joined_tree}
use Rattle.bl_apart.specs.LinkedApart.{whole_numbers}
use Rattle.bl_words.specs.Requests.{JoinRequest, PartRequest}
use Rattle.bl_job.specs.Jobs.{Job, Plan}
use Rattle.bl_job.specs.declared.status.Status.TheVariants.{Done}
use Rattle.bl_build.specs.EntryStages.{function_named}
use Rattle.bl_build.specs.LoadStages.{AreLoadable, Part, loading, parts_of}
use Rattle.bl_app.specs.JoinJob.{join_job}
use Rattle.bl_app.specs.PartJob.{part_job}

-- ---- the three calls

-- a file: the word that names it, and its bytes
pub record File : Type 0 where
  pub word : List ℕ
  pub bytes : List ℕ

abbrev pub words_of : List File → List (List ℕ)
words_of files = map (λ file. file.word) files

abbrev pub contents_of : List File → List (List ℕ)
contents_of files = map (λ file. file.bytes) files

-- the modules in files, in order
abbrev pub modules_in : List File → List Part
modules_in files = parts_of (words_of files) (contents_of files)

-- the files of three calls: the interface of each; the modules of a stub, of its users, and of the library that the stub stands for; the images of the client,
-- which is the users over the stub, and of the library; and the image that both are joined to, by the interface of `join`
pub record Calls : Type 0 where
  pub client_iface : File
  pub library_iface : File
  pub iface : File
  pub stubs : List File
  pub users : List File
  pub libraries : List File
  pub client : File
  pub library : File
  pub joined : File

-- the users' modules behind the stub's, and behind the library's
abbrev pub clients : Calls → List File
clients calls = calls.stubs ++ calls.users

abbrev pub wholes : Calls → List File
wholes calls = calls.libraries ++ calls.users

-- `part` of modules on a side of an interface
abbrev pub part_call : Role → File → File → List File → PartRequest
part_call role iface image modules = record { role = role; image = image.word; iface = iface.word; modules = words_of modules }

abbrev pub join_call : Calls → JoinRequest
join_call calls = record { image = calls.joined.word; iface = calls.iface.word; client = calls.client.word; library = calls.library.word }

-- with these contents of the files that are read, the status is 0, and that file is kept
pub record Keeps (job : Job) (contents : List (List ℕ)) (file : File) : Type 0 where
  pub plan : Plan
  pub does : job.Does contents plan
  pub status : plan.status ≡ Done
  pub kept : plan.keeps ≡ (file.word, file.bytes) ∷ []

-- `part client` keeps the client's image, `part library` the library's, and `join` of both images the joined one
pub record AreKept (calls : Calls) : Type 0 where
  pub client : Keeps (part_job (part_call Client calls.client_iface calls.client (clients calls))) (calls.client_iface.bytes ∷ contents_of (clients calls)) calls.client
  pub library : Keeps (part_job (part_call Library calls.library_iface calls.library calls.libraries)) (calls.library_iface.bytes ∷ contents_of calls.libraries) calls.library
  pub joined : Keeps (join_job (join_call calls)) (calls.iface.bytes ∷ calls.client.bytes ∷ calls.library.bytes ∷ []) calls.joined

-- ---- what the modules keep

-- the trees that `interp` links of modules: of the stub's alone, of the client's, of the library's, and of the users' behind the library's
pub record Trees : Type 0 where
  pub stub : Tree
  pub client : Tree
  pub library : Tree
  pub whole : Tree

-- the modules are few and their names are apart, as calls ask for, and they are linked to these trees
pub record AreLoaded (calls : Calls) (trees : Trees) : Type 0 where
  pub loadable : AreLoadable (modules_in (clients calls))
  pub loadable_whole : AreLoadable (modules_in (wholes calls))
  pub stub : loading.Passes (modules_in calls.stubs) trees.stub
  pub client : loading.Passes (modules_in (clients calls)) trees.client
  pub library : loading.Passes (modules_in calls.libraries) trees.library
  pub whole : loading.Passes (modules_in (wholes calls)) trees.whole

-- a name of the interface
abbrev pub IsNamed : Iface → List ℕ → Type 0
IsNamed iface name = is_named iface.functions name ≡ true

-- an import is of a module of the users, or of a name of the interface
abbrev pub IsWanted : List File → Iface → Import → Type 0
IsWanted users iface wanted =
    ((user : File) × Contains users user × (module_name user.word ≡ wanted.from)) ⊎ IsNamed iface (qualified wanted.from wanted.name)

-- the users import of the stub nothing but functions of the interface; and where two names of the interface stand for one function of the stub, they stand for
-- one of the library
pub record KeepTo (calls : Calls) (iface : Iface) (trees : Trees) : Type 0 where
  pub imports : All (λ file. (wasm : Module) → Spells file.bytes wasm → All (IsWanted calls.users iface) wasm.imports) calls.users
  pub names : (one other : List ℕ) (function : ℕ) → IsNamed iface one → IsNamed iface other
      → value_named one trees.stub.exports ≡ Some function → value_named other trees.stub.exports ≡ Some function
      → value_named one trees.library.exports ≡ value_named other trees.library.exports

-- ---- what is said

-- where the linked modules' functions, memories and globals stand in the joined program: the library's behind the client's, and the users' where they stand in
-- the client's, behind the stub's
abbrev pub numbers_in : Trees → Numbers
numbers_in trees = whole_numbers trees.stub trees.client trees.library

-- a function of a tree, and the function of that number in a program, end alike from each start, whichever of them ends: both return the same values, or
-- trap for the same reason, and each memory of the tree is the same in the end. Where the tree takes n steps, the program takes from n to `bound` times n
pub record EndAlike (tree : Tree) (numbers : Numbers) (bound : ℕ) (program : Program) (function : ℕ) : Type 0 where
  pub follows : (start : Start) (n : ℕ) (o : Outcome) → source tree function start n o
      → (m : ℕ) × (p : Outcome) × plain program (numbers.names.function function) (start_by numbers start) m p × Alike numbers o p × (n ≤ m) × (m ≤ bound * n)
  pub comes_from : (start : Start) (m : ℕ) (p : Outcome) → IsStart tree function start → plain program (numbers.names.function function) (start_by numbers start) m p
      → (n : ℕ) × (o : Outcome) × source tree function start n o × Alike numbers o p × (n ≤ m) × (m ≤ bound * n)

-- what the linked modules export under a name, the program exports under it, and both end alike
pub record EndsAsLinked (trees : Trees) (iface : Iface) (program : Program) (name : List ℕ) (function : ℕ) : Type 0 where
  pub exported : function_named name program.exports ≡ Some ((numbers_in trees).names.function function)
  pub alike : EndAlike trees.whole (numbers_in trees) (step_bound (joined_tree trees.client trees.library iface)) program function
