-- What is known of a program: its graph, what it declares secret, and where it has to be public, as lists.
use Rattle.std.specs.Prelude.{◌≡◌, ◌⊎◌, ◌↔◌, ◌+◌, ◌++◌, ◌<◌, ℕ, All, Contains, List, Some, map, slice_get}
use Rattle.bl_base.specs.declared.names.Label.TheVariants as label
use Rattle.bl_program.specs.Layout.{first_of}
use Rattle.bl_program.specs.Programs.{IsProgram}
use Rattle.bl_program.specs.Rules.{IsWellFormed}
use Rattle.bl_program.specs.declared.command.Command.{Command}
use Rattle.bl_program.specs.declared.definitions.FunctionDef.{FunctionDef}
use Rattle.bl_program.specs.declared.definitions.GlobalDef.{GlobalDef}
use Rattle.bl_program.specs.declared.definitions.ParamDef.{ParamDef}
use Rattle.bl_program.specs.declared.definitions.ProgramParts.{ProgramParts as Program}
use Rattle.bl_graph.specs.Graphs.{IsGraph}
use Rattle.bl_graph.specs.Names.{AreNames}
use Rattle.bl_graph.specs.Ranges.{variables}
use Rattle.bl_graph.specs.Secrets.{Declares, LoadsSecret, Stores, Demands, TakesSecret, GivesPublic}
use Rattle.bl_graph.specs.declared.facts.Use.{Use}
use Rattle.bl_graph.specs.declared.secret.Origin.{Origin}
use Rattle.bl_graph.specs.declared.secret.Origin.TheVariants.{Parameter, Global}
use Rattle.bl_ct.specs.declared.facts.Declared.{Declared}
use Rattle.bl_ct.specs.declared.facts.Facts.{Facts}
use Rattle.bl_ct.specs.declared.facts.Known.{Known}
use Rattle.bl_ct.specs.declared.facts.SecretLoad.{SecretLoad}

-- ---- lists that grow

-- a list has exactly what it had before and what fits
pub record Gathers {X : Type 0} (Fits : X → Type 0) (old new : List X) : Type 0 where
  pub each : (x : X) → Contains new x ↔ (Contains old x ⊎ Fits x)

-- it fits an item of a list at its place
abbrev pub SomeAt : {A X : Type 0} → List A → (ℕ → A → X → Type 0) → X → Type 0
SomeAt {A = A} items Fits x = (place : ℕ) × (item : A) × (slice_get items place ≡ Some item) × Fits place item x

-- the variable of a global that is declared secret
abbrev pub GlobalFits : ℕ → GlobalDef → Declared → Type 0
GlobalFits number global one = (global.label ≡ label.Secret) × (one ≡ record { var = number; origin = Global number })

-- the variable of a parameter that is declared secret, of a function whose variables begin with that one
abbrev pub ParamFits : ℕ → ℕ → ℕ → ParamDef → Declared → Type 0
ParamFits function first index param one =
    (param.label ≡ label.Secret) × (one ≡ record { var = first + index; origin = Parameter function index })

-- the same of some parameter of the function
abbrev pub FunctionFits : Program → ℕ → FunctionDef → Declared → Type 0
FunctionFits program number function = SomeAt function.params (ParamFits number (first_of program number))

-- a Load of a memory that is declared secret
abbrev pub LoadFits : Program → ℕ → Command → SecretLoad → Type 0
LoadFits program s command load = (load.at ≡ s) × TakesSecret program command load.memory

-- what a Store gives to a public memory
abbrev pub StoreFits : Program → ℕ → Command → Use → Type 0
StoreFits program position command store = (store.at.0 ≡ position) × GivesPublic program command store.var.0

-- ---- where nothing is declared secret

-- the parameters of a function are public
unfoldable pub HasPublicParams : FunctionDef → Type 0
HasPublicParams function = All (λ param. param.label ≡ label.Public) function.params

-- no global, no parameter and no memory is declared secret
pub record HasNoSecrets (program : Program) : Type 0 where
  pub globals : All (λ global. global.label ≡ label.Public) program.globals
  pub functions : All HasPublicParams program.functions
  pub memories : All (λ memory. memory.label ≡ label.Public) program.memories

-- ---- what is known

-- the variable and what declares it
abbrev pub DeclaresOne : Program → Declared → Type 0
DeclaresOne program one = Declares program one.var one.origin

-- the lists have exactly what the program declares
pub record AreFacts (program : Program) (facts : Facts) : Type 0 where
  pub declared : (one : Declared) → Contains facts.declared one ↔ Declares program one.var one.origin
  pub loads : (load : SecretLoad) → Contains facts.loads load ↔ LoadsSecret program load.at load.memory
  pub stores : (store : Use) → Contains facts.stores store ↔ Stores program store.at.0 store.var.0
  pub demanded : (x : ℕ) → Contains facts.demanded x ↔ Demands program x

-- the variables that the facts name
abbrev pub vars_of : Facts → List ℕ
vars_of facts = map (λ one. one.var) facts.declared ++ map (λ one. one.var.0) facts.stores ++ facts.demanded

-- names of a program's variables: all that its commands name, and all that is declared secret, stored to public memories or
-- demanded to be public
pub record NamesAll (program : Program) (names : List ℕ) : Type 0 where
  pub are : AreNames program names
  pub declared : (x : ℕ) (origin : Origin) → Declares program x origin → Contains names x
  pub stores : (position x : ℕ) → Stores program position x → Contains names x
  pub demanded : (x : ℕ) → Demands program x → Contains names x

-- the graph, the facts and the names are the program's, which keeps the rules
pub record IsKnown (known : Known) : Type 0 where
  pub is_program : IsProgram known.program.now
  pub rules : IsWellFormed known.program.now
  pub graph : IsGraph known.program.now known.graph.now
  pub facts : AreFacts known.program.now known.facts.now
  pub names : NamesAll known.program.now known.names.now

-- what is declared lies in its ranges, and nothing that is declared secret is demanded to be public
pub record AreSecretsInRange (program : Program) : Type 0 where
  pub declared : (x : ℕ) (origin : Origin) → Declares program x origin → x < variables program
  pub stores : (position x : ℕ) → Stores program position x → x < variables program
  pub demanded : (x : ℕ) → Demands program x → x < variables program
  pub apart : (x : ℕ) (origin : Origin) → Declares program x origin → Demands program x → ⊥
