-- What is declared secret, what comes of secret memories, and what goes to where all is public.
use Rattle.std.specs.Prelude.{◌≡◌, ℕ, Contains, IsSomeAnd, slice_get}
use Rattle.bl_base.specs.declared.names.Label.TheVariants as label
use Rattle.bl_program.specs.Layout.{param, result, command_at}
use Rattle.bl_program.specs.Sites.{Names}
use Rattle.bl_program.specs.declared.command.Command.{Command}
use Rattle.bl_program.specs.declared.command.Command.TheVariants.{Load, Store}
use Rattle.bl_program.specs.declared.definitions.Demand.{Demand}
use Rattle.bl_program.specs.declared.definitions.Demand.TheVariants as demand
use Rattle.bl_program.specs.declared.definitions.ProgramParts.{ProgramParts as Program}
use Rattle.bl_graph.specs.declared.secret.Origin.{Origin}
use Rattle.bl_graph.specs.declared.secret.Origin.TheVariants.{Parameter, Global, Memory}

-- ---- what is declared secret

-- a parameter that is declared secret
abbrev pub IsSecretParam : Program → ℕ → ℕ → Type 0
IsSecretParam program function index =
    IsSomeAnd (slice_get program.functions function)
    (λ defined. IsSomeAnd (slice_get defined.params index) (λ one. one.label ≡ label.Secret))

-- a global that is declared secret
abbrev pub IsSecretGlobal : Program → ℕ → Type 0
IsSecretGlobal program number = IsSomeAnd (slice_get program.globals number) (λ global. global.label ≡ label.Secret)

-- a memory that is declared secret, and one that isn't
abbrev pub IsSecretMemory : Program → ℕ → Type 0
IsSecretMemory program number = IsSomeAnd (slice_get program.memories number) (λ memory. memory.label ≡ label.Secret)

abbrev pub IsPublicMemory : Program → ℕ → Type 0
IsPublicMemory program number = IsSomeAnd (slice_get program.memories number) (λ memory. memory.label ≡ label.Public)

-- the variable is declared secret, as that parameter or global
abbrev pub Declares : Program → ℕ → Origin → Type 0
Declares program x (Parameter function index) = IsSecretParam program function index × (param program function index ≡ x)
Declares program x (Global number) = IsSecretGlobal program number × (number ≡ x)
Declares program x (Memory number) = ⊥

-- ---- what comes of a secret memory

-- the command loads from that memory, which is declared secret
abbrev pub TakesSecret : Program → Command → ℕ → Type 0
TakesSecret program (Load mark kind memory to offset address) number = (memory ≡ number) × IsSecretMemory program number
TakesSecret program _ number = ⊥

-- a Load of that secret memory stands there
abbrev pub LoadsSecret : Program → ℕ → ℕ → Type 0
LoadsSecret program s number = IsSomeAnd (command_at program s) (λ command. TakesSecret program command number)

-- ---- what has to be public

-- the command stores the variable to a public memory
abbrev pub GivesPublic : Program → Command → ℕ → Type 0
GivesPublic program (Store kind memory offset address value) x = IsPublicMemory program memory × Names value x
GivesPublic program _ x = ⊥

-- a Store there gives the variable to a public memory
abbrev pub Stores : Program → ℕ → ℕ → Type 0
Stores program position x = IsSomeAnd (command_at program position) (λ command. GivesPublic program command x)

-- the variable of what is demanded to be public
abbrev pub demanded_by : Program → Demand → ℕ
demanded_by program (demand.Result function index) = result program function index
demanded_by program (demand.Global number) = number

-- the variable is demanded to be public
abbrev pub Demands : Program → ℕ → Type 0
Demands program x = (one : Demand) × Contains program.demands one × (demanded_by program one ≡ x)
