-- Secret chains: ways of secrets to where they may not go.
use Rattle.std.specs.Prelude.{◌≡◌, ◌⊎◌, ℕ, List, [], ◌∷◌, map}
use Rattle.bl_program.specs.Sites.{Writes, Reads, SinkReads}
use Rattle.bl_program.specs.declared.definitions.ProgramParts.{ProgramParts as Program}
use Rattle.bl_graph.specs.Secrets.{Declares, LoadsSecret, Stores, Demands}
use Rattle.bl_graph.specs.declared.secret.Origin.{Origin}
use Rattle.bl_graph.specs.declared.secret.Origin.TheVariants.{Parameter, Global, Memory}
use Rattle.bl_graph.specs.declared.secret.SecretChain.{SecretChain}

-- the variable may not be secret at that position
pub data Ends (program : Program) (x end : ℕ) : Type 0 where
  -- a sink there reads it
  sunk : SinkReads program end x → Ends program x end
  -- it is stored to a public memory there
  stored : Stores program end x → Ends program x end
  -- a site there reads it and writes a variable that is demanded to be public
  given : (y : ℕ) → Reads program end x → Writes program end y → Demands program y → Ends program x end

-- from a variable on, each site in this order reads what the former wrote, and what the last wrote may not be secret at the end
abbrev pub LeadsToEnd : Program → ℕ → List ℕ → ℕ → Type 0
LeadsToEnd program x [] end = Ends program x end
LeadsToEnd program x (s ∷ rest) end = Reads program s x × ((y : ℕ) × Writes program s y × LeadsToEnd program y rest end)

-- the same from a variable that a Load wrote; where the chain is that Load alone and it writes a variable that is demanded to
-- be public, the end is the Load
abbrev pub LeadsLoaded : Program → ℕ → ℕ → List ℕ → ℕ → Type 0
LeadsLoaded program load x rest end = LeadsToEnd program x rest end ⊎ ((rest ≡ []) × (end ≡ load) × Demands program x)

-- the sites begin at a variable that is declared secret, or with a Load of a secret memory, and lead to the end
abbrev pub IsChainFrom : Program → Origin → List ℕ → ℕ → Type 0
IsChainFrom program (Parameter function index) through end =
    (x : ℕ) × Declares program x (Parameter function index) × LeadsToEnd program x through end
IsChainFrom program (Global number) through end = (x : ℕ) × Declares program x (Global number) × LeadsToEnd program x through end
IsChainFrom program (Memory number) [] end = ⊥
IsChainFrom program (Memory number) (s ∷ rest) end =
    LoadsSecret program s number × ((x : ℕ) × Writes program s x × LeadsLoaded program s x rest end)

-- a secret chain
abbrev pub IsSecretChain : Program → SecretChain → Type 0
IsSecretChain program chain = IsChainFrom program chain.origin (map (λ s. s.0) chain.through) chain.end.0
