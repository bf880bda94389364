-- The label rules: which variables are secret, and which have to be public.
use Rattle.std.specs.Prelude.{ℕ, Bool, IsTrue, not}
use Rattle.bl_program.specs.Sites.{Writes, Reads, SinkReads}
use Rattle.bl_program.specs.declared.definitions.ProgramParts.{ProgramParts as Program}
use Rattle.bl_graph.specs.Secrets.{Declares, LoadsSecret, Stores, Demands}
use Rattle.bl_graph.specs.declared.secret.Origin.{Origin}

-- a labelling, for which true stands for secret, keeps the rules on what is secret
pub record AssignsLabels (program : Program) (labelling : ℕ → Bool) : Type 0 where
  -- a parameter or global that is declared secret is secret
  pub declared : (x : ℕ) (origin : Origin) → Declares program x origin → IsTrue (labelling x)
  -- what a Load of a secret memory writes is secret
  pub loads : (s memory x : ℕ) → LoadsSecret program s memory → Writes program s x → IsTrue (labelling x)
  -- what a Set, Arg or Out writes is secret where it reads a secret variable
  pub moves : (s x y : ℕ) → Reads program s x → Writes program s y → IsTrue (labelling x) → IsTrue (labelling y)

-- a labelling keeps all label rules
pub record KeepsLabelRules (program : Program) (labelling : ℕ → Bool) : Type 0 where
  pub assigns : AssignsLabels program labelling
  -- each variable that a sink reads is public
  pub sinks : (position x : ℕ) → SinkReads program position x → IsTrue (not (labelling x))
  -- a value that is stored to a public memory is public
  pub stores : (position x : ℕ) → Stores program position x → IsTrue (not (labelling x))
  -- each result and global that is demanded to be public is
  pub demanded : (x : ℕ) → Demands program x → IsTrue (not (labelling x))

-- some labelling keeps all label rules
abbrev pub ConstantTime : Program → Type 0
ConstantTime program = (labelling : ℕ → Bool) × KeepsLabelRules program labelling

-- the least set of variables that keeps the rules on what is secret
pub data Secret (program : Program) : ℕ → Type 0 where
  declared : (x : ℕ) (origin : Origin) → Declares program x origin → Secret program x
  loaded : (s memory x : ℕ) → LoadsSecret program s memory → Writes program s x → Secret program x
  moved : (s x y : ℕ) → Reads program s x → Writes program s y → Secret program x → Secret program y
