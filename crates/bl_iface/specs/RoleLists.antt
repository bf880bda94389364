-- What a role asks, as lists of variables.
use Rattle.std.specs.Prelude.{◌≡◌, ◌≤◌, ◌+◌, ℕ, suc, Bool, true, false, IsTrue, List, [], ◌∷◌, ◌++◌, length, nat_eq, Some}
use Rattle.std.specs.List.{Contains, list_any}
use Rattle.bl_base.specs.declared.names.Flow.{Flow}
use Rattle.bl_base.specs.declared.names.Flow.TheVariants.{Stable, Transient}
use Rattle.bl_base.specs.declared.names.Role.{Role}
use Rattle.bl_base.specs.declared.names.Role.TheVariants.{Client, Library}
use Rattle.bl_program.specs.declared.definitions.ProgramParts.{ProgramParts as Program}
use Rattle.bl_graph.specs.Graphs.{use_of}
use Rattle.bl_graph.specs.declared.facts.Use.{Use}
use Rattle.bl_iface.specs.RoleTests.{asked, is_flow}
use Rattle.bl_iface.specs.declared.iface.FnIface.{FnIface}
use Rattle.bl_iface.specs.declared.iface.Iface.{Iface}
use Rattle.bl_transient.specs.declared.asked.AskedOf.{AskedOf}

-- a list has exactly the variables for which a test is true
abbrev pub Lists : (ℕ → Bool) → List ℕ → Type 0
Lists test variables = (x : ℕ) → list_any (nat_eq x) variables ≡ test x

-- lists have exactly what a role asks
pub record AreAsked (role : Role) (iface : Iface) (program : Program) (lists : AskedOf) : Type 0 where
  pub transient : Lists (asked role iface program).transient lists.transient
  pub stable : Lists (asked role iface program).stable lists.stable

-- the variable, where it is called so
abbrev pub kept_if : Bool → ℕ → List ℕ
kept_if true x = x ∷ []
kept_if false x = []

-- of the variables that begin at the first those that are called so
abbrev pub called_from : Flow → List Flow → ℕ → List ℕ
called_from flow [] first = []
called_from flow (one ∷ others) first = kept_if (is_flow flow (Some one)) first ++ called_from flow others (suc first)

-- what a role asks of a function of the interface with that first variable
abbrev pub asked_from : Role → FnIface → ℕ → AskedOf
asked_from Client one first = record { transient = called_from Transient one.results (first + length one.params); stable = called_from Stable one.params first }
asked_from Library one first = record { transient = called_from Transient one.params first; stable = called_from Stable one.results (first + length one.params) }

-- lists with these behind them
abbrev pub Adds : AskedOf → AskedOf → AskedOf → Type 0
Adds old these new = (new.transient ≡ old.transient ++ these.transient) × (new.stable ≡ old.stable ++ these.stable)

-- ---- uses of variables for which a test is true

-- there is none
abbrev pub NoUse : (ℕ → Bool) → List Use → Type 0
NoUse test uses = (position x : ℕ) → Contains uses (use_of position x) → IsTrue (test x) → ⊥

-- the least position of one
pub record IsFirstUse (test : ℕ → Bool) (uses : List Use) (position : ℕ) : Type 0 where
  pub var : ℕ
  pub stands : Contains uses (use_of position var)
  pub passes : IsTrue (test var)
  pub least : (other x : ℕ) → Contains uses (use_of other x) → IsTrue (test x) → position ≤ other
