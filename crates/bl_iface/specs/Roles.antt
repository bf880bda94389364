-- Transient rules under an interface: what each side of it may rely on, and what it owes the other one.
use Rattle.std.specs.Prelude.{◌≡◌, ℕ, Bool, IsTrue, not, List, Some, slice_get}
use Rattle.std.specs.List.{All}
use Rattle.bl_base.specs.declared.names.Flow.{Flow}
use Rattle.bl_base.specs.declared.names.Flow.TheVariants.{Stable, Transient}
use Rattle.bl_base.specs.declared.names.Role.{Role}
use Rattle.bl_base.specs.declared.names.Role.TheVariants.{Client, Library}
use Rattle.bl_program.specs.Layout.{param, result}
use Rattle.bl_program.specs.declared.definitions.ProgramParts.{ProgramParts as Program}
use Rattle.bl_transient.specs.Transient.{Flows}
use Rattle.bl_iface.specs.JoinedProgram.{exported}
use Rattle.bl_iface.specs.declared.iface.FnIface.{FnIface}
use Rattle.bl_iface.specs.declared.iface.Iface.{Iface}

-- a variable for each index that is called transient is so, and each that is called stable is so
abbrev pub AreTransient : (ℕ → Bool) → List Flow → (ℕ → ℕ) → Type 0
AreTransient typing flows variable = (i : ℕ) → slice_get flows i ≡ Some Transient → IsTrue (typing (variable i))

abbrev pub AreStable : (ℕ → Bool) → List Flow → (ℕ → ℕ) → Type 0
AreStable typing flows variable = (i : ℕ) → slice_get flows i ≡ Some Stable → IsTrue (not (typing (variable i)))

-- a typing keeps a role's rules on a function: a library is given its parameters and owes its results, and a client the other way round
abbrev pub KeepsRole : Role → FnIface → Program → (ℕ → Bool) → ℕ → Type 0
KeepsRole Library one program typing f = AreTransient typing one.params (param program f) × AreStable typing one.results (result program f)
KeepsRole Client one program typing f = AreStable typing one.params (param program f) × AreTransient typing one.results (result program f)

-- a typing keeps all transient rules, and the role's on the functions of the interface
pub record FlowsAs (role : Role) (iface : Iface) (program : Program) (typing set : ℕ → Bool) : Type 0 where
  pub flows : Flows program typing set
  pub sides : All (λ one. (f : ℕ) → exported program.exports one.name ≡ Some f → KeepsRole role one program typing f) iface.functions

-- some typing does
abbrev pub PassesAs : Role → Iface → Program → (ℕ → Bool) → Type 0
PassesAs role iface program set = (typing : ℕ → Bool) × FlowsAs role iface program typing set
