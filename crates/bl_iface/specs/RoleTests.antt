-- What an interface asks of a role, as tests of variables; the least choice of protects and the verdict on a set of sites under it.
use Rattle.std.specs.Prelude.{◌≡◌, ◌≤◌, ◌-◌, ℕ, Bool, true, false, IsTrue, nat_le, ◌&&◌, List, Option, Some, option_map, slice_get, unwrap_or}
use Rattle.std.specs.List.{list_any}
use Rattle.bl_base.specs.declared.names.Flow.{Flow}
use Rattle.bl_base.specs.declared.names.Flow.TheVariants.{Stable, Transient}
use Rattle.bl_base.specs.declared.names.Role.{Role}
use Rattle.bl_base.specs.declared.names.Role.TheVariants.{Client, Library}
use Rattle.bl_program.specs.Layout.{param, result}
use Rattle.bl_program.specs.Sites.{SinkReads, weight_of}
use Rattle.bl_program.specs.declared.definitions.ProgramParts.{ProgramParts as Program}
use Rattle.bl_graph.specs.Ranges.{AreSites}
use Rattle.bl_transient.specs.Transient.{Asked, TransUnder}
use Rattle.bl_transient.specs.Verdicts.{IsFirstBad}
use Rattle.bl_iface.specs.JoinedProgram.{exported}
use Rattle.bl_iface.specs.Roles.{PassesAs}
use Rattle.bl_iface.specs.declared.choice.UnderError.{UnderError}
use Rattle.bl_iface.specs.declared.choice.UnderError.TheVariants.{Sink, Memory}
use Rattle.bl_iface.specs.declared.iface.Iface.{Iface}
use Rattle.bl_iface.specs.declared.verdict.UnderVerdict.{UnderVerdict}
use Rattle.bl_iface.specs.declared.verdict.UnderVerdict.TheVariants.{Yes, No}

-- ---- what a role asks

abbrev pub is_flow : Flow → Option Flow → Bool
is_flow Stable (Some Stable) = true
is_flow Transient (Some Transient) = true
is_flow flow other = false

-- a variable is one of those that begin at the first and are called so
abbrev pub is_called : Flow → List Flow → ℕ → ℕ → Bool
is_called flow flows first x = nat_le first x && is_flow flow (slice_get flows (x - first))

-- some function of the interface calls it so, among its parameters or its results
abbrev pub params_called : Flow → Iface → Program → ℕ → Bool
params_called flow iface program x =
    list_any (λ one. unwrap_or (option_map (λ f. is_called flow one.params (param program f 0) x) (exported program.exports one.name)) false) iface.functions

abbrev pub results_called : Flow → Iface → Program → ℕ → Bool
results_called flow iface program x =
    list_any (λ one. unwrap_or (option_map (λ f. is_called flow one.results (result program f 0) x) (exported program.exports one.name)) false) iface.functions

abbrev pub asked : Role → Iface → Program → Asked
asked Library iface program = record { transient = params_called Transient iface program; stable = results_called Stable iface program }
asked Client iface program = record { transient = results_called Transient iface program; stable = params_called Stable iface program }

-- ---- the least choice

-- a sink there reads directly what is asked to be transient
abbrev pub IsGiven : Asked → Program → ℕ → Type 0
IsGiven asked program position = (x : ℕ) × SinkReads program position x × IsTrue (asked.transient x)

-- the least such position
pub record IsFirstGiven (asked : Asked) (program : Program) (position : ℕ) : Type 0 where
  pub given : IsGiven asked program position
  pub least : (other : ℕ) → IsGiven asked program other → position ≤ other

-- a set of sites of least weight that passes on that side of the interface, whose transient variables are contained in those of every other one
-- of that weight
pub record LeastAs (role : Role) (iface : Iface) (program : Program) (set : ℕ → Bool) : Type 0 where
  pub sites : AreSites program set
  pub passes : PassesAs role iface program set
  pub lightest : (other : ℕ → Bool) → AreSites program other → PassesAs role iface program other → weight_of program set ≤ weight_of program other
  pub nearest : (other : ℕ → Bool) → AreSites program other → PassesAs role iface program other → weight_of program set ≡ weight_of program other
      → (x : ℕ) → TransUnder (asked role iface program) program set x → TransUnder (asked role iface program) program other x

-- why nothing is chosen: such a sink, the first one, or memory ran out, which no clause rules out
abbrev pub IsUnderError : Asked → Program → UnderError → Type 0
IsUnderError asked program (Sink position) = IsFirstGiven asked program position.0
IsUnderError asked program Memory = Unit {0}

-- ---- the verdict

-- the set passes on that side of the interface; or it doesn't, and the least position tells why
abbrev pub JudgesAs : Role → Iface → Program → (ℕ → Bool) → UnderVerdict → Type 0
JudgesAs role iface program set Yes = PassesAs role iface program set
JudgesAs role iface program set (No position) = (PassesAs role iface program set → ⊥) × IsFirstBad (asked role iface program) program set position.0
