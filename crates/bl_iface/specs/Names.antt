-- Names of functions in maps and sets.
use Rattle.std.proofs.Common.{Bor}
use Rattle.std.specs.Prelude.{◌≡◌, ℕ, List, Option}
use Rattle.std.specs.BTreeMap.{BTreeMap, get_by}
use Rattle.std.specs.BTreeSet.{BTreeSet, contains_by}
use Rattle.std.specs.Cmp.Lexicographic.{slice_cmp}
use Rattle.std.specs.Ordering.{nat_cmp}
use Rattle.bl_program.specs.declared.definitions.ExportDef.{ExportDef}
use Rattle.bl_iface.specs.JoinedProgram.{exported, is_named}
use Rattle.bl_iface.specs.declared.iface.FnIface.{FnIface}

-- what a map has at a name
abbrev pub at_name : BTreeMap (Bor (List ℕ)) ℕ → List ℕ → Option ℕ
at_name numbers name = get_by (λ key. slice_cmp nat_cmp name key.now) numbers

-- the map has each exported function at its name, and nothing at other names
abbrev pub IsDirectory : List ExportDef → BTreeMap (Bor (List ℕ)) ℕ → Type 0
IsDirectory exports numbers = (name : List ℕ) → at_name numbers name ≡ exported exports name

-- the set has the names of an interface
abbrev pub AreNames : List FnIface → BTreeSet (Bor (List ℕ)) → Type 0
AreNames functions names = (name : Bor (List ℕ)) → contains_by (λ key. slice_cmp nat_cmp name.now key.now) names ≡ is_named functions name.now
