-- The operands' types that what is known of them stands for.
use Rattle.std.specs.Prelude.{◌≡◌, ◌↔◌, ◌++◌, List, [], ◌∷◌, reverse, map, flat_map, Bool, IsFalse, Option, Some, None}
use Rattle.bl_wasm.specs.declared.types.WasmType.{WasmType}
use Rattle.bl_validate.specs.declared.operands.Run.{Run}
use Rattle.bl_validate.specs.declared.operands.Operands.{Operands}

-- an operand of that type may be the entry
abbrev pub Fits : Option WasmType → WasmType → Type 0
Fits None type = Unit {0}
Fits (Some known) type = known ≡ type

-- the types are those of the entries, the top first; where the place can't be reached, any types may stand below
abbrev pub Covers : Bool → List (Option WasmType) → List WasmType → Type 0
Covers unreachable [] s = IsFalse unreachable → s ≡ []
Covers unreachable (entry ∷ entries) s =
    (below : List WasmType) × (type : WasmType) × (s ≡ below ++ type ∷ []) × Fits entry type × Covers unreachable entries below

-- the entries of a run, the last one on top
abbrev pub entries : Run → List (Option WasmType)
entries run = map Some run.below.now ++ run.last ∷ []

-- the entries that are known, the last one on top
abbrev pub known : Operands → List (Option WasmType)
known operands = flat_map entries operands.runs.items ++ map Some operands.top.now

-- operands of those types may stand in the construct
unfoldable pub MayStand : Operands → List WasmType → Type 0
MayStand operands s = Covers operands.unreachable (reverse (known operands)) s

-- the last entry is taken, where one is known; else any operands may stand there, or none
abbrev pub Pops : Operands → Option (Option WasmType) → Operands → Type 0
Pops old None new = (s : List WasmType) →
    (MayStand old s ↔ (IsFalse new.unreachable → s ≡ [])) × (MayStand new s ↔ (IsFalse new.unreachable → s ≡ []))
Pops old (Some entry) new = (s : List WasmType) (type : WasmType) →
    MayStand old (s ++ type ∷ []) ↔ (Fits entry type × MayStand new s)
