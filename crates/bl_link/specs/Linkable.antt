-- Parts that can be linked: what the callers of linking know of them.
use Rattle.std.specs.Prelude.{◌≡◌, ℕ, ◌*◌, ◌^◌, ◌<◌, ◌≤◌, false, List, length, slice_get, Some, IsTrue}
use Rattle.std.specs.List.{All, zip}
use Rattle.bl_base.specs.Fits.{AreBytes}
use Rattle.bl_base.specs.Quantity.{limit_of}
use Rattle.bl_base.specs.declared.quantity.Quantity.TheVariants.{Functions, Locals, Memory, Modules, Results}
use Rattle.bl_labels.specs.LabelledPlaces.{is_listed}
use Rattle.bl_wasm.specs.Limits.{local_count}
use Rattle.bl_wasm.specs.Linked.{HasImmediates}
use Rattle.bl_wasm.specs.Validity.{Typed, functions_of, globals_of}
use Rattle.bl_wasm.specs.declared.module.Export.{Export}
use Rattle.bl_link.specs.IndexSpaces.{Part}

-- no byte of a name is a solidus
abbrev pub NoSolidus : List ℕ → Type 0
NoSolidus name = All (λ byte. byte ≡ 0x2F → ⊥) name

-- a part is within the limits of a module, its name has no solidus, and its labels don't contradict themselves
pub record IsPart (part : Part) : Type 0 where
  pub name : NoSolidus part.name
  pub functions : length (functions_of part.wasm) ≤ limit_of Functions
  pub results : All (λ type. length type.results ≤ limit_of Results) part.wasm.types
  pub locals : All (λ defined. local_count part.wasm.types defined ≤ limit_of Locals) (zip part.wasm.functions part.wasm.bodies)
  pub memories : All (λ limits. limits.min ≤ limit_of Memory) part.wasm.memories
  -- and has few of what has no limit of its own
  pub globals : length (globals_of part.wasm) < 2 ^ 26
  pub types : length part.wasm.types < 2 ^ 26
  pub imports : length part.wasm.imports < 2 ^ 26
  -- no global is both secret and demanded public
  pub labels : (index : ℕ) → IsTrue (is_listed part.labels.globals index) → is_listed part.labels.demanded index ≡ false

-- parts, few enough, whose names are distinct
pub record AreParts (parts : List Part) : Type 0 where
  pub each : All IsPart parts
  pub few : length parts ≤ limit_of Modules
  pub distinct : (i j : ℕ) (a b : Part) → slice_get parts i ≡ Some a → slice_get parts j ≡ Some b
      → a.name ≡ b.name → i ≡ j

-- numbers are of their widths, since a number of a definition has no bound of its own
pub record HasWidths (part : Part) : Type 0 where
  pub bodies : All (λ code. All HasImmediates code.items) part.wasm.bodies
  pub initials : All (λ global. All HasImmediates global.initial) part.wasm.globals
  pub bytes : All (λ segment. AreBytes segment.bytes) part.wasm.segments

-- what the types of the code say of a part beside: its module is typed
pub record IsSound (part : Part) : Type 0 where
  pub typed : Typed part.wasm
  pub widths : HasWidths part

-- ---- exports

-- the bytes of the name of an export in the tree are counted in 64 bits
abbrev pub IsShort : List ℕ × ℕ → Type 0
IsShort pair = length pair.0 < 2 ^ 64

abbrev pub IsShortExport : Export → Type 0
IsShortExport entry = length entry.name < 2 ^ 32

-- the name of a part is a text, its exports are counted in 32 bits, and so are the bytes of their names
pub record HasFewExports (part : Part) : Type 0 where
  pub name : length part.name < 2 ^ 63
  pub few : length part.wasm.exports < 2 ^ 32
  pub names : All IsShortExport part.wasm.exports

-- so few exports has the tree of so many parts
pub record AreFew (parts : ℕ) (exports : List (List ℕ × ℕ)) : Type 0 where
  pub few : length exports ≤ parts * 2 ^ 32
  pub names : All IsShort exports
