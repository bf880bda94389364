-- The types before and behind an item of an effect.
use Rattle.std.specs.Prelude.{◌↔◌, ◌++◌, List, [], ◌∷◌, if◌then◌else◌, Option, MatchOption}
use Rattle.bl_wasm.specs.Typing.{Context, Plain, Arrow, Leaves}
use Rattle.bl_wasm.specs.declared.instruction.Instr.{Instr}
use Rattle.bl_wasm.specs.declared.types.WasmType.{WasmType}
use Rattle.bl_wasm.specs.declared.types.WasmType.TheVariants.{I32}
use Rattle.bl_validate.specs.declared.effects.Effect.{Effect}

-- the types that are taken, with the condition or index above them
abbrev pub inputs_of : Effect → List WasmType
inputs_of effect = if effect.indexed then effect.inputs.now ++ I32 ∷ [] else effect.inputs.now

-- the types are those before and behind an item of that effect
abbrev pub HasEffect : Effect → List WasmType → List WasmType → Type 0
HasEffect effect from to =
    MatchOption effect.outputs (Leaves (inputs_of effect) from) (λ outputs. Arrow (inputs_of effect) outputs.now from to)

-- the rule of an item under labels is that effect, or it has none
abbrev pub Means : Context → List (List WasmType) → Instr → Option Effect → Type 0
Means c ls item effect = (from to : List WasmType) → Plain c ls item from to ↔ MatchOption effect ⊥ (λ e. HasEffect e from to)
