use Rattle.std.proofs.Common.{◌≡◌, refl}
use Rattle.std.specs.Bool.{Decides}
use Rattle.std.proofs.lemmas.Slice.Eq.{slice_eq-Decides}
use Rattle.bl_wasm.specs.contracts.types.WasmTypePartialEq.TheImpl as derived
use Rattle.bl_wasm.specs.declared.types.WasmType.{WasmType}
use Rattle.bl_wasm.specs.declared.types.WasmType.TheVariants.{I32, I64, F32, F64}
use Rattle.bl_validate.proofs.stacks.are_same.Goals as goal

types_decide : (a b : WasmType) → Decides ((derived.eq-value).it a b) (a ≡ b)
types_decide I32 I32 = (λ h. refl, λ e. refl)
types_decide I64 I64 = (λ h. refl, λ e. refl)
types_decide F32 F32 = (λ h. refl, λ e. refl)
types_decide F64 F64 = (λ h. refl, λ e. refl)
types_decide a b = (λ h. absurd (cc h), λ e. absurd (cc e))

pub returns : goal.returns
returns c = slice_eq-Decides types_decide c.args.some.now c.args.others.now c.eq.result c.eq.ensures
