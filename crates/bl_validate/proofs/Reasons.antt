-- A module has one reason for not being valid, and a valid one has none.
use Rattle.std.proofs.Common.{◌≡◌, ◌≢◌, ◌⊎◌, inl, inr, refl, ap, sym, ◌∙◌, ℕ, ◌+◌, length, arith}
use Rattle.bl_wasm.specs.Validity.{Typed, imported, function_of}
use Rattle.bl_wasm.specs.declared.module.Module.{Module}
use Rattle.bl_validate.specs.declared.verdict.Invalid.{Invalid}
use Rattle.bl_validate.specs.declared.verdict.Invalid.TheVariants as invalid
use Rattle.bl_validate.specs.Verdicts.{IsLeast, IsReason}

least_is_one : (tree : Module) (a b : ℕ) → IsLeast tree a → IsLeast tree b → a ≡ b
least_is_one tree a b of_a of_b = grind (arith, of_a.least, of_b.least, of_a.untyped, of_b.untyped)

-- two reasons are the same one
pub one_reason : (tree : Module) (a b : Invalid) → a ≢ invalid.Memory → IsReason tree a → IsReason tree b → (b ≡ a) ⊎ (b ≡ invalid.Memory)
one_reason tree invalid.Memory b known of_a of_b = absurd (known refl)
one_reason tree (invalid.Function i) (invalid.Function j) known of_a of_b =
    let same : of_b.0 ≡ of_a.0 = least_is_one tree _ _ of_b.2 of_a.2 in
    let front = length (imported function_of tree) in
    inl (ap invalid.Function (of_b.1 ∙ ap (λ n. front + n) same ∙ sym of_a.1))
one_reason tree (invalid.Function i) invalid.Module known of_a of_b = absurd (of_a.2.untyped (of_b.0 of_a.0 of_a.2.within))
one_reason tree (invalid.Function i) invalid.Memory known of_a of_b = inr refl
one_reason tree invalid.Module (invalid.Function j) known of_a of_b = absurd (of_b.2.untyped (of_a.0 of_b.0 of_b.2.within))
one_reason tree invalid.Module invalid.Module known of_a of_b = inl refl
one_reason tree invalid.Module invalid.Memory known of_a of_b = inr refl

-- a valid module has no reason
pub no_reason : (tree : Module) (a : Invalid) → a ≢ invalid.Memory → IsReason tree a → Typed tree → ⊥
no_reason tree invalid.Memory known of_a typed = known refl
no_reason tree (invalid.Function i) known of_a typed = of_a.2.untyped (typed.functions of_a.0 of_a.2.within)
no_reason tree invalid.Module known of_a typed = of_a.1 typed.rules
