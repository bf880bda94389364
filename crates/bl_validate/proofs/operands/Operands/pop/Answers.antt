use Rattle.std.proofs.Common.{◌≡◌, ◌++◌, ◌+◌, ◌-◌, [], ◌∷◌, arith, take, sym, ap, ◌∙◌}
use Rattle.std.proofs.lemmas.List.{take_more}
use Rattle.bl_wasm.specs.declared.types.WasmType.TheVariants.{I32}
use Rattle.bl_validate.specs.MayStand.{MayStand}
use Rattle.bl_validate.proofs.OperandLemmas.{pop_other, pop_rest}
use Rattle.bl_validate.proofs.operands.Operands.pop.Goals as goal

pub returns-in_default : goal.returns-in_default
returns-in_default c =
    let one : c.loop-left.left - 1 + 1 ≡ c.loop-left.left = omega arith in
    let e : take c.loop-left.left c.args.wanted.now ≡ take (c.loop-left.left - 1) c.args.wanted.now ++ _ ∷ []
    = ap (λ n. take n c.args.wanted.now) (sym one) ∙ take_more c.args.wanted.now (c.loop-left.left - 1) I32 (omega (arith, c.loop-left.invariant.0)) in
    pop_rest (MayStand c.args.self.now) (MayStand c.loop-left.self) (MayStand c.pop_known.new.self) c.args.wanted.now (take (c.loop-left.left - 1) c.args.wanted.now) _ c.pop_known.new.self.unreachable
    (rw e at c.loop-left.invariant.1) c.in_default.ensures

pub returns-then-not-fits : goal.returns-then-not-fits
returns-then-not-fits c =
    let one : c.loop-left.left - 1 + 1 ≡ c.loop-left.left = omega arith in
    let e : take c.loop-left.left c.args.wanted.now ≡ take (c.loop-left.left - 1) c.args.wanted.now ++ _ ∷ []
    = ap (λ n. take n c.args.wanted.now) (sym one) ∙ take_more c.args.wanted.now (c.loop-left.left - 1) I32 (omega (arith, c.loop-left.invariant.0)) in
    pop_other (MayStand c.args.self.now) (MayStand c.loop-left.self) (MayStand c.pop_known.new.self) c.args.wanted.now (take (c.loop-left.left - 1) c.args.wanted.now) _ c.in-Some.entry c.fits.result c.if-not-fits.true c.fits.ensures
    (rw e at c.loop-left.invariant.1) c.in-Some.ensures
