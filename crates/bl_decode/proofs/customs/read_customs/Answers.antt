use Rattle.std.proofs.Common.{subst, sym, List}
use Rattle.bl_wasm.specs.declared.module.CustomSection.{CustomSection}
use Rattle.bl_decode.specs.Chains.{CustomsPassed}
use Rattle.bl_decode.proofs.Tails.{customs_none, customs_more, customs_err}
use Rattle.bl_decode.proofs.customs.read_customs.Goals as goal

pub loop-alloc-init : goal.loop-alloc-init
loop-alloc-init c = customs_none c.args.bytes.now c.args.at c.args.customs.now c.requires

pub loop-alloc-preserved : goal.loop-alloc-preserved
loop-alloc-preserved c =
    subst (λ (t : List CustomSection). CustomsPassed c.args.bytes.now c.args.at c.in_ok-custom.after c.args.customs.now t) (sym c.in_ok-push.ensures.ok)
    (customs_more c.args.bytes.now c.args.at c.loop-alloc.place c.in_ok-custom.after c.args.customs.now c.loop-alloc.customs c.in_ok-custom.custom c.loop-alloc.invariant c.in_ok-custom.ensures)

pub returns-in_err-custom : goal.returns-in_err-custom
returns-in_err-custom c =
    customs_err c.args.bytes.now c.args.at c.loop-alloc.place c.args.customs.now c.loop-alloc.customs _ c.from_residual.result _ c.from_residual.ensures.1 c.loop-alloc.invariant
    (c.stands_at.ensures.stands.0 c.loop-alloc-test.true) c.in_err-custom.ensures
