use Rattle.std.proofs.Common.{◌∙◌, ℕ, Ok, arith, refl, sym}
use Rattle.bl_rob.specs.CallResults.{StepsBy, shown}
use Rattle.bl_rob.specs.declared.directive.Directive.TheVariants.{Exec}
use Rattle.bl_forward.specs.ForwardMachines.{forward_step}
use Rattle.bl_forward.proofs.ExecutionLemmas.{exec_few, fills_within, filled_step, plain_exec, waits_execution}
use Rattle.bl_forward.proofs.load.ForwardLoads.exec.Goals as goal

pub returns-in-Plain : goal.returns-in-Plain
returns-in-Plain c =
    let program = c.args.layout.now.parts.now in
    let old = shown c.args.machine.now in
    let steps : ((most : ℕ) → StepsBy forward_step most program (Exec c.args.n) old c.as_plain.result (shown c.exec.new.self)) = λ most. plain_exec most program old (shown c.exec.new.self) c.args.n c.exec.result c.ok_or.result c.as_plain.result
    (sym c.execution_at.ensures ∙ c.in-Plain.is) c.exec.ensures c.ok_or.ensures.value c.as_plain.ensures in
    record { few = exec_few program c.args.n old (shown c.exec.new.self) c.as_plain.result steps; step = steps }

pub returns-in-Waits : goal.returns-in-Waits
returns-in-Waits c = record {
  few = omega arith;
  step = λ most. (waits_execution most c.args.layout.now.parts.now (shown c.args.machine.now) c.args.n (sym c.execution_at.ensures ∙ c.in-Waits.is), refl);
}

pub replace-requires : goal.replace-requires
replace-requires c =
    fills_within 64 c.args.layout.now.parts.now (shown c.args.machine.now) c.args.n c.in-Fills.work c.in-Fills.seen (sym c.execution_at.ensures ∙ c.in-Fills.is)

pub returns-in-Fills : goal.returns-in-Fills
returns-in-Fills c =
    let program = c.args.layout.now.parts.now in
    let old = shown c.args.machine.now in
    let steps : ((most : ℕ) → StepsBy forward_step most program (Exec c.args.n) old (Ok c.in-Fills.seen) (shown c.replace.new.self)) = λ most. filled_step most program old c.args.n c.in-Fills.work c.in-Fills.seen (shown c.replace.new.self) (sym c.execution_at.ensures ∙ c.in-Fills.is) c.replace.ensures in
    record { few = exec_few program c.args.n old (shown c.replace.new.self) (Ok c.in-Fills.seen) steps; step = steps }
