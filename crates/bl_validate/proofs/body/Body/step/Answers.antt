use Rattle.bl_wasm.specs.declared.instruction.Instr.TheVariants as Instr
use Rattle.bl_validate.specs.Scopes.{seen}
use Rattle.bl_validate.proofs.ConstructLemmas.{works, if_ok_from}
use Rattle.bl_validate.proofs.body.Body.step.Goals as goal

pub returns-in-Block : goal.returns-in-Block
returns-in-Block c = rw c.in-Block.is c.begin.ensures

pub returns-in-Loop : goal.returns-in-Loop
returns-in-Loop c = rw c.in-Loop.is c.begin-in-Loop.ensures

pub returns-in-If : goal.returns-in-If
returns-in-If c = rw c.in-If.is c.begin-in-If.ensures

pub returns-in-Else : goal.returns-in-Else
returns-in-Else c = rw c.in-Else.is (if_ok_from c.part.result _ _ (λ ok h. h (seen c.args.self.now)) c.part.ensures)

pub returns-in-End : goal.returns-in-End
returns-in-End c = rw c.in-End.is (if_ok_from c.end.result _ _ (λ ok h. h (seen c.args.self.now)) c.end.ensures)

pub returns-in-Drop : goal.returns-in-Drop
returns-in-Drop c = rw c.in-Drop.is (works (seen c.args.self.now) Instr.Drop c.args.stacks.now c.drop_one.new.self c.drop_one.result (λ _ _. c.drop_one.ensures))

pub returns-in-Select : goal.returns-in-Select
returns-in-Select c = rw c.in-Select.is (if_ok_from c.select.result _ _ (λ ok h. works (seen c.args.self.now) Instr.Select c.args.stacks.now c.select.new.self ok (λ _ _. h)) c.select.ensures)
