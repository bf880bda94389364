use Rattle.std.proofs.Common.{arith}
use Rattle.bl_validate.specs.MayStand.{MayStand}
use Rattle.bl_validate.specs.Represents.{Represents}
use Rattle.bl_validate.proofs.ConstructLemmas.{closed, not_taken, not_emptied, none_open}
use Rattle.bl_validate.proofs.stacks.Stacks.close.Goals as goal

pub returns-in_default : goal.returns-in_default
unfolding Represents
returns-in_default c = λ one outer. (λ g. none_open c.args.self.now.frames.items (omega (arith, c.args.self.now.frames.ok.0, c.in_default.ensures.cases.0)) one outer g.1, λ b. absurd b)

pub returns-then-not-pop : goal.returns-then-not-pop
unfolding Represents
returns-then-not-pop c = rw c.in-Some.ensures.items (not_taken c.pop.new.self.items c.in-Some.frame (MayStand c.args.self.now.operands) (MayStand c.pop-2.new.self) c.pop-2.result c.if-not-pop.true c.pop-2.ensures)

pub returns-then-not-may_be_empty : goal.returns-then-not-may_be_empty
unfolding Represents
returns-then-not-may_be_empty c = rw c.in-Some.ensures.items
    (not_emptied c.pop.new.self.items c.in-Some.frame (MayStand c.args.self.now.operands) (MayStand c.pop-2.new.self) c.pop-2.result c.may_be_empty.result c.if-not-may_be_empty.true c.pop-2.ensures c.may_be_empty.ensures)

pub returns : goal.returns
unfolding Represents
returns c = rw c.in-Some.ensures.items
    (closed c.pop.new.self.items c.in-Some.frame (MayStand c.args.self.now.operands) (MayStand c.pop-2.new.self) c.pop-2.result c.may_be_empty.result c.if-not-pop.false c.if-not-may_be_empty.false c.pop-2.ensures c.may_be_empty.ensures)
