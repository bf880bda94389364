use Rattle.std.proofs.Common.{Some, None, sym, ap, ◌∙◌}
use Rattle.bl_program.specs.Layout.{result}
use Rattle.bl_iface.specs.JoinedProgram.{moved_var}
use Rattle.bl_iface.specs.PartNumbers.{goal_in}
use Rattle.bl_iface.proofs.TableReads.{index_is, index_of, index_small, read_own, read_result, result_of_index}
use Rattle.bl_iface.proofs.numbers.Numbers.read_of.Goals as goal

pub returns-in_default : goal.returns-in_default
returns-in_default c =
    c.written.ensures ∙ sym (read_own (goal_in c.args.self.now.goals.now) c.args.self.now.shift c.args.self.now.part.now c.args.self.now.other_shift c.args.self.now.other.now c.args.owner c.args.x.0 c.requires.own (λ r. c.in_default.ensures (index_of c.args.self.now c.requires.numbers c.as_slice.result.now c.args.owner c.args.x.0 c.index-as_slice-owner.result c.as_slice.ensures c.requires.exists c.index-as_slice-owner.is c.requires.own r)))

pub returns-in_default-goal : goal.returns-in_default-goal
returns-in_default-goal c =
    c.written-in_default-goal.ensures
    ∙ sym (read_result (goal_in c.args.self.now.goals.now) c.args.self.now.shift c.args.self.now.part.now c.args.self.now.other_shift c.args.self.now.other.now c.args.owner c.args.x.0 c.requires.own (result_of_index c.args.self.now c.requires.numbers c.as_slice.result.now c.args.owner c.args.x.0 c.index-as_slice-owner.result c.as_slice.ensures c.requires.exists c.index-as_slice-owner.is c.requires.own c.in-Some.index c.in-Some.ensures.0 c.in-Some.ensures.1) None (sym c.in_default-goal.ensures))

pub result_of-requires-clause-few : goal.result_of-requires-clause-few
result_of-requires-clause-few c = index_small c.args.self.now c.requires.numbers c.as_slice.result.now c.args.owner c.args.x.0 c.index-as_slice-owner.result c.as_slice.ensures c.requires.exists c.index-as_slice-owner.is c.requires.own c.in-Some.index c.in-Some.ensures.0 c.in-Some.ensures.1

pub returns : goal.returns
returns c =
    c.result_of.ensures
    ∙ ap (λ k. moved_var c.args.self.now.other_shift c.args.self.now.other.now (result c.args.self.now.other.now c.in-Some-goal.callee k))
    (sym (index_is c.args.self.now c.requires.numbers c.as_slice.result.now c.args.owner c.args.x.0 c.index-as_slice-owner.result c.as_slice.ensures c.requires.exists c.index-as_slice-owner.is c.requires.own c.in-Some.index c.in-Some.ensures.0 c.in-Some.ensures.1))
    ∙ sym (read_result (goal_in c.args.self.now.goals.now) c.args.self.now.shift c.args.self.now.part.now c.args.self.now.other_shift c.args.self.now.other.now c.args.owner c.args.x.0 c.requires.own (result_of_index c.args.self.now c.requires.numbers c.as_slice.result.now c.args.owner c.args.x.0 c.index-as_slice-owner.result c.as_slice.ensures c.requires.exists c.index-as_slice-owner.is c.requires.own c.in-Some.index c.in-Some.ensures.0 c.in-Some.ensures.1) (Some c.in-Some-goal.callee)
    (sym c.in-Some-goal.ensures))
