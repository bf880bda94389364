use Rattle.std.proofs.Common.{ap, ◌∙◌, arith}
use Rattle.bl_iface.specs.JoinedProgram.{moved_var}
use Rattle.bl_iface.proofs.TableReads.{result_place, result_small}
use Rattle.bl_iface.proofs.numbers.Numbers.result_of.Goals as goal

pub overflow_cast-params : goal.overflow_cast-params
overflow_cast-params c =
    let small = result_small c.args.self.now c.requires.numbers c.as_slice.result.now c.args.callee c.args.index c.len-params.result c.index-as_slice-callee.result c.as_slice.ensures
    c.requires.exists c.requires.few c.len-params.ensures in
    omega arith

pub overflow_add-x : goal.overflow_add-x
overflow_add-x c =
    let small = result_small c.args.self.now c.requires.numbers c.as_slice.result.now c.args.callee c.args.index c.len-params.result c.index-as_slice-callee.result c.as_slice.ensures
    c.requires.exists c.requires.few c.len-params.ensures in
    omega arith

pub overflow_add-x-2 : goal.overflow_add-x-2
overflow_add-x-2 c =
    let small = result_small c.args.self.now c.requires.numbers c.as_slice.result.now c.args.callee c.args.index c.len-params.result c.index-as_slice-callee.result c.as_slice.ensures
    c.requires.exists c.requires.few c.len-params.ensures in
    omega arith

pub moved_var-requires : goal.moved_var-requires
moved_var-requires c =
    let small = result_small c.args.self.now c.requires.numbers c.as_slice.result.now c.args.callee c.args.index c.len-params.result c.index-as_slice-callee.result c.as_slice.ensures
    c.requires.exists c.requires.few c.len-params.ensures in
    let room = c.requires.numbers.small in
    let globals = room.globals in
    let sizes = room.sizes in
    let vars = room.vars in
    record { globals = omega arith; sizes = omega arith; vars = omega arith }

pub returns : goal.returns
returns c =
    let place = result_place c.args.self.now c.requires.numbers c.as_slice.result.now c.args.callee c.args.index c.len-params.result c.index-as_slice-callee.result c.as_slice.ensures
    c.requires.exists c.requires.few c.len-params.ensures in
    c.moved_var.ensures ∙ ap (moved_var c.args.self.now.other_shift c.args.self.now.other.now) place
