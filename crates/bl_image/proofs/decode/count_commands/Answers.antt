use Rattle.std.proofs.Common.{◌<◌, [], length, drop, length-drop, arith}
use Rattle.std.proofs.lemmas.Result.{err_from_is_err_and}
use Rattle.bl_format.specs.Image.{command}
use Rattle.bl_image.proofs.ReadChains.{counted_further, counted_end, no_rest, shorter}
use Rattle.bl_image.proofs.WholeImage.{never_empty}
use Rattle.bl_image.proofs.decode.count_commands.Goals as goal

pub returns-in_err-_command : goal.returns-in_err-_command
returns-in_err-_command c =
    let s = drop c.args.at c.args.bytes.now in
    let m = drop c.loop-next.next c.args.bytes.now in
    let some : 0 < length m = omega (arith, length-drop c.loop-next.next c.args.bytes.now) in
    let p = err_from_is_err_and c.from_residual.result c.from_residual.ensures.1 in
    let far = c.loop-next.invariant.counted in
    rw p.1 (no_rest command [] s m far.read some far.so_far c.in_err-_command.ensures)

pub loop-next-smaller : goal.loop-next-smaller
loop-next-smaller c =
    let less = shorter command (drop c.loop-next.next c.args.bytes.now) (drop c.in_ok-_command.after c.args.bytes.now) c.in_ok-_command._command never_empty c.in_ok-_command.ensures.1 in
    omega (arith, less, length-drop c.loop-next.next c.args.bytes.now, length-drop c.in_ok-_command.after c.args.bytes.now)

pub loop-next-preserved : goal.loop-next-preserved
loop-next-preserved c =
    let s = drop c.args.at c.args.bytes.now in
    let m = drop c.loop-next.next c.args.bytes.now in
    let r = drop c.in_ok-_command.after c.args.bytes.now in
    let some : 0 < length m = omega (arith, length-drop c.loop-next.next c.args.bytes.now) in
    let less = shorter command m r c.in_ok-_command._command never_empty c.in_ok-_command.ensures.1 in
    record {
      inside = c.in_ok-_command.ensures.0;
      few = omega (arith, less, c.loop-next.invariant.few, length-drop c.loop-next.next c.args.bytes.now, length-drop c.in_ok-_command.after c.args.bytes.now);
      counted = counted_further command s m r c.loop-next.count c.in_ok-_command._command some c.loop-next.invariant.counted c.in_ok-_command.ensures.1;
    }

pub returns : goal.returns
returns c =
    let s = drop c.args.at c.args.bytes.now in
    let m = drop c.loop-next.next c.args.bytes.now in
    counted_end command s m c.loop-next.count never_empty (omega (arith, length-drop c.loop-next.next c.args.bytes.now)) c.loop-next.invariant.counted
