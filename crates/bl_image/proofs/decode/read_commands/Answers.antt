use Rattle.std.proofs.Common.{◌<◌, length, drop, length-drop, length-append, ◌∷◌, [], arith}
use Rattle.bl_format.specs.Image.{command}
use Rattle.bl_image.proofs.ReadChains.{one_further, at_end, more_left, no_rest, shorter}
use Rattle.bl_image.proofs.WholeImage.{all_refused, never_empty}
use Rattle.bl_image.proofs.decode.read_commands.Goals as goal

pub returns-in_err-command : goal.returns-in_err-command
returns-in_err-command c =
    let s = drop c.args.at c.args.bytes.now in
    let m = drop c.loop-place.place c.args.bytes.now in
    let some : 0 < length m = omega (arith, length-drop c.loop-place.place c.args.bytes.now) in
    all_refused c.args.start c.args.most s c.args.bytes.now c.loop-place.place c.from_residual.result _ c.from_residual.ensures.1
    (no_rest command c.args.start s m c.loop-place.commands some c.loop-place.invariant.so_far) c.in_err-command.ensures

pub returns-then-left-eq0 : goal.returns-then-left-eq0
returns-then-left-eq0 c =
    let s = drop c.args.at c.args.bytes.now in
    let m = drop c.loop-place.place c.args.bytes.now in
    let some : 0 < length m = omega (arith, length-drop c.loop-place.place c.args.bytes.now) in
    let none = c.if-left-eq0.true in
    λ ys few h. omega (arith, none, few, c.loop-place.invariant.room, more_left command c.args.start s m c.loop-place.commands some c.loop-place.invariant.so_far ys h)

pub loop-place-smaller : goal.loop-place-smaller
loop-place-smaller c =
    let less = shorter command (drop c.loop-place.place c.args.bytes.now) (drop c.in_ok-command.after c.args.bytes.now) c.in_ok-command.command never_empty c.in_ok-command.ensures.1 in
    omega (arith, less, length-drop c.loop-place.place c.args.bytes.now, length-drop c.in_ok-command.after c.args.bytes.now)

pub loop-place-preserved : goal.loop-place-preserved
loop-place-preserved c =
    let s = drop c.args.at c.args.bytes.now in
    let m = drop c.loop-place.place c.args.bytes.now in
    let some : 0 < length m = omega (arith, length-drop c.loop-place.place c.args.bytes.now) in
    let pushed = c.in_ok-push.ensures.ok in
    rw pushed (record {
      inside = c.in_ok-command.ensures.0;
      room = omega (arith, c.loop-place.invariant.room, length-append c.loop-place.commands (c.in_ok-command.command ∷ []));
      so_far = one_further command c.args.start s m (drop c.in_ok-command.after c.args.bytes.now) c.loop-place.commands c.in_ok-command.command some c.loop-place.invariant.so_far c.in_ok-command.ensures.1;
    })

pub returns : goal.returns
returns c =
    let s = drop c.args.at c.args.bytes.now in
    let m = drop c.loop-place.place c.args.bytes.now in
    at_end command c.args.start s m c.loop-place.commands never_empty (omega (arith, length-drop c.loop-place.place c.args.bytes.now)) c.loop-place.invariant.so_far
