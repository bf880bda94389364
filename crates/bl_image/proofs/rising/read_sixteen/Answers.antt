use Rattle.std.proofs.Common.{◌≡◌, ◌+◌, ◌-◌, ◌≤◌, length, take, drop, length-drop, ap, ◌∙◌, arith}
use Rattle.std.proofs.lemmas.List.{take_all}
use Rattle.bl_image.proofs.Numbers.{bytes_found}
use Rattle.bl_image.proofs.rising.read_sixteen.Goals as goal

pub returns-in-Some : goal.returns-in-Some
returns-in-Some c =
    let chunk = c.in-Some.ensures.cases in
    let rest = drop c.args.at c.args.bytes.now in
    let whole = take_all (length c.args.bytes.now - c.args.at) rest (omega (arith, length-drop c.args.at c.args.bytes.now)) in
    let enough : 16 ≤ length rest = rw whole at chunk.enough in
    let count : 16 ≡ c.args.at + 16 - c.args.at = omega arith in
    let inside : c.args.at + 16 ≤ length c.args.bytes.now = omega (arith, length-drop c.args.at c.args.bytes.now) in
    (inside, bytes_found c.args.bytes.now c.in-Some.these.now c.args.at 16 inside (chunk.same ∙ ap (take 16) whole ∙ ap (λ k. take k rest) count))
