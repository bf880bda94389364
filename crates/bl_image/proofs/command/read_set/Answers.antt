use Rattle.std.proofs.Common.{ℕ, drop, subst}
use Rattle.bl_program.specs.Programs.{arity}
use Rattle.bl_image.specs.ReaderAnswers.{Begins, operands_of, fields_behind}
use Rattle.bl_image.proofs.ReaderLemmas.{fails}
use Rattle.bl_image.proofs.Operands.{set_parts, set_found, no_set, no_set_operands}
use Rattle.bl_image.proofs.command.read_set.Goals as goal

pub returns-in_err-mark : goal.returns-in_err-mark
returns-in_err-mark c =
    fails set_parts (fields_behind 0) c.args.bytes.now c.args.at c.args.at c.from_residual.result _ c.from_residual.ensures.1 (no_set (drop c.args.at c.args.bytes.now)) c.in_err-mark.ensures

pub returns-in_err-a : goal.returns-in_err-a
returns-in_err-a c =
    let r = c.in_ok-mark in
    fails (operands_of (arity r.op)) (fields_behind 0) c.args.bytes.now r.place c.args.at c.from_residual-in_err-a.result _ c.from_residual-in_err-a.ensures.1
    (no_set_operands (drop c.args.at c.args.bytes.now) (drop r.place c.args.bytes.now) (r.mark, (r.op, r.to)) r.ensures.1) (rw (← c.arity.ensures) c.in_err-a.ensures)

pub returns : goal.returns
returns c =
    let r = c.in_ok-mark in
    let o = c.in_ok-a in
    let rest = subst (λ (n : ℕ). Begins (operands_of n) (drop r.place c.args.bytes.now) (o.a, (o.b, o.c)) (drop o.end c.args.bytes.now)) c.arity.ensures o.ensures.1 in
    (o.ensures.0, set_found (drop c.args.at c.args.bytes.now) (drop r.place c.args.bytes.now) (drop o.end c.args.bytes.now) (r.mark, (r.op, r.to)) (o.a, (o.b, o.c)) r.ensures.1 rest)
