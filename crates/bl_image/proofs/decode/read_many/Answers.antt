use Rattle.std.proofs.Common.{◌≡◌, ◌+◌, ℕ, List, length, drop, ap, ◌∙◌, subst}
use Rattle.bl_program.specs.Layout.{sum_before}
use Rattle.bl_program.specs.declared.definitions.FunctionDef.{FunctionDef}
use Rattle.bl_image.proofs.CommandLimit.{large_found}
use Rattle.bl_image.proofs.decode.read_many.Goals as goal

pub returns : goal.returns
returns c =
    let found = c.in_ok-count.ensures in
    let all : c.in_ok-count.count ≡ sum_before (λ (f : FunctionDef). f.length) c.args.front.functions (length c.args.front.functions) =
    subst (λ (fs : List FunctionDef). c.in_ok-count.count ≡ sum_before (λ (f : FunctionDef). f.length) fs (length fs)) c.as_slice.ensures (c.add_up.ensures.0 c.if-not-add_up.false) in
    large_found c.args.bytes.now (drop c.args.at c.args.bytes.now) c.args.front found.0 c.requires.before found.2 (ap (λ (n : ℕ). 7 + n) (found.1 ∙ all)) c.requires.many
