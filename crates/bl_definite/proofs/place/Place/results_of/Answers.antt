use Rattle.std.proofs.Common.{ap, arith, length, sym}
use Rattle.std.specs.Prelude.{unwrap_or}
use Rattle.std.proofs.lemmas.Option.{slice_get_past}
use Rattle.bl_program.specs.declared.definitions.FunctionDef.{FunctionDef}
use Rattle.bl_definite.proofs.Places.{number_none}
use Rattle.bl_definite.proofs.place.Place.results_of.Goals as goal

pub returns-then-function-len : goal.returns-then-function-len
returns-then-function-len c = sym (ap (λ o. unwrap_or o 0) c.results_in.ensures)

pub returns-else-function-len : goal.returns-else-function-len
returns-else-function-len c =
    number_none (λ (f : FunctionDef). length f.results) c.args.self.now.parts.now.functions c.args.function
    (slice_get_past c.args.self.now.parts.now.functions c.args.function (omega (arith, c.if-function-len.false, c.len.ensures)))
