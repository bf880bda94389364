-- The variables of the functions before one, with those of one more.
use Rattle.std.proofs.Common.{◌≡◌, ℕ, suc, ◌+◌, ◌^◌, ◌<◌, List, length, get_or, arith}
use Rattle.std.proofs.lemmas.Option.{slice_get_within}
use Rattle.bl_base.proofs.Lists.{item_at}
use Rattle.bl_program.specs.Layout.{first_of}
use Rattle.bl_program.specs.Rules.{Rule2}
use Rattle.bl_program.specs.declared.definitions.FunctionDef.{FunctionDef}
use Rattle.bl_program.specs.declared.definitions.ProgramParts.{ProgramParts as Program}
use Rattle.bl_program.proofs.Layouts.{next_first, first_below}

module _ (program : Program) (ys : List FunctionDef) (i count : ℕ) (function : FunctionDef) where
  pub one_more : ys ≡ program.functions → i < length ys → function ≡ get_or ys i function → count ≡ first_of program i → count + function.vars ≡ first_of program (i + 1)
  one_more e lt is here =
      let next = next_first program i function (item_at program.functions ys i function e lt is) in
      let one : i + 1 ≡ suc i = omega arith in
      rw one (omega arith)

  pub fits_more : Rule2 program → ys ≡ program.functions → i < length ys → function ≡ get_or ys i function → count ≡ first_of program i → count + function.vars < 2 ^ 32
  fits_more rule e lt is here =
      let item = item_at program.functions ys i function e lt is in
      let next = next_first program i function item in
      let within = slice_get_within program.functions i function item in
      let low = first_below program (suc i) (omega arith) in
      let most = rule.variables in
      omega arith
