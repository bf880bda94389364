use Rattle.std.proofs.Common.{◌++◌, [], ◌∷◌, slice_get}
use Rattle.bl_wasm.specs.Typing.{Leaves}
use Rattle.bl_wasm.specs.declared.types.WasmType.TheVariants.{I32}
use Rattle.bl_validate.specs.Represents.{labels_in}
use Rattle.bl_validate.proofs.LabelLemmas.{all_same, not_all_same}
use Rattle.bl_validate.proofs.body.Body.branch_by.Goals as goal

pub returns-then-not-all_take : goal.returns-then-not-all_take
returns-then-not-all_take c = λ from to.
    not_all_same (slice_get (labels_in c.args.self.now.results.now c.args.stacks.now)) c.args.wanted.now c.args.default c.in_ok-types.types.now (λ types. Leaves (types ++ I32 ∷ []) from)
    (λ all. let b = c.all_take.ensures.1 all in cc (b, c.if-not-all_take.true)) c.in_ok-types.ensures

pub returns : goal.returns
returns c = λ from to.
    all_same (slice_get (labels_in c.args.self.now.results.now c.args.stacks.now)) c.args.wanted.now c.args.default c.in_ok-types.types.now (λ types. Leaves (types ++ I32 ∷ []) from)
    (c.all_take.ensures.0 c.if-not-all_take.false) c.in_ok-types.ensures
