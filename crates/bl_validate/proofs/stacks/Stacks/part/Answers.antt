use Rattle.std.proofs.Common.{◌≡◌, rules}
use Rattle.bl_wasm.specs.OpenConstructs.{then_part}
use Rattle.bl_validate.specs.Represents.{Represents, nesting_kind}
use Rattle.bl_validate.proofs.ConstructLemmas.{parts}
use Rattle.bl_validate.proofs.stacks.Stacks.part.Goals as goal

pub returns : goal.returns
returns c =
    let is : nesting_kind c.in-Some.construct.kind ≡ then_part = search rules in
    λ context. parts context (Represents c.args.self.now) (Represents c.close.new.self) (Represents c.enter.new.self) c.in-Some.construct is c.in-Some.ensures c.in_ok-enter.ensures
