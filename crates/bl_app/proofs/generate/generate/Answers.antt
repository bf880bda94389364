use Rattle.std.proofs.Common.{◌≤◌, List, length, subst, sym, ℕ}
use Rattle.bl_base.specs.Quantity.{limit_of}
use Rattle.bl_base.specs.declared.quantity.Quantity.TheVariants as quantity
use Rattle.bl_gen.proofs.Lengths.{made_short}
use Rattle.bl_app.proofs.generate.generate.Goals as goal

pub hardened_of-requires : goal.hardened_of-requires
hardened_of-requires c =
    subst (λ (bytes : List ℕ). length bytes ≤ limit_of quantity.Module) (sym c.in_ok-bytes.ensures) (made_short c.args.words.now.seed c.args.words.now.size c.requires.1)
