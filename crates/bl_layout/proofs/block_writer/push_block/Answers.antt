use Rattle.std.proofs.Common.{inl, inr, refl, sym, subst}
use Rattle.bl_program.specs.Rules.{GoesTo}
use Rattle.bl_layout.proofs.block_writer.push_block.Goals as goal

pub target-yes-requires : goal.target-yes-requires
target-yes-requires c = c.requires.targets c.in-Test.yes.0 (subst (λ x. GoesTo x c.in-Test.yes.0) (sym c.in-Test.is) (inl refl))

pub target-no-requires : goal.target-no-requires
target-no-requires c = c.requires.targets c.in-Test.no.0 (subst (λ x. GoesTo x c.in-Test.no.0) (sym c.in-Test.is) (inr refl))

pub target-requires : goal.target-requires
target-requires c = c.requires.targets c.in-Jump.to.0 (subst (λ x. GoesTo x c.in-Jump.to.0) (sym c.in-Jump.is) refl)
