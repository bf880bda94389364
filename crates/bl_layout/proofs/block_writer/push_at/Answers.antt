use Rattle.std.proofs.Common.{sym, subst, arith}
use Rattle.std.proofs.lemmas.Option.{slice_get_within}
use Rattle.bl_layout.specs.Blocks.{IsWritten}
use Rattle.bl_layout.specs.Slots.{AreFew}
use Rattle.bl_layout.proofs.Commands.{target_within}
use Rattle.bl_layout.proofs.block_writer.push_at.Goals as goal

pub bounds-targets-position : goal.bounds-targets-position
bounds-targets-position c =
    omega (arith, slice_get_within c.args.layout.now.parts.now.commands c.args.position c.args.command c.requires.there, c.requires.targets)

pub push_block-requires-clause-few : goal.push_block-requires-clause-few
push_block-requires-clause-few c =
    subst AreFew (sym c.at-slots.ensures) (c.requires.writable.each c.args.position c.args.command c.if-position.false c.requires.there).few

pub push_block-requires-clause-written : goal.push_block-requires-clause-written
push_block-requires-clause-written c =
    subst (λ s. IsWritten s c.args.command) (sym c.at-slots.ensures) (c.requires.writable.each c.args.position c.args.command c.if-position.false c.requires.there).written

pub push_block-requires-clause-targets : goal.push_block-requires-clause-targets
push_block-requires-clause-targets c = λ to goes.
    omega (arith, target_within c.args.layout.now.parts.now c.requires.layout.facts c.requires.layout.rules c.args.position c.args.command c.requires.there to goes, c.requires.targets)
