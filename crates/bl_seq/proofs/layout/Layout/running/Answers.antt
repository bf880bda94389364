use Rattle.std.proofs.Common.{◌∙◌, arith}
use Rattle.bl_seq.proofs.LayoutLemmas.{owner_is, owner_past}
use Rattle.bl_seq.proofs.layout.Layout.running.Goals as goal

pub returns-then-position-len : goal.returns-then-position-len
returns-then-position-len c =
    c.index.ensures ∙ owner_is c.args.self.now.parts.now c.args.self.now.owners.items c.args.position c.index.result.now c.requires.rules.rule2.each c.requires.owners
    (omega (arith, c.args.self.now.owners.ok.0))

pub returns-else-position-len : goal.returns-else-position-len
returns-else-position-len c =
    c.len-else-position-len.ensures ∙ owner_past c.args.self.now.parts.now c.args.self.now.owners.items c.args.position c.requires.rules.rule2.each c.requires.owners
    (omega (arith, c.args.self.now.owners.ok.0))
