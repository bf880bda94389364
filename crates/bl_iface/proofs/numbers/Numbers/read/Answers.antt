use Rattle.std.proofs.Common.{sym, ◌∙◌}
use Rattle.bl_iface.specs.PartNumbers.{goal_in}
use Rattle.bl_iface.proofs.TableReads.{no_owner, own_at, read_plain}
use Rattle.bl_iface.proofs.numbers.Numbers.read.Goals as goal

pub returns-in-None : goal.returns-in-None
returns-in-None c =
    c.written.ensures ∙ sym (read_plain (goal_in c.args.self.now.goals.now) c.args.self.now.shift c.args.self.now.part.now c.args.self.now.other_shift c.args.self.now.other.now c.args.x.0
    (no_owner c.args.self.now.part.now c.args.self.now.firsts.now c.requires.numbers.firsts c.args.x.0 c.requires.numbers.rule c.in-None.ensures))

pub read_of-requires-clause-own : goal.read_of-requires-clause-own
read_of-requires-clause-own c =
    own_at c.args.self.now.part.now c.args.self.now.firsts.now c.requires.numbers.firsts c.in-Some.owner c.args.x.0 c.in-Some.ensures.0 c.in-Some.ensures.1 c.in-Some.ensures.2
