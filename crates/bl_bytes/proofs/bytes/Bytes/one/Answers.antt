use Rattle.std.proofs.Common.{◌∙◌, sym}
use Rattle.bl_base.proofs.ByteLemmas.{one_is}
use Rattle.bl_bytes.proofs.bytes.Bytes.one.Goals as goal

pub returns-clause-value : goal.returns-clause-value
returns-clause-value c = c.byte.ensures.value ∙ sym (one_is c.args.from c.args.self.now)
