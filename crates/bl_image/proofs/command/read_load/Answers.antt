use Rattle.std.proofs.Common.{refl, rules}
use Rattle.bl_image.proofs.CodeCases.{to_load, is_load, fields_fails, fields_found, fields_unless}
use Rattle.bl_image.proofs.command.read_load.Goals as goal

pub returns-in_err-mark : goal.returns-in_err-mark
returns-in_err-mark c = fields_fails to_load 1 is_load c.args.bytes.now c.args.at c.from_residual.result _ c.from_residual.ensures.1 c.in_err-mark.ensures

pub returns-then-not-is_load : goal.returns-then-not-is_load
returns-then-not-is_load c = let r = c.in_ok-mark in fields_unless to_load 1 is_load c.args.bytes.now c.args.at r.place (r.mark, (r.kind, (r.memory, (r.to, (r.offset, r.address))))) (λ is. search rules) r.ensures.1

pub returns : goal.returns
returns c = let r = c.in_ok-mark in fields_found to_load 1 is_load c.args.bytes.now c.args.at r.place (r.mark, (r.kind, (r.memory, (r.to, (r.offset, r.address))))) refl (search rules) r.ensures
