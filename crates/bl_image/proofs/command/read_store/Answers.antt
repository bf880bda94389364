use Rattle.std.proofs.Common.{refl, rules}
use Rattle.bl_image.proofs.CodeCases.{to_store, is_store, fields_fails, fields_found, fields_unless}
use Rattle.bl_image.proofs.command.read_store.Goals as goal

pub returns-in_err-kind : goal.returns-in_err-kind
returns-in_err-kind c = fields_fails to_store 2 is_store c.args.bytes.now c.args.at c.from_residual.result _ c.from_residual.ensures.1 c.in_err-kind.ensures

pub returns-then-is_load : goal.returns-then-is_load
returns-then-is_load c = let r = c.in_ok-kind in fields_unless to_store 2 is_store c.args.bytes.now c.args.at r.place (r.kind, (r.memory, (r.offset, (r.address, r.value)))) (λ is. search rules) r.ensures.1

pub returns : goal.returns
returns c = let r = c.in_ok-kind in fields_found to_store 2 is_store c.args.bytes.now c.args.at r.place (r.kind, (r.memory, (r.offset, (r.address, r.value)))) refl (search rules) r.ensures
