use Rattle.bl_decode.proofs.Trees.{chain_1, chain_2, chain_3, chain_4, chain_5, chain_6, chain_7, chain_8, chain_9, chain_10, chain_11, sections_err}
use Rattle.bl_decode.proofs.module.read_sections.Goals as goal

pub read-requires-clause-lawful : goal.read-requires-clause-lawful
read-requires-clause-lawful c = (chain_1.link, (chain_2.link, (chain_3.link, (chain_4.link, (chain_5.link, (chain_6.link, (chain_7.link, (chain_8.link, (chain_9.link, (chain_10.link, (chain_11.link, tt)))))))))))

pub returns-in_err-types : goal.returns-in_err-types
returns-in_err-types c = sections_err c.args.bytes.now c.args.at c.new-customs.result c.read.new.customs c.from_residual.result _ c.from_residual.ensures.1 c.in_err-types.ensures
