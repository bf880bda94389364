use Rattle.std.proofs.Common.{sym}
use Rattle.bl_iface.proofs.FileLines.{letter_bad, letter_next, letters_all}
use Rattle.bl_iface.proofs.read.read_letters.Goals as goal

pub loop-letter-preserved : goal.loop-letter-preserved
loop-letter-preserved c =
    letter_next c.args.word.now c.loop-letter.letter-index c.loop-letter.flows c.push.new.self c.in-Some.flow c.loop-letter-test.true c.in-Some.ensures c.in_ok-push.ensures.ok c.loop-letter.invariant

pub returns-in_default : goal.returns-in_default
returns-in_default c = sym (letter_bad c.args.word.now c.loop-letter.letter-index c.loop-letter.flows c.loop-letter-test.true c.in_default.ensures c.loop-letter.invariant)

pub returns : goal.returns
returns c = letters_all c.args.word.now c.loop-letter.letter-index c.loop-letter.flows c.loop-letter-test.false c.loop-letter.invariant
