use Rattle.bl_leb.proofs.read.+read_unsigned.Given as goal

abbrev pub decreases-read_unsigned : goal.decreases-read_unsigned
decreases-read_unsigned l = l.width
