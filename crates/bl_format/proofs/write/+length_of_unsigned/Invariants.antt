use Rattle.bl_format.proofs.write.+length_of_unsigned.Given as goal

abbrev pub decreases-length_of_unsigned : goal.decreases-length_of_unsigned
decreases-length_of_unsigned l = l.number
