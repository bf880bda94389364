use Rattle.bl_witness.proofs.RoundTrip.{kept_reads_back, reads_back}
use Rattle.bl_witness.proofs.laws.texts_are_read_back.Goals as goal

pub returns-clause-in_range : goal.returns-clause-in_range
returns-clause-in_range c = reads_back

pub returns-clause-kept : goal.returns-clause-kept
returns-clause-kept c = kept_reads_back
