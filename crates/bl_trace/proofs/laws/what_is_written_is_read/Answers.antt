use Rattle.bl_trace.specs.Traces.{IsWritten, directive_of, directive_text}
use Rattle.bl_text.proofs.LineTexts.{all_read, lines_counted}
use Rattle.bl_trace.proofs.WrittenTraces.{no_feeds, reads_back}
use Rattle.bl_trace.proofs.laws.what_is_written_is_read.Goals as goal

pub returns-clause-reads : goal.returns-clause-reads
returns-clause-reads c = all_read directive_of directive_text IsWritten reads_back no_feeds

pub returns-clause-lines : goal.returns-clause-lines
returns-clause-lines c = lines_counted directive_of directive_text IsWritten reads_back no_feeds
