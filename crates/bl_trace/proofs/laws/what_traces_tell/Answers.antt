use Rattle.bl_text.specs.Lines.{lines_of}
use Rattle.bl_trace.specs.Traces.{directive_of}
use Rattle.bl_text.proofs.ItemLemmas.{items_tell}
use Rattle.bl_trace.proofs.laws.what_traces_tell.Goals as goal

pub returns : goal.returns
returns c = λ bytes. items_tell directive_of (lines_of bytes)
