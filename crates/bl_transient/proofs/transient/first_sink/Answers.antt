use Rattle.std.proofs.Common.{◌≡◌, ◌+◌, ◌++◌, ◌∷◌, [], take, arith, sym, subst}
use Rattle.std.specs.List.{slice_index_or}
use Rattle.std.proofs.lemmas.List.{take_more, take_all}
use Rattle.bl_graph.specs.Graphs.{use_of}
use Rattle.bl_graph.specs.declared.facts.Use.{Use}
use Rattle.bl_transient.specs.Reachability.{FirstSink}
use Rattle.bl_transient.proofs.FirstSinks.{first_yes, first_no}
use Rattle.bl_transient.proofs.transient.first_sink.Goals as goal
use Rattle.bl_transient.proofs.transient.first_sink.Goals.{then-marks-sink, else-marks-sink}

pub loop-sink-preserved : goal.loop-sink-preserved
loop-sink-preserved c =
    let loop = c.loop-sink in
    let lt = c.loop-sink-test.true in
    let use_ : Use = slice_index_or c.args.sinks.now loop.sink-index (use_of 0 0) in
    let more : take (loop.sink-index + 1) c.args.sinks.now ≡ take loop.sink-index c.args.sinks.now ++ use_ ∷ [] = take_more c.args.sinks.now loop.sink-index (use_of 0 0) lt in
    subst (λ l. FirstSink c.args.marks.now l c.if-marks-sink.first) (sym more)
    (elim c.if-marks-sink.branch as (λ _. FirstSink c.args.marks.now (take loop.sink-index c.args.sinks.now ++ use_ ∷ []) c.if-marks-sink.first) [
      | then-marks-sink w ↦
          subst (λ o. FirstSink c.args.marks.now (take loop.sink-index c.args.sinks.now ++ use_ ∷ []) o) (sym w.first-is)
          (first_yes c.args.marks.now (take loop.sink-index c.args.sinks.now) use_ loop.first w.lower.result w.if-marks-sink.true w.lower.ensures loop.invariant)
      | else-marks-sink w ↦
          subst (λ o. FirstSink c.args.marks.now (take loop.sink-index c.args.sinks.now ++ use_ ∷ []) o) (sym w.first-is)
          (first_no c.args.marks.now (take loop.sink-index c.args.sinks.now) use_ loop.first w.if-marks-sink.false loop.invariant)
    ])

pub returns : goal.returns
returns c =
    let past = c.loop-sink-test.false in
    subst (λ l. FirstSink c.args.marks.now l c.loop-sink.first) (take_all c.loop-sink.sink-index c.args.sinks.now (omega arith)) c.loop-sink.invariant
