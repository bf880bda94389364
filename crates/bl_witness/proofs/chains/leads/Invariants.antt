use Rattle.std.proofs.Common.{drop, map}
use Rattle.std.specs.Prelude.{◌↔◌}
use Rattle.bl_base.specs.declared.number.Pos.{Pos}
use Rattle.bl_witness.specs.LookupAnswers.{LeadsToSink}
use Rattle.bl_witness.proofs.chains.leads.Given as goal

abbrev pub invariant-loop-site : goal.invariant-loop-site
invariant-loop-site l =
    LeadsToSink l.graph l.former.0 (map (λ (s : Pos). s.0) (drop l.site-index l.rest)) l.sink.0 ↔ LeadsToSink l.graph l.fn.first.0 (map (λ (s : Pos). s.0) l.rest) l.sink.0
