use Rattle.bl_cmd.specs.Verdicts.{KeepsParts, BreaksParts}
use Rattle.bl_cmd.proofs.Faults.{part_broken, verdict_is, match_some, match_none}
use Rattle.bl_cmd.proofs.verdict.first_fault.Goals as goal

pub returns-in-Some : goal.returns-in-Some
returns-in-Some c =
    part_broken c.args.parts.now c.in-Some.rule (match_some (KeepsParts c.args.parts.now) (BreaksParts c.args.parts.now) c.in_ok-rule.field-0 c.in-Some.rule c.in_ok-rule.ensures c.in-Some.is)

pub returns : goal.returns
returns c =
    verdict_is c.args.parts.now c.requires (match_none (KeepsParts c.args.parts.now) (BreaksParts c.args.parts.now) c.in_ok-rule.field-0 c.in_ok-rule.ensures c.in_default.is) _ c.fault_among.ensures
