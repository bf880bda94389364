use Rattle.std.proofs.Common.{◌≤◌, ◌<◌, ◌∙◌, ◌++◌, ◌+◌, ◌-◌, ◌∷◌, [], ap, arith, cond, count_by, length, refl, sym}
use Rattle.std.specs.Prelude.{is_some}
use Rattle.std.specs.List.{filter, range_with_len}
use Rattle.std.proofs.lemmas.List.{take_all}
use Rattle.bl_program.specs.Sites.{is_protected, mark_at}
use Rattle.bl_report.specs.SiteTables.{is_protect}
use Rattle.bl_report.specs.Reports.{is_site}
use Rattle.bl_report.proofs.ProtectedSites.{counted_next, few_next, kept_next}
use Rattle.bl_report.proofs.sites.sites_of.Goals as goal

pub loop-at-preserved : goal.loop-at-preserved
loop-at-preserved c =
    let program = c.args.parts.now in
    let loop = c.loop-at in
    let i = loop.at in
    let n = c.len-at-end.result in
    let commands = c.len-at-end.ensures in
    let lt = c.loop-at-test.true in
    let within : i < length program.commands = omega arith in
    let found = loop.sites.protects.items in
    let noted = c.in_ok-note_mark.ensures in
    let mark = c.mark_at.ensures in
    record {
      counted = noted.count ∙ ap (λ o. loop.sites.count + cond (is_some o) 1 0) mark
          ∙ ap (λ k. k + cond (is_some (mark_at program i)) 1 0) loop.invariant.counted ∙ sym (counted_next program i within);
      few = few_next loop.sites.count c.note_mark.new.sites.count i (is_some c.mark_at.result) noted.count loop.invariant.few;
      kept = ap (λ l. l ++ filter (is_protected program) (range_with_len (i + 1) (n - (i + 1))))
          (noted.protects ∙ ap (λ o. found ++ cond (is_protect o) (i ∷ []) []) mark)
          ∙ kept_next (is_protected program) found i n lt (is_protected program i) refl ∙ loop.invariant.kept;
    }

pub returns-clause-count : goal.returns-clause-count
returns-clause-count c =
    let commands = c.len-at-end.ensures in
    let past = c.loop-at-test.false in
    let all : length c.args.parts.now.commands ≤ c.loop-at.at = omega arith in
    c.loop-at.invariant.counted ∙ ap (count_by is_site) (take_all c.loop-at.at c.args.parts.now.commands all)
