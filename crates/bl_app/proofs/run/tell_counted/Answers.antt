use Rattle.std.proofs.Common.{◌≡◌, ◌∙◌, [], ◌∷◌, ap, length, rules}
use Rattle.bl_base.specs.Runs.{outcome_of}
use Rattle.bl_counts.specs.CountFiles.{counts_text}
use Rattle.bl_counts.specs.RunCounts.{counts_of}
use Rattle.bl_app.proofs.run.tell_counted.Goals as goal

pub returns : goal.returns
returns c =
    let prepared = c.args.prepared.now in
    let program = prepared.program in
    let many : c.len-commands.result ≡ length program.commands = search rules in
    let counts : c.as_slice.result.now ≡ counts_of program prepared.function prepared.start c.args.steps = c.as_slice.ensures ∙ c.in_ok-counted.ensures.counts in
    let told : c.in_ok-counts.counts.items ≡ counts_text (length program.commands) (counts_of program prepared.function prepared.start c.args.steps) =
    c.in_ok-counts.ensures ∙ (λ i. counts_text (many i) (counts i)) in
    let keeps = c.in_ok-keeps.ensures ∙ ap (λ bytes. (c.args.file.now, bytes) ∷ []) told in
    record {
      outcome = outcome_of c.in_ok-counted.counted.run;
      within = c.in_ok-counted.ensures.run;
      is_plan = λ i. record { status = c.outcome_status-status.ensures i; keeps = keeps i; text = c.in_ok-text.ensures i };
    }
