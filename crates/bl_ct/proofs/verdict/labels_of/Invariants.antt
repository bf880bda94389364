use Rattle.std.proofs.Common.{◌≡◌, ℕ, length, take}
use Rattle.bl_ct.specs.SecretSearch.{is_found}
use Rattle.bl_ct.specs.Verdicts.{labelling_of}
use Rattle.bl_ct.proofs.verdict.labels_of.Given as goal

abbrev pub invariant-loop-step : goal.invariant-loop-step
invariant-loop-step l = record {
  places : length l.labels.items ≡ l.count;
  exact : (x : ℕ) → labelling_of l.labels.items x ≡ is_found (take l.step-index l.steps) x;
}
