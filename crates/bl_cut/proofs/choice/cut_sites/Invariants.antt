use Rattle.std.proofs.Common.{◌≡◌, ◌&&◌, ℕ, nat_lt}
use Rattle.std.specs.FinSet as fin
use Rattle.bl_flow.specs.Cuts.{cut_of}
use Rattle.bl_cut.proofs.choice.cut_sites.Given as goal

abbrev pub invariant-loop-s : goal.invariant-loop-s
invariant-loop-s l = (t : ℕ) → fin.contains l.set t ≡ (nat_lt t l.s && cut_of l.cut t)
