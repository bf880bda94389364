use Rattle.bl_layout.proofs.WorkedRuns.{frame_is, has_room, laid_out, matches, reached, runs}
use Rattle.bl_layout.proofs.laws.counting_runs.Goals as goal

pub returns : goal.returns
returns c = record { laid_out = laid_out; frame = (frame_is, has_room); reached = reached; matches = matches; runs = runs }
