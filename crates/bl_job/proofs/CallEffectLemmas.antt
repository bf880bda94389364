-- What stands after a call, by how it ends.
use Rattle.std.proofs.Common.{ℕ, List, length, Option, refl, ap, sym, ◌∙◌, arith}
use Rattle.std.proofs.lemmas.List.{take_all}
use Rattle.bl_job.specs.Ends.{Delivers, Ends, PlanFor, all_kept, as_planned, done, no_memory, no_memory_to_keep, not_kept, not_read, refused, usage}
use Rattle.bl_job.specs.Jobs.{Job, Plan, saying}
use Rattle.bl_job.specs.CallEffects.{IsLine, Keeps, Leaves, Prints, a_line, all, at_no_memory, at_write_fault, nothing, of_read_fault, of_refusal, of_usage, so_far}
use Rattle.bl_job.specs.Worlds.{Said, Stream, World, cut, took, whole}
use Rattle.bl_job.specs.declared.status.Status.{Status}

-- a text that was said, or as much of it as was
prints : (text : List ℕ) (meant status : Status) (old new : Stream) → Said text meant old new status → Prints text old new
prints text meant status old new (whole said e) =
    record { count = length text; within = omega arith; taken = said.taken ∙ ap (took old.taken) (sym (take_all (length text) text (omega arith))) }
prints text meant status old new (cut said e) = record { count = said.count; within = said.within; taken = said.taken }

keeps : (plan : Plan) (old new : World) (status : Status) → Delivers plan old new status → Keeps plan old new
keeps plan old new status (all_kept files faults said) = all files (prints plan.text plan.status status old.sink new.sink said)
keeps plan old new status (not_kept count keep at_place fails files said) = at_write_fault count keep at_place fails files (prints _ _ status old.sink new.sink said)
keeps plan old new status (no_memory_to_keep count keep at_place files faults sink e) = at_no_memory count keep at_place files (ap (λ s. s.taken) sink)

module _ {Request : Type 0} (jobs : Request → Job) (asked : Option Request) (old new : World) where
  -- a line, beside which no file is kept
  line_only : (text : List ℕ) (meant : Status) → IsLine jobs asked old new text → Keeps (saying meant text) old new → Leaves jobs asked old new
  line_only text meant is (all files said) = a_line text is files said
  line_only text meant is (at_write_fault count keep at_place fails files said) = absurd cc
  line_only text meant is (at_no_memory count keep at_place files sink) = absurd cc

  planned : (plan : Plan) → PlanFor jobs asked old.files plan → Keeps plan old new → Leaves jobs asked old new
  planned _ (usage none) k = line_only _ _ (of_usage none refl) k
  planned _ (refused request refusal is first) k = line_only _ _ (of_refusal request refusal is first refl) k
  planned _ (done request contents plan is read does) k = so_far request contents plan is read does k

  pub leaves : (status : Status) → Ends jobs asked old new status → Leaves jobs asked old new
  leaves status (as_planned plan p d) = planned plan p (keeps plan old new status d)
  leaves status (not_read request name is read fails files said) = a_line _ (of_read_fault request name is read fails refl) files (prints _ _ status old.sink new.sink said)
  leaves status (no_memory unchanged e) = nothing unchanged.files (ap (λ s. s.taken) unchanged.sink)
