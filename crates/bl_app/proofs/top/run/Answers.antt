use Rattle.std.proofs.Common.{map, refl, string_bytes, sym}
use Rattle.bl_words.proofs.WordsLemmas.{names_apart}
use Rattle.bl_words.specs.Words.{request_in}
use Rattle.bl_app.specs.Commands.{job_of}
use Rattle.bl_job.specs.Ends.{all_kept, as_planned, usage}
use Rattle.bl_job.specs.Jobs.{saying}
use Rattle.bl_job.specs.Texts.{usage_text}
use Rattle.bl_job.specs.declared.status.Status.TheVariants.{Usage}
use Rattle.bl_job.proofs.CarryLemmas.{ends_asked}
use Rattle.bl_app.proofs.CommandLemmas.{sized_by}
use Rattle.bl_app.proofs.top.run.Goals as goal

pub carry_out-requires-clause-apart : goal.carry_out-requires-clause-apart
carry_out-requires-clause-apart g c =
    names_apart (map string_bytes c.args.words.now) (request_in c.in-Ok-Some.request) (sym (rw c.in-Ok-Some.field-0-is at c.in-Ok-Some.ensures))

pub carry_out-requires-clause-sized : goal.carry_out-requires-clause-sized
carry_out-requires-clause-sized g c =
    sized_by (map string_bytes c.args.words.now) (request_in c.in-Ok-Some.request) (sym (rw c.in-Ok-Some.field-0-is at c.in-Ok-Some.ensures))

pub returns-in-Ok-Some : goal.returns-in-Ok-Some
returns-in-Ok-Some g c = ends_asked job_of _ _ c.carry_out.result _ _ (rw c.in-Ok-Some.field-0-is at c.in-Ok-Some.ensures) c.carry_out.ensures

pub returns-in-Ok-None : goal.returns-in-Ok-None
returns-in-Ok-None g c = as_planned (saying Usage usage_text) (usage (sym (rw c.in-Ok-None.field-0-is at c.in-Ok-None.ensures))) (all_kept refl refl c.say_line.ensures)
