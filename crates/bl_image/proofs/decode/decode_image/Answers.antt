use Rattle.std.proofs.Common.{subst, Ok}
use Rattle.bl_image.specs.ReaderAnswers.{ReadsProgram}
use Rattle.bl_image.proofs.CommandLimit.{memory_alone, reason_large, whole_alone, whole_refused}
use Rattle.bl_image.proofs.decode.decode_image.Goals as goal

pub returns-in-Ok-Whole-clause-refused : goal.returns-in-Ok-Whole-clause-refused
returns-in-Ok-Whole-clause-refused c = whole_refused c.args.bytes.now c.in-Ok-Whole.parts c.well_formed-in-Ok-Whole.result (subst (λ found. ReadsProgram c.args.bytes.now (Ok found)) c.in-Ok-Whole.field-0-is c.in-Ok-Whole.ensures) c.well_formed-in-Ok-Whole.ensures.refused

pub returns-in-Ok-Whole-clause-only : goal.returns-in-Ok-Whole-clause-only
returns-in-Ok-Whole-clause-only c = whole_alone c.args.bytes.now c.in-Ok-Whole.parts c.well_formed-in-Ok-Whole.result (subst (λ found. ReadsProgram c.args.bytes.now (Ok found)) c.in-Ok-Whole.field-0-is c.in-Ok-Whole.ensures) c.well_formed-in-Ok-Whole.ensures.refused

pub returns-in-Ok-Many-clause-refused : goal.returns-in-Ok-Many-clause-refused
returns-in-Ok-Many-clause-refused c = reason_large c.args.bytes.now c.in-Ok-Many.memories c.refusal_of_many.result (subst (λ found. ReadsProgram c.args.bytes.now (Ok found)) c.in-Ok-Many.field-0-is c.in-Ok-Many.ensures) c.refusal_of_many.ensures

pub returns-in-Ok-Many-clause-only : goal.returns-in-Ok-Many-clause-only
returns-in-Ok-Many-clause-only c =
    memory_alone c.args.bytes.now c.refusal_of_many.result (reason_large c.args.bytes.now c.in-Ok-Many.memories c.refusal_of_many.result (subst (λ found. ReadsProgram c.args.bytes.now (Ok found)) c.in-Ok-Many.field-0-is c.in-Ok-Many.ensures) c.refusal_of_many.ensures)
