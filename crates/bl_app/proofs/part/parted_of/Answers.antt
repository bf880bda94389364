use Rattle.std.proofs.Common.{Bor, List, None, arith, map, subst, sym, ℕ}
use Rattle.bl_build.specs.InterfaceStages.{parting}
use Rattle.bl_build.specs.LoadStages.{AreShort, parts_of}
use Rattle.bl_build.specs.StageAnswers.{parted_in}
use Rattle.bl_job.specs.Jobs.{AreRead}
use Rattle.bl_job.specs.StagedJobs.{contents_stage}
use Rattle.bl_job.specs.WorkAnswers.{IsStaged, content_in, contents_in}
use Rattle.bl_words.specs.Words.{part_in}
use Rattle.bl_app.specs.PartJob.{part_job, part_staged}
use Rattle.bl_job.proofs.WorkLemmas.{as_many}
use Rattle.bl_app.proofs.HardenLemmas.{short_modules}
use Rattle.bl_app.proofs.PartLemmas.{staged_so}
use Rattle.bl_app.proofs.part.parted_of.Goals as goal

-- the words
abbrev texts : List (Bor (List ℕ)) → List (List ℕ)
texts words = map (λ (word : Bor (List ℕ)). word.now) words

pub first_file-iface-requires : goal.first_file-iface-requires
first_file-iface-requires c =
    let many = as_many None (part_job (part_in c.args.words.now)).reads c.args.contents.items c.requires.read in
    omega (arith, many)

pub compile_part-requires-clause-short : goal.compile_part-requires-clause-short
compile_part-requires-clause-short c =
    let modules = contents_in c.first_file-iface.result.1.items in
    let read = subst (AreRead None (part_job (part_in c.args.words.now)).reads) c.first_file-iface.ensures c.requires.read in
    subst (λ (words : List (Bor (List ℕ))). AreShort (texts words) modules) (sym c.as_slice.ensures) (short_modules (texts c.args.words.now.modules) modules read.1)

pub returns-clause-staged : goal.returns-clause-staged
returns-clause-staged c =
    let request = part_in c.args.words.now in
    let modules = contents_in c.first_file-iface.result.1.items in
    let bytes = content_in c.first_file-iface.result.0 in
    subst (λ contents. IsStaged (contents_stage (part_staged request).reading) parted_in contents c.compile_part.result) (sym c.first_file-iface.ensures)
    (staged_so request bytes modules c.compile_part.result
    (subst (λ (iface : List ℕ). IsStaged (parting request.role iface) parted_in (parts_of request.modules modules) c.compile_part.result) c.bytes.ensures
    (subst (λ (words : List (Bor (List ℕ))). IsStaged (parting request.role c.bytes.result.now) parted_in (parts_of (texts words) modules) c.compile_part.result) c.as_slice.ensures c.compile_part.ensures.staged)))
