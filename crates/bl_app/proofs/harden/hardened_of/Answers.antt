use Rattle.std.proofs.Common.{Bor, List, None, ap, arith, map, subst, sym, ℕ}
use Rattle.bl_build.specs.LoadStages.{AreShort}
use Rattle.bl_build.specs.WeightStages.{counted_sources, hardening_by}
use Rattle.bl_build.specs.StageAnswers.{hardened_in}
use Rattle.bl_job.specs.WorkAnswers.{IsStaged, content_in, contents_in}
use Rattle.bl_words.specs.Words.{harden_in, text_in}
use Rattle.bl_app.specs.HardenJob.{harden_job}
use Rattle.bl_job.proofs.WorkLemmas.{as_many}
use Rattle.bl_app.proofs.HardenLemmas.{short_alone, short_behind, some_last, sources_behind}
use Rattle.bl_app.proofs.harden.hardened_of.Goals as goal

-- the words
abbrev texts : List (Bor (List ℕ)) → List (List ℕ)
texts words = map (λ (word : Bor (List ℕ)). word.now) words

pub last_file-contents-requires : goal.last_file-contents-requires
last_file-contents-requires c =
    let words = c.args.words.now in
    let many = as_many None (harden_job (harden_in words)).reads c.args.contents.items c.requires.read in
    let some = some_last (texts words.modules) (text_in words.counts) c.in-Some.field-0.now (ap text_in c.in-Some.is) in
    omega (arith, many, some)

pub compile_hardened-requires-clause-short : goal.compile_hardened-requires-clause-short
compile_hardened-requires-clause-short c =
    let words = c.args.words.now in
    let contents = contents_in c.args.contents.items in
    subst (λ (modules : List (Bor (List ℕ))). AreShort (texts modules) contents) (sym c.as_slice-modules.ensures)
    (short_alone (texts words.modules) (text_in words.counts) contents (ap text_in c.in-None.is) c.requires.read)

pub compile_hardened_by-requires-clause-short : goal.compile_hardened_by-requires-clause-short
compile_hardened_by-requires-clause-short c =
    let words = c.args.words.now in
    let front = contents_in c.last_file-contents.result.0.items in
    subst (λ (modules : List (Bor (List ℕ))). AreShort (texts modules) front) (sym c.as_slice-modules.ensures)
    (short_behind (texts words.modules) (text_in words.counts) c.in-Some.field-0.now (contents_in c.args.contents.items) front (content_in c.last_file-contents.result.1) (ap text_in c.in-Some.is) c.last_file-contents.ensures c.requires.read)

pub returns-in-Some : goal.returns-in-Some
returns-in-Some c =
    let words = c.args.words.now in
    let front = contents_in c.last_file-contents.result.0.items in
    let bytes = content_in c.last_file-contents.result.1 in
    let some = ap text_in c.in-Some.is in
    let short = short_behind (texts words.modules) (text_in words.counts) c.in-Some.field-0.now (contents_in c.args.contents.items) front bytes some c.last_file-contents.ensures c.requires.read in
    subst (λ sources. IsStaged hardening_by hardened_in sources c.compile_hardened_by.result)
    (sources_behind (texts words.modules) (text_in words.counts) c.in-Some.field-0.now (contents_in c.args.contents.items) front bytes some c.last_file-contents.ensures short)
    (subst (λ (modules : List (Bor (List ℕ))). IsStaged hardening_by hardened_in (counted_sources (texts modules) front bytes) c.compile_hardened_by.result) c.as_slice-modules.ensures
    (subst (λ (counts : List ℕ). IsStaged hardening_by hardened_in (counted_sources (texts c.as_slice-modules.result.now) front counts) c.compile_hardened_by.result) c.bytes.ensures c.compile_hardened_by.ensures))
