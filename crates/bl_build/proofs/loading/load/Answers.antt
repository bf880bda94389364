use Rattle.std.proofs.Common.{◌≤◌, Bor, Err, List, ℕ, arith, length, map}
use Rattle.std.specs.Prelude.{Vec}
use Rattle.std.specs.declared.alloc.Global.{Global}
use Rattle.std.proofs.lemmas.List.{length-map}
use Rattle.bl_base.specs.Quantity.{limit_of}
use Rattle.bl_base.specs.declared.quantity.Quantity.TheVariants as quantity
use Rattle.bl_wasm.specs.declared.linked.Tree.{Tree}
use Rattle.bl_build.specs.LoadStages.{decoding, labelling, linking, parts_of, validation}
use Rattle.bl_job.specs.Stages.{chain, each}
use Rattle.bl_job.specs.WorkAnswers.{contents_in}
use Rattle.bl_build.specs.StageAnswers.{checked_in, ready_in, spelled_in}
use Rattle.bl_build.specs.declared.loading.Checked.{Checked}
use Rattle.bl_build.specs.declared.loading.Ready.{Ready}
use Rattle.bl_build.proofs.LinkLemmas.{linkable}
use Rattle.bl_build.proofs.LoadSteps.{are_sane, first_refuses, then_staged, words_in}
use Rattle.bl_build.proofs.loading.load.Goals as goal

-- the tree is what it is
abbrev itself : Tree → Tree
itself tree = tree

pub returns-in-Err-validate_all : goal.returns-in-Err-validate_all
returns-in-Err-validate_all c =
    let labelled = chain (each labelling) linking in
    let spelled = map spelled_in c.in-Ok.spelled.items in
    then_staged (each decoding) (chain (each validation) labelled) itself (parts_of (words_in c.args.words.now) (contents_in c.args.contents.items)) spelled (Err c.in-Err-validate_all.error) c.in-Ok.ensures.staged
    (first_refuses (each validation) labelled itself spelled (λ (all : Vec Checked Global). map checked_in all.items) c.in-Err-validate_all.error c.in-Err-validate_all.ensures)

pub link_all-requires : goal.link_all-requires
link_all-requires c =
    let spelled = map spelled_in c.in-Ok.spelled.items in
    let checked = map checked_in c.in-Ok-validate_all.checked.items in
    let ready = map ready_in c.in-Ok-label_all.ready.items in
    let few : length (words_in c.args.words.now) ≤ limit_of quantity.Modules = omega (arith, c.requires.few, length-map c.args.words.now (λ (word : Bor (List ℕ)). word.now)) in
    linkable (words_in c.args.words.now) (contents_in c.args.contents.items) spelled checked ready few c.requires.apart c.requires.short c.in-Ok.ensures.staged
    c.in-Ok-validate_all.ensures c.in-Ok-label_all.ensures.staged (are_sane c.in-Ok-label_all.ready.items c.in-Ok-label_all.ensures.consistent)

pub returns-in-Ok-label_all : goal.returns-in-Ok-label_all
returns-in-Ok-label_all c =
    let labelled = chain (each labelling) linking in
    let spelled = map spelled_in c.in-Ok.spelled.items in
    let checked = map checked_in c.in-Ok-validate_all.checked.items in
    let ready = map ready_in c.in-Ok-label_all.ready.items in
    then_staged (each decoding) (chain (each validation) labelled) itself (parts_of (words_in c.args.words.now) (contents_in c.args.contents.items)) spelled c.link_all.result c.in-Ok.ensures.staged
    (then_staged (each validation) labelled itself spelled checked c.link_all.result c.in-Ok-validate_all.ensures
    (then_staged (each labelling) linking itself checked ready c.link_all.result c.in-Ok-label_all.ensures.staged c.link_all.ensures))

pub returns-in-Err-label_all : goal.returns-in-Err-label_all
returns-in-Err-label_all c =
    let labelled = chain (each labelling) linking in
    let spelled = map spelled_in c.in-Ok.spelled.items in
    let checked = map checked_in c.in-Ok-validate_all.checked.items in
    then_staged (each decoding) (chain (each validation) labelled) itself (parts_of (words_in c.args.words.now) (contents_in c.args.contents.items)) spelled (Err c.in-Err-label_all.error) c.in-Ok.ensures.staged
    (then_staged (each validation) labelled itself spelled checked (Err c.in-Err-label_all.error) c.in-Ok-validate_all.ensures
    (first_refuses (each labelling) linking itself checked (λ (all : Vec Ready Global). map ready_in all.items) c.in-Err-label_all.error c.in-Err-label_all.ensures.staged))
