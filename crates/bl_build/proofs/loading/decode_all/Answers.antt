use Rattle.std.proofs.Common.{◌≡◌, ◌∙◌, ◌<◌, ◌^◌, List, [], ap, arith, drop, length, map, subst, sym}
use Rattle.std.specs.Prelude.{Vec}
use Rattle.std.specs.List.{All}
use Rattle.std.specs.Vec.Iter.{into_iter_items}
use Rattle.std.specs.declared.alloc.Global.{Global}
use Rattle.std.proofs.lemmas.Grind.{common_steps}
use Rattle.std.proofs.lemmas.List.Elements.{All-push}
use Rattle.bl_wasm.specs.Validity.{functions_of}
use Rattle.bl_build.specs.LoadStages.{decoding, parts_of}
use Rattle.bl_job.specs.WorkAnswers.{contents_in}
use Rattle.bl_build.specs.StageAnswers.{spelled_in}
use Rattle.bl_build.specs.declared.loading.Spelled.{Spelled}
use Rattle.bl_build.proofs.LoadSteps.{all_decoded, next_decoded, next_word, none_decoded, not_decoded, words_in}
use Rattle.bl_job.proofs.StageLemmas.{Goes, goes_ends}
use Rattle.bl_build.proofs.loading.decode_all.Goals as goal
use Rattle.bl_build.proofs.loading.decode_all.Goals.{in-Some+in-Ok+in_ok-push-in-Ok, in_default}

abbrev IsFew : Spelled → Type 0
IsFew one = length (functions_of one.tree) < 2 ^ 32

pub loop-word-preserved : goal.loop-word-preserved
loop-word-preserved c =
    let words = c.args.words.now in
    let whole = parts_of (words_in words) (contents_in c.args.contents.items) in
    elim c.match-next.branch [
      | in-Some+in-Ok+in_ok-push-in-Ok w ↦
          let grown = ap (λ (all : Vec Spelled Global). all.items) w.all-is ∙ w.in_ok-push-in-Ok.ensures.items in
          record {
            goes = next_decoded whole _ _ (into_iter_items c.loop-word.rest) (into_iter_items c.next.new.self) c.loop-word.all.items _ w.in-Some.content (next_word words c.loop-word.word-index _ c.loop-word-test.true)
                w.in-Some.ensures.cases.0 c.loop-word.invariant.goes w.in-Ok.one c.match-next.all.items grown w.in-Ok.ensures.staged;
            few = subst (All IsFew) (sym grown) (All-push IsFew c.loop-word.all.items w.in-Ok.one c.loop-word.invariant.few w.in-Ok.ensures.few);
          }
      | in_default w ↦
          let same = ap (λ (all : Vec Spelled Global). all.items) w.all-is in
          let none : into_iter_items c.loop-word.rest ≡ [] = grind (arith, common_steps) in
          record {
            goes = none_decoded whole (map spelled_in c.match-next.all.items) _ _ _ _ none (sym w.in_default.ensures.items ∙ none)
                (subst (λ (all : List Spelled). Goes decoding whole (map spelled_in all) (parts_of (words_in (drop c.loop-word.word-index words)) (contents_in (into_iter_items c.loop-word.rest)))) (sym same) c.loop-word.invariant.goes);
            few = subst (All IsFew) (sym same) c.loop-word.invariant.few;
          }
    ]

pub returns-in-Err-clause-staged : goal.returns-in-Err-clause-staged
returns-in-Err-clause-staged c =
    let whole = parts_of (words_in c.args.words.now) (contents_in c.args.contents.items) in
    not_decoded whole _ _ (into_iter_items c.loop-word.rest) (into_iter_items c.next.new.self) c.loop-word.all.items _ c.in-Some.content (next_word c.args.words.now c.loop-word.word-index _ c.loop-word-test.true)
    c.in-Some.ensures.cases.0 c.loop-word.invariant.goes (λ (all : Vec Spelled Global). map spelled_in all.items) c.in-Err.error c.in-Err.ensures.staged

pub returns-clause-staged : goal.returns-clause-staged
returns-clause-staged c =
    goes_ends decoding (parts_of (words_in c.args.words.now) (contents_in c.args.contents.items)) _ _
    (all_decoded c.args.words.now c.loop-word.word-index (into_iter_items c.loop-word.rest) c.loop-word-test.false) c.loop-word.invariant.goes
