use Rattle.std.proofs.Common.{◌≡◌, ◌<◌, ◌^◌, [], ap, arith, length, map, subst}
use Rattle.std.specs.Prelude.{Vec}
use Rattle.std.specs.declared.alloc.Global.{Global}
use Rattle.std.proofs.lemmas.Grind.{common_steps}
use Rattle.std.specs.List.{All}
use Rattle.std.specs.Vec.Iter.{into_iter_items}
use Rattle.std.proofs.lemmas.List.Elements.{All-tail}
use Rattle.bl_wasm.specs.Validity.{functions_of}
use Rattle.bl_build.specs.LoadStages.{validation}
use Rattle.bl_build.specs.StageAnswers.{checked_in, spelled_in}
use Rattle.bl_build.specs.declared.loading.Checked.{Checked}
use Rattle.bl_build.specs.declared.loading.Spelled.{Spelled}
use Rattle.bl_build.proofs.LoadSteps.{next_passed, next_refused}
use Rattle.bl_job.proofs.StageLemmas.{goes_ends}
use Rattle.bl_build.proofs.loading.validate_all.Goals as goal

abbrev IsFew : Spelled → Type 0
IsFew one = length (functions_of one.tree) < 2 ^ 32

pub loop-one-preserved : goal.loop-one-preserved
loop-one-preserved c =
    let whole = map spelled_in c.args.spelled.items in
    let left = into_iter_items c.next.new.self in
    let first = c.in-Some.ensures.cases.0 in
    record {
      goes = next_passed validation spelled_in checked_in whole (into_iter_items c.loop-one.rest) left c.loop-one.all.items c.in-Some.one first c.loop-one.invariant.goes c.in-Ok.checked c.push.new.self.items
          c.in_ok-push-in-Ok.ensures.items c.in-Ok.ensures;
      few = All-tail IsFew c.in-Some.one left (subst (All IsFew) first c.loop-one.invariant.few);
    }

pub returns-in-Err : goal.returns-in-Err
returns-in-Err c =
    next_refused validation spelled_in checked_in (map spelled_in c.args.spelled.items) (into_iter_items c.loop-one.rest) (into_iter_items c.next.new.self) c.loop-one.all.items c.in-Some.one
    c.in-Some.ensures.cases.0 c.loop-one.invariant.goes checked_in (λ (all : Vec Checked Global). map checked_in all.items) c.in-Err.error c.in-Err.ensures

pub returns : goal.returns
returns c =
    let none : into_iter_items c.loop-one.rest ≡ [] = grind (arith, common_steps) in
    goes_ends validation (map spelled_in c.args.spelled.items) (map spelled_in (into_iter_items c.loop-one.rest)) (map checked_in c.loop-one.all.items) (ap (map spelled_in) none) c.loop-one.invariant.goes
