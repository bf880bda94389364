use Rattle.std.proofs.Common.{◌≡◌, [], ap, arith, map, subst, sym}
use Rattle.std.specs.Prelude.{Vec}
use Rattle.std.specs.declared.alloc.Global.{Global}
use Rattle.std.proofs.lemmas.Grind.{common_steps}
use Rattle.std.specs.List.{All}
use Rattle.std.specs.Vec.Iter.{into_iter_items}
use Rattle.std.proofs.lemmas.List.Elements.{All-push}
use Rattle.bl_labels.specs.Faults.{IsConsistent}
use Rattle.bl_build.specs.LoadStages.{labelling}
use Rattle.bl_build.specs.StageAnswers.{checked_in, ready_in}
use Rattle.bl_build.specs.declared.loading.Ready.{Ready}
use Rattle.bl_build.proofs.LoadSteps.{next_passed, next_refused}
use Rattle.bl_job.proofs.StageLemmas.{goes_ends}
use Rattle.bl_build.proofs.loading.label_all.Goals as goal

abbrev IsSane : Ready → Type 0
IsSane one = IsConsistent one.labels

pub loop-one-preserved : goal.loop-one-preserved
loop-one-preserved c =
    let grown = c.in_ok-push-in-Ok.ensures.items in
    record {
      goes = next_passed labelling checked_in ready_in (map checked_in c.args.checked.items) (into_iter_items c.loop-one.rest) (into_iter_items c.next.new.self) c.loop-one.all.items c.in-Some.one
          c.in-Some.ensures.cases.0 c.loop-one.invariant.goes c.in-Ok.ready c.push.new.self.items grown c.in-Ok.ensures.staged;
      sane = subst (All IsSane) (sym grown) (All-push IsSane c.loop-one.all.items c.in-Ok.ready c.loop-one.invariant.sane c.in-Ok.ensures.consistent);
    }

pub returns-in-Err : goal.returns-in-Err
returns-in-Err c = record {
  staged = next_refused labelling checked_in ready_in (map checked_in c.args.checked.items) (into_iter_items c.loop-one.rest) (into_iter_items c.next.new.self) c.loop-one.all.items c.in-Some.one
      c.in-Some.ensures.cases.0 c.loop-one.invariant.goes ready_in (λ (all : Vec Ready Global). map ready_in all.items) c.in-Err.error c.in-Err.ensures.staged;
  consistent = tt;
}

pub returns : goal.returns
returns c =
    let none : into_iter_items c.loop-one.rest ≡ [] = grind (arith, common_steps) in
    record {
      staged = goes_ends labelling (map checked_in c.args.checked.items) (map checked_in (into_iter_items c.loop-one.rest)) (map ready_in c.loop-one.all.items) (ap (map checked_in) none) c.loop-one.invariant.goes;
      consistent = c.loop-one.invariant.sane;
    }
