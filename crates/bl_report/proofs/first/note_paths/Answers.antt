use Rattle.std.proofs.Common.{◌∙◌, List, map, take, refl, sym, ap, subst, arith}
use Rattle.std.proofs.lemmas.List.{take_all}
use Rattle.bl_base.specs.declared.number.Pos.{Pos}
use Rattle.bl_report.specs.SiteTables.{IsFirst, also_noted, noted}
use Rattle.bl_report.proofs.FirstPaths.{first_next}
use Rattle.bl_report.proofs.first.note_paths.Goals as goal

pub loop-index-init : goal.loop-index-init
loop-index-init c =
    let paths = c.args.paths.now in
    record { places = refl; first = λ s below. subst (IsFirst paths (take 0 paths) s) (sym (c.requires s)) refl }

pub loop-index-preserved : goal.loop-index-preserved
loop-index-preserved c =
    let paths = c.args.paths.now in
    let loop = c.loop-index in
    let same = loop.auto.firsts in
    record {
      places = c.note_path.ensures.places ∙ loop.invariant.places;
      first = λ s below.
          let is = c.note_path.ensures.noted s (omega (arith, below, same))
          ∙ ap (λ (l : List Pos). also_noted loop.index s (map (λ (t : Pos). t.0) l) (noted loop.firsts s)) c.as_slice.ensures in
          first_next paths loop.index c.index-paths-index.result c.loop-index-test.true s (noted loop.firsts s) (noted c.note_path.new.firsts s) is
          (loop.invariant.first s below);
    }

pub returns : goal.returns
returns c =
    let paths = c.args.paths.now in
    let loop = c.loop-index in
    record {
      places = loop.auto.firsts;
      first = λ s below.
          subst (λ l. IsFirst paths l s (noted loop.firsts s)) (take_all loop.index paths c.loop-index-test.false) (loop.invariant.first s below);
    }
