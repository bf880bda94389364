use Rattle.std.proofs.Common.{◌<◌, ◌∙◌, ℕ, List, map, get_or, length, arith}
use Rattle.std.proofs.lemmas.List.{get_or-map, length-map}
use Rattle.bl_base.specs.declared.number.Pos.{Pos}
use Rattle.bl_report.proofs.FirstPaths.{noted_more}
use Rattle.bl_report.proofs.first.note_path.Goals as goal

pub loop-site-preserved : goal.loop-site-preserved
loop-site-preserved c =
    let loop = c.loop-site in
    let sites : List ℕ = map (λ (s : Pos). s.0) c.args.sites.now in
    let u : ℕ = (get_or c.args.sites.now loop.site-index (record { 0 = 0 })).0 in
    let long = length-map c.args.sites.now (λ (s : Pos). s.0) in
    let more = c.loop-site-test.true in
    let lt : loop.site-index < length sites = omega arith in
    let there = get_or-map (λ (s : Pos). s.0) c.args.sites.now loop.site-index (record { 0 = 0 }) 0 more in
    record {
      places = c.note.ensures.places ∙ loop.invariant.places;
      noted = noted_more c.args.firsts.now loop.firsts c.note.new.firsts sites loop.site-index c.args.index u lt there
          loop.invariant.places loop.invariant.noted c.note.ensures.noted;
    }
