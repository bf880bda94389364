use Rattle.std.proofs.Common.{arith, ◌≡◌, ◌<◌, ◌^◌, ℕ, List, Some, map, length, slice_get, slice_index, sym, ap, ◌∙◌}
use Rattle.std.proofs.lemmas.List.{length-map, get_or-map}
use Rattle.std.proofs.lemmas.Option.{slice_get-get_or}
use Rattle.bl_flow.specs.Searches.{part_row}
use Rattle.bl_flow.specs.AdjacencyLists.{reverse_place, reversed}
use Rattle.bl_flow.proofs.BlockingFlows.{at_place}
use Rattle.bl_flow.proofs.LastLevels.{reversed_row}
use Rattle.bl_flow.proofs.rows.Rows.link_to.Goals as goal

short : (half : ℕ) (rows : List (List ℕ)) (p : ℕ) → length (part_row rows p) < 2 ^ 32 → length (part_row (reversed half rows) p) < 2 ^ 32
short half rows p small =
    let same = ap length (reversed_row half rows p) in
    let count = length-map (part_row rows p) (reverse_place half) in omega arith

pub returns-in_err-link-clause-small : goal.returns-in_err-link-clause-small
returns-in_err-link-clause-small c = λ p. short c.args.half c.args.self.now p (c.in_err-link.ensures.small p)

pub returns-clause-small : goal.returns-clause-small
returns-clause-small c = λ p. short c.args.half c.args.self.now p (c.in_ok-link.ensures.small p)

pub returns-clause-link : goal.returns-clause-link
returns-clause-link c =
    let row : List ℕ = part_row c.args.self.now c.args.part in
    let there = at_place row c.args.place c.in_ok-link.link c.in_ok-link.ensures.link in
    let count = length-map row (reverse_place c.args.half) in let lt = there.0 in
    let whole : slice_get (part_row (reversed c.args.half c.args.self.now) c.args.part) c.args.place ≡ Some (slice_index (map (reverse_place c.args.half) row) c.args.place) =
    ap (λ r. slice_get r c.args.place) (reversed_row c.args.half c.args.self.now c.args.part) ∙ slice_get-get_or (map (reverse_place c.args.half) row) c.args.place 0 (omega arith) in
    sym (whole ∙ ap (λ k. Some k) (get_or-map (reverse_place c.args.half) row c.args.place 0 0 lt ∙ ap (reverse_place c.args.half) there.1 ∙ sym c.reverse_of.ensures))
