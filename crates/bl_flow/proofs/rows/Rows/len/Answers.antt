use Rattle.std.proofs.Common.{arith, ◌≡◌, ◌-◌, sym, ap, ◌∙◌, length}
use Rattle.bl_flow.proofs.Offsets.{rows_count}
use Rattle.bl_flow.proofs.rows.Rows.len.Goals as goal

pub returns : goal.returns
returns c =
    let len = c.len.ensures in let ok = c.self.inside.offsets.ok.0 in
    let count = rows_count c.self.inside.offsets.items c.self.inside.entries.items in
    let same : c.len.result - 1 ≡ length c.self.inside.offsets.items - 1 = omega arith in
    same ∙ sym count ∙ ap length c.self.view_is
