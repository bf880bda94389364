use Rattle.std.proofs.Common.{rules, arith, ◌≡◌, ◌≤◌, ◌+◌, ◌-◌, ◌^◌, sym, ap, ◌∙◌, length, slice_index, take, drop}
use Rattle.std.proofs.lemmas.List.{get_or_default}
use Rattle.bl_flow.proofs.Offsets.{row_bounds, rows_short}
use Rattle.bl_flow.proofs.rows.Rows.row.Goals as goal

pub index-start-requires : goal.index-start-requires
index-start-requires c =
    let b = row_bounds c.self.inside.offsets.items c.self.inside.entries.items c.args.self.now c.args.part c.self.view_is c.self.invariant c.requires in
    let inside = b.inside in let ok = c.self.inside.offsets.ok.0 in omega arith

pub overflow_add-part : goal.overflow_add-part
overflow_add-part c =
    let b = row_bounds c.self.inside.offsets.items c.self.inside.entries.items c.args.self.now c.args.part c.self.view_is c.self.invariant c.requires in
    let inside = b.inside in let ok = c.self.inside.offsets.ok.0 in let small = c.self.inside.offsets.small in omega arith

pub index-end-requires : goal.index-end-requires
index-end-requires c =
    let b = row_bounds c.self.inside.offsets.items c.self.inside.entries.items c.args.self.now c.args.part c.self.view_is c.self.invariant c.requires in
    let inside = b.inside in let ok = c.self.inside.offsets.ok.0 in omega arith

pub offset_bounds-deref-start : goal.offset_bounds-deref-start
offset_bounds-deref-start c =
    let b = row_bounds c.self.inside.offsets.items c.self.inside.entries.items c.args.self.now c.args.part c.self.view_is c.self.invariant c.requires in
    let inside = b.inside in let rise = b.rise in let within = b.within in
    let start : c.index-start.result.now ≡ slice_index c.self.inside.offsets.items c.args.part = c.index-start.ensures ∙ get_or_default c.self.inside.offsets.items c.args.part _ 0 (omega arith) in
    let ok = c.self.inside.entries.ok.0 in let small = c.self.inside.entries.small in omega arith

pub slice_bounds-result-count : goal.slice_bounds-result-count
slice_bounds-result-count c =
    let b = row_bounds c.self.inside.offsets.items c.self.inside.entries.items c.args.self.now c.args.part c.self.view_is c.self.invariant c.requires in
    let inside = b.inside in let rise = b.rise in
    let start : c.index-start.result.now ≡ slice_index c.self.inside.offsets.items c.args.part = c.index-start.ensures ∙ get_or_default c.self.inside.offsets.items c.args.part _ 0 (omega arith) in
    let end : c.index-end.result.now ≡ slice_index c.self.inside.offsets.items (c.args.part + 1) = c.index-end.ensures ∙ get_or_default c.self.inside.offsets.items (c.args.part + 1) _ 0 inside in
    omega arith

pub slice_bounds-result-start : goal.slice_bounds-result-start
slice_bounds-result-start c =
    let b = row_bounds c.self.inside.offsets.items c.self.inside.entries.items c.args.self.now c.args.part c.self.view_is c.self.invariant c.requires in
    let inside = b.inside in let rise = b.rise in let within = b.within in
    let start : c.index-start.result.now ≡ slice_index c.self.inside.offsets.items c.args.part = c.index-start.ensures ∙ get_or_default c.self.inside.offsets.items c.args.part _ 0 (omega arith) in
    let end : c.index-end.result.now ≡ slice_index c.self.inside.offsets.items (c.args.part + 1) = c.index-end.ensures ∙ get_or_default c.self.inside.offsets.items (c.args.part + 1) _ 0 inside in
    let all = ap length c.deref.ensures.value in
    let low : c.index-start.result.now ≤ length c.deref.result.now = omega arith in
    search rules

pub slice_bounds-result-end : goal.slice_bounds-result-end
slice_bounds-result-end c =
    let b = row_bounds c.self.inside.offsets.items c.self.inside.entries.items c.args.self.now c.args.part c.self.view_is c.self.invariant c.requires in
    let inside = b.inside in let rise = b.rise in let within = b.within in
    let start : c.index-start.result.now ≡ slice_index c.self.inside.offsets.items c.args.part = c.index-start.ensures ∙ get_or_default c.self.inside.offsets.items c.args.part _ 0 (omega arith) in
    let end : c.index-end.result.now ≡ slice_index c.self.inside.offsets.items (c.args.part + 1) = c.index-end.ensures ∙ get_or_default c.self.inside.offsets.items (c.args.part + 1) _ 0 inside in
    let all = ap length c.deref.ensures.value in
    let low : c.index-start.result.now ≤ c.index-end.result.now = omega arith in
    let high : c.index-end.result.now ≤ length c.deref.result.now = omega arith in
    search rules

pub returns-clause-row : goal.returns-clause-row
returns-clause-row c =
    let b = row_bounds c.self.inside.offsets.items c.self.inside.entries.items c.args.self.now c.args.part c.self.view_is c.self.invariant c.requires in
    let inside = b.inside in
    let start : c.index-start.result.now ≡ slice_index c.self.inside.offsets.items c.args.part = c.index-start.ensures ∙ get_or_default c.self.inside.offsets.items c.args.part _ 0 (omega arith) in
    let end : c.index-end.result.now ≡ slice_index c.self.inside.offsets.items (c.args.part + 1) = c.index-end.ensures ∙ get_or_default c.self.inside.offsets.items (c.args.part + 1) _ 0 inside in
    ap (λ s. take (c.index-end.result.now - s) (drop s c.deref.result.now)) start ∙ ap (λ e. take (e - slice_index c.self.inside.offsets.items c.args.part) (drop (slice_index c.self.inside.offsets.items c.args.part) c.deref.result.now)) end
    ∙ ap (λ l. take (slice_index c.self.inside.offsets.items (c.args.part + 1) - slice_index c.self.inside.offsets.items c.args.part) (drop (slice_index c.self.inside.offsets.items c.args.part) l)) c.deref.ensures.value ∙ sym b.row

pub returns-clause-small : goal.returns-clause-small
returns-clause-small c = λ p.
    rows_short c.self.inside.offsets.items c.self.inside.entries.items c.args.self.now c.self.view_is c.self.invariant p (2 ^ 32) c.self.invariant.small
