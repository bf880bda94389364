use Rattle.std.proofs.Common.{◌++◌, ◌∙◌, ap, List, ℕ}
use Rattle.bl_report.specs.Reports.{through_text}
use Rattle.bl_report.proofs.ReportLines.{chain_line}
use Rattle.bl_report.proofs.secrets.push_chain.Goals as goal

pub returns : goal.returns
returns c =
    let chain = c.args.chain.now in
    let head = c.extend_from_slice.new.self.items in
    let behind = c.in_ok-extend_from_slice-2.ensures.items ∙ ap (λ (l : List ℕ). head ++ l) c.deref.ensures.value in
    let through =
    c.in_ok-push_through.ensures ∙ ap (λ sites. c.extend_from_slice-2.new.self.items ++ through_text sites) c.as_slice.ensures
    ∙ ap (λ (l : List ℕ). l ++ through_text chain.through) behind in
    c.in_ok-extend_from_slice-3.ensures.items
    ∙ ap (λ (l : List ℕ). c.push_through.new.text.items ++ l) c.as_bytes.ensures.value
    ∙ chain_line c.args.text.now.items head c.in_ok-from.from.items c.push_through.new.text.items c.in_ok-tail.tail.bytes.items chain
    c.in_ok-extend_from_slice.ensures.items c.in_ok-from.ensures through c.in_ok-tail.ensures.ok
