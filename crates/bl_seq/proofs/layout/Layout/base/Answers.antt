use Rattle.std.proofs.Common.{◌≡◌, ◌-◌, ◌∙◌, ap, min, length, arith}
use Rattle.bl_seq.proofs.LayoutLemmas.{base_is, bases_count, small_base}
use Rattle.bl_seq.proofs.layout.Layout.base.Goals as goal

pub returns-clause-place : goal.returns-clause-place
returns-clause-place c =
    let count = bases_count c.args.self.now.parts.now c.args.self.now.bases.items c.requires.bases in
    let last : c.len-last.result - 1 ≡ length c.args.self.now.parts.now.memories = omega (arith, c.args.self.now.bases.ok.0) in
    c.index.ensures ∙ base_is c.args.self.now.parts.now c.args.self.now.bases.items c.args.memory c.min.result c.index.result.now c.requires.bases
    (c.min.ensures ∙ ap (λ n. min n c.args.memory) last)

pub returns-clause-small : goal.returns-clause-small
returns-clause-small c = let is = returns-clause-place c in let small = small_base c.args.self.now.parts.now c.requires.rules.rule1 c.args.memory in omega arith
