use Rattle.std.proofs.Common.{◌≡◌, ◌++◌, [], ◌∷◌, map, flat_map, Some, refl, sym, ◌∙◌, append-nil, arith}
use Rattle.std.proofs.lemmas.List.{nil_from_length}
use Rattle.bl_validate.specs.MayStand.{MayStand, entries, known}
use Rattle.bl_validate.proofs.CoverLemmas.{last_of_list, last_of_runs}
use Rattle.bl_validate.proofs.OperandLemmas.{pops_entry, pops_none}
use Rattle.bl_validate.proofs.operands.Operands.pop_known.Goals as goal

pub returns-in-Some : goal.returns-in-Some
unfolding MayStand
returns-in-Some c =
    pops_entry c.args.self.now.unreachable (known c.args.self.now) (flat_map entries c.args.self.now.runs.items ++ map Some c.in-Some.below.now) (Some c.in-Some.last.now)
    (last_of_list (flat_map entries c.args.self.now.runs.items) c.args.self.now.top.now c.in-Some.below.now c.in-Some.last.now c.in-Some.ensures.cases.0)

pub returns-in_default-pop : goal.returns-in_default-pop
unfolding MayStand
returns-in_default-pop c =
    let top : c.args.self.now.top.now ≡ [] = nil_from_length c.args.self.now.top.now c.in_default.ensures.cases in
    let same : c.args.self.now.runs.items ≡ c.pop.new.self.items = c.in_default-pop.ensures.items ∙ append-nil c.pop.new.self.items in
    let runs : c.args.self.now.runs.items ≡ [] = nil_from_length c.args.self.now.runs.items (omega (arith, c.args.self.now.runs.ok.0, c.in_default-pop.ensures.cases.0)) in
    let left : c.pop.new.self.items ≡ [] = sym same ∙ runs in
    λ s. (pops_none c.args.self.now.unreachable (known c.args.self.now) (rw (runs, top) refl) s, rw (left, top) (pops_none c.args.self.now.unreachable [] refl s))

pub returns : goal.returns
unfolding MayStand
returns c =
    let top : c.args.self.now.top.now ≡ [] = nil_from_length c.args.self.now.top.now c.in_default.ensures.cases in
    let e = last_of_runs c.args.self.now.runs.items c.pop.new.self.items c.in-Some-pop.run' c.in-Some-pop.ensures.items in
    let is : known c.args.self.now ≡ (flat_map entries c.pop.new.self.items ++ map Some c.in-Some-pop.run'.below.now) ++ c.in-Some-pop.run'.last ∷ [] = rw top (append-nil _ ∙ e) in
    pops_entry c.args.self.now.unreachable (known c.args.self.now) (flat_map entries c.pop.new.self.items ++ map Some c.in-Some-pop.run'.below.now) c.in-Some-pop.run'.last is
