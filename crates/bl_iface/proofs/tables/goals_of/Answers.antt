use Rattle.std.proofs.Common.{rules, ◌≡◌, ◌-◌, ◌<◌, ℕ, length, drop, refl, ap, sym, subst, ◌∙◌, arith}
use Rattle.std.proofs.lemmas.List.{length-replicate, length-set}
use Rattle.bl_program.specs.declared.definitions.ProgramParts.{ProgramParts}
use Rattle.bl_iface.specs.PartNumbers.{LeadsTo, goal_in}
use Rattle.bl_iface.proofs.ClientTargets.{goal_by, goals_more, goals_none, table_leads}
use Rattle.bl_iface.proofs.tables.goals_of.Goals as goal

pub loop-left-init : goal.loop-left-init
loop-left-init c =
    let same = c.parts.ensures.same ∙ c.program.ensures.same in
    let none = c.in_ok-goals.ensures.items_if_clones_equal (λ y e. (search rules)) in
    record {
      within = omega arith;
      many = ap length none ∙ length-replicate _ _ ∙ c.len.ensures ∙ ap (λ (p : ProgramParts). length p.functions) same;
      each = λ f lt. goals_none c.args.ours.now c.args.theirs.now c.len.result f c.in_ok-goals.goals.items none;
    }

pub loop-left-preserved : goal.loop-left-preserved
loop-left-preserved c =
    let within = c.loop-left.invariant.within in
    let many = c.requires.ours.many in
    let also = c.requires.theirs.many in
    record {
      within = omega arith;
      many = length-set _ _ _ ∙ c.loop-left.invariant.many;
      each = goals_more c.args.ours.now c.args.theirs.now c.loop-left.left (c.loop-left.left - 1) (length c.args.client.now.functions) c.loop-left.goals.items _ within (omega arith) (omega arith)
          c.loop-left.invariant.many (c.requires.ours.exist (c.loop-left.left - 1) 0 (omega arith)) refl c.loop-left.invariant.each;
    }

pub returns : goal.returns
returns c =
    let none : c.loop-left.left ≡ 0 = omega arith in
    subst (LeadsTo c.args.iface.now c.args.client.now c.args.library.now) (sym c.of.ensures)
    (table_leads c.args.client.now c.args.library.now c.args.iface.now c.args.ours.now c.args.theirs.now c.loop-left.goals.items c.program.ensures.rules c.requires.ours c.requires.theirs
    c.loop-left.invariant.many
    (subst (λ k. (f : ℕ) → f < length c.args.client.now.functions → goal_in c.loop-left.goals.items f ≡ goal_by (drop k c.args.ours.now) (drop k c.args.theirs.now) f) none c.loop-left.invariant.each))
