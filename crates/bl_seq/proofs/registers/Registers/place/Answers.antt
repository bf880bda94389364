use Rattle.std.proofs.Common.{◌≡◌, ℕ, subst}
use Rattle.bl_program.specs.Steps.{written}
use Rattle.bl_seq.specs.RegisterTrees.{register_at}
use Rattle.bl_seq.specs.Windows.{MaySet, Sets, seen}
use Rattle.bl_seq.proofs.WindowLemmas.{held_set, kept, placed}
use Rattle.bl_seq.proofs.registers.Registers.place.Goals as goal

pub returns-then-set-clause-ok : goal.returns-then-set-clause-ok
returns-then-set-clause-ok c =
    let pages = c.self.inside.pages in
    let old = c.self.inside.window in
    let new = c.set.new.self in
    let sets : Sets old new c.args.depth c.args.x c.args.number = subst (λ b. MaySet b old new c.args.depth c.args.x c.args.number) c.if-set.true c.set.ensures in
    subst (λ f. (d v : ℕ) → register_at (seen pages new) d v ≡ written (λ d v. register_at f d v) c.args.depth c.args.x c.args.number d v)
    c.self.view_is (λ d v. held_set pages old new c.args.depth c.args.x c.args.number d v sets)

pub returns-clause-ok : goal.returns-clause-ok
returns-clause-ok c =
    placed c.args.self.now c.self.inside.pages c.write.new.self c.self.inside.window c.set.new.self c.args.depth c.args.x c.args.number c.self.view_is c.if-set.ensures.1
    c.write.result c.if-set.ensures.0 c.write.ensures.ok

pub returns-clause-err : goal.returns-clause-err
returns-clause-err c =
    kept c.args.self.now c.self.inside.pages c.write.new.self c.self.inside.window c.set.new.self c.args.depth c.args.x c.args.number c.self.view_is c.if-set.ensures.1
    c.write.result c.write.ensures.err
