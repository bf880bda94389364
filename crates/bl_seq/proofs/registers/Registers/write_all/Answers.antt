use Rattle.std.proofs.Common.{◌+◌, arith, ◌∙◌, refl, ap, sym}
use Rattle.std.proofs.lemmas.List.{at_drop_all}
use Rattle.bl_seq.specs.RegisterTrees.{filled, register_at}
use Rattle.bl_seq.proofs.RegisterWrites.{fill_next}
use Rattle.bl_seq.proofs.registers.Registers.write_all.Goals as goal

pub loop-i-preserved : goal.loop-i-preserved
loop-i-preserved c =
    fill_next (λ d v. register_at c.loop-i.self d v) (λ d v. register_at c.write.new.self d v) c.args.depth c.args.from c.loop-i.i c.args.numbers.now _ (omega arith) refl c.in_ok-write.ensures.ok
    ∙ c.loop-i.invariant

pub returns : goal.returns
returns c = λ d v. ap (λ f. f d v)
    (sym (at_drop_all (λ numbers. filled (λ d v. register_at c.loop-i.self d v) c.args.depth (c.args.from + c.loop-i.i) numbers) c.args.numbers.now c.loop-i.i (omega arith)) ∙ c.loop-i.invariant)
