use Rattle.std.proofs.Common.{◌≡◌, [], arith, length}
use Rattle.bl_validate.specs.Represents.{Represents}
use Rattle.bl_validate.proofs.ConstructLemmas.{nothing_open, some_open}
use Rattle.bl_validate.proofs.stacks.Stacks.is_done.Goals as goal

pub returns-then-not-pop : goal.returns-then-not-pop
returns-then-not-pop c = (λ h. absurd (cc h), λ g. let q = ((c.pop.ensures [] []).0 g).0 in absurd (cc (q, c.if-not-pop.true)))

pub returns-then-is_empty : goal.returns-then-is_empty
unfolding Represents
returns-then-is_empty c =
    let none : length c.pop.new.self.frames.items ≡ 0 = grind (arith, c.pop.new.self.frames.ok.0, c.is_empty.ensures, c.if-is_empty.true) in
    let pop = c.pop.ensures [] [] in
    (λ h. pop.1 (c.if-not-pop.false, (c.may_be_empty.ensures.0 h, nothing_open c.pop.new.self.frames.items none)), λ g. c.may_be_empty.ensures.1 (pop.0 g).1.0)

pub returns-else-is_empty : goal.returns-else-is_empty
unfolding Represents
returns-else-is_empty c = (
  λ h. absurd (cc (h, c.if-is_empty.false)),
  λ g. let none = some_open c.pop.new.self.frames.items ((c.pop.ensures [] []).0 g).1.1 in grind (arith, c.pop.new.self.frames.ok.0, c.is_empty.ensures, c.if-is_empty.false, none),
)
