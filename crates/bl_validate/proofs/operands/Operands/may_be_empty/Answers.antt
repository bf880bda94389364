use Rattle.std.proofs.Common.{◌≡◌, [], arith, refl}
use Rattle.std.proofs.lemmas.List.{nil_from_length}
use Rattle.bl_validate.specs.MayStand.{MayStand, known}
use Rattle.bl_validate.proofs.CoverLemmas.{covers_none, none_known}
use Rattle.bl_validate.proofs.operands.Operands.may_be_empty.Goals as goal

pub returns-then-is_empty : goal.returns-then-is_empty
unfolding MayStand
returns-then-is_empty c =
    let runs : c.args.self.now.runs.items ≡ [] = nil_from_length c.args.self.now.runs.items (grind (arith, c.args.self.now.runs.ok.0, c.is_empty.ensures, c.if-is_empty.true)) in (
      λ h. let top : c.args.self.now.top.now ≡ [] = nil_from_length c.args.self.now.top.now (grind (arith, c.is_empty-then-is_empty.ensures, h)) in rw (runs, top) (λ k. refl),
      λ g. let n = none_known c.args.self.now.runs.items c.args.self.now.top.now (covers_none c.args.self.now.unreachable (known c.args.self.now) g) in
          grind (arith, c.is_empty-then-is_empty.ensures, n.1),
    )

pub returns-else-is_empty : goal.returns-else-is_empty
unfolding MayStand
returns-else-is_empty c = (
  λ h. absurd (cc (h, c.if-is_empty.false)),
  λ g. let n = none_known c.args.self.now.runs.items c.args.self.now.top.now (covers_none c.args.self.now.unreachable (known c.args.self.now) g) in
      grind (arith, c.args.self.now.runs.ok.0, c.is_empty.ensures, c.if-is_empty.false, n.0),
)
