use Rattle.std.proofs.Common.{◌⊎◌, []}
use Rattle.bl_ct.specs.Facts.{Gathers, SomeAt, GlobalFits, FunctionFits}
use Rattle.bl_ct.proofs.GatheredLists.{Below}
use Rattle.bl_ct.proofs.facts.declared_of.Given as goal

abbrev pub invariant-loop-number : goal.invariant-loop-number
invariant-loop-number l =
    Gathers (λ one. SomeAt l.parts.globals GlobalFits one ⊎ Below l.parts.functions (FunctionFits l.parts) l.number one) [] l.all
