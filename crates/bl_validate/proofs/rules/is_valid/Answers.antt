use Rattle.std.proofs.Common.{sym, subst}
use Rattle.bl_validate.specs.ModuleRules.{AreExports}
use Rattle.bl_validate.proofs.ModuleRuleLemmas.{valid_from, parts_from, exports_from}
use Rattle.bl_validate.proofs.rules.is_valid.Goals as goal

pub returns-in_ok-has_valid_exports : goal.returns-in_ok-has_valid_exports
returns-in_ok-has_valid_exports c = (
  λ e. valid_from c.requires (c.has_valid_parts.ensures.0 c.if-has_valid_parts.true) (subst (AreExports c.args.scope.now) c.as_slice.ensures (c.in_ok-has_valid_exports.ensures.0 e)),
  λ valid. c.in_ok-has_valid_exports.ensures.1 (subst (AreExports c.args.scope.now) (sym c.as_slice.ensures) (exports_from c.requires valid)),
)

pub returns-else-has_valid_parts : goal.returns-else-has_valid_parts
returns-else-has_valid_parts c = (
  λ e. absurd (cc),
  λ valid. c.has_valid_parts.ensures.1 (parts_from c.requires valid),
)
