use Rattle.std.proofs.Common.{rules, sym, subst}
use Rattle.std.specs.List.{All}
use Rattle.bl_wasm.specs.Validity.{IsCode}
use Rattle.bl_validate.proofs.rules.has_valid_functions.Goals as goal

pub returns-then-len : goal.returns-then-len
returns-then-len c = (
  λ e. record {
    all = c.are_types.ensures.0 (search rules);
    indices = search rules;
    counts = search rules;
    codes = subst (All IsCode) c.as_slice.ensures (c.are_codes.ensures.0 e);
  },
  λ h. c.are_codes.ensures.1 (subst (All IsCode) (sym c.as_slice.ensures) h.codes),
)
