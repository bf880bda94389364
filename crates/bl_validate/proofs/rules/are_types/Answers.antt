use Rattle.std.proofs.Common.{rules, tests}
use Rattle.std.proofs.lemmas.Iterator.{cases_from_all, YieldsList-from_slice}
use Rattle.bl_wasm.specs.Validity.{IsFunctionType}
use Rattle.bl_validate.proofs.ModuleRuleLemmas.{all_from_cases}
use Rattle.bl_validate.proofs.rules.are_types.Goals as goal

pub returns : goal.returns
returns c = all_from_cases IsFunctionType _ _ (cases_from_all _ _ _ IsFunctionType (λ x. IsFunctionType x → ⊥) c.all.ensures.ran (YieldsList-from_slice c.args.types.now c.iter.ensures.rest) (λ x q k. search (rules, tests)) (λ x q k. search (rules, tests)))
