use Rattle.std.proofs.Common.{rules, tests}
use Rattle.std.proofs.lemmas.Iterator.{cases_from_all, YieldsList-from_slice}
use Rattle.bl_wasm.specs.Validity.{IsCode}
use Rattle.bl_validate.proofs.ModuleRuleLemmas.{all_from_cases}
use Rattle.bl_validate.proofs.rules.are_codes.Goals as goal

pub returns : goal.returns
returns c = all_from_cases IsCode _ _ (cases_from_all _ _ _ IsCode (λ x. IsCode x → ⊥) c.all.ensures.ran (YieldsList-from_slice c.args.bodies.now c.iter.ensures.rest) (λ x q k. search (rules, tests)) (λ x q k. search (rules, tests)))
