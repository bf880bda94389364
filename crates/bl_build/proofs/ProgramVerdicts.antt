-- What the verdict on constant time says of a hardened program.
use Rattle.std.proofs.Common.{◌≡◌, sym, subst}
use Rattle.bl_program.specs.Programs.{IsProgram}
use Rattle.bl_program.specs.Rules.{IsWellFormed}
use Rattle.bl_program.specs.declared.definitions.ProgramParts.{ProgramParts as Program}
use Rattle.bl_ct.specs.Verdicts.{Judges, labelling_of}
use Rattle.bl_ct.specs.declared.verdict.CtVerdict.{CtVerdict}
use Rattle.bl_ct.specs.declared.verdict.CtVerdict.TheVariants.{Yes, No}
use Rattle.bl_graph.specs.Labels.{ConstantTime}
use Rattle.bl_graph.specs.SecretChains.{IsSecretChain}
use Rattle.bl_graph.specs.declared.secret.SecretChain.{SecretChain}
use Rattle.bl_cut.proofs.MarkedPrograms.{is_program}
use Rattle.bl_sct.proofs.OtherSecrets.{hides}
use Rattle.bl_sct.proofs.EqualObservations.{equal}
use Rattle.bl_build.specs.HardenStage.{Hardened, IsHardened, IsJudged, IsYes}
use Rattle.bl_build.proofs.LeastLemmas.{are_least, well_formed}

-- the verdict is says exactly where some labelling keeps the rules
pub yes_labelled : (program : Program) (verdict : CtVerdict) → Judges program verdict → IsYes verdict → ConstantTime program
yes_labelled program (Yes labels) h says = (labelling_of labels, h.labelled)
yes_labelled program (No chain) h says = absurd says

pub labelled_yes : (program : Program) (verdict : CtVerdict) → Judges program verdict → ConstantTime program → IsYes verdict
labelled_yes program (Yes labels) h ct = tt
labelled_yes program (No chain) h ct = absurd (h.1 ct)

-- a no has a secret chain
pub chain_of : (program : Program) (verdict : CtVerdict) (chain : SecretChain) → Judges program verdict → verdict ≡ No chain → IsSecretChain program chain
chain_of program verdict chain h is = let there : Judges program (No chain) = subst (Judges program) is h in there.0

module _ (bare : Program) (facts : IsProgram bare) (rules : IsWellFormed bare) (hardened : Hardened) (is : IsHardened bare hardened) where
  of_program : IsProgram hardened.program
  of_program = subst IsProgram (sym is.is_program) (is_program is.set bare facts)

  pub is_judged : IsJudged hardened
  is_judged = record {
    exact = (yes_labelled hardened.program hardened.verdict is.judged, labelled_yes hardened.program hardened.verdict is.judged);
    chain = λ chain e. chain_of hardened.program hardened.verdict chain is.judged e;
    equal = λ says.
        equal hardened.program of_program (well_formed bare facts rules hardened is) (yes_labelled hardened.program hardened.verdict is.judged says)
        (are_least bare facts rules hardened is).passes;
    hides = λ says.
        hides hardened.program of_program (well_formed bare facts rules hardened is) (yes_labelled hardened.program hardened.verdict is.judged says)
        (are_least bare facts rules hardened is).passes;
  }
