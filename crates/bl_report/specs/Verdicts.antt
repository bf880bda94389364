-- The text of the verdicts on a program and a certificate. Every line ends with a line feed.
use Rattle.std.specs.Prelude.{ℕ, List, ◌++◌, Option, Some, None, codes}
use Rattle.std.specs.Fmt.{decimal}
use Rattle.bl_ct.specs.declared.verdict.CtVerdict.{CtVerdict}
use Rattle.bl_ct.specs.Verdicts.{chain_in}
use Rattle.bl_graph.specs.declared.secret.SecretChain.{SecretChain}
use Rattle.bl_base.specs.declared.number.Pos.{Pos}
use Rattle.bl_transient.specs.declared.transient.FlowVerdict.{FlowVerdict}
use Rattle.bl_transient.specs.declared.transient.FlowVerdict.TheVariants as flow
use Rattle.bl_witness.specs.declared.verdict.CertVerdict.{CertVerdict}
use Rattle.bl_witness.specs.declared.verdict.CertVerdict.TheVariants as rules
use Rattle.bl_outcome.specs.Lines.{line}
use Rattle.bl_report.specs.Reports.{chain_line}

-- whether the certificate keeps its rules, or else the first one that is broken, with its index
abbrev pub certificate_line : CertVerdict → List ℕ
certificate_line rules.Yes = line (codes "certificate yes")
certificate_line (rules.No rule index) = line (codes "certificate no " ++ decimal rule ++ codes " " ++ decimal index)

-- the first sink that reads a transient variable, of a verdict by the transient rules, if there is one
abbrev pub leak_in : FlowVerdict → Option Pos
leak_in (flow.Yes typing) = None
leak_in (flow.No position) = Some position

-- whether the program's protects pass, or else the first sink that reads a transient variable
abbrev pub leak_line : Option Pos → List ℕ
leak_line None = line (codes "stable yes")
leak_line (Some position) = line (codes "stable no " ++ decimal position.0)

abbrev pub stable_line : FlowVerdict → List ℕ
stable_line verdict = leak_line (leak_in verdict)

-- whether the protects pass and the program is constant-time
abbrev pub both_line : Option Pos → Option SecretChain → List ℕ
both_line None None = line (codes "safe yes")
both_line leak chain = line (codes "safe no")

abbrev pub safe_line : FlowVerdict → CtVerdict → List ℕ
safe_line stable constant_time = both_line (leak_in stable) (chain_in constant_time)

-- what is said of a certificate by its rules, and of a program by the transient rules and by the label rules
abbrev pub verdicts_of : CertVerdict → Option Pos → Option SecretChain → List ℕ
verdicts_of certificate leak chain = certificate_line certificate ++ leak_line leak ++ chain_line chain ++ both_line leak chain

abbrev pub verdicts_text : CertVerdict → FlowVerdict → CtVerdict → List ℕ
verdicts_text certificate stable constant_time = verdicts_of certificate (leak_in stable) (chain_in constant_time)
