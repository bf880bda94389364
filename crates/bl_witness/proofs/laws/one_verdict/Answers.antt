use Rattle.bl_witness.proofs.CertificateVerdicts.{broken, broken_once}
use Rattle.bl_witness.proofs.laws.one_verdict.Goals as goal

pub returns-clause-broken : goal.returns-clause-broken
returns-clause-broken c = broken

pub returns-clause-first : goal.returns-clause-first
returns-clause-first c = broken_once
