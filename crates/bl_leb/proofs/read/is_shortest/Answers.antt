use Rattle.std.proofs.Common.{◌≡◌, ℕ, ◌<◌, not, nat_eq, IsTrue, IsFalse, arith, inr}
use Rattle.std.proofs.lemmas.Bool.Decides.{nat_tests}
use Rattle.bl_leb.proofs.Unsigned.{shortest_if, never_if}
use Rattle.bl_leb.proofs.read.is_shortest.Goals as goal

-- what the test of the last byte says
above_zero : (n : ℕ) → IsTrue (not (nat_eq n 0)) → 0 < n
above_zero n is = grind (arith, nat_tests)

at_zero : (n : ℕ) → IsFalse (not (nat_eq n 0)) → n ≡ 0
at_zero n is = grind (arith, nat_tests)

pub returns-clause-shortest : goal.returns-clause-shortest
returns-clause-shortest c = λ value is h. shortest_if 64 c.args.spelling.now value (inr (above_zero _ is)) h

pub returns-clause-longer : goal.returns-clause-longer
returns-clause-longer c = λ value is h. never_if 64 c.args.spelling.now value (omega arith) (at_zero _ is) h
