-- The line of a directive says it.
use Rattle.std.proofs.Common.{◌≡◌, ap, refl, ◌^◌, true, false, Some, option_map, arith}
use Rattle.std.specs.Fmt.{decimal}
use Rattle.bl_text.proofs.DecimalTexts.{are_digits, read_back}
use Rattle.bl_text.proofs.LineTexts.{HasNoFeed, without_feeds}
use Rattle.bl_rob.specs.declared.directive.Directive.{Directive}
use Rattle.bl_rob.specs.declared.directive.Directive.TheVariants.{Fetch, Predict, Exec, Retire}
use Rattle.bl_trace.specs.Traces.{IsWritten, directive_of, directive_text}

pub reads_back : (directive : Directive) → IsWritten directive → directive_of (directive_text directive) ≡ Some directive
reads_back Fetch is = refl
reads_back (Predict true) is = refl
reads_back (Predict false) is = refl
reads_back (Exec n) is = ap (option_map Exec) (read_back (2 ^ 32) n is (omega (arith, is)))
reads_back Retire is = refl

pub no_feeds : (directive : Directive) → IsWritten directive → HasNoFeed (directive_text directive)
no_feeds Fetch is = refl
no_feeds (Predict true) is = refl
no_feeds (Predict false) is = refl
no_feeds (Exec n) is = without_feeds (decimal n) (are_digits n (omega (arith, is))).inner
no_feeds Retire is = refl
