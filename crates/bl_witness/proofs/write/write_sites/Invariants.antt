use Rattle.std.proofs.Common.{◌≡◌, ◌++◌, drop, map}
use Rattle.bl_witness.specs.Tokens.{site_token}
use Rattle.bl_witness.proofs.write.write_sites.Given as goal

abbrev pub invariant-loop-site : goal.invariant-loop-site
invariant-loop-site l =
    (l.out.before ≡ l.initial.out.before)
    × (l.out.tokens ++ map site_token (drop l.site-index l.sites) ≡ l.initial.out.tokens ++ map site_token l.sites)
