use Rattle.std.proofs.Common.{◌≡◌, ◌<◌, ◌^◌, ℕ, List, length, Some, None, rules, arith, ap, sym, subst, ◌∙◌}
use Rattle.std.proofs.lemmas.List.Elements.{All-push}
use Rattle.std.specs.List.{All}
use Rattle.bl_text.proofs.ItemLemmas.{item_first, none_first, none_left}
use Rattle.bl_counts.specs.CountFiles.{site_of, with_commands}
use Rattle.bl_counts.proofs.file.read_sites.Goals as goal

pub returns-in_default-clause-file : goal.returns-in_default-clause-file
returns-in_default-clause-file c =
    let is : None ≡ site_of c.in-Some.line.now = search rules in
    ap (with_commands c.args.commands)
    (c.loop-line.invariant.rest ∙ none_first site_of c.loop-line.number c.loop-line.counts _ c.in-Some.line.now _ c.in-Some.ensures.steps is)

pub loop-line-preserved : goal.loop-line-preserved
loop-line-preserved c =
    let is : Some c.in-Some-read_site.site ≡ site_of c.in-Some.line.now = search rules in
    let small : c.in-Some-read_site.site.count < 2 ^ 32 = search rules in
    record {
      numbers = omega (arith, ap (length {A = List ℕ}) c.in-Some.ensures.steps);
      small = subst (All (λ one. one.count < 2 ^ 32)) (sym c.in_ok-push.ensures.ok) (All-push (λ one. one.count < 2 ^ 32) c.loop-line.counts c.in-Some-read_site.site c.loop-line.invariant.small small);
      rest = c.loop-line.invariant.rest
          ∙ item_first site_of c.loop-line.number c.loop-line.counts _ c.in-Some.line.now _ c.in-Some.ensures.steps c.in-Some-read_site.site c.push.new.self is c.in_ok-push.ensures.ok;
    }

pub returns-clause-file : goal.returns-clause-file
returns-clause-file c =
    ap (with_commands c.args.commands) (c.loop-line.invariant.rest ∙ none_left site_of c.loop-line.number c.loop-line.counts _ c.in-None.ensures.steps.0)
