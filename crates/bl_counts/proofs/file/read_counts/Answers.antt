use Rattle.std.proofs.Common.{◌≡◌, [], List, take, Some, None, Ok, rules, ap, sym, subst, ◌∙◌}
use Rattle.bl_counts.specs.CountFiles.{IsCountFile, commands_of}
use Rattle.bl_counts.proofs.CountLines.{bad_first, first_alone, others_said}
use Rattle.bl_counts.specs.declared.counts.SiteCount.{SiteCount}
use Rattle.bl_counts.proofs.file.read_counts.Goals as goal

pub returns-in_default-clause-file : goal.returns-in_default-clause-file
returns-in_default-clause-file c =
    let none : None ≡ commands_of (take c.place_of-end.result c.args.bytes.now) = search rules in
    bad_first c.args.bytes.now c.place_of-end.result c.place_of-end.ensures.place none

pub returns-then-end-bytes-clause-file : goal.returns-then-end-bytes-clause-file
returns-then-end-bytes-clause-file c =
    let some : Some c.in-Some.commands ≡ commands_of (take c.place_of-end.result c.args.bytes.now) = search rules in
    let empty : c.new.result ≡ [] = search rules in
    first_alone c.args.bytes.now c.place_of-end.result c.in-Some.commands c.place_of-end.ensures.place some c.if-end-bytes.true
    ∙ ap (λ (counts : List SiteCount). Ok (record { commands = c.in-Some.commands; counts = counts })) (sym empty)

pub returns-clause-file : goal.returns-clause-file
returns-clause-file c =
    let some : Some c.in-Some.commands ≡ commands_of (take c.place_of-end.result c.args.bytes.now) = search rules in
    subst (λ asked. IsCountFile asked c.read_sites.result)
    (sym (others_said c.args.bytes.now c.place_of-end.result c.in-Some.commands c.place_of-end.ensures.place some)) c.read_sites.ensures.file
