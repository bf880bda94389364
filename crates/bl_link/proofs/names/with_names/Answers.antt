use Rattle.std.proofs.Common.{◌++◌, ◌∙◌, ap, map}
use Rattle.bl_link.specs.AllNames.{behind}
use Rattle.bl_link.proofs.QualifiedNames.{entries_apart, exported_all}
use Rattle.bl_link.proofs.names.with_names.Goals as goal

pub own_names-requires : goal.own_names-requires
own_names-requires c = entries_apart c.args.part.now c.args.spaces.now c.args.before c.args.entries.now c.requires

pub returns : goal.returns
returns c =
    c.in_ok-add.ensures.ok
    ∙ ap (λ part. c.args.before ++ map (behind part) c.in_ok-own.own) c.in_ok-copy_of.ensures
    ∙ ap (λ own. c.args.before ++ map (behind c.args.part.now) own) c.in_ok-own.ensures
    ∙ ap (λ all. c.args.before ++ all) (exported_all c.args.part.now c.args.spaces.now c.args.entries.now)
