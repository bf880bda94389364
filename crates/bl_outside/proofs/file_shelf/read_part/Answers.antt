use Rattle.std.proofs.Common.{subst}
use Rattle.bl_outside.specs.Reading.{IsOpenedAt}
use Rattle.bl_outside.proofs.ReadTwice.{passed-read, reads-from}
use Rattle.bl_outside.proofs.file_shelf.read_part.Goals as goal

pub returns-clause-read : goal.returns-clause-read
returns-clause-read g c =
    let opened = subst (IsOpenedAt g.R.File.Read.remaining c.args.from) c.in-Some.is c.in_ok-file.ensures.at_place in
    record {
      begun = opened.begun;
      gives = reads-from _ _ _ c.args.from c.args.most c.in_ok-bytes.bytes.items opened.passed c.in_ok-bytes.ensures.front c.in_ok-bytes.ensures.bound;
    }

pub returns-clause-at_place : goal.returns-clause-at_place
returns-clause-at_place g c =
    let opened = subst (IsOpenedAt g.R.File.Read.remaining c.args.from) c.in-Some.is c.in_ok-file.ensures.at_place in
    record { begun = opened.begun; passed = passed-read _ _ _ c.args.from c.in_ok-bytes.bytes.items opened.passed c.in_ok-bytes.ensures.front.next }
