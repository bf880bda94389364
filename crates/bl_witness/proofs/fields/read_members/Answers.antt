use Rattle.std.proofs.Common.{◌≡◌, ◌∙◌, ◌-◌, length, Some, sym, refl, subst, arith}
use Rattle.json.specs.Json.{read_key, value}
use Rattle.json.proofs.Grammar.{read_key-shorter}
use Rattle.serde_json.specs.Data.{no_members, put}
use Rattle.bl_witness.proofs.Turns.{key_lacks, member_lacks, member_read, members_over}
use Rattle.bl_witness.proofs.fields.read_members.Goals as goal

pub members-init : goal.members-init
members-init g c = (length c.args.reader.now, omega arith, no_members, refl, omega arith, c.new-fields.ensures.none)

pub members-preserved : goal.members-preserved
members-preserved g c =
    let l = c.members in
    let n = l.invariant.0 in
    let old = l.invariant.2 in
    let k = c.in-Some.key.now in
    let s = c.next_key.new.self in
    let named : read_key l.reader ≡ Some (Some k, s) = grind arith in
    let done = c.in_ok-read_member.ensures in
    let d = done.ok.0 in
    let r = c.read_member.new.reader in
    let less = read_key-shorter l.reader (Some k) s named in
    let lesser = done.shorter in (
      n - 1,
      omega (arith, l.invariant.1),
      put k d old,
      l.invariant.3 ∙ member_read (value c.args.depth) old n k l.reader s r d (omega (arith, l.invariant.1)) named done.ok.1,
      omega (arith, l.invariant.4),
      subst (g.F.Fields.are (put k d old)) (sym done.ok.2) (c.new-fields.ensures.more k d old l.fields l.invariant.5),
    )

pub returns-in_err-key-clause-err : goal.returns-in_err-key-clause-err
returns-in_err-key-clause-err g c refused =
    let l = c.members in
    l.invariant.3 ∙ key_lacks (value c.args.depth) l.invariant.2 l.invariant.0 l.reader c.in_err-key.ensures.value

pub returns-in_err-read_member-clause-err : goal.returns-in_err-read_member-clause-err
returns-in_err-read_member-clause-err g c refused =
    let l = c.members in
    let k = c.in-Some.key.now in
    let s = c.next_key.new.self in
    let named : read_key l.reader ≡ Some (Some k, s) = grind arith in
    l.invariant.3 ∙ member_lacks (value c.args.depth) l.invariant.2 l.invariant.0 k l.reader s named (c.read_member.ensures.err (grind arith))

pub returns-clause-ok : goal.returns-clause-ok
returns-clause-ok g c =
    let l = c.members in
    (l.invariant.2, l.invariant.3 ∙ members_over (value c.args.depth) l.invariant.2 l.invariant.0 l.reader c.next_key.new.self l.invariant.1 (grind arith), c.new-fields.ensures.whole l.invariant.2 l.fields l.invariant.5)
