use Rattle.std.proofs.Common.{◌≡◌, ◌^◌, ◌<◌, ◌∷◌, sym, arith, rules}
use Rattle.json.specs.Reads.{token_of}
use Rattle.serde_json.specs.Data.{number, unsigned}
use Rattle.bl_witness.proofs.FirstTokens.{not_whole, takes_whole, whole_is}
use Rattle.bl_witness.proofs.Turns.{lacks_none}
use Rattle.bl_witness.proofs.scan.U64Shape.read.Goals as goal

pub returns-in_err-token-clause-err : goal.returns-in_err-token-clause-err
returns-in_err-token-clause-err c refused = lacks_none c.args.depth c.args.reader.now (grind arith)

pub returns-in-Some-clause-ok : goal.returns-in-Some-clause-ok
returns-in-Some-clause-ok c =
    let first : c.args.reader.now ≡ token_of c.in_ok-token.token ∷ c.next.new.self = grind arith in
    let n = c.in-Some.number in
    let below : n < 2 ^ 64 = search rules in
    (number (unsigned n), rw first (takes_whole c.args.depth c.next.new.self c.in_ok-token.token n (sym c.in-Some.ensures)), whole_is (2 ^ 64) n below)

pub returns-in_ok-pass_rest-in-None-clause-ok : goal.returns-in_ok-pass_rest-in-None-clause-ok
returns-in_ok-pass_rest-in-None-clause-ok c =
    let first : c.args.reader.now ≡ token_of c.in_ok-token.token ∷ c.next.new.self = grind arith in
    let found = c.in_ok-pass_rest-in-None.ensures.ok in
    (found.0, rw first found.1, not_whole c.args.depth c.next.new.self c.pass_rest.new.reader (2 ^ 64) c.in_ok-token.token found.0 found.1 (sym c.in-None.ensures))
