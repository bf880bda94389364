use Rattle.std.proofs.Common.{◌≡◌, ◌∷◌, ap, sym, arith}
use Rattle.std.specs.Prelude.{option_and_then}
use Rattle.json.specs.Reads.{token_of}
use Rattle.serde_json.specs.Data.{array}
use Rattle.bl_witness.specs.Shapes.{each_item}
use Rattle.bl_witness.proofs.FirstTokens.{not_array}
use Rattle.bl_witness.proofs.Turns.{if_ok, lacks_array, lacks_none, takes_array}
use Rattle.bl_witness.proofs.scan.ListShape.read.Goals.{in_default-via-in-BeginArray+else-depth-gt0, in_default-via-in_default}
use Rattle.bl_witness.proofs.scan.ListShape.read.Goals as goal

pub returns-in_err-token-clause-err : goal.returns-in_err-token-clause-err
returns-in_err-token-clause-err g c refused = lacks_none c.args.depth c.args.reader.now (grind arith)

pub returns-in-BeginArray-clause-ok : goal.returns-in-BeginArray-clause-ok
returns-in-BeginArray-clause-ok g c =
    let first : c.args.reader.now ≡ token_of c.in_ok-token.token ∷ c.next.new.self = grind arith in
    if_ok c.read_items.result (λ _ h. (array h.0, rw (first, c.in-BeginArray.is) (takes_array c.args.depth c.next.new.self (omega arith) h.0 c.read_items.new.reader h.1), h.2)) c.read_items.ensures.ok

pub returns-in-BeginArray-clause-err : goal.returns-in-BeginArray-clause-err
returns-in-BeginArray-clause-err g c refused =
    let first : c.args.reader.now ≡ token_of c.in_ok-token.token ∷ c.next.new.self = grind arith in
    rw (first, c.in-BeginArray.is) (lacks_array c.args.depth c.next.new.self (omega arith) (c.read_items.ensures.err refused))

pub returns-in_ok-pass_rest-in_default-clause-ok : goal.returns-in_ok-pass_rest-in_default-clause-ok
returns-in_ok-pass_rest-in_default-clause-ok g c =
    let first : c.args.reader.now ≡ token_of c.in_ok-token.token ∷ c.next.new.self = grind arith in
    let found = c.in_ok-pass_rest-in_default.ensures.ok in
    let none = not_array c.args.depth c.next.new.self c.pass_rest.new.reader c.in_ok-token.token found.0 found.1 (λ some is. elim c.in_default.branch [ in_default-via-in-BeginArray+else-depth-gt0 w ↦ omega arith | in_default-via-in_default w ↦ w.in_default.not-BeginArray is ]) in
    (found.0, rw first found.1, sym (ap (option_and_then (each_item g.T.Shape.shape)) none))
